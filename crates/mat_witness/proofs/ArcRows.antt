-- Rows of the heads of arcs: at first they are empty, and each arc puts its head into the row of its tail.
use Rattle.mat_witness.proofs.Common.{◌≡◌, ℕ, ◌+◌, ◌<◌, ◌||◌, ◌&&◌, eqb, List, [], length, set, take, replicate, refl, sym, ap, ◌∙◌, subst, length-set, get_or-replicate, length-replicate, ends_of, row_at, is_member, with_one, has_arc, has_arc-more, AreArcRows}
use Rattle.mat_sets.proofs.Rows.{is_member-inserted}

pub AreArcRows-none : (n : ℕ) (rows : List (List ℕ)) → rows ≡ replicate n [] → AreArcRows n [] rows
AreArcRows-none n rows e = record {
  count = ap length e ∙ length-replicate n [];
  members = λ u v l. ap (λ r. is_member v (row_at r u)) e ∙ ap (is_member v) (get_or-replicate n u [] [] l);
}

pub AreArcRows-more : (n : ℕ) (arcs : List (ℕ × ℕ)) (i : ℕ) (rows : List (List ℕ)) → i < length arcs → (ends_of arcs i).0 < n
    → AreArcRows n (take i arcs) rows
    → AreArcRows n (take (i + 1) arcs) (set rows (ends_of arcs i).0 (with_one (row_at rows (ends_of arcs i).0) (ends_of arcs i).1))
AreArcRows-more n arcs i rows l inside r =
    let tail = (ends_of arcs i).0 in
    let head = (ends_of arcs i).1 in
    record {
      count = length-set rows tail (with_one (row_at rows tail) head) ∙ r.count;
      members = λ u v m. is_member-inserted rows tail head u v (subst (λ c. tail < c) (sym r.count) inside)
          ∙ ap (λ b. b || (eqb tail u && eqb head v)) (r.members u v m) ∙ sym (has_arc-more arcs i u v l);
    }

-- the same rows, for the arcs by another name, and for as many vertices as there are rows
pub AreArcRows-read : (n : ℕ) (arcs read : List (ℕ × ℕ)) (rows : List (List ℕ)) → read ≡ arcs → AreArcRows n read rows
    → AreArcRows (length rows) arcs rows
AreArcRows-read n arcs read rows is r = record {
  count = refl;
  members = λ u v l. r.members u v (subst (λ k. u < k) r.count l) ∙ ap (λ list. has_arc list u v) is;
}
