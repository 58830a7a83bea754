-- The rows of a graph: the row of each vertex has the vertex itself before any arc is entered, and each arc puts its head into the row of its
-- tail.
use Rattle.mat_flow.proofs.Common.{◌≡◌, ℕ, zero, suc, ◌+◌, ◌<◌, Bool, true, false, ◌||◌, ◌&&◌, eqb, List, [], ◌∷◌, length, set, take, replicate, ltb, inl, inr, refl, sym, ap, ◌∙◌, subst, arith, length-set, and_parts, both_ways, eqb-true, lt-ltb, or_cases, get_or-replicate, length-replicate, ends_of}
use Rattle.mat_flow.proofs.Common.{is_member, with_one, AreRows, is_member-inserted, row_at, or_none, or_assoc, has_arc}
use Rattle.std.proofs.Math.Numerals.{add-one}

-- ---- rows without arcs

-- each of the first i of n rows has its own place, and the others have nothing
pub record AreLone (n i : ℕ) (rows : List (List ℕ)) : Type 0 where
  pub count : length rows ≡ n
  pub members : (u v : ℕ) → u < n → is_member v (row_at rows u) ≡ (ltb u i && eqb u v)

pub AreLone-none : (n : ℕ) (rows : List (List ℕ)) → rows ≡ replicate n [] → AreLone n 0 rows
AreLone-none n rows e = record {
  count = ap length e ∙ length-replicate n [];
  members = λ u v l. ap (λ r. is_member v (row_at r u)) e ∙ ap (is_member v) (get_or-replicate n u [] [] l) ∙ nothing u v;
}
  where
    nothing : (u v : ℕ) → false ≡ (ltb u 0 && eqb u v)
    nothing u v = grind arith

pub AreLone-more : (n i : ℕ) (rows : List (List ℕ)) → i < n → AreLone n i rows
    → AreLone n (i + 1) (set rows i (with_one (row_at rows i) i))
AreLone-more n i rows l r = record {
  count = length-set rows i (with_one (row_at rows i) i) ∙ r.count;
  members = λ u v m. is_member-inserted rows i i u v (subst (λ c. i < c) (sym r.count) l)
      ∙ ap (λ b. b || (eqb i u && eqb i v)) (r.members u v m) ∙ own u v;
}
  where
    own : (u v : ℕ) → ((ltb u i && eqb u v) || (eqb i u && eqb i v)) ≡ (ltb u (i + 1) && eqb u v)
    own u v = grind arith

pub AreRows-lone : (n : ℕ) (rows : List (List ℕ)) → AreLone n n rows → AreRows n [] rows
AreRows-lone n rows r = record {
  count = r.count;
  members = λ u v l. r.members u v l ∙ ap (λ b. b && eqb u v) (lt-ltb u n l) ∙ own u v;
}
  where
    own : (u v : ℕ) → (true && eqb u v) ≡ (eqb v u || false)
    own u v = grind arith

-- ---- one arc more

pub has_arc-more : (arcs : List (ℕ × ℕ)) (i u v : ℕ) → i < length arcs
    → has_arc (take (i + 1) arcs) u v ≡ (has_arc (take i arcs) u v || (eqb (ends_of arcs i).0 u && eqb (ends_of arcs i).1 v))
has_arc-more [] i u v l = absurd (omega arith)
has_arc-more (arc ∷ arcs) zero u v l = or_none (eqb arc.0 u && eqb arc.1 v)
has_arc-more (arc ∷ arcs) (suc i) u v l =
    rw (add-one (suc i)) (rest (rw (add-one i) at (has_arc-more arcs i u v (omega arith))))
  where
    rest : has_arc (take (suc i) arcs) u v ≡ (has_arc (take i arcs) u v || (eqb (ends_of arcs i).0 u && eqb (ends_of arcs i).1 v))
        → ((eqb arc.0 u && eqb arc.1 v) || has_arc (take (suc i) arcs) u v)
        ≡ (((eqb arc.0 u && eqb arc.1 v) || has_arc (take i arcs) u v) || (eqb (ends_of arcs i).0 u && eqb (ends_of arcs i).1 v))
    rest e = rw e (or_assoc (eqb arc.0 u && eqb arc.1 v) (has_arc (take i arcs) u v) (eqb (ends_of arcs i).0 u && eqb (ends_of arcs i).1 v))

pub AreRows-more : (n : ℕ) (arcs : List (ℕ × ℕ)) (i : ℕ) (rows : List (List ℕ)) → i < length arcs → (ends_of arcs i).0 < n
    → AreRows n (take i arcs) rows
    → AreRows n (take (i + 1) arcs) (set rows (ends_of arcs i).0 (with_one (row_at rows (ends_of arcs i).0) (ends_of arcs i).1))
AreRows-more n arcs i rows l inside r =
    let tail = (ends_of arcs i).0 in
    let head = (ends_of arcs i).1 in
    record {
      count = length-set rows tail (with_one (row_at rows tail) head) ∙ r.count;
      members = λ u v m. is_member-inserted rows tail head u v (subst (λ c. tail < c) (sym r.count) inside)
          ∙ ap (λ b. b || (eqb tail u && eqb head v)) (r.members u v m)
          ∙ or_assoc (eqb v u) (has_arc (take i arcs) u v) (eqb tail u && eqb head v)
          ∙ ap (λ b. eqb v u || b) (sym (has_arc-more arcs i u v l));
    }
  where
    or_assoc : (a b c : Bool) → ((a || b) || c) ≡ (a || (b || c))
    or_assoc a b c = grind arith

-- ---- arcs and vertices

-- the head of an arc is a vertex
pub head_below : (vertices : ℕ) (arcs : List (ℕ × ℕ)) (u v : ℕ) → ((e : ℕ) → e < length arcs → (ends_of arcs e).1 < vertices)
    → has_arc arcs u v ≡ true → v < vertices
head_below vertices [] u v below h = absurd (both_ways true (sym h) refl)
head_below vertices (arc ∷ arcs) u v below h = elim (or_cases (eqb arc.0 u && eqb arc.1 v) (has_arc arcs u v) h) [
  | inl here ↦ subst (λ w. w < vertices) (eqb-true arc.1 v (and_parts (eqb arc.0 u) (eqb arc.1 v) here).1) (below 0 (omega arith))
  | inr later ↦ head_below vertices arcs u v (λ e l. below (suc e) (omega arith)) later
]
