-- The edges of pairs, one after the other, with a table of the ends of those so far: each brings its vertex where this is not yet marked.
use Rattle.mat_witness.proofs.Common.{◌≡◌, ℕ, suc, ◌+◌, ◌<◌, Bool, true, false, not, ◌&&◌, ◌||◌, eqb, get_or, set, drop, List, [], ◌∷◌, length, inl, inr, refl, sym, ap, ◌∙◌, arith, add-one, drop-cons, length-set, cases_eq, eq-eqb, ne_eqb, get_or-set_other, get_or-set_same, bring_vertices, is_end}
use Rattle.mat_witness.proofs.Common.{is_single_end}
use Rattle.std.specs.List.{list_any}

-- the pairs from place i on are judged by the edges before it, whose ends the table marks
pub record IsJudging (ends : ℕ → ℕ × ℕ) (pairs : List (ℕ × ℕ)) (i vertices : ℕ) (touched : List Bool) : Type 0 where
  pub earlier : List ℕ
  pub rest : bring_vertices ends [] pairs ≡ bring_vertices ends earlier (drop i pairs)
  pub long : length touched ≡ vertices
  pub marks : (v : ℕ) → v < vertices → get_or touched v false ≡ list_any (λ e. is_end ends e v) earlier

-- a mark is read at its place, or stands already
set_mark : (touched : List Bool) (at v : ℕ) → at < length touched → get_or (set touched at true) v false ≡ (eqb at v || get_or touched v false)
set_mark touched at v l = elim (cases_eq at v) [
  | inl e ↦ ap (λ z. get_or (set touched at true) z false) (sym e) ∙ (get_or-set_same touched at true false l
      ∙ sym (ap (λ b. b || get_or touched v false) (eq-eqb at v e)))
  | inr d ↦ get_or-set_other touched at v true false (λ e. d (sym e)) ∙ sym (ap (λ b. b || get_or touched v false) (ne_eqb at v d))
]

either : (a b c : Bool) → (b || (a || c)) ≡ ((a || b) || c)
either true true c = refl
either _ b c = refl

module _ (ends : ℕ → ℕ × ℕ) (pairs : List (ℕ × ℕ)) (i vertices e vertex : ℕ) (touched : List Bool)
    (judging : IsJudging ends pairs i vertices touched) (more : i < length pairs) (here : get_or pairs i (0, 0) ≡ (e, vertex)) where
  -- the pair at place i is judged next
  next_pair : bring_vertices ends [] pairs ≡ (is_single_end ends e vertex
      && (not (list_any (λ g. is_end ends g vertex) judging.earlier) && bring_vertices ends (e ∷ judging.earlier) (drop (i + 1) pairs)))
  next_pair = judging.rest ∙ (ap (bring_vertices ends judging.earlier) (drop-cons pairs i (0, 0) more ∙ ap (λ p. p ∷ drop (suc i) pairs) here)
      ∙ ap (λ k. bring_vertices ends judging.earlier ((e, vertex) ∷ drop k pairs)) (sym (add-one i)))

  -- where it brings its vertex, the ends of its edge are marked, and the pairs after it are judged
  pub judged_next : vertex < vertices → is_single_end ends e vertex ≡ true → get_or touched vertex false ≡ false → (ends e).0 < vertices
      → (ends e).1 < vertices → IsJudging ends pairs (i + 1) vertices (set (set touched (ends e).0 true) (ends e).1 true)
  judged_next small single free first second = record {
    earlier = e ∷ judging.earlier;
    rest = next_pair ∙ (ap (λ b. b && (not (list_any (λ g. is_end ends g vertex) judging.earlier)
        && bring_vertices ends (e ∷ judging.earlier) (drop (i + 1) pairs))) single
        ∙ ap (λ b. not b && bring_vertices ends (e ∷ judging.earlier) (drop (i + 1) pairs)) (sym (judging.marks vertex small) ∙ free));
    long = length-set (set touched (ends e).0 true) (ends e).1 true ∙ (length-set touched (ends e).0 true ∙ judging.long);
    marks = λ v l.
        set_mark (set touched (ends e).0 true) (ends e).1 v (omega (arith, length-set touched (ends e).0 true, judging.long))
        ∙ (ap (λ b. eqb (ends e).1 v || b) (set_mark touched (ends e).0 v (omega (arith, judging.long)) ∙ ap (λ b. eqb (ends e).0 v || b) (judging.marks v l))
        ∙ either (eqb (ends e).0 v) (eqb (ends e).1 v) (list_any (λ g. is_end ends g v) judging.earlier));
  }
