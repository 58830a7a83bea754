-- Loops over the edges of a set, from the last edge to the first: each edge merges the components of its ends in the table, and the edges so far
-- are a forest as long as they were two.
use Rattle.mat_graphic.proofs.Common.{◌≡◌, ℕ, suc, zero, ◌+◌, ◌≤◌, Bool, true, false, not, eqb, List, [], ◌∷◌, length, get_or, drop, refl, sym, ap, ◌∙◌, subst, arith, eqb-true, eqb-false, not-true, not-false, false_from_ne_true, IsRising, RisesFrom, IsSubset, RisesFrom-suffix, missing_below}
use Rattle.mat_graphic.proofs.Common.{IsSubset-refl, IsSubset-trans, drop_all, drop_more, IsForest, is_forest, merged, least_merged, in_tail, IsForest-none, IsForest-more, IsForest-subset, IsSubset-tail, apart_of_forest, IsForest-from_test, IsParentTable}
use Rattle.mat_graphic.proofs.ParentTables.{IsParentTable-equal}

-- ---- the last items of a set

drop-IsSubset : (k : ℕ) (X : List ℕ) → IsSubset (drop k X) X
drop-IsSubset zero X = IsSubset-refl X
drop-IsSubset (suc k) [] = IsSubset-refl []
drop-IsSubset (suc k) (x ∷ X) = IsSubset-trans (drop k X) X (x ∷ X) (drop-IsSubset k X) (IsSubset-tail x X)

-- ---- the loops

module _ (ends : ℕ → ℕ × ℕ) where
  -- one more edge
  pub table_more : (e : ℕ) (X parent : List ℕ)
      → IsParentTable (λ v. merged (least_merged ends X (ends e).0) (least_merged ends X (ends e).1) (least_merged ends X v)) parent
      → IsParentTable (least_merged ends (e ∷ X)) parent
  unfolding least_merged
  table_more e X parent t = IsParentTable-equal _ (least_merged ends (e ∷ X)) parent (λ v. refl) t

  -- no edge at all
  pub table_none : (X parent : List ℕ) (k : ℕ) → k ≡ length X → IsParentTable (λ v. v) parent
      → IsParentTable (least_merged ends (drop k X)) parent
  unfolding least_merged
  table_none X parent k e t =
      subst (λ Y. IsParentTable (least_merged ends Y) parent) (sym (drop_all k X (omega arith)))
      (IsParentTable-equal (λ v. v) (least_merged ends []) parent (λ v. refl) t)

  pub table_empty : (X parent : List ℕ) → X ≡ [] → IsParentTable (λ v. v) parent → IsParentTable (least_merged ends X) parent
  table_empty X parent e t = subst (λ Y. IsParentTable (least_merged ends Y) parent) (sym e) (table_none [] parent 0 refl t)

  pub forest_none : (X : List ℕ) (k : ℕ) → k ≡ length X → IsForest ends (drop k X)
  forest_none X k e = subst (IsForest ends) (sym (drop_all k X (omega arith))) (IsForest-none ends)

  -- an edge before the last ones
  pub edge_before : (X : List ℕ) (k i e : ℕ) → i ≡ k + 1 → i ≤ length X → e ≡ get_or X k 0 → drop k X ≡ e ∷ drop i X
  edge_before X k i e next inside item = drop_more X k 0 (omega arith) ∙ ap (λ j. get_or X k 0 ∷ drop j X) (sym next)
      ∙ ap (λ z. z ∷ drop i X) (sym item)

  module _ (X : List ℕ) (k i e : ℕ) (apart : Bool) (at_place : drop k X ≡ e ∷ drop i X)
      (told : apart ≡ not (eqb (least_merged ends (drop i X) (ends e).0) (least_merged ends (drop i X) (ends e).1))) where
    -- the edges from the one before on are a forest where its ends are in two components of those after it
    pub forest_more : apart ≡ true → IsForest ends (drop i X) → IsForest ends (drop k X)
    forest_more passes forest = subst (IsForest ends) (sym at_place)
        (IsForest-more ends (drop i X) e (e ∷ drop i X) forest (eqb-false _ _ (not-true _ (sym told ∙ passes)))
        (λ z m o. in_tail z e (drop i X) m o))

    -- where they are in one, the set is no forest
    pub not_forest : IsRising X → apart ≡ false → false ≡ is_forest ends X
    not_forest r fails = sym (false_from_ne_true _ (λ passed.
        let rises : RisesFrom 0 (e ∷ drop i X) = subst (RisesFrom 0) at_place (RisesFrom-suffix k 0 X r.rises) in
        let rising : IsRising (drop i X) = record { rises = RisesFrom-suffix i 0 X r.rises } in
        let forest = IsForest-subset ends (drop k X) X (drop-IsSubset k X) (IsForest-from_test ends X r passed) in
        apart_of_forest ends (drop i X) e rising (missing_below e (suc e) (drop i X) (omega arith) rises.1)
        (subst (IsForest ends) at_place forest) (eqb-true _ _ (not-false _ (sym told ∙ fails)))))
