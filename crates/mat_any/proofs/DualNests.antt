-- A dual of a dual: its test, and what it keeps, are those of the matroid within both.
use Rattle.mat_any.proofs.Common.{◌≡◌, ℕ, List, ap, subst, ◌∙◌, is_dual, KeepsAny, KeepsDual, AnyKept, Tree, dual, element_count, is_independent, IsSound, tree_laws}
use Rattle.mat_minors.proofs.DualOfDual.{dual_of_dual_test}

-- a matroid t that is the dual of s, and the dual of t
module _ (t s : Tree) (node : t ≡ dual s) where
  pub sound_within : IsSound t → IsSound s
  sound_within h = subst IsSound node h

  pub count_within : element_count t ≡ element_count s
  count_within = ap element_count node

  pub test_within : IsSound t → is_dual (element_count t) (is_independent t) ≡ is_independent s
  test_within h = ap (λ u. is_dual (element_count u) (is_independent u)) node
      ∙ dual_of_dual_test (element_count s) (is_independent s) (tree_laws s (sound_within h))

  pub keeps_within : (I : List ℕ) (k : AnyKept) → KeepsDual t I k → KeepsAny s I k
  keeps_within I k h = subst (λ u. KeepsDual u I k) node h
