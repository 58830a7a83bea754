-- The matroids of a union of unions: they are joined, their union has its size and its test, and it keeps what it keeps.
use Rattle.mat_any.proofs.Common.{◌≡◌, ℕ, ◌<◌, ◌^◌, List, length, map, sym, ap, ◌∙◌, subst, length-map, AreKeptParts, union_test, common_size, AreJoined, KeepsAny, IsFlat, tree_seen, trees_seen, IsUnited, Tree, Trees, flat_of, flat_trees, element_count, is_independent, IsSound, AnyKept}
use Rattle.mat_any.specs.Trees.{union}
use Rattle.mat_any.specs.declared.part.Part.{Part}
use Rattle.mat_any.proofs.FlatTrees.{flat_union, joined_seen, kept_seen, kept_shown, size_seen, tests_seen}

pub united_from : (t : Tree) (ts : Trees) → t ≡ union ts → (ps : List Part) → IsSound t → trees_seen ps ≡ flat_of t → length ps < 2 ^ 32 → IsUnited t ps
united_from t ts node ps h trees few =
    let long : length ps ≡ length (flat_trees ts) = sym (length-map ps tree_seen) ∙ ap length (trees ∙ ap flat_of node) in
    record { flat = subst IsFlat (sym node) (flat_union ts (subst IsSound node h) (subst (λ k. k < 2 ^ 32) long few)); trees = trees }

module _ {t : Tree} {ps : List Part} (u : IsUnited t ps) where
  pub united_joined : AreJoined (λ p. element_count (tree_seen p)) (λ p. IsSound (tree_seen p)) ps
  united_joined = joined_seen tree_seen ps (subst (AreJoined element_count IsSound) (sym u.trees) u.flat.joined)

  pub united_size : common_size (λ p. element_count (tree_seen p)) ps ≡ element_count t
  united_size = sym (size_seen tree_seen ps) ∙ ap (common_size element_count) u.trees ∙ u.flat.size

  pub united_test : union_test (common_size (λ p. element_count (tree_seen p)) ps) (map (λ p. is_independent (tree_seen p)) ps) ≡ is_independent t
  united_test =
      ap (λ k. union_test k (map (λ p. is_independent (tree_seen p)) ps)) united_size
      ∙ ap (union_test (element_count t)) (sym (tests_seen tree_seen ps) ∙ ap (map is_independent) u.trees)
      ∙ u.flat.test

  module _ (I : List ℕ) (parts : List (List ℕ)) (kept : List AnyKept) where
    pub united_keeps : AreKeptParts is_independent KeepsAny (flat_of t) I parts kept
        → AreKeptParts (λ p. is_independent (tree_seen p)) (λ p. KeepsAny (tree_seen p)) ps I parts kept
    united_keeps h = kept_seen tree_seen KeepsAny ps I parts kept (subst (λ ts. AreKeptParts is_independent KeepsAny ts I parts kept) (sym u.trees) h)

    pub united_kept : AreKeptParts (λ p. is_independent (tree_seen p)) (λ p. KeepsAny (tree_seen p)) ps I parts kept
        → AreKeptParts is_independent KeepsAny (flat_of t) I parts kept
    united_kept h = subst (λ ts. AreKeptParts is_independent KeepsAny ts I parts kept) u.trees (kept_shown tree_seen KeepsAny ps I parts kept h)
