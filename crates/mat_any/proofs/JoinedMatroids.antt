-- A node of a union by the list of its matroids: its tree, its conditions, its test, and what it keeps.
use Rattle.mat_any.proofs.Common.{Global, Vec, All, ◌≡◌, ℕ, suc, zero, ◌<◌, ◌^◌, List, [], ◌∷◌, length, get_or, map, refl, sym, ap, ◌∙◌, subst, arith, All-nil, All-cons, family_union, AreKept, part_at, union_test, AreParts, AreJoined, parts_count, KeepsAny, KeepsEach, elements_in, size_in, test_in}
use Rattle.mat_any.proofs.Common.{trees_in, union_in, IsSoundOne, KeepsOne, KeepsUnion, more_trees, element_count, first_count, is_independent, tests_of, tree_count, IsSound, AreSoundOn, tree_of, trees_of, AnyMatroid, Union, Union', Row_of-AnyMatroid, end_of-AnyMatroid, more_of-AnyMatroid}
use Rattle.mat_any.proofs.Common.{items-the_row-AnyMatroid, items_hidden-the_row-AnyMatroid-0, AnyKept, Row_of-AnyKept, end_of-AnyKept, more_of-AnyKept, items-the_row-AnyKept, items_hidden-the_row-AnyKept-0}
use mathlib.Core.Former.{Count}
use Rattle.mat_any.specs.Trees.{union}
use Rattle.mat_any.specs.declared.any_kept.AnyKept as kind

-- ---- the list of the matroids

abbrev row_in : AnyMatroid → (n : Count) × Row_of-AnyMatroid n
row_in (Union' shape row) = (_, row)
row_in _ = (_, end_of-AnyMatroid)

listed : (n : _) (row : Row_of-AnyMatroid n) → trees_of row ≡ trees_in (items-the_row-AnyMatroid n row)
listed n end_of-AnyMatroid = refl
listed n (more_of-AnyMatroid m row) = ap (more_trees (tree_of m)) (listed _ row)

pub tree_of_union : (parts : Vec AnyMatroid Global) → tree_of (Union parts) ≡ union (trees_in parts.items)
tree_of_union parts = let row = row_in (Union parts) in ap union (listed row.0 row.1 ∙ ap trees_in (items_hidden-the_row-AnyMatroid-0 parts))

first_listed : (ms : List AnyMatroid) → first_count (trees_in ms) ≡ size_in ms
first_listed [] = refl
first_listed (m ∷ ms) = refl

tests_listed : (ms : List AnyMatroid) → tests_of (trees_in ms) ≡ map test_in ms
tests_listed [] = refl
tests_listed (m ∷ ms) = ap (λ tests. test_in m ∷ tests) (tests_listed ms)

count_listed : (ms : List AnyMatroid) → tree_count (trees_in ms) ≡ length ms
count_listed [] = refl
count_listed (m ∷ ms) = ap suc (count_listed ms)

sound_listed : (n : ℕ) (ms : List AnyMatroid) → AreSoundOn n (trees_in ms) → All (λ m. IsSoundOne m × (elements_in m ≡ n)) ms
sound_listed n [] h = All-nil (λ m. IsSoundOne m × (elements_in m ≡ n))
sound_listed n (m ∷ ms) h = All-cons (λ m. IsSoundOne m × (elements_in m ≡ n)) m ms (h.0, h.1) (sound_listed n ms h.2)

joined : (ms : List AnyMatroid) → IsSound (union (trees_in ms)) → AreJoined elements_in IsSoundOne ms
joined ms h = record {
  some = (let s = h.0 in let e = count_listed ms in omega arith);
  few = subst (λ k. k < 2 ^ 32) (count_listed ms) h.1;
  each = record { each = sound_listed (size_in ms) ms (subst (λ k. AreSoundOn k (trees_in ms)) (first_listed ms) h.2) };
}

-- a node whose matroids are lent as a list
module _ (m : AnyMatroid) (parts : Vec AnyMatroid Global) (ms : List AnyMatroid) (is : m ≡ Union parts) (same : ms ≡ parts.items) where
  pub node : tree_of m ≡ union (trees_in ms)
  node = ap tree_of is ∙ tree_of_union parts ∙ ap (λ l. union (trees_in l)) (sym same)

  pub joined_at : IsSound (tree_of m) → AreJoined elements_in IsSoundOne ms
  joined_at h = joined ms (subst IsSound node h)

  pub size_at : element_count (tree_of m) ≡ size_in ms
  size_at = ap element_count node ∙ first_listed ms

  pub test_at_node : is_independent (tree_of m) ≡ union_in ms
  test_at_node = ap is_independent node ∙ two (first_count (trees_in ms)) (size_in ms) (first_listed ms)
    where
      two : (n k : ℕ) → n ≡ k → union_test n (tests_of (trees_in ms)) ≡ union_test k (map test_in ms)
      two n k e = rw (e, tests_listed ms) refl

  pub keeps_at : (I : List ℕ) (k : AnyKept) → KeepsUnion ms I k → KeepsAny (tree_of m) I k
  keeps_at I k h = subst (λ t. KeepsAny t I k) (sym node) h

  pub keeps_of : (I : List ℕ) (k : AnyKept) → KeepsAny (tree_of m) I k → KeepsUnion ms I k
  keeps_of I k h = subst (λ t. KeepsAny t I k) node h

-- ---- what they keep

abbrev kept_row : AnyKept → (n : Count) × Row_of-AnyKept n
kept_row (kind.Union' parts shape row) = (_, row)
kept_row _ = (_, end_of-AnyKept)

long_from : (ms : List AnyMatroid) (parts : List (List ℕ)) (n : _) (row : Row_of-AnyKept n) → KeepsEach (trees_in ms) parts row → length (items-the_row-AnyKept n row) ≡ length ms
long_from [] [] n end_of-AnyKept h = refl
long_from [] [] n (more_of-AnyKept k row) h = absurd h
long_from [] (part ∷ parts) n row h = absurd h
long_from (m ∷ ms) [] n row h = absurd h
long_from (m ∷ ms) (part ∷ parts) n end_of-AnyKept h = absurd h
long_from (m ∷ ms) (part ∷ parts) n (more_of-AnyKept k row) h = ap suc (long_from ms parts _ row h.1)

each_from : (ms : List AnyMatroid) (parts : List (List ℕ)) (n : _) (row : Row_of-AnyKept n) → KeepsEach (trees_in ms) parts row
    → (i : ℕ) (m : AnyMatroid) (k : AnyKept) → i < length ms → KeepsOne (get_or ms i m) (part_at parts i) (get_or (items-the_row-AnyKept n row) i k)
each_from [] parts n row h i d c l = absurd (omega arith)
each_from (m ∷ ms) [] n row h i d c l = absurd h
each_from (m ∷ ms) (part ∷ parts) n end_of-AnyKept h i d c l = absurd h
each_from (m ∷ ms) (part ∷ parts) n (more_of-AnyKept k row) h zero d c l = h.0
each_from (m ∷ ms) (part ∷ parts) n (more_of-AnyKept k row) h (suc i) d c l = each_from ms parts _ row h.1 i d c (omega arith)

to_each : (ms : List AnyMatroid) (parts : List (List ℕ)) (n : _) (row : Row_of-AnyKept n) → length parts ≡ length ms → length (items-the_row-AnyKept n row) ≡ length ms
    → ((i : ℕ) (m : AnyMatroid) (k : AnyKept) → i < length ms → KeepsOne (get_or ms i m) (part_at parts i) (get_or (items-the_row-AnyKept n row) i k)) → KeepsEach (trees_in ms) parts row
to_each [] [] n end_of-AnyKept e f h = tt
to_each [] [] n (more_of-AnyKept k row) e f h = absurd (omega arith)
to_each [] (part ∷ parts) n row e f h = absurd (omega arith)
to_each (m ∷ ms) [] n row e f h = absurd (omega arith)
to_each (m ∷ ms) (part ∷ parts) n end_of-AnyKept e f h = absurd (omega arith)
to_each (m ∷ ms) (part ∷ parts) n (more_of-AnyKept k row) e f h =
    (h 0 m k (omega arith), to_each ms parts _ row (omega arith) (omega arith) (λ i d c l. h (suc i) d c (omega arith)))

module _ (ms : List AnyMatroid) (I : List ℕ) (parts : List (List ℕ)) (kept : Vec AnyKept Global) where
  -- what a union keeps, of its parts
  pub union_keeps : AreParts (map test_in ms) parts → family_union parts ≡ I → AreKept KeepsOne ms parts kept.items → KeepsUnion ms I (kind.Union parts kept)
  union_keeps are whole each =
      let row = kept_row (kind.Union parts kept) in
      let same = items_hidden-the_row-AnyKept-0 kept in
      let count = parts_count test_in ms parts are in (
        subst (λ tests. AreParts tests parts) (sym (tests_listed ms)) are,
        whole,
        to_each ms parts row.0 row.1 count (ap length same ∙ each.one_each)
            (λ i m k l. subst (λ ks. KeepsOne (get_or ms i m) (part_at parts i) (get_or ks i k)) (sym same) (each.each i m k l)),
      )

  -- and its parts, of what it keeps
  pub union_kept : KeepsUnion ms I (kind.Union parts kept) → AreParts (map test_in ms) parts × (family_union parts ≡ I) × AreKept KeepsOne ms parts kept.items
  union_kept h =
      let row = kept_row (kind.Union parts kept) in
      let same = items_hidden-the_row-AnyKept-0 kept in (
        subst (λ tests. AreParts tests parts) (tests_listed ms) h.0,
        h.1,
        record {
          one_each = sym (ap length same) ∙ long_from ms parts row.0 row.1 h.2;
          each = λ i m k l. subst (λ ks. KeepsOne (get_or ms i m) (part_at parts i) (get_or ks i k)) same (each_from ms parts row.0 row.1 h.2 i m k l);
        },
      )
