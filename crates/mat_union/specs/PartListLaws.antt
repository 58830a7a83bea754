-- Lists of disjoint independent sets: their members and sizes, and that the test of the union finds them.
use Rattle.std.proofs.Common.{◌≡◌, ◌≢◌, ℕ, suc, zero, ◌+◌, ◌<◌, ◌≤◌, Bool, true, false, not, ◌||◌, ◌&&◌, List, [], ◌∷◌, length, inl, inr, refl, sym, ap, ◌∙◌, subst, arith}
use Rattle.std.proofs.lemmas.Bool.{cases_eq, and_parts, and_from, both_ways, false_from_ne_true, eqb-true, false≢true}
use Rattle.mat_sets.specs.Sets.{is_member, IsRising, IsSet, IsSubset, minus, union, intersection}
use Rattle.mat_sets.specs.Families.{AreDisjoint, family_union, multiplicity}
use Rattle.mat_sets.specs.SetTests.{is_set}
use Rattle.mat_sets.proofs.Members.{set_members, same_members, is_member-minus, is_member-union, is_member-intersection, intersection-none, IsRising-minus, IsRising-union, IsRising-intersection}
use Rattle.mat_sets.proofs.Families.{IsRising-family_union, family_union-gives, family_union-from, AllBelow-family_union, AreDisjoint-cons, AreDisjoint-tail, AreDisjoint-apart, disjoint-apart}
use Rattle.mat_sets.proofs.DisjointSets.{no_members}
use Rattle.mat_sets.proofs.DisjointLists.{AreDisjoint-first}
use Rattle.mat_sets.proofs.Equalities.{union-minus}
use Rattle.mat_sets.proofs.Cardinalities.{length-union_apart, length-minus-intersection}
use Rattle.mat_sets.proofs.Subsets.{union-left, intersection-left, intersection-right, length-subset}
use Rattle.mat_sets.proofs.Search.{some_subset_gives, some_subset_from}
use Rattle.mat_sets.proofs.SetTests.{IsSet-from_test, test_from-IsSet}
use Rattle.mat_sets.proofs.Truths.{and_not_none}
use Rattle.mat_laws.specs.Matroids.{IsMatroid}
use Rattle.mat_laws.specs.Ranks.{rank}
use Rattle.mat_laws.proofs.RankLaws.{rank_is}
use Rattle.mat_union.specs.Unions.{test_at, part_at, AreMatroids, AreParts, IsInUnion, divides, union_test, ranks_sum}

pub AreMatroids-tail : {n : ℕ} {test : List ℕ → Bool} {tests : List (List ℕ → Bool)} → AreMatroids n (test ∷ tests) → AreMatroids n tests
AreMatroids-tail laws = record { each = λ i l. laws.each (suc i) (omega arith) }

pub AreParts-tail : {test : List ℕ → Bool} {tests : List (List ℕ → Bool)} {part : List ℕ} {parts : List (List ℕ)} → AreParts (test ∷ tests) (part ∷ parts) → AreParts tests parts
AreParts-tail {test} {tests} {part} {parts} a = record { one_each = (let e = a.one_each in omega arith); disjoint = AreDisjoint-tail part parts a.disjoint; passes = λ i l. a.passes (suc i) (omega arith) }

module _ {n : ℕ} {tests : List (List ℕ → Bool)} {parts : List (List ℕ)} (laws : AreMatroids n tests) (are : AreParts tests parts) where
  pub law_at : (i : ℕ) → i < length parts → IsMatroid n (test_at tests i)
  law_at i l = laws.each i (let e = are.one_each in omega arith)

  pub part_set : (i : ℕ) → i < length parts → IsSet n (part_at parts i)
  part_set i l = (law_at i l).sets (part_at parts i) (are.passes i l)

  pub parts_set : IsSet n (family_union parts)
  parts_set = record { rising = IsRising-family_union parts; below = AllBelow-family_union n parts (λ i l. (part_set i l).below) }

  pub apart : (i j z : ℕ) → i ≢ j → is_member z (part_at parts i) ≡ true → is_member z (part_at parts j) ≡ false
  apart i j z d h = disjoint-apart parts i j z are.disjoint d h

  pub one_place : (i j z : ℕ) → is_member z (part_at parts i) ≡ true → is_member z (part_at parts j) ≡ true → i ≡ j
  one_place i j z h k = elim (cases_eq i j) [ inl e ↦ e | inr d ↦ absurd (both_ways _ (apart i j z d h) k) ]

  pub nowhere : (i z : ℕ) → is_member z (family_union parts) ≡ false → i < length parts → is_member z (part_at parts i) ≡ false
  nowhere i z o l = false_from_ne_true _ (λ h. both_ways _ o (family_union-from z parts i l h))

-- ---- families

AreDisjoint-none : AreDisjoint []
unfolding multiplicity
AreDisjoint-none = record { once = λ x. omega arith }

-- sets of which no two share a member
pub AreDisjoint-index : (family : List (List ℕ)) → ((i j x : ℕ) → i < j → j < length family → is_member x (part_at family i) ≡ true → is_member x (part_at family j) ≡ false)
    → AreDisjoint family
AreDisjoint-index [] h = AreDisjoint-none
AreDisjoint-index (a ∷ family) h = AreDisjoint-cons a family (AreDisjoint-index family (λ i j x l k. h (suc i) (suc j) x (omega arith) (omega arith)))
    (λ x m. false_from_ne_true _ (λ q. let w = family_union-gives x family q in let l = w.1 in both_ways _ (h 0 (suc w.0) x (omega arith) (omega arith) m) w.2))

-- ---- the test of the union

pub divides_from : {n : ℕ} (tests : List (List ℕ → Bool)) (parts : List (List ℕ)) → AreMatroids n tests → AreParts tests parts
    → divides tests (family_union parts) ≡ true
unfolding divides family_union
divides_from [] [] laws are = refl
divides_from [] (part ∷ parts) laws are = absurd (let e = are.one_each in omega arith)
divides_from (test ∷ tests) [] laws are = absurd (let e = are.one_each in omega arith)
divides_from {n} (test ∷ tests) (part ∷ parts) laws are =
    let ok = are.passes 0 (omega arith) in
    let rp = ((laws.each 0 (omega arith)).sets part ok).rising in
    let rest = IsRising-family_union parts in
    let first = AreDisjoint-first part parts are.disjoint in
    let left : minus (union part (family_union parts)) part ≡ family_union parts = same_members _ _ (IsRising-minus _ part (IsRising-union part _ rest)) rest
    (λ k. is_member-minus k (union part (family_union parts)) part ∙ ap (λ b. b && not (is_member k part)) (is_member-union k part (family_union parts))
    ∙ without (is_member k part) (is_member k (family_union parts)) (λ h. none k h)) in
    some_subset_from (union part (family_union parts)) part (λ A. test A && divides tests (minus (union part (family_union parts)) A)) (IsRising-union part _ rest) rp (union-left part (family_union parts))
    (and_from (test part) (divides tests (minus (union part (family_union parts)) part)) ok (ap (divides tests) left ∙ divides_from tests parts (AreMatroids-tail laws) (AreParts-tail are)))
  where
    without : (a b : Bool) → (a ≡ true → b ≡ false) → ((a || b) && not a) ≡ b
    without true b h = sym (h refl)
    without false true h = refl
    without false false h = refl

    none : (k : ℕ) → is_member k part ≡ true → is_member k (family_union parts) ≡ false
    none k h = false_from_ne_true _ (λ m. let w = family_union-gives k parts m in both_ways _ (AreDisjoint-apart (part ∷ parts) 0 (suc w.0) k are.disjoint (omega arith) (let l = w.1 in omega arith) h) w.2)

pub divides_gives : (tests : List (List ℕ → Bool)) (X : List ℕ) → IsRising X → divides tests X ≡ true → IsInUnion tests X
unfolding divides family_union
divides_gives [] X r h = record {
  parts = [];
  are = record { one_each = refl; disjoint = AreDisjoint-none; passes = λ i l. absurd (omega arith) };
  together = sym (no_members X (λ x m. absurd (nothing X x (eqb-true _ _ h) m)));
}
  where
    nothing : (X : List ℕ) (x : ℕ) → length X ≡ 0 → is_member x X ≡ true → ⊥
    nothing [] x e m = false≢true m
    nothing (y ∷ X) x e m = absurd (omega arith)
divides_gives (test ∷ tests) X r h =
    let w = some_subset_gives X (λ A. test A && divides tests (minus X A)) r h in
    let A = w.0 in
    let both = and_parts (test A) (divides tests (minus X A)) w.3 in
    let rest = divides_gives tests (minus X A) (IsRising-minus X A r) both.1 in
    record {
      parts = A ∷ rest.parts;
      are = record {
        one_each = (let e = rest.are.one_each in omega arith);
        disjoint = AreDisjoint-cons A rest.parts rest.are.disjoint (λ x m. ap (is_member x) rest.together ∙ is_member-minus x X A ∙ and_not_none (is_member x X) (is_member x A) m);
        passes = at A rest.parts both.0 rest.are.passes;
      };
      together = ap (union A) rest.together ∙ union-minus X A r w.1 w.2;
    }
  where
    at : (A : List ℕ) (parts : List (List ℕ)) → test A ≡ true → ((i : ℕ) → i < length parts → test_at tests i (part_at parts i) ≡ true)
        → (i : ℕ) → i < length (A ∷ parts) → test_at (test ∷ tests) i (part_at (A ∷ parts) i) ≡ true
    at A parts first others zero l = first
    at A parts first others (suc i) l = others i (omega arith)

module _ {n : ℕ} (tests : List (List ℕ → Bool)) (laws : AreMatroids n tests) where
  pub parts_pass : (parts : List (List ℕ)) → AreParts tests parts → union_test n tests (family_union parts) ≡ true
  parts_pass parts are = and_from _ _ (test_from-IsSet n _ (parts_set laws are)) (divides_from tests parts laws are)

  pub union_holds : (X : List ℕ) → IsInUnion tests X → union_test n tests X ≡ true
  union_holds X u = subst (λ Y. union_test n tests Y ≡ true) u.together (parts_pass u.parts u.are)

  pub union_set : (X : List ℕ) → union_test n tests X ≡ true → IsSet n X
  union_set X h = IsSet-from_test n X (and_parts (is_set n X) (divides tests X) h).0

  pub union_only : (X : List ℕ) → union_test n tests X ≡ true → IsInUnion tests X
  union_only X h = divides_gives tests X (union_set X h).rising (and_parts (is_set n X) (divides tests X) h).1

-- ---- sizes

-- a first part and the other ones share no member of A
first_apart : (part : List ℕ) (parts : List (List ℕ)) (A : List ℕ) → AreDisjoint (part ∷ parts)
    → (k : ℕ) → is_member k (intersection part A) ≡ true → is_member k (intersection (family_union parts) A) ≡ false
first_apart part parts A disjoint k m = false_from_ne_true _ (λ q.
    let a = and_parts (is_member k part) (is_member k A) (sym (is_member-intersection k part A) ∙ m) in
    let b = and_parts (is_member k (family_union parts)) (is_member k A) (sym (is_member-intersection k (family_union parts) A) ∙ q) in
    let w = family_union-gives k parts b.0 in
    both_ways _ (AreDisjoint-apart (part ∷ parts) 0 (suc w.0) k disjoint (omega arith) (let l = w.1 in omega arith) a.0) w.2)

-- no parts hold more members of A than the ranks of A add up to
pub ranks_bound : {n : ℕ} (tests : List (List ℕ → Bool)) (parts : List (List ℕ)) (A : List ℕ) → AreMatroids n tests → AreParts tests parts → IsRising A
    → length (intersection (family_union parts) A) ≤ ranks_sum tests A
unfolding family_union
ranks_bound [] [] A laws are r = let e = ap length (intersection-none A) in omega arith
ranks_bound [] (part ∷ parts) A laws are r = absurd (let e = are.one_each in omega arith)
ranks_bound (test ∷ tests) [] A laws are r = absurd (let e = are.one_each in omega arith)
ranks_bound (test ∷ tests) (part ∷ parts) A laws are r =
    let law = laws.each 0 (omega arith) in
    let ok = are.passes 0 (omega arith) in
    let rp = (law.sets part ok).rising in
    let ru = IsRising-family_union parts in
    let inner = IsRising-intersection part A rp in
    let first = (rank_is law A r).most (intersection part A) (law.subsets (intersection part A) part inner (intersection-left part A) ok) (intersection-right part A) in
    let rest = ranks_bound tests parts A (AreMatroids-tail laws) (AreParts-tail are) r in
    let few = length-subset (intersection (union part (family_union parts)) A) (union (intersection part A) (intersection (family_union parts) A))
    (IsRising-intersection _ A (IsRising-union part _ ru)) (IsRising-union _ _ (IsRising-intersection _ A ru)) (record { inside = λ k m. grind (arith, set_members) }) in
    let sum = length-union_apart (intersection part A) (intersection (family_union parts) A) inner (IsRising-intersection _ A ru) (first_apart part parts A are.disjoint) in
    omega (arith, first, rest, few, sum)

-- and none fewer where each part is as large in A as A allows
pub ranks_reached : {n : ℕ} (tests : List (List ℕ → Bool)) (parts : List (List ℕ)) (A : List ℕ) → AreMatroids n tests → AreParts tests parts → IsRising A
    → ((i : ℕ) → i < length parts → rank (test_at tests i) A ≡ length (intersection (part_at parts i) A))
    → length (intersection (family_union parts) A) ≡ ranks_sum tests A
unfolding family_union
ranks_reached [] [] A laws are r h = ap length (intersection-none A)
ranks_reached [] (part ∷ parts) A laws are r h = absurd (let e = are.one_each in omega arith)
ranks_reached (test ∷ tests) [] A laws are r h = absurd (let e = are.one_each in omega arith)
ranks_reached (test ∷ tests) (part ∷ parts) A laws are r h =
    let law = laws.each 0 (omega arith) in
    let ok = are.passes 0 (omega arith) in
    let rp = (law.sets part ok).rising in
    let ru = IsRising-family_union parts in
    let inner = IsRising-intersection part A rp in
    let first = h 0 (omega arith) in
    let rest = ranks_reached tests parts A (AreMatroids-tail laws) (AreParts-tail are) r (λ i l. h (suc i) (omega arith)) in
    let same : intersection (union part (family_union parts)) A ≡ union (intersection part A) (intersection (family_union parts) A) = same_members _ _
    (IsRising-intersection _ A (IsRising-union part _ ru)) (IsRising-union _ _ (IsRising-intersection _ A ru)) (λ k. grind (arith, set_members)) in
    let sum = length-union_apart (intersection part A) (intersection (family_union parts) A) inner (IsRising-intersection _ A ru) (first_apart part parts A are.disjoint) in
    ap length same ∙ omega (arith, first, rest, sum)

-- no parts hold more members of F than a cut allows
pub cut_bounds : {n : ℕ} (tests : List (List ℕ → Bool)) (parts : List (List ℕ)) (F A : List ℕ) → AreMatroids n tests → AreParts tests parts
    → IsRising F → IsRising A → IsSubset A F → length (intersection (family_union parts) F) ≤ length (minus F A) + ranks_sum tests A
cut_bounds tests parts F A laws are rf ra inside =
    let S = family_union parts in
    let rs = IsRising-family_union parts in
    let T = intersection S F in
    let rt = IsRising-intersection S F rs in
    let split = length-minus-intersection T A rt in
    let outer = length-subset (minus T A) (minus F A) (IsRising-minus T A rt) (IsRising-minus F A rf) (record { inside = λ k m. grind (arith, set_members) }) in
    let inner = length-subset (intersection T A) (intersection S A) (IsRising-intersection T A rt) (IsRising-intersection S A rs) (record { inside = λ k m. grind (arith, set_members) }) in
    omega (arith, split, outer, inner, ranks_bound tests parts A laws are ra)
