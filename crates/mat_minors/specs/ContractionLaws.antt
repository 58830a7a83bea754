-- Which maximal independent subset of the contracted elements is taken does not matter: grown by a set that is independent together with
-- one of them, another takes in all of that set and nothing else. So one is taken for all sets (Schrijver, chapter 39).
use Rattle.std.proofs.Common.{◌≡◌, ℕ, ◌<◌, Bool, true, false, ◌&&◌, ◌||◌, eqb, List, [], length, inl, inr, sym, ap, ◌∙◌, arith}
use Rattle.std.proofs.lemmas.Bool.{cases_Bool, and_parts, and_from, eqb-true, eq-eqb, both_ways, false_from_ne_true}
use Rattle.std.proofs.lemmas.List.{nil_from_length}
use Rattle.mat_sets.specs.Sets.{is_member, IsRising, IsSet, IsSubset, with_one, intersection, union}
use Rattle.mat_sets.specs.SetTests.{is_set}
use Rattle.mat_sets.specs.Search.{some_subset}
use Rattle.mat_sets.proofs.Members.{set_members, IsRising-with_one, IsRising-union}
use Rattle.mat_sets.proofs.Subsets.{with_one-IsSubset, same_size_subset, union-right}
use Rattle.mat_sets.proofs.Cardinalities.{length-union_apart}
use Rattle.mat_sets.proofs.Ground.{below_member, IsSet-with_one}
use Rattle.mat_sets.proofs.SetTests.{IsSet-from_test, test_from-IsSet}
use Rattle.mat_sets.proofs.Search.{some_subset_gives, some_subset_from}
use Rattle.mat_sets.proofs.DisjointSets.{apart_at, apart_with, length-union_list, union-with_one_left}
use Rattle.mat_laws.specs.Matroids.{IsMatroid, IsMaximal, Augments}
use Rattle.mat_laws.proofs.Independent.{rising, grow_to_size}
use Rattle.mat_laws.proofs.Maximal.{IsMaximal-one_size}
use Rattle.mat_minors.specs.Minors.{is_maximal, is_contracted, IsContractedIndependent}
use Rattle.mat_minors.specs.MaximalSubsetLaws.{is_maximal-gives, is_maximal-from}

-- a set that is apart from the contracted elements and independent together with a chosen subset B of them
pub record IsJoined (n : ℕ) (p : List ℕ → Bool) (away B X : List ℕ) : Type 0 where
  pub set : IsSet n X
  pub disjoint : intersection X away ≡ []
  pub joined : p (union X B) ≡ true

-- what the test of the contraction says
pub contraction-gives : (n : ℕ) (p : List ℕ → Bool) (away X : List ℕ) → IsRising away → is_contracted n away p X ≡ true
    → IsContractedIndependent n p away X
contraction-gives n p away X r h =
    let joins : List ℕ → Bool = λ B. is_maximal p away B && p (union X B) in
    let tests = and_parts (is_set n X) (eqb (length (intersection X away)) 0 && some_subset away joins) h in
    let more = and_parts (eqb (length (intersection X away)) 0) (some_subset away joins) tests.1 in
    let found = some_subset_gives away joins r more.1 in
    let both = and_parts (is_maximal p away found.0) (p (union X found.0)) found.3 in
    record {
      set = IsSet-from_test n X tests.0;
      disjoint = nil_from_length _ (eqb-true _ 0 more.0);
      chosen = found.0;
      maximal = is_maximal-gives p away found.0 found.2 both.0;
      joined = both.1;
    }

module _ {n : ℕ} {p : List ℕ → Bool} (laws : IsMatroid n p) where
  -- C grows by X ∪ B to the size of X ∪ B, and nothing but X can come in
  either_joins : (away B C X : List ℕ) → IsMaximal p away B → IsMaximal p away C
      → ((x : ℕ) → is_member x X ≡ true → is_member x away ≡ false)
      → p (union X B) ≡ true → p (union X C) ≡ true
  either_joins away B C X b c apart joins =
      let r = rising laws B b.passes in
      let s = rising laws C c.passes in
      let size = length-union_list X B r (out_of B b.inside) in
      let other = length-union_list X C s (out_of C c.inside) in
      let same = IsMaximal-one_size laws away B C b c in
      let g = grow_to_size laws C (union X B) c.passes joins (omega arith) in
      let whole : IsSubset g.0 (union X C) = record { inside = λ k m. kept g.0 g.1.passes g.1.holds k m (g.1.inside k m) } in
      ap p (sym (same_size_subset g.0 (union X C) (rising laws g.0 g.1.passes) (IsRising-union X C s) whole (omega (arith, g.1.size)))) ∙ g.1.passes
    where
      out_of : (D : List ℕ) → IsSubset D away → (x : ℕ) → is_member x X ≡ true → is_member x D ≡ false
      out_of D inside x m = false_from_ne_true _ (λ k. both_ways _ (apart x m) (inside.inside x k))

      kept : (K : List ℕ) → p K ≡ true → IsSubset C K → (k : ℕ) → is_member k K ≡ true
          → (is_member k C || is_member k (union X B)) ≡ true
          → is_member k (union X C) ≡ true
      kept K passes holds k m either = elim (cases_Bool (is_member k C)) [
        | inl here ↦ (union-right X C).inside k here
        | inr out ↦ elim (cases_Bool (is_member k B)) [
          | inl old ↦ absurd (both_ways _ (c.full k (b.inside.inside k old) out)
              (laws.subsets (with_one C k) K (IsRising-with_one C k (rising laws C c.passes)) (with_one-IsSubset C K k holds m) passes))
          | inr new ↦ grind (arith, set_members)
        ]
      ]

  -- which maximal independent subset of the contracted elements is joined does not matter
  pub same_joined : (away B C X : List ℕ) → IsMaximal p away B → IsMaximal p away C → intersection X away ≡ []
      → p (union X B) ≡ p (union X C)
  same_joined away B C X b c none = elim (cases_Bool (p (union X B))) [
    | inl joins ↦ joins ∙ sym (either_joins away B C X b c (apart_at X away none) joins)
    | inr fails ↦ fails ∙ sym (false_from_ne_true _ (λ joins. both_ways _ fails (either_joins away C B X c b (apart_at X away none) joins)))
  ]

  -- and the other way
  pub contraction-from : (away X : List ℕ) → IsRising away → IsContractedIndependent n p away X → is_contracted n away p X ≡ true
  contraction-from away X r h =
      let joins : List ℕ → Bool = λ B. is_maximal p away B && p (union X B) in
      let max = h.maximal in
      and_from (is_set n X) (eqb (length (intersection X away)) 0 && some_subset away joins) (test_from-IsSet n X h.set)
      (and_from (eqb (length (intersection X away)) 0) (some_subset away joins) (eq-eqb _ 0 (ap length h.disjoint))
      (some_subset_from away h.chosen joins r (rising laws h.chosen max.passes) max.inside
      (and_from (is_maximal p away h.chosen) (p (union X h.chosen)) (is_maximal-from p away h.chosen max) h.joined)))

  -- what is independent in the contraction is so together with each maximal independent subset B of the contracted elements
  pub IsJoined-gives : (away B X : List ℕ) → IsRising away → IsMaximal p away B → is_contracted n away p X ≡ true → IsJoined n p away B X
  IsJoined-gives away B X r b h =
      let c = contraction-gives n p away X r h in
      record { set = c.set; disjoint = c.disjoint; joined = sym (same_joined away c.chosen B X c.maximal b c.disjoint) ∙ c.joined }

  pub IsJoined-from : (away B X : List ℕ) → IsRising away → IsMaximal p away B → IsJoined n p away B X → is_contracted n away p X ≡ true
  IsJoined-from away B X r b h =
      contraction-from away X r (record { set = h.set; disjoint = h.disjoint; chosen = B; maximal = b; joined = h.joined })

  -- the larger of two sets, each with B, has an element that the smaller with B can take
  pub contracted_augmentation : (away B I J : List ℕ) → IsRising away → IsMaximal p away B → IsJoined n p away B I → IsJoined n p away B J
      → length I < length J → Augments (is_contracted n away p) I J
  contracted_augmentation away B I J r b i j less =
      let s = rising laws B b.passes in
      let first = length-union_apart I B i.set.rising s (λ x m. out x I m i.disjoint) in
      let second = length-union_apart J B j.set.rising s (λ x m. out x J m j.disjoint) in
      let found = laws.augmentation (union I B) (union J B) i.joined j.joined (omega arith) in
      let x = found.element in
      let new : is_member x I ≡ false = (let a = found.outside in grind (arith, set_members)) in
      let old : is_member x B ≡ false = (let a = found.outside in grind (arith, set_members)) in
      let inside : is_member x J ≡ true = (let a = found.inside in grind (arith, set_members)) in
      record {
        element = x;
        inside = inside;
        outside = new;
        augmented = IsJoined-from away B (with_one I x) r b (record {
          set = IsSet-with_one n I x i.set (below_member j.set inside);
          disjoint = apart_with I away x i.disjoint (apart_at J away j.disjoint x inside);
          joined = ap p (union-with_one_left I B x s) ∙ found.augmented;
        });
      }
    where
      out : (x : ℕ) (X : List ℕ) → is_member x X ≡ true → intersection X away ≡ [] → is_member x B ≡ false
      out x X m none = false_from_ne_true _ (λ k. both_ways _ (apart_at X away none x m) (b.inside.inside x k))
