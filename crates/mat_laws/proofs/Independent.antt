-- First consequences of the laws: subsets, and growing to a size by repeated augmentation.
use Rattle.mat_laws.proofs.Common.{◌≡◌, ℕ, suc, zero, ◌+◌, ◌-◌, ◌≤◌, Bool, true, false, ◌||◌, List, length, arith, both_ways, false_from_ne_true, or_left, is_member, IsRising, IsSubset, AllBelow, with_one, without_one, set_members, IsRising-with_one, IsRising-without_one, with_one-both}
use Rattle.mat_laws.proofs.Common.{IsSubset-refl, without_one-IsSubset, length-complement, length-with_one, IsMatroid}

-- an independent set that holds I, lies in I ∪ J and has as many elements as J
pub record IsGrown (independent : List ℕ → Bool) (I J set : List ℕ) : Type 0 where
  pub passes : independent set ≡ true
  pub holds : IsSubset I set
  pub inside : (k : ℕ) → is_member k set ≡ true → (is_member k I || is_member k J) ≡ true
  pub size : length set ≡ length J

grown_inside : (k e : ℕ) (I J : List ℕ) → is_member e J ≡ true → (is_member k (with_one I e) || is_member k J) ≡ true
    → (is_member k I || is_member k J) ≡ true
grown_inside k e I J m h = grind (arith, set_members)

module _ {n : ℕ} {p : List ℕ → Bool} (laws : IsMatroid n p) where
  -- an independent set rises
  pub rising : (I : List ℕ) → p I ≡ true → IsRising I
  rising I h = (laws.sets I h).rising

  -- and its members are below n
  pub below : (I : List ℕ) → p I ≡ true → AllBelow n I
  below I h = (laws.sets I h).below

  -- and it has at most n
  pub size_bound : (I : List ℕ) → p I ≡ true → length I ≤ n
  size_bound I h = omega (arith, length-complement n I (rising I h) (below I h))

  -- an independent set less one member is independent
  pub less_one : (I : List ℕ) (x : ℕ) → p I ≡ true → p (without_one I x) ≡ true
  less_one I x h = laws.subsets _ I (IsRising-without_one I x (rising I h)) (without_one-IsSubset I x) h

  grow_by : (d : ℕ) (I J : List ℕ) → p I ≡ true → p J ≡ true → length I + d ≡ length J → (set : List ℕ) × IsGrown p I J set
  grow_by zero I J i j e = (I, record { passes = i; holds = IsSubset-refl I; inside = λ k m. or_left (is_member k I) (is_member k J) m; size = omega arith })
  grow_by (suc d) I J i j e =
      let a = laws.augmentation I J i j (omega arith) in
      let more = length-with_one I a.element (rising I i) a.outside in
      let g = grow_by d (with_one I a.element) J a.augmented j (omega arith) in (
        g.0,
        record {
          passes = g.1.passes;
          holds = record { inside = λ k m. g.1.holds.inside k (grind (arith, set_members)) };
          inside = λ k m. grown_inside k a.element I J a.inside (g.1.inside k m);
          size = g.1.size;
        },
      )

  -- the smaller of two independent sets grows by members of the other to its size
  pub grow_to_size : (I J : List ℕ) → p I ≡ true → p J ≡ true → length I ≤ length J → (set : List ℕ) × IsGrown p I J set
  grow_to_size I J i j l = grow_by (length J - length I) I J i j (omega arith)

  -- what cannot be added to a set cannot be added to a larger one
  pub full_in_larger : (I J : List ℕ) (x : ℕ) → IsRising I → IsSubset I J → p (with_one I x) ≡ false → p (with_one J x) ≡ false
  full_in_larger I J x r s fails = false_from_ne_true _ (λ ok. both_ways _ fails (laws.subsets (with_one I x) (with_one J x) (IsRising-with_one I x r) (with_one-both I J x s) ok))
