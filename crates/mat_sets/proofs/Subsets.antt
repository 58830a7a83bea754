-- Subsets, and how their sizes compare.
use Rattle.mat_sets.proofs.Common.{Bool, List, [], ap, arith, false, inl, inr, length, not, refl, true, ℕ, ◌<◌, ◌∷◌, ◌≡◌, ◌≤◌, ◌⊎◌, both_ways, cases_Bool, IsRising, IsSubset, intersection, is_member, minus, union, with_one, without_one}
use Rattle.mat_sets.proofs.Cardinalities.{length-minus-intersection, length-with_one}
use Rattle.mat_sets.proofs.Members.{IsRising-intersection, IsRising-union, IsRising-with_one, is_member-head, same_members, set_members}

pub IsSubset-refl : (a : List ℕ) → IsSubset a a
IsSubset-refl a = record { inside = λ k h. h }

pub IsSubset-trans : (a b c : List ℕ) → IsSubset a b → IsSubset b c → IsSubset a c
IsSubset-trans a b c s t = record { inside = λ k h. t.inside k (s.inside k h) }

pub IsSubset-with_one : (a : List ℕ) (x : ℕ) → IsSubset a (with_one a x)
IsSubset-with_one a x = record { inside = λ k h. grind (arith, set_members) }

pub with_one-IsSubset : (a b : List ℕ) (x : ℕ) → IsSubset a b → is_member x b ≡ true → IsSubset (with_one a x) b
with_one-IsSubset a b x s m = record { inside = λ k h. grind (arith, set_members) }

pub without_one-IsSubset : (a : List ℕ) (x : ℕ) → IsSubset (without_one a x) a
without_one-IsSubset a x = record { inside = λ k h. grind (arith, set_members) }

pub minus-IsSubset : (a b : List ℕ) → IsSubset (minus a b) a
minus-IsSubset a b = record { inside = λ k h. grind (arith, set_members) }

pub minus-both : (a b c : List ℕ) → IsSubset a b → IsSubset (minus a c) (minus b c)
minus-both a b c s = record { inside = λ k m. grind (arith, set_members, s.inside k) }

pub intersection-left : (a b : List ℕ) → IsSubset (intersection a b) a
intersection-left a b = record { inside = λ k h. grind (arith, set_members) }

pub intersection-right : (a b : List ℕ) → IsSubset (intersection a b) b
intersection-right a b = record { inside = λ k h. grind (arith, set_members) }

pub union-left : (a b : List ℕ) → IsSubset a (union a b)
union-left a b = record { inside = λ k h. grind (arith, set_members) }

pub union-right : (a b : List ℕ) → IsSubset b (union a b)
union-right a b = record { inside = λ k h. grind (arith, set_members) }

pub union-IsSubset : (a b c : List ℕ) → IsSubset a c → IsSubset b c → IsSubset (union a b) c
union-IsSubset a b c s t = record { inside = λ k h. grind (arith, set_members) }

-- ---- a member that passes, or none

-- some number in a passes, or none does
pub find_member : (p : ℕ → Bool) (a : List ℕ)
    → ((e : ℕ) × (is_member e a ≡ true) × (p e ≡ true)) ⊎ ((k : ℕ) → is_member k a ≡ true → p k ≡ false)
find_member p [] = inr (λ k h. absurd (both_ways false refl h))
find_member p (x ∷ t) =
    elim (cases_Bool (p x)) [
      | inl passes ↦ inl (x, is_member-head x t, passes)
      | inr fails ↦ elim (find_member p t) [
        | inl found ↦ inl (found.0, (let m = found.1 in grind arith), found.2)
        | inr none ↦ inr (λ k h. let n = none k in grind arith)
      ]
    ]

pub subset_or : (a b : List ℕ) → IsSubset a b ⊎ ((e : ℕ) × (is_member e a ≡ true) × (is_member e b ≡ false))
subset_or a b =
    elim (find_member (λ k. not (is_member k b)) a) [
      | inl found ↦ inr (found.0, found.1, (let h = found.2 in grind arith))
      | inr none ↦ inl (record { inside = λ k h. let n = none k h in grind arith })
    ]

-- ---- sizes

pub length-subset : (a b : List ℕ) → IsRising a → IsRising b → IsSubset a b → length a ≤ length b
length-subset a b r s h =
    let same : intersection a b ≡ a = same_members _ _ (IsRising-intersection a b r) r (λ k. grind (arith, set_members)) in
    let other : union a b ≡ b = same_members _ _ (IsRising-union a b s) s (λ k. grind (arith, set_members)) in
    let flip : intersection b a ≡ a = same_members _ _ (IsRising-intersection b a s) r (λ k. grind (arith, set_members)) in
    omega (arith, length-minus-intersection b a s, ap length flip)

pub larger_has : (a b : List ℕ) → IsRising a → IsRising b → length a < length b
    → (e : ℕ) × (is_member e b ≡ true) × (is_member e a ≡ false)
larger_has a b r s l =
    elim (subset_or b a) [
      | inl h ↦ absurd (omega (arith, length-subset b a s r h))
      | inr found ↦ found
    ]

pub same_size_subset : (a b : List ℕ) → IsRising a → IsRising b → IsSubset a b → length b ≤ length a → a ≡ b
same_size_subset a b r s h l =
    elim (subset_or b a) [
      | inl g ↦ same_members a b r s (λ k. grind (arith, h.inside k, g.inside k))
      | inr found ↦
          let grown : IsSubset (with_one a found.0) b = record { inside = λ k m. let f = found.1 in grind (arith, set_members, h.inside k) } in
          absurd (omega (arith, length-with_one a found.0 r found.2, length-subset _ b (IsRising-with_one a found.0 r) s grown))
    ]

pub subsets_equal : (a b : List ℕ) → IsRising a → IsRising b → IsSubset a b → IsSubset b a → a ≡ b
subsets_equal a b r s h g = same_members a b r s (λ k. grind (arith, h.inside k, g.inside k))
