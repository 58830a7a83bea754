-- A heaviest element of those that pass, found by going through them in rising order.
use Rattle.mat_exchange.proofs.Common.{◌≡◌, ℕ, ◌<◌, ◌≤◌, ◌+◌, ◌*◌, ◌/◌, Bool, true, false, ◌&&◌, cond, eqb, List, length, Option, Some, None, IfSome, ◌⊎◌, inl, inr, sym, ap, ◌∙◌, subst, arith, cases_Bool, cases_lt, cases_eq, both_ways, and_parts, and_from, and_right, eqb-true, eq-eqb, ne_eqb}
use Rattle.mat_exchange.proofs.Common.{false_from_ne_true, ints, bits_of, IsFirstFrom, is_member, zero_weight, negated, ◌⊕◌, ◌≼◌, is_below, Weight, none_past, and_all, pairs, at_most_same, at_most_trans, below_at_most, not_below_gives, heavier_of, IsHeaviestOrNone, IsHeaviestTo, IsHeaviestToOrNone}
use Rattle.mat_exchange.proofs.Common.{heavier_of_two, in_bucket}

-- each that passes before v + 1 passes before `from` or is v
pub passes_next : (test : ℕ → Bool) (from v x : ℕ) → IsFirstFrom test from v → x < v + 1 → test x ≡ true → (x < from) ⊎ (x ≡ v)
passes_next test from v x f l p = elim (cases_lt x from) [
  | inl a ↦ inl a
  | inr a ↦ elim (cases_eq x v) [ inl e ↦ inr e | inr d ↦ absurd (both_ways _ (f.none_before x a (omega arith)) p) ]
]

-- v is a heaviest of those between two numbers: the heavier of it and a heaviest before them is a heaviest of all
pub heaviest_to_merged : (test : ℕ → Bool) (w : ℕ → Weight) (from to v : ℕ) (found : Option ℕ) → test v ≡ true
    → ((x : ℕ) → from ≤ x → x < to → test x ≡ true → w x ≼ w v) → IsHeaviestToOrNone test w from found
    → IsHeaviestToOrNone test w to (heavier_of w found v)
heaviest_to_merged test w from to v None passes most h = record {
  passes = passes;
  most = λ x l p. elim (cases_lt x from) [ inl a ↦ absurd (both_ways _ (h x a) p) | inr a ↦ most x a l p ];
}
heaviest_to_merged test w from to v (Some y) passes most h = elim (cases_Bool (is_below (w y) (w v))) [
  | inl more ↦ subst (λ c. IsHeaviestTo test w to (cond c v y)) (sym more) (record {
    passes = passes;
    most = λ x l p. elim (cases_lt x from) [
      | inl a ↦ at_most_trans (w x) (w y) (w v) (h.most x a p) (below_at_most (w y) (w v) more)
      | inr a ↦ most x a l p
    ];
  })
  | inr less ↦ subst (λ c. IsHeaviestTo test w to (cond c v y)) (sym less) (record {
    passes = h.passes;
    most = λ x l p. elim (cases_lt x from) [
      | inl a ↦ h.most x a p
      | inr a ↦ at_most_trans (w x) (w v) (w y) (most x a l p) (not_below_gives (w y) (w v) less)
    ];
  })
]

pub heaviest_to_next : (test : ℕ → Bool) (w : ℕ → Weight) (from v : ℕ) (found : Option ℕ) → IsFirstFrom test from v
    → IsHeaviestToOrNone test w from found → IsHeaviestToOrNone test w (v + 1) (heavier_of w found v)
heaviest_to_next test w from v found f h = heaviest_to_merged test w from (v + 1) v found f.passes
    (λ x a l p. elim (passes_next test from v x f l p) [
      | inl b ↦ absurd (omega arith)
      | inr e ↦ at_most_same (w x) (w v) (ap w e)
    ]) h

-- nothing between two numbers passes
pub heaviest_to_on : (test : ℕ → Bool) (w : ℕ → Weight) (from to : ℕ) (found : Option ℕ) → ((x : ℕ) → from ≤ x → x < to → test x ≡ false)
    → IsHeaviestToOrNone test w from found → IsHeaviestToOrNone test w to found
heaviest_to_on test w from to None missing h = λ x l. elim (cases_lt x from) [ inl a ↦ h x a | inr a ↦ missing x a l ]
heaviest_to_on test w from to (Some y) missing h = record {
  passes = h.passes;
  most = λ x l p. elim (cases_lt x from) [ inl a ↦ h.most x a p | inr a ↦ absurd (both_ways _ (missing x a l) p) ];
}

-- nothing from there on passes
pub heaviest_to_all : (test : ℕ → Bool) (w : ℕ → Weight) (from : ℕ) (found : Option ℕ) → ((x : ℕ) → from ≤ x → test x ≡ false)
    → IsHeaviestToOrNone test w from found → IsHeaviestOrNone test w found
heaviest_to_all test w from None missing h = λ x. elim (cases_lt x from) [ inl a ↦ h x a | inr a ↦ missing x a ]
heaviest_to_all test w from (Some y) missing h = record {
  passes = h.passes;
  most = λ x p. elim (cases_lt x from) [ inl a ↦ h.most x a p | inr a ↦ absurd (both_ways _ (missing x a) p) ];
}

-- what passes is below n
pub heaviest_to_below : (test : ℕ → Bool) (w : ℕ → Weight) (from n : ℕ) (found : Option ℕ) → ((x : ℕ) → test x ≡ true → x < n)
    → IsHeaviestToOrNone test w from found → IfSome found (λ y. y < n)
heaviest_to_below test w from n None below h = _
heaviest_to_below test w from n (Some y) below h = below y h.passes

-- ---- buckets

pub bucket_parts : (members : List ℕ) (at x : ℕ) → in_bucket members at x ≡ true → (is_member x members ≡ true) × (x / 64 ≡ at)
bucket_parts members at x k =
    let p = and_parts (is_member x members) (eqb (x / 64) at) k in
    (p.0, eqb-true (x / 64) at p.1)

pub bucket_from : (members : List ℕ) (at x : ℕ) → is_member x members ≡ true → x / 64 ≡ at → in_bucket members at x ≡ true
bucket_from members at x m e = and_from (is_member x members) (eqb (x / 64) at) m (eq-eqb (x / 64) at e)

-- the numbers of a bucket are those of 64 bits
pub bucket_bit : (members : List ℕ) (at i : ℕ) → i < 64 → in_bucket members at (at * 64 + i) ≡ is_member (at * 64 + i) members
bucket_bit members at i small =
    ap (λ b. is_member (at * 64 + i) members && b) (eq-eqb ((at * 64 + i) / 64) at (omega arith)) ∙ and_all (is_member (at * 64 + i) members)

pub bucket_before : (members : List ℕ) (at x : ℕ) → x < at * 64 → in_bucket members at x ≡ false
bucket_before members at x l = and_right (is_member x members) (eqb (x / 64) at) (ne_eqb (x / 64) at (λ e. omega arith))

pub bucket_after : (members : List ℕ) (at x : ℕ) → at * 64 + 64 ≤ x → in_bucket members at x ≡ false
bucket_after members at x l = and_right (is_member x members) (eqb (x / 64) at) (ne_eqb (x / 64) at (λ e. omega arith))

-- no word, no members
pub bucket_past : (words : List ℕ) (at x : ℕ) → length words ≤ at → in_bucket (bits_of words) at x ≡ false
bucket_past words at x past = false_from_ne_true (in_bucket (bits_of words) at x) (λ k.
    let p = bucket_parts (bits_of words) at x k in
    let e = p.1 in
    both_ways _ (none_past words (64 * length words) (omega arith) x (omega arith)) p.0)

-- what is a heaviest of the members passes
pub heaviest_below : (test : ℕ → Bool) (w : ℕ → Weight) (n : ℕ) (found : Option ℕ) → ((x : ℕ) → test x ≡ true → x < n)
    → IsHeaviestOrNone test w found → IfSome found (λ y. y < n)
heaviest_below test w n None below h = _
heaviest_below test w n (Some y) below h = below y h.passes

-- the next bucket is gone through
pub heaviest_to_bucket : (members : List ℕ) (w : ℕ → Weight) (at : ℕ) (found top : Option ℕ)
    → IsHeaviestToOrNone (λ x. is_member x members) w (at * 64) found → IsHeaviestOrNone (in_bucket members at) w top
    → IsHeaviestToOrNone (λ x. is_member x members) w ((at + 1) * 64) (heavier_of_two w found top)
heaviest_to_bucket members w at found None h none =
    heaviest_to_on (λ x. is_member x members) w (at * 64) ((at + 1) * 64) found
    (λ x a l. false_from_ne_true (is_member x members) (λ m. both_ways _ (none x) (bucket_from members at x m (omega arith)))) h
heaviest_to_bucket members w at found (Some y) h top =
    heaviest_to_merged (λ x. is_member x members) w (at * 64) ((at + 1) * 64) y found (bucket_parts members at y top.passes).0
    (λ x a l m. top.most x (bucket_from members at x m (omega arith))) h

-- ---- the next step

-- a change by the negated gain makes the gain 0, and no lesser one more
pub level_after : (gain step : Weight) → step ≡ negated gain → gain ⊕ step ≡ zero_weight
level_after gain step e = omega (arith, ints, pairs)

pub low_after : (gain most step : Weight) → gain ≼ most → step ≡ negated most → (gain ⊕ step) ≼ zero_weight
low_after gain most step le e = omega (arith, ints, pairs)

-- a sink that comes no later than the heaviest of the fringe comes no later than all of it
pub sink_not_late : (gain most step slack : Weight) → gain ≼ most → step ≡ negated most → slack ≼ step → (gain ⊕ slack) ≼ zero_weight
sink_not_late gain most step slack le e before = omega (arith, ints, pairs)
