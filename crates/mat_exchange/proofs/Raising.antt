-- Weights that rise member by member, in rising order: the next member was not met before, so its weight is still as at the start.
use Rattle.mat_exchange.proofs.Common.{◌≡◌, ◌≢◌, ℕ, ◌+◌, ◌<◌, ◌≤◌, ◌&&◌, ltb, cond, List, length, set, ◌+ℤ◌, SFits, inl, inr, sym, ap, ◌∙◌, subst, arith, cases_Bool, cases_eq, cases_lt, and_from, and_left, and_right, lt-ltb, le-ltb, cond-true, cond-false, ints, get_or-set_same, get_or-set_other}
use Rattle.mat_exchange.proofs.Common.{largest_number, is_member, IsFirstFrom, zero_weight, ◌⊕◌, ◌⊖◌, weight_at, IsWeightWithin, Weight, pairs, change_room, lowered, raised}
use Rattle.std.specs.Int.{w128}

-- w, with d more on the members before `from`
abbrev pub raised_to : (ℕ → Weight) → List ℕ → Weight → ℕ → ℕ → Weight
raised_to w R d from x = cond (is_member x R && ltb x from) (w x ⊕ d) (w x)

-- the next member's weight is still the one at the start
pub raised_to_here : (w : ℕ → Weight) (R : List ℕ) (d : Weight) (from v : ℕ) → from ≤ v → raised_to w R d from v ≡ w v
raised_to_here w R d from v l = cond-false (is_member v R && ltb v from) (w v ⊕ d) (w v) (and_right (is_member v R) (ltb v from) (le-ltb v from l))

pub raised_to_next : (w now : List Weight) (R : List ℕ) (d y : Weight) (from v : ℕ) → IsFirstFrom (λ x. is_member x R) from v
    → v < length now → ((x : ℕ) → weight_at now x ≡ raised_to (weight_at w) R d from x) → y ≡ weight_at w v ⊕ d
    → (x : ℕ) → weight_at (set now v y) x ≡ raised_to (weight_at w) R d (v + 1) x
raised_to_next w now R d y from v f l h e x = elim (cases_eq x v) [
  | inl same ↦ subst (λ z. weight_at (set now v y) z ≡ raised_to (weight_at w) R d (v + 1) z) (sym same)
      (get_or-set_same now v y zero_weight l ∙ e
      ∙ sym (cond-true (is_member v R && ltb v (v + 1)) _ _ (and_from (is_member v R) (ltb v (v + 1)) f.passes (lt-ltb v (v + 1) (omega arith)))))
  | inr other ↦ get_or-set_other now v x y zero_weight other ∙ h x ∙ ap (λ b. cond b (weight_at w x ⊕ d) (weight_at w x)) (same_test other)
]
  where
    same_test : x ≢ v → (is_member x R && ltb x from) ≡ (is_member x R && ltb x (v + 1))
    same_test other = let r = f.reaches in elim (cases_lt x from) [
      | inl b ↦ ap (λ t. is_member x R && t) (lt-ltb x from b ∙ sym (lt-ltb x (v + 1) (omega arith)))
      | inr c ↦ elim (cases_lt x v) [
        | inl b ↦ (let out = f.none_before x c b in and_left (is_member x R) _ out ∙ sym (and_left (is_member x R) _ out))
        | inr g ↦ ap (λ t. is_member x R && t) (le-ltb x from c ∙ sym (le-ltb x (v + 1) (omega arith)))
      ]
    ]

-- ---- a change by 0

pub lowered_zero : (w : ℕ → Weight) (R : List ℕ) (d : Weight) (x : ℕ) → d ≡ zero_weight → w x ≡ lowered w R d x
lowered_zero w R d x e = elim (cases_Bool (is_member x R)) [
  | inl k ↦ sym (cond-true (is_member x R) (w x ⊖ d) (w x) k ∙ omega (arith, ints, pairs))
  | inr k ↦ sym (cond-false (is_member x R) (w x ⊖ d) (w x) k)
]

pub raised_zero : (w : ℕ → Weight) (R : List ℕ) (d : Weight) (x : ℕ) → d ≡ zero_weight → w x ≡ raised w R d x
raised_zero w R d x e = elim (cases_Bool (is_member x R)) [
  | inl k ↦ sym (cond-true (is_member x R) (w x ⊕ d) (w x) k ∙ omega (arith, ints, pairs))
  | inr k ↦ sym (cond-false (is_member x R) (w x ⊕ d) (w x) k)
]

-- both numbers of the sum of a weight and a step are an `i128`
pub sums_fit : (a d : Weight) → IsWeightWithin largest_number a → IsWeightWithin change_room d
    → SFits w128 (a.main +ℤ d.main) × SFits w128 (a.tie +ℤ d.tie)
sums_fit a d small step = omega (arith, ints)
