-- The highest bit of a number, and what reducing does to it: reducing by b is linear, clears the highest bit of b, and keeps the bits that are
-- clear in both and any other highest bit.
use Rattle.std.proofs.Common.{◌≡◌, ℕ, suc, zero, ◌+◌, ◌-◌, ◌*◌, ◌/◌, ◌%◌, ◌^◌, ◌<◌, ◌≤◌, ◌≢◌, cond, leb, ltb, ◌⊎◌, inl, inr, refl, sym, ap, ◌∙◌, subst, arith}
use Rattle.std.proofs.lemmas.Bool.{cases_Bool, cases_eq, cases_lt, lt-ltb, leb-true, leb-false, ltb-true}
use Rattle.std.specs.Int.{bit_at}
use Rattle.std.specs.Int.Bits.{bit_xor, xor_self, xor_zero_l, xor_zero_r, xor_assoc, xor_add_and}
use Rattle.std.proofs.lemmas.Nat.{xor_comm, xor_lt, xor_shr, shr_high}
use Rattle.std.proofs.lemmas.Nat.Bits.{bit_at_xor, shr_and_one, bit_at_above, bit_at-lt}
use Rattle.std.proofs.Math.Nat.{lt-div-mul-add, mul-le-mul_right, pow-suc}
use Rattle.std.proofs.Math.Pow.{pow-lt}
use Rattle.mat_gf2.specs.Eliminations.{reduced}

-- q is the place of the highest bit of v
pub record IsLeadingBit (v q : ℕ) : Type 0 where
  pub low : 2 ^ q ≤ v
  pub high : v < 2 ^ suc q

-- ---- the highest bit

-- the place of the highest bit, sought from k down
unfoldable leading_bit_from : ℕ → ℕ → ℕ
leading_bit_from zero v = 0
leading_bit_from (suc k) v = cond (leb (2 ^ suc k) v) (suc k) (leading_bit_from k v)

pub leading_bit : ℕ → ℕ
leading_bit v = leading_bit_from v v

pow_step : (q : ℕ) → 2 ^ suc q ≡ 2 ^ q * 2
pow_step q = pow-suc 2 q

above_self : (v : ℕ) → v < 2 ^ v
above_self zero = omega arith
above_self (suc v) = let a = above_self v in let b = pow_step v in omega arith

leading_bit_from-is : (k v : ℕ) → 0 < v → v < 2 ^ suc k → IsLeadingBit v (leading_bit_from k v)
unfolding leading_bit_from
leading_bit_from-is zero v p h = record { low = omega arith; high = h }
leading_bit_from-is (suc k) v p h = elim (cases_Bool (leb (2 ^ suc k) v)) [
  | inl a ↦ rw a (record { low = leb-true (2 ^ suc k) v a; high = h })
  | inr a ↦ rw a (leading_bit_from-is k v p (leb-false (2 ^ suc k) v a))
]

pub leading_bit-is : (v : ℕ) → 0 < v → IsLeadingBit v (leading_bit v)
unfolding leading_bit
leading_bit-is v p = leading_bit_from-is v v p (let a = above_self v in let b = pow_step v in omega arith)

leading_quotient : (v q : ℕ) → IsLeadingBit v q → v / 2 ^ q ≡ 1
leading_quotient v q t =
    let a = t.low in
    let b = t.high in
    let c = pow_step q in
    let e : v ≡ 1 * 2 ^ q + (v - 2 ^ q) = omega arith in
    ap (λ x. x / 2 ^ q) e ∙ shr_high 1 q (v - 2 ^ q) (omega arith)

-- the highest bit is set
pub leading_bit-set : (v q : ℕ) → IsLeadingBit v q → bit_at v q ≡ 1
leading_bit-set v q t = ap (λ x. x % 2) (leading_quotient v q t)

-- a bit above the highest is clear
clear_above : (v q i : ℕ) → IsLeadingBit v q → q < i → bit_at v i ≡ 0
clear_above v q i t l = bit_at_above v (suc q) i t.high (omega arith)

-- ---- laws of exclusive-or

xor_swap : (a b c : ℕ) → bit_xor (bit_xor a b) c ≡ bit_xor (bit_xor a c) b
xor_swap a b c = xor_assoc a b c ∙ ap (bit_xor a) (xor_comm b c) ∙ sym (xor_assoc a c b)

pub xor_cancel : (a b : ℕ) → bit_xor a (bit_xor a b) ≡ b
xor_cancel a b = sym (xor_assoc a a b) ∙ ap (λ x. bit_xor x b) (xor_self a) ∙ xor_zero_l b

pub xor_both : (v w b : ℕ) → bit_xor (bit_xor v b) (bit_xor w b) ≡ bit_xor v w
xor_both v w b = xor_assoc v b (bit_xor w b) ∙ ap (λ x. bit_xor v (bit_xor b x)) (xor_comm w b) ∙ ap (bit_xor v) (xor_cancel b w)

-- either bit
pub bit_cases : (v p : ℕ) → (bit_at v p ≡ 1) ⊎ (bit_at v p ≡ 0)
bit_cases v p = elim (cases_eq (bit_at v p) 1) [ inl e ↦ inl e | inr d ↦ inr (let a = bit_at-lt v p in omega arith) ]

-- the bit of a sum, by the two bits
bit_of_sum : (v w p a b : ℕ) → bit_at v p ≡ a → bit_at w p ≡ b → bit_at (bit_xor v w) p ≡ (a + b) % 2
bit_of_sum v w p a b hv hw = bit_at_xor v w p ∙ ap (λ z. (z + bit_at w p) % 2) hv ∙ ap (λ z. (a + z) % 2) hw

-- ---- reducing, by the bit of v at the highest place of b

-- v is the smaller where its quotient is
smaller_by_quotient : (v w m : ℕ) → v / m < w / m → 0 < m → v < w
smaller_by_quotient v w m h p =
    let a : v < v / m * m + m = lt-div-mul-add p in
    let b : (v / m + 1) * m ≤ w / m * m = mul-le-mul_right m (omega arith) in
    let c : w / m * m ≤ w = omega arith in
    omega arith

pow_positive : (q : ℕ) → 0 < 2 ^ q
pow_positive zero = omega arith
pow_positive (suc q) = let a = pow_positive q in let b = pow_step q in omega arith

sum_quotient : (v b p : ℕ) → IsLeadingBit b p → bit_xor v b / 2 ^ p + bit_at v p * 2 ≡ v / 2 ^ p + 1
sum_quotient v b p t =
    let quotient : bit_xor v b / 2 ^ p ≡ bit_xor (v / 2 ^ p) 1 = xor_shr v b p ∙ ap (bit_xor (v / 2 ^ p)) (leading_quotient b p t) in
    ap (λ x. x + bit_at v p * 2) quotient ∙ ap (λ x. bit_xor (v / 2 ^ p) 1 + x * 2) (sym (shr_and_one v p)) ∙ xor_add_and (v / 2 ^ p) 1

reduced-taken : (v b : ℕ) → bit_xor v b < v → reduced v b ≡ bit_xor v b
reduced-taken v b l = rw (lt-ltb (bit_xor v b) v l) refl

reduced-left : (v b : ℕ) → v ≤ bit_xor v b → reduced v b ≡ v
reduced-left v b l = elim (cases_Bool (ltb (bit_xor v b) v)) [
  | inl e ↦ absurd (let k = ltb-true (bit_xor v b) v e in omega arith)
  | inr e ↦ rw e refl
]

pub reduced-set : (v b p : ℕ) → IsLeadingBit b p → bit_at v p ≡ 1 → reduced v b ≡ bit_xor v b
reduced-set v b p t h =
    let a = sum_quotient v b p t in
    reduced-taken v b (smaller_by_quotient (bit_xor v b) v (2 ^ p) (omega arith) (pow_positive p))

pub reduced-clear : (v b p : ℕ) → IsLeadingBit b p → bit_at v p ≡ 0 → reduced v b ≡ v
reduced-clear v b p t h =
    let a = sum_quotient v b p t in
    let more : v < bit_xor v b = smaller_by_quotient v (bit_xor v b) (2 ^ p) (omega arith) (pow_positive p) in
    reduced-left v b (omega arith)

pub reduced-by_zero : (v : ℕ) → reduced v 0 ≡ v
reduced-by_zero v = elim (cases_Bool (ltb (bit_xor v 0) v)) [ inl e ↦ rw e (xor_zero_r v) | inr e ↦ rw e refl ]

pub reduced-zero : (b : ℕ) → reduced 0 b ≡ 0
reduced-zero b = reduced-left 0 b (omega arith)

pub reduced-self : (b : ℕ) → reduced b b ≡ 0
reduced-self b = elim (cases_lt 0 b) [
  | inl l ↦ rw (xor_self b) (rw (lt-ltb 0 b l) refl)
  | inr l ↦ (let e : b ≡ 0 = omega arith in rw e (reduced-zero 0))
]

-- ---- reducing is linear

-- by a number whose highest bit is p
reduced-xor_at : (v w b p : ℕ) → IsLeadingBit b p → reduced (bit_xor v w) b ≡ bit_xor (reduced v b) (reduced w b)
reduced-xor_at v w b p t = elim (bit_cases v p) [
  | inl hv ↦ elim (bit_cases w p) [
    | inl hw ↦ reduced-clear (bit_xor v w) b p t (bit_of_sum v w p 1 1 hv hw) ∙ sym (xor_both v w b)
        ∙ sides (bit_xor v b) (bit_xor w b) (reduced-set v b p t hv) (reduced-set w b p t hw)
    | inr hw ↦ reduced-set (bit_xor v w) b p t (bit_of_sum v w p 1 0 hv hw) ∙ xor_swap v w b
        ∙ sides (bit_xor v b) w (reduced-set v b p t hv) (reduced-clear w b p t hw)
  ]
  | inr hv ↦ elim (bit_cases w p) [
    | inl hw ↦ reduced-set (bit_xor v w) b p t (bit_of_sum v w p 0 1 hv hw) ∙ xor_assoc v w b
        ∙ sides v (bit_xor w b) (reduced-clear v b p t hv) (reduced-set w b p t hw)
    | inr hw ↦ reduced-clear (bit_xor v w) b p t (bit_of_sum v w p 0 0 hv hw)
        ∙ sides v w (reduced-clear v b p t hv) (reduced-clear w b p t hw)
  ]
]
  where
    sides : (x y : ℕ) → reduced v b ≡ x → reduced w b ≡ y → bit_xor x y ≡ bit_xor (reduced v b) (reduced w b)
    sides x y h k = ap (λ z. bit_xor z y) (sym h) ∙ ap (bit_xor (reduced v b)) (sym k)

pub reduced-xor : (v w b : ℕ) → reduced (bit_xor v w) b ≡ bit_xor (reduced v b) (reduced w b)
reduced-xor v w b = elim (cases_lt 0 b) [
  | inl l ↦ reduced-xor_at v w b (leading_bit b) (leading_bit-is b l)
  | inr l ↦ (let e : b ≡ 0 = omega arith in
      rw e (reduced-by_zero (bit_xor v w) ∙ ap (λ z. bit_xor z w) (sym (reduced-by_zero v))
      ∙ ap (bit_xor (reduced v 0)) (sym (reduced-by_zero w))))
]

-- ---- which bits are set afterwards

-- a bit that both have clear stays clear
pub reduced-keeps_clear : (v b i : ℕ) → bit_at v i ≡ 0 → bit_at b i ≡ 0 → bit_at (reduced v b) i ≡ 0
reduced-keeps_clear v b i hv hb = elim (cases_Bool (ltb (bit_xor v b) v)) [
  | inl e ↦ rw e (bit_of_sum v b i 0 0 hv hb)
  | inr e ↦ rw e hv
]

-- the highest bit of b is cleared
pub reduced-clears : (v b p : ℕ) → IsLeadingBit b p → bit_at (reduced v b) p ≡ 0
reduced-clears v b p t = elim (bit_cases v p) [
  | inl h ↦ ap (λ z. bit_at z p) (reduced-set v b p t h) ∙ bit_of_sum v b p 1 1 h (leading_bit-set b p t)
  | inr h ↦ ap (λ z. bit_at z p) (reduced-clear v b p t h) ∙ h
]

pub pow-le : (q r : ℕ) → q ≤ r → 2 ^ q ≤ 2 ^ r
pow-le q r l = elim (cases_eq q r) [
  | inl e ↦ (let a = ap (λ k. 2 ^ k) e in omega arith)
  | inr d ↦ (let a : 2 ^ q < 2 ^ r = pow-lt (omega arith) in omega arith)
]

no_quotient : (b q : ℕ) → b < 2 ^ q → b / 2 ^ q ≡ 0
no_quotient b q l = ap (λ x. x / 2 ^ q) (turn b (2 ^ q)) ∙ shr_high 0 q b l
  where
    turn : (b m : ℕ) → b ≡ 0 * m + b
    turn b m = omega arith

-- another highest bit stays the highest
pub reduced-keeps_leading_bit : (v b p q : ℕ) → IsLeadingBit b p → IsLeadingBit v q → q ≢ p → IsLeadingBit (reduced v b) q
reduced-keeps_leading_bit v b p q s t d = elim (bit_cases v p) [
  | inr h ↦ subst (λ z. IsLeadingBit z q) (sym (reduced-clear v b p s h)) t
  | inl h ↦ (let l : p < q = elim (cases_lt p q) [ inl a ↦ a | inr a ↦ absurd (let k = clear_above v q p t (omega arith) in omega arith) ] in
      let a = pow-le (suc p) q (omega arith) in
      let c = s.high in
      let e = pow_step q in
      let quotient : bit_xor v b / 2 ^ q ≡ 1 =
      xor_shr v b q ∙ ap (bit_xor (v / 2 ^ q)) (no_quotient b q (omega arith)) ∙ xor_zero_r (v / 2 ^ q) ∙ leading_quotient v q t in
      let big : b < 2 ^ suc q = omega arith in
      subst (λ z. IsLeadingBit z q) (sym (reduced-set v b p s h))
      (record { low = at_least (bit_xor v b) (2 ^ q) quotient; high = xor_lt (suc q) v b t.high big }))
]
  where
    at_least : (x m : ℕ) → x / m ≡ 1 → m ≤ x
    at_least x m e = let a : x / m * m ≤ x = omega arith in let b = ap (λ k. k * m) e in omega arith
