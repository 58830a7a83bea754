-- Whether two numbers have an odd number of binary ones in common: it is linear in each of them, with exclusive-or as sum, and a power of two
-- tells one bit.
use Rattle.mat_gf2.proofs.Common.{◌≡◌, ℕ, suc, zero, ◌+◌, ◌*◌, ◌/◌, ◌%◌, ◌^◌, ◌<◌, min, Bool, true, false, not, eqb, List, [], ◌∷◌, inl, inr, refl, sym, ap, ◌∙◌, arith, bit_and, count_ones, cases_eq, or_right, and_comm, and_shr, xor_shr, pow_pos, bit_at_lowest, bit_at_and, bit_at_xor, bit_at-zero}
use Rattle.mat_gf2.proofs.Common.{and_pow, bit_at-lt, same_from_bits_below, is_member, is_member-head, xor_of, inner_product_is_one, bit_cases}
use Rattle.std.specs.Int.{bit_at}
use Rattle.std.specs.Int.Bits.{bit_xor, and_zero_r, and_zero_l}
use Rattle.std.proofs.Math.Nat.{pow-suc}
use Rattle.std.proofs.lemmas.Bool.Decides.{nat_tests}
use lib.Count.{ones_step, ones_cat}

-- whether one of two holds alone
abbrev pub differ : Bool → Bool → Bool
differ true b = not b
differ false b = b

-- ---- the count, from the lowest bit on

no_ones : count_ones 0 ≡ 0
unfolding lib.Count.ones
no_ones = refl

one_one : count_ones 1 + count_ones 0 ≡ 1
unfolding lib.Count.ones
one_one = refl

common_step : (a b : ℕ) → count_ones (bit_and a b) ≡ min (a % 2) (b % 2) + count_ones (bit_and (a / 2) (b / 2))
common_step a b =
    ones_step (bit_and a b) ∙ ap (λ x. x + count_ones (bit_and a b / 2)) lowest
    ∙ ap (λ x. min (a % 2) (b % 2) + count_ones x) (and_shr a b 1)
  where
    lowest : bit_and a b % 2 ≡ min (a % 2) (b % 2)
    lowest = sym (bit_at_lowest (bit_and a b)) ∙ bit_at_and a b 0 ∙ ap (λ x. min x (bit_at b 0)) (bit_at_lowest a)
        ∙ ap (min (a % 2)) (bit_at_lowest b)

step_of_sum : (x y z c m u v : ℕ) → x < 2 → y < 2 → c < 2 → z ≡ (x + y) % 2 → m % 2 ≡ (u + v) % 2
    → (min z c + m) % 2 ≡ (min x c + u + (min y c + v)) % 2
step_of_sum x y z c m u v p q r h k = omega arith

count_of_sum : (d a b c : ℕ) → c < 2 ^ d
    → count_ones (bit_and (bit_xor a b) c) % 2 ≡ (count_ones (bit_and a c) + count_ones (bit_and b c)) % 2
count_of_sum zero a b c l =
    let none : c ≡ 0 = omega arith in
    rw (none, and_zero_r (bit_xor a b), and_zero_r a, and_zero_r b, no_ones) refl
count_of_sum (suc d) a b c l =
    rw (common_step (bit_xor a b) c, common_step a c, common_step b c)
    (step_of_sum (a % 2) (b % 2) (bit_xor a b % 2) (c % 2) (count_ones (bit_and (bit_xor a b / 2) (c / 2))) (count_ones (bit_and (a / 2) (c / 2)))
    (count_ones (bit_and (b / 2) (c / 2))) (omega arith) (omega arith) (omega arith) lowest
    (ap (λ x. count_ones (bit_and x (c / 2)) % 2) (xor_shr a b 1) ∙ count_of_sum d (a / 2) (b / 2) (c / 2) (half (2 ^ d) (2 ^ suc d) (pow-suc 2 d) l)))
  where
    half : (m n : ℕ) → n ≡ m * 2 → c < n → c / 2 < m
    half m n e k = omega arith

    lowest : bit_xor a b % 2 ≡ (a % 2 + b % 2) % 2
    lowest = sym (bit_at_lowest (bit_xor a b)) ∙ bit_at_xor a b 0 ∙ ap (λ x. (x + bit_at b 0) % 2) (bit_at_lowest a)
        ∙ ap (λ x. (a % 2 + x) % 2) (bit_at_lowest b)

below_power : (c : ℕ) → c < 2 ^ c
below_power zero = omega arith
below_power (suc c) = let a = below_power c in let b = pow-suc 2 c in omega arith

odd_of_sum : (p q r : ℕ) → p % 2 ≡ (q + r) % 2 → eqb (p % 2) 1 ≡ differ (eqb (q % 2) 1) (eqb (r % 2) 1)
odd_of_sum p q r h = elim (cases_eq (q % 2) 1) [
  | inl one ↦ elim (cases_eq (r % 2) 1) [
    | inl other ↦ (let e : p % 2 ≡ 0 = omega arith in rw (e, one, other) refl)
    | inr other ↦ (let e : p % 2 ≡ 1 = omega arith in let k : r % 2 ≡ 0 = omega arith in rw (e, one, k) refl)
  ]
  | inr none ↦ (let z : q % 2 ≡ 0 = omega arith in let e : p % 2 ≡ r % 2 = omega arith in rw (e, z) refl)
]

-- ---- linear in both

pub inner_product_is_one-xor : (a b c : ℕ) → inner_product_is_one (bit_xor a b) c ≡ differ (inner_product_is_one a c) (inner_product_is_one b c)
inner_product_is_one-xor a b c =
    odd_of_sum (count_ones (bit_and (bit_xor a b) c)) (count_ones (bit_and a c)) (count_ones (bit_and b c)) (count_of_sum c a b c (below_power c))

pub inner_product_is_one-turned : (a b : ℕ) → inner_product_is_one a b ≡ inner_product_is_one b a
inner_product_is_one-turned a b = ap (λ x. eqb (count_ones x % 2) 1) (and_comm a b)

pub inner_product_is_one-xor_right : (c a b : ℕ) → inner_product_is_one c (bit_xor a b) ≡ differ (inner_product_is_one c a) (inner_product_is_one c b)
inner_product_is_one-xor_right c a b =
    inner_product_is_one-turned c (bit_xor a b) ∙ inner_product_is_one-xor a b c ∙ ap (λ x. differ x (inner_product_is_one b c)) (inner_product_is_one-turned a c)
    ∙ ap (differ (inner_product_is_one c a)) (inner_product_is_one-turned b c)

pub inner_product_is_one-zero : (c : ℕ) → inner_product_is_one 0 c ≡ false
inner_product_is_one-zero c = rw (and_zero_l c, no_ones) refl

pub inner_product_is_one-zero_right : (c : ℕ) → inner_product_is_one c 0 ≡ false
inner_product_is_one-zero_right c = inner_product_is_one-turned c 0 ∙ inner_product_is_one-zero c

-- ---- a power of two tells a bit

pub inner_product_is_one-power : (p b : ℕ) → inner_product_is_one (2 ^ p) b ≡ eqb (bit_at b p) 1
inner_product_is_one-power p b = ap (λ x. eqb (count_ones x % 2) 1) (and_comm (2 ^ p) b ∙ and_pow b p) ∙ elim (bit_cases b p) [
  | inl one ↦ rw (one, single) refl
  | inr none ↦ rw (none, no_times (2 ^ p), no_ones) refl
]
  where
    no_times : (m : ℕ) → 0 * m ≡ 0
    no_times m = omega arith

    single : count_ones (1 * 2 ^ p) ≡ 1
    single = ap count_ones (sum (2 ^ p)) ∙ ones_cat p 1 0 (pow_pos p) ∙ one_one
      where
        sum : (m : ℕ) → 1 * m ≡ 1 * m + 0
        sum m = omega arith

pub zero_from_powers : (dim v : ℕ) → v < 2 ^ dim → ((p : ℕ) → p < dim → inner_product_is_one (2 ^ p) v ≡ false) → v ≡ 0
zero_from_powers dim v l h =
    same_from_bits_below dim v 0 l (pow_pos dim) (λ p k. clear (bit_at v p) (bit_at-lt v p) (sym (inner_product_is_one-power p v) ∙ h p k) ∙ sym (bit_at-zero p))
  where
    clear : (b : ℕ) → b < 2 → eqb b 1 ≡ false → b ≡ 0
    clear b k e = grind (arith, nat_tests)

-- ---- sums of columns

pub meet_sum_evenly : (column : ℕ → ℕ) (z : ℕ) (s : List ℕ) → ((x : ℕ) → is_member x s ≡ true → inner_product_is_one z (column x) ≡ false)
    → inner_product_is_one z (xor_of column s) ≡ false
meet_sum_evenly column z [] h = inner_product_is_one-zero_right z
meet_sum_evenly column z (x ∷ s) h =
    inner_product_is_one-xor_right z (column x) (xor_of column s) ∙ ap (λ b. differ b (inner_product_is_one z (xor_of column s))) (h x (is_member-head x s))
    ∙ meet_sum_evenly column z s (λ y m. h y (or_right (eqb y x) (is_member y s) m))
