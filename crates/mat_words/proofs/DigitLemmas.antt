-- Digits read from the left, as far as a bound, and digits written from the right, one at a time.
use Rattle.mat_words.proofs.Common.{◌≡◌, ℕ, zero, suc, ◌+◌, ◌-◌, ◌*◌, ◌/◌, ◌%◌, ◌^◌, ◌<◌, ◌≤◌, min, List, [], ◌∷◌, ◌++◌, map, length, get_or, take, drop, set, refl, ap, ◌∙◌, arith, take_more, take_all, map_push, drop-set, append_assoc, drop_all, append-nil, number_push, number_after_ge}
use Rattle.mat_words.proofs.Common.{digits_of_step, decimal, value_of, magnitude_bound}
use Rattle.std.specs.Int.Digits.{number_from_digits, digits_of}

-- the value of digits with one more at the end
pub value_push : (cs : List ℕ) (c : ℕ) → value_of (cs ++ c ∷ []) ≡ value_of cs * 10 + (c - 48)
value_push cs c = ap (number_from_digits 10) (map_push (λ b. b - 48) cs c) ∙ number_push 10 (map (λ b. b - 48) cs) (c - 48)

-- the same, of the first i + 1 digits
pub value_more : (cs : List ℕ) (i : ℕ) → i < length cs → value_of (take (i + 1) cs) ≡ value_of (take i cs) * 10 + (get_or cs i 0 - 48)
value_more cs i lt = ap value_of (take_more cs i 0 lt) ∙ value_push (take i cs) (get_or cs i 0)

-- cutting at the bound early or late is the same
capped : (v d : ℕ) → min (min v magnitude_bound * 10 + d) magnitude_bound ≡ min (v * 10 + d) magnitude_bound
capped v d = omega arith

-- the same, as far as the bound
pub value_step : (cs : List ℕ) (i n : ℕ) → i < length cs → n ≡ min (value_of (take i cs)) magnitude_bound
    → min (n * 10 + (get_or cs i 0 - 48)) magnitude_bound ≡ min (value_of (take (i + 1) cs)) magnitude_bound
value_step cs i n lt e = rw (e, value_more cs i lt) (capped (value_of (take i cs)) (get_or cs i 0 - 48))

-- digits of which the first isn't `0` stand for no 0
pub first_counts : (cs : List ℕ) → 0 < length cs → 49 ≤ get_or cs 0 0 → 0 < value_of cs
first_counts [] some first = absurd (omega arith)
first_counts (c ∷ cs) some first =
    let least : 0 + (c - 48) ≤ value_of (c ∷ cs) = number_after_ge 10 (0 + (c - 48)) (map (λ b. b - 48) cs) (omega arith) in
    omega arith

-- nor do they where the value is cut at the bound
pub counted : (cs : List ℕ) (i n : ℕ) → length cs ≤ i → 0 < length cs → 49 ≤ get_or cs 0 0
    → n ≡ min (value_of (take i cs)) magnitude_bound → 0 < n
counted cs i n past some first e =
    let whole : n ≡ min (value_of cs) magnitude_bound = e ∙ ap (λ (t : List ℕ). min (value_of t) magnitude_bound) (take_all i cs past) in
    omega (arith, first_counts cs some first)

-- ---- at most 18 digits

power_up : (i k : ℕ) → 10 ^ i ≤ 10 ^ (i + k)
power_up i zero = (let e : i + 0 ≡ i = omega arith in rw e (omega arith))
power_up i (suc k) =
    let e : i + suc k ≡ suc (i + k) = omega arith in
    let before = power_up i k in
    rw e (omega (arith, before))

-- one digit more than at most 17 still fits 64 bits
pub digit_fits : (n d i : ℕ) → n < 10 ^ i → i < 18 → d < 10 → (n * 10 + d < 10 ^ (i + 1)) × (n * 10 + d < 2 ^ 64)
digit_fits n d i small few digit =
    let one : i + 1 ≡ suc i = omega arith in
    let whole : i + (17 - i) ≡ 17 = omega arith in
    let most : 10 ^ i ≤ 10 ^ 17 = rw whole at (power_up i (17 - i)) in
    (rw one (omega (arith, small)), omega (arith, small, most))

-- at most 18 digits are below 10 ^ 18
pub short_value : (n i : ℕ) → n < 10 ^ i → i ≤ 18 → n < 10 ^ 18
short_value n i small few =
    let whole : i + (18 - i) ≡ 18 = omega arith in
    let most : 10 ^ i ≤ 10 ^ 18 = rw whole at (power_up i (18 - i)) in
    omega (arith, small, most)

pub counted_short : (cs : List ℕ) (i n : ℕ) → length cs ≤ i → 0 < length cs → 49 ≤ get_or cs 0 0 → n ≡ value_of (take i cs) → 0 < n
counted_short cs i n past some first e =
    let whole : n ≡ value_of cs = e ∙ ap value_of (take_all i cs past) in
    omega (arith, first_counts cs some first)

-- the digits of `left` are still to be written before the place `at`, and then those of n stand before the tail, which begins at `end`
pub record IsPartWritten (n left at end : ℕ) (buffer tail : List ℕ) : Type 0 where
  pub digits : decimal n ++ tail ≡ decimal left ++ drop at buffer
  pub room : 0 < at
  pub within : at ≤ end
  pub small : left < 10 ^ (at - 1)

-- at the start nothing is written
pub nothing_written : (n end : ℕ) (buffer : List ℕ) → 0 < end → n < 10 ^ (end - 1) → IsPartWritten n n end end buffer (drop end buffer)
nothing_written n end buffer room small = record { digits = refl; room = room; within = omega arith; small = small }

-- where a digit is left, there is room for it and the digits before it
pub room_left : (left at : ℕ) → 0 < left → left < 10 ^ (at - 1) → (0 < at - 1) × (left / 10 < 10 ^ (at - 1 - 1))
room_left left zero some small = absurd (omega (arith, small))
room_left left (suc zero) some small = absurd (omega (arith, small))
room_left left (suc (suc k)) some small =
    let one : suc (suc k) - 1 ≡ suc k = omega arith in
    let two : suc k - 1 ≡ k = omega arith in
    let wide : left < 10 ^ suc k = rw one at small in
    rw (one, two) (omega arith, omega (arith, wide))

-- the digits of a number are those of its tenth and its last digit
pub decimal_step : (left : ℕ) → 0 < left → decimal left ≡ decimal (left / 10) ++ (48 + left % 10) ∷ []
decimal_step left some = ap (map (λ d. 48 + d)) (digits_of_step 10 left (omega arith) some)
    ∙ map_push (λ d. 48 + d) (digits_of 10 (left / 10)) (left % 10)

-- the last digit that is left is written before the digits so far
pub digit_written : (n left at end : ℕ) (buffer tail : List ℕ) → 0 < left → end ≤ length buffer → IsPartWritten n left at end buffer tail
    → IsPartWritten n (left / 10) (at - 1) end (set buffer (at - 1) (48 + left % 10)) tail
digit_written n left at end buffer tail some inside so_far =
    let some_room : 0 < at = so_far.room in
    let before_end : at ≤ end = so_far.within in
    let room = room_left left at some so_far.small in
    let here : drop (at - 1) (set buffer (at - 1) (48 + left % 10)) ≡ (48 + left % 10) ∷ drop (at - 1 + 1) buffer =
    drop-set buffer (at - 1) (48 + left % 10) (omega arith) in
    let back : at - 1 + 1 ≡ at = omega arith in
    record {
      digits = so_far.digits ∙ ap (λ (t : List ℕ). t ++ drop at buffer) (decimal_step left some)
          ∙ append_assoc (decimal (left / 10)) ((48 + left % 10) ∷ []) (drop at buffer) ∙ rw (here, back) refl;
      room = room.0;
      within = omega arith;
      small = room.1;
    }

-- at the end of the buffer no tail follows
pub no_tail : (ds buffer : List ℕ) (at : ℕ) → length buffer ≤ at → ds ++ drop at buffer ≡ ds
no_tail ds buffer at past = rw (drop_all at buffer past) (append-nil ds)
