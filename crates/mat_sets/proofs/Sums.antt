-- Sums over rising lists. A sum over a set is a sum over the numbers below a bound, each as often as it stands in the
-- set; so two families in which each number stands equally often have one sum.
use Rattle.mat_sets.proofs.Common.{Bool, List, [], ap, arith, cond, eqb, false, get_or, inl, inr, length, max, pos, refl, suc, suc-add, sym, take, true, zero, zero-add, ℕ, ℤ, ◌+ℤ◌, ◌+◌, ◌<◌, ◌∙◌, ◌∷◌, ◌≡◌, ◌≤◌, cases_eq, eq-eqb, ne_eqb, ints, AllRising, family_sum, indicator, multiplicity, AllBelow}
use Rattle.mat_sets.proofs.Common.{IsRising, RisesFrom, is_member, sum_of}
use Rattle.std.proofs.Math.Numerals.{add-one}
use Rattle.mat_sets.proofs.Members.{missing_below}

-- z, m times
pub times : ℕ → ℤ → ℤ
times zero z = pos 0
times (suc m) z = z +ℤ times m z

pub times-add : (m n : ℕ) (z : ℤ) → times (m + n) z ≡ times m z +ℤ times n z
unfolding times
times-add zero n z = rw (zero-add n) (omega (arith, ints))
times-add (suc m) n z = rw (suc-add m n) (omega (arith, ints, times-add m n z))

pub times-indicator : (b : Bool) (z : ℤ) → times (indicator b) z ≡ cond b z (pos 0)
unfolding times
times-indicator true z = omega (arith, ints)
times-indicator false z = refl

-- the sum of m(k) times f(k), over k below n
pub total : (ℕ → ℤ) → (ℕ → ℕ) → ℕ → ℤ
total f m zero = pos 0
total f m (suc n) = total f m n +ℤ times (m n) (f n)

pub total-add : (f : ℕ → ℤ) (m p : ℕ → ℕ) (n : ℕ) → total f (λ k. m k + p k) n ≡ total f m n +ℤ total f p n
unfolding total
total-add f m p zero = refl
total-add f m p (suc n) = omega (arith, ints, total-add f m p n, times-add (m n) (p n) (f n))

pub total-same : (f : ℕ → ℤ) (m p : ℕ → ℕ) (n : ℕ) → ((k : ℕ) → k < n → m k ≡ p k) → total f m n ≡ total f p n
unfolding total
total-same f m p zero e = refl
total-same f m p (suc n) e = rw (total-same f m p n (λ k h. e k (omega arith)), e n (omega arith))

pub total-none : (f : ℕ → ℤ) (n : ℕ) → total f (λ k. 0) n ≡ pos 0
unfolding total times
total-none f zero = refl
total-none f (suc n) = omega (arith, ints, total-none f n)

-- x alone
pub total-one : (f : ℕ → ℤ) (x n : ℕ) → x < n → total f (λ k. indicator (eqb k x)) n ≡ f x
unfolding total
total-one f x zero h = absurd (omega arith)
total-one f x (suc n) h =
    elim (cases_eq n x) [
      | inl same ↦
          let before : total f (λ k. indicator (eqb k x)) n ≡ total f (λ k. 0) n = total-same f (λ k. indicator (eqb k x)) (λ k. 0) n (λ k l. rw (ne_eqb k x (omega arith))) in
          let here : times (indicator (eqb n x)) (f n) ≡ f n = rw (eq-eqb n x same) (times-indicator true (f n)) in
          let there : f n ≡ f x = ap f same in
          omega (arith, ints, before, total-none f n, here, there)
      | inr other ↦
          let here : times (indicator (eqb n x)) (f n) ≡ pos 0 = rw (ne_eqb n x other) (times-indicator false (f n)) in
          omega (arith, ints, here, total-one f x n (omega arith))
    ]

-- one more than a set that does not hold x
indicator-cons : (k x : ℕ) (t : List ℕ) → is_member x t ≡ false
    → indicator (is_member k (x ∷ t)) ≡ indicator (eqb k x) + indicator (is_member k t)
indicator-cons k x t e =
    elim (cases_eq k x) [
      | inl same ↦
          let here : is_member k t ≡ false = ap (λ z. is_member z t) same ∙ e in
          rw (eq-eqb k x same, here)
      | inr other ↦ rw (ne_eqb k x other) (sym (zero-add (indicator (is_member k t))))
    ]

-- a sum over a set is a sum over the numbers below a bound
pub sum_of-total : (f : ℕ → ℤ) (n lo : ℕ) (a : List ℕ) → RisesFrom lo a → AllBelow n a
    → sum_of f a ≡ total f (λ k. indicator (is_member k a)) n
sum_of-total f n lo [] r b = sym (total-none f n)
sum_of-total f n lo (x ∷ t) r b =
    let split : total f (λ k. indicator (is_member k (x ∷ t))) n ≡ total f (λ k. indicator (eqb k x) + indicator (is_member k t)) n =
    total-same f (λ k. indicator (is_member k (x ∷ t))) (λ k. indicator (eqb k x) + indicator (is_member k t)) n (λ k l. indicator-cons k x t (missing_below x (suc x) t (omega arith) r.1)) in
    let rest = sum_of-total f n (suc x) t r.1 b.1 in
    omega (arith, ints, split, rest, total-add f (λ k. indicator (eqb k x)) (λ k. indicator (is_member k t)) n, total-one f x n b.0)

-- ---- a bound

pub above_all : List ℕ → ℕ
above_all [] = 0
above_all (x ∷ t) = max (suc x) (above_all t)

pub AllBelow-above_all : (a : List ℕ) (n : ℕ) → above_all a ≤ n → AllBelow n a
unfolding above_all
AllBelow-above_all [] n h = tt
AllBelow-above_all (x ∷ t) n h = (omega arith, AllBelow-above_all t n (omega arith))

-- ---- families of sets

pub above_each : List (List ℕ) → ℕ
above_each [] = 0
above_each (a ∷ family) = max (above_all a) (above_each family)

family_sum-total : (f : ℕ → ℤ) (n : ℕ) (family : List (List ℕ)) → AllRising family → above_each family ≤ n
    → family_sum f family ≡ total f (λ k. multiplicity k family) n
unfolding family_sum multiplicity above_each
family_sum-total f n [] r h = sym (total-none f n)
family_sum-total f n (a ∷ family) r h =
    let one = sum_of-total f n 0 a r.0.rises (AllBelow-above_all a n (omega arith)) in
    let rest = family_sum-total f n family r.1 (omega arith) in
    omega (arith, ints, one, rest, total-add f (λ k. indicator (is_member k a)) (λ k. multiplicity k family) n)

-- THE LAW: two families of sets in which each number stands equally often have one sum
pub family_balance : (f : ℕ → ℤ) (family bs : List (List ℕ)) → AllRising family → AllRising bs
    → ((k : ℕ) → multiplicity k family ≡ multiplicity k bs) → family_sum f family ≡ family_sum f bs
family_balance f family bs r s e =
    let n = above_each family + above_each bs in
    family_sum-total f n family r (omega arith) ∙ total-same f (λ k. multiplicity k family) (λ k. multiplicity k bs) n (λ k l. e k) ∙ sym (family_sum-total f n bs s (omega arith))

pub balance : (f : ℕ → ℤ) (a b c d : List ℕ) → IsRising a → IsRising b → IsRising c → IsRising d
    → ((k : ℕ) → indicator (is_member k a) + indicator (is_member k b) ≡ indicator (is_member k c) + indicator (is_member k d))
    → sum_of f a +ℤ sum_of f b ≡ sum_of f c +ℤ sum_of f d
unfolding family_sum multiplicity
balance f a b c d ra rb rc rd e =
    let h = family_balance f (a ∷ b ∷ []) (c ∷ d ∷ []) (ra, (rb, tt)) (rc, (rd, tt)) (λ k. let e' = e k in omega arith) in
    omega (arith, ints, h)

-- ---- how many members

pub sum_of-ones : (a : List ℕ) → sum_of (λ k. pos 1) a ≡ pos (length a)
sum_of-ones [] = refl
sum_of-ones (x ∷ t) = omega (arith, ints, sum_of-ones t)

pub sizes : (a b c d : List ℕ) → IsRising a → IsRising b → IsRising c → IsRising d
    → ((k : ℕ) → indicator (is_member k a) + indicator (is_member k b) ≡ indicator (is_member k c) + indicator (is_member k d))
    → length a + length b ≡ length c + length d
sizes a b c d ra rb rc rd e =
    let h = balance (λ k. pos 1) a b c d ra rb rc rd e in
    omega (arith, ints, h, sum_of-ones a, sum_of-ones b, sum_of-ones c, sum_of-ones d)

-- ---- a sum that is read from the front

pub sum_of-more : (f : ℕ → ℤ) (xs : List ℕ) (i : ℕ) → i < length xs
    → sum_of f (take (i + 1) xs) ≡ sum_of f (take i xs) +ℤ f (get_or xs i 0)
sum_of-more f [] i h = absurd (omega arith)
sum_of-more f (x ∷ t) zero h = omega (arith, ints)
sum_of-more f (x ∷ t) (suc i) h = rw (add-one (suc i)) (let ih = sum_of-more f t i (omega arith) in let ih' = rw (add-one i) at ih in omega (arith, ints, ih'))

pub AllBelow-at : (n : ℕ) (xs : List ℕ) (i : ℕ) → AllBelow n xs → i < length xs → get_or xs i 0 < n
AllBelow-at n [] i b h = absurd (omega arith)
AllBelow-at n (x ∷ t) zero b h = b.0
AllBelow-at n (x ∷ t) (suc i) b h = AllBelow-at n t i b.1 (omega arith)

pub ruleset summing = (sum_of-more, AllBelow-at)
