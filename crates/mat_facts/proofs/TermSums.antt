-- Sums of the first weights of a row: they grow with their terms, and sums of sums may be added up in either order.
use Rattle.mat_facts.proofs.Common.{◌≡◌, ◌<◌, ◌≤◌, ℕ, zero, suc, ◌+◌, List, [], ◌∷◌, refl, sym, ap, ◌∙◌, arith, ints, all_below, counted_from, ◌⊕◌, ◌≼◌, weight_sum, zero_weight, Weight, at_most_same, pairs}

-- the sum of the first m of these weights
abbrev pub sum_of_first : (ℕ → Weight) → ℕ → Weight
sum_of_first term m = weight_sum term (all_below m)

-- of none
pub sum_none : (f : ℕ → Weight) → sum_of_first f 0 ≡ zero_weight
unfolding all_below
sum_none f = refl

-- of one more
last_counted : (f : ℕ → Weight) (lo m : ℕ) → weight_sum f (counted_from lo (suc m)) ≡ weight_sum f (counted_from lo m) ⊕ f (lo + m)
last_counted f lo zero = let last = ap f (let same : lo ≡ lo + 0 = omega arith in same) in omega (arith, ints, pairs)
last_counted f lo (suc m) =
    let later = last_counted f (suc lo) m in
    let last = ap f (let same : suc lo + m ≡ lo + suc m = omega arith in same) in
    omega (arith, ints, pairs)

pub sum_more : (f : ℕ → Weight) (m : ℕ) → sum_of_first f (suc m) ≡ sum_of_first f m ⊕ f m
unfolding all_below
sum_more f m = last_counted f 0 m ∙ ap (λ k. weight_sum f (all_below m) ⊕ f k) (let same : 0 + m ≡ m = omega arith in same)

-- of one, and of two
pub sum_of_one : (f : ℕ → Weight) → sum_of_first f 1 ≡ f 0
unfolding all_below
sum_of_one f = omega (arith, ints, pairs)

pub sum_of_two : (f : ℕ → Weight) → sum_of_first f 2 ≡ f 0 ⊕ f 1
unfolding all_below
sum_of_two f = omega (arith, ints, pairs)

-- larger terms have a larger sum
pub sums_grow : (f g : ℕ → Weight) (m : ℕ) → ((i : ℕ) → i < m → f i ≼ g i) → sum_of_first f m ≼ sum_of_first g m
sums_grow f g zero h = at_most_same _ _ (sum_none f ∙ sym (sum_none g))
sums_grow f g (suc m) h =
    let before = sums_grow f g m (λ i l. h i (omega arith)) in
    let here = h m (omega arith) in
    let sum = sum_more f m in
    let other = sum_more g m in
    omega (arith, ints, pairs)

-- the same terms have the same sum
pub sums_agree : (f g : ℕ → Weight) (m : ℕ) → ((i : ℕ) → i < m → f i ≡ g i) → sum_of_first f m ≡ sum_of_first g m
sums_agree f g zero h = sum_none f ∙ sym (sum_none g)
sums_agree f g (suc m) h =
    let before = sums_agree f g m (λ i l. h i (omega arith)) in
    let here = h m (omega arith) in
    let sum = sum_more f m in
    let other = sum_more g m in
    omega (arith, ints, pairs)

-- the sum of nothing
sum_of_zeros : (m : ℕ) → sum_of_first (λ i. zero_weight) m ≡ zero_weight
sum_of_zeros zero = sum_none (λ i. zero_weight)
sum_of_zeros (suc m) = let before = sum_of_zeros m in let sum = sum_more (λ i. zero_weight) m in omega (arith, ints, pairs)

-- a sum of sums of two terms
sum_of_pairs : (f g : ℕ → Weight) (m : ℕ) → sum_of_first (λ i. f i ⊕ g i) m ≡ sum_of_first f m ⊕ sum_of_first g m
sum_of_pairs f g zero = let a = sum_none (λ i. f i ⊕ g i) in let b = sum_none f in let c = sum_none g in omega (arith, ints, pairs)
sum_of_pairs f g (suc m) =
    let before = sum_of_pairs f g m in
    let both = sum_more (λ i. f i ⊕ g i) m in
    let one = sum_more f m in
    let other = sum_more g m in
    omega (arith, ints, pairs)

-- a table of weights has one sum, by rows or by columns
pub sums_exchange : (f : ℕ → ℕ → Weight) (rows columns : ℕ)
    → sum_of_first (λ i. sum_of_first (f i) columns) rows ≡ sum_of_first (λ l. sum_of_first (λ i. f i l) rows) columns
sums_exchange f rows zero =
    sums_agree (λ i. sum_of_first (f i) 0) (λ i. zero_weight) rows (λ i l. sum_none (f i)) ∙ sum_of_zeros rows
    ∙ sym (sum_none (λ l. sum_of_first (λ i. f i l) rows))
sums_exchange f rows (suc columns) =
    let before = sums_exchange f rows columns in
    let each = sums_agree (λ i. sum_of_first (f i) (suc columns)) (λ i. sum_of_first (f i) columns ⊕ f i columns) rows (λ i l. sum_more (f i) columns) in
    let split = sum_of_pairs (λ i. sum_of_first (f i) columns) (λ i. f i columns) rows in
    let sum = sum_more (λ l. sum_of_first (λ i. f i l) rows) columns in
    omega (arith, ints, pairs)

-- what a set weighs by sums of shares is the sum of what it weighs by each
pub weight_of_sums : (share : ℕ → ℕ → Weight) (rules : ℕ) (X : List ℕ)
    → weight_sum (λ x. sum_of_first (λ i. share i x) rules) X ≡ sum_of_first (λ i. weight_sum (share i) X) rules
weight_of_sums share rules [] = sym (sum_of_zeros rules)
weight_of_sums share rules (x ∷ X) =
    let before = weight_of_sums share rules X in
    let split = sum_of_pairs (λ i. share i x) (λ i. weight_sum (share i) X) rules in
    omega (arith, ints, pairs)

-- a sum that goes on by terms of at least 0 is no smaller
pub sum_rises : (f : ℕ → Weight) (m j d : ℕ) → m + d ≡ j → ((l : ℕ) → m ≤ l → l < j → zero_weight ≼ f l) → sum_of_first f m ≼ sum_of_first f j
sum_rises f m j zero e h = let same : m ≡ j = omega arith in at_most_same _ _ (ap (sum_of_first f) same)
sum_rises f m zero (suc d) e h = absurd (omega arith)
sum_rises f m (suc j) (suc d) e h =
    let before = sum_rises f m j d (omega arith) (λ l above under. h l above (omega arith)) in
    let here = h j (omega arith) (omega arith) in
    let sum = sum_more f j in
    omega (arith, ints, pairs)

-- a sum that goes on by terms of at most 0 is no larger
pub sum_falls : (f : ℕ → Weight) (m j d : ℕ) → m + d ≡ j → ((l : ℕ) → m ≤ l → l < j → f l ≼ zero_weight) → sum_of_first f j ≼ sum_of_first f m
sum_falls f m j zero e h = let same : j ≡ m = omega arith in at_most_same _ _ (ap (sum_of_first f) same)
sum_falls f m zero (suc d) e h = absurd (omega arith)
sum_falls f m (suc j) (suc d) e h =
    let before = sum_falls f m j d (omega arith) (λ l above under. h l above (omega arith)) in
    let here = h j (omega arith) (omega arith) in
    let sum = sum_more f j in
    omega (arith, ints, pairs)
