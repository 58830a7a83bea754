-- Shares and terms bound what a set weighs that each of some rules allows. The terms are those of one size: a smaller set takes the first of
-- them, and a larger one takes the last once more for each further element.
use Rattle.mat_facts.proofs.Common.{◌≡◌, ◌<◌, ◌≤◌, ◌-◌, ℕ, Bool, true, false, cond, ltb, List, length, refl, sym, ap, ◌∙◌, subst, arith, lt-ltb, ltb-false, ltb-true, false_from_ne_true, IsSet, ◌≼◌, weight, weight_at, weight_sum, zero_weight, Weight, below_member, at_most_same, at_most_trans}
use Rattle.mat_facts.proofs.Common.{weight_sum-same, is_below, length-filter, AddUp, HasFewAbove, list_at, step_at}
use Rattle.mat_facts.proofs.BoundedSums.{count_above, weighs_at_most}
use Rattle.mat_facts.proofs.TermSums.{sum_falls, sum_of_first, sum_rises, sums_agree, sums_exchange, sums_grow, weight_of_sums}

-- ---- the number of a term, or of the last one

unfoldable pub last_from : ℕ → ℕ → ℕ
last_from j l = cond (ltb l j) l (j - 1)

pub before_last : (j l : ℕ) → l < j → last_from j l ≡ l
unfolding last_from
before_last j l h = rw (lt-ltb l j h) refl

pub past_last : (j l : ℕ) → j ≤ l → last_from j l ≡ j - 1
unfolding last_from
past_last j l h = rw (false_from_ne_true (ltb l j) (λ t. let less = ltb-true l j t in let no : ⊥ = absurd (omega arith) in no)) refl

pub last_low : (j l : ℕ) → last_from j l ≤ l
unfolding last_from
last_low j l = by (ltb l j) refl
  where
    by : (b : Bool) → ltb l j ≡ b → cond b l (j - 1) ≤ l
    by true e = omega arith
    by false e = let le = ltb-false l j e in omega arith

pub last_inside : (j l size : ℕ) → 0 < j → size ≡ j → last_from j l < size
unfolding last_from
last_inside j l size some e = by (ltb l j) refl
  where
    by : (b : Bool) → ltb l j ≡ b → cond b l (j - 1) < size
    by true t = let less = ltb-true l j t in omega arith
    by false f = omega arith

module _ (n rules : ℕ) (rule : ℕ → List ℕ → Bool) (w : List Weight) (shares terms : List (List Weight))
    (add_up : AddUp n rules w shares) (each : (i : ℕ) → i < rules → HasFewAbove n (rule i) (list_at shares i) (list_at terms i)) where
  few : (i : ℕ) → i < rules → (X : List ℕ) → rule i X ≡ true → (l : ℕ) → l < length (list_at terms i)
      → count_above (weight_at (list_at shares i)) (weight_at (list_at terms i) l) X ≤ l
  few i under X ok l inside =
      let most = (each i under).few X ok l inside in
      let same = length-filter (λ x. is_below (weight_at (list_at terms i) l) (weight_at (list_at shares i) x)) X in
      omega arith

  -- the terms that are taken may be any of no higher number
  pub by_terms : (pick : ℕ → ℕ) (m : ℕ) (X : List ℕ) → IsSet n X → ((i : ℕ) → i < rules → rule i X ≡ true) → length X ≡ m
      → ((l : ℕ) → l < m → pick l ≤ l) → ((i l : ℕ) → i < rules → l < m → pick l < length (list_at terms i))
      → weight w X ≼ sum_of_first (λ l. step_at terms rules (pick l)) m
  by_terms pick m X set all size low inside =
      let as_sums : weight w X ≡ weight_sum (λ x. sum_of_first (λ i. weight_at (list_at shares i) x) rules) X =
      weight_sum-same (weight_at w) (λ x. sum_of_first (λ i. weight_at (list_at shares i) x) rules) X (λ x h. sym (add_up.sums x (below_member set h))) in
      let by_rules = weight_of_sums (λ i x. weight_at (list_at shares i) x) rules X in
      let grown = sums_grow (λ i. weight_sum (weight_at (list_at shares i)) X) (λ i. sum_of_first (λ l. weight_at (list_at terms i) (pick l)) m) rules
      (λ i under. weighs_at_most (weight_at (list_at shares i)) (λ l. weight_at (list_at terms i) (pick l)) m X size
      (λ l less. let count = few i under X (all i under) (pick l) (inside i l under less) in let le = low l less in omega arith)) in
      let by_columns = sums_exchange (λ i l. weight_at (list_at terms i) (pick l)) rules m in
      at_most_trans _ _ _ (at_most_same _ _ (as_sums ∙ by_rules)) (at_most_trans _ _ _ grown (at_most_same _ _ by_columns))

  -- terms for j elements that add up to at most this much
  module _ (j : ℕ) (most : Weight) (long : (i : ℕ) → i < rules → length (list_at terms i) ≡ j)
      (total : sum_of_first (step_at terms rules) j ≼ most) where
    pub size_bounded : (X : List ℕ) → IsSet n X → ((i : ℕ) → i < rules → rule i X ≡ true) → length X ≡ j → weight w X ≼ most
    size_bounded X set all size =
        at_most_trans _ _ _ (by_terms (λ l. l) j X set all size (λ l h. omega arith) (λ i l under less. let e = long i under in omega arith)) total

    pub smaller_bounded : ((l : ℕ) → l < j → zero_weight ≼ step_at terms rules l)
        → (X : List ℕ) → IsSet n X → ((i : ℕ) → i < rules → rule i X ≡ true) → length X ≤ j → weight w X ≼ most
    smaller_bounded rising X set all size =
        let m = length X in
        let own = by_terms (λ l. l) m X set all refl (λ l h. omega arith) (λ i l under less. let e = long i under in omega arith) in
        let rest = sum_rises (step_at terms rules) m j (j - m) (omega arith) (λ l above under. rising l under) in
        at_most_trans _ _ _ own (at_most_trans _ _ _ rest total)

    pub larger_bounded : 0 < j → step_at terms rules (j - 1) ≼ zero_weight
        → (X : List ℕ) → IsSet n X → ((i : ℕ) → i < rules → rule i X ≡ true) → j ≤ length X → weight w X ≼ most
    larger_bounded some falling X set all size =
        let m = length X in
        let step = λ (l : ℕ). step_at terms rules (last_from j l) in
        let own = by_terms (last_from j) m X set all refl (λ l h. last_low j l)
        (λ i l under less. last_inside j l (length (list_at terms i)) some (long i under)) in
        let rest = sum_falls step j m (m - j) (omega arith) (λ l above under. subst (λ k. step_at terms rules k ≼ zero_weight) (sym (past_last j l above)) falling) in
        let first = sums_agree step (step_at terms rules) j (λ l less. ap (step_at terms rules) (before_last j l less)) in
        at_most_trans _ _ _ own (at_most_trans _ _ _ rest (at_most_trans _ _ _ (at_most_same _ _ first) total))
