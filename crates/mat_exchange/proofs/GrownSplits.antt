-- What has grown: where nothing can be added in the first matroid nothing changes, and a search after the changes has no slack.
use Rattle.mat_exchange.proofs.Common.{◌≡◌, ℕ, ◌+◌, ◌*◌, ◌^◌, ◌<◌, ◌≤◌, true, false, List, length, Some, None, refl, sym, ◌∙◌, subst, arith, most_elements, largest_weight, largest_number, split_room, is_member, ◌⊕◌, weight_at, IsWeightWithin, AreWeightsWithin, Weight, weight_within_at, Exchange}
use Rattle.mat_exchange.proofs.Common.{Exchanges, exchanges_in, is_heaviest_addable, heaviest_addable_from, Found, Path, Stuck, IsFound, NoExchangeGains, EndsSearch, IsGrownSplit, IsGrown, IsHeaviestOf, HasNoSlack, StaysHeaviest, sum_at}
use Rattle.std.proofs.lemmas.Nat.{mul-le}
use Rattle.mat_exchange.specs.declared.grown.Grown.{Grown}
use Rattle.mat_exchange.proofs.HeaviestExchanges.{heaviest_in_rows}
use Rattle.mat_exchange.proofs.Growing.{ends_at_sink, ends_without_source, grown_unchanged}
use Rattle.mat_exchange.proofs.WeightBounds.{IsWeightWithin-weaken, AreWeightsWithin-from, first_within, second_within}

-- where nothing can be added, nothing changes
pub grown_without_source : (n : ℕ) (a b : Exchanges) (u1 u2 : ℕ → Weight) (A : List ℕ) → ((x : ℕ) → is_member x A ≡ a.adds x)
    → ((x : ℕ) → is_member x A ≡ false) → NoExchangeGains a u1 → NoExchangeGains b u2 → IsGrownSplit n a b (sum_at u1 u2) u2 u1 u2
grown_without_source n a b u1 u2 A tells none gains1 gains2 =
    grown_unchanged n a b u1 u2 (ends_without_source (λ x. sym (tells x) ∙ none x)) gains1 gains2

-- a heaviest of the elements that can be added is a source
pub source_at : (a : Exchanges) {w : ℕ → Weight} {x : ℕ} (A : List ℕ) → ((x : ℕ) → is_member x A ≡ a.adds x)
    → IsHeaviestOf (λ x. is_member x A) w x → IsHeaviestOf a.adds w x
source_at a {w} {x} A tells h = record { passes = sym (tells x) ∙ h.passes; most = λ y k. h.most y (tells y ∙ k) }

-- where a source is a sink, nothing changes
pub grown_at_sink : (n : ℕ) (a b : Exchanges) (u1 u2 : ℕ → Weight) (x : ℕ) → x < n → IsHeaviestOf a.adds u1 x
    → is_heaviest_addable n b u2 x ≡ true → NoExchangeGains a u1 → NoExchangeGains b u2 → IsGrownSplit n a b (sum_at u1 u2) u2 u1 u2
grown_at_sink n a b u1 u2 x l source sink gains1 gains2 =
    grown_unchanged n a b u1 u2 (ends_at_sink x l (heaviest_addable_from n a u1 x source.passes (λ e less k. source.most e k)) sink) gains1 gains2

-- ---- the answer

no_slack : (n : ℕ) (a b : Exchanges) (v1 v2 : ℕ → Weight) (found : Found) → EndsSearch n a b v1 v2 → IsFound n a b v1 v2 found → HasNoSlack found
no_slack n a b v1 v2 (Path path) ends is = _
no_slack n a b v1 v2 (Stuck reach None) ends is = refl
no_slack n a b v1 v2 (Stuck reach (Some d)) ends is = absurd (ends reach is.0 d is.1.slack)

within_more : (z : Weight) (h n : ℕ) → 0 < n → IsWeightWithin (h + 4 * 10 ^ 12 * n) z → IsWeightWithin (h + 2 * 10 ^ 12 * (n + 1) * n) z
within_more z h n some within =
    let more : 2 * 10 ^ 12 * 2 * n ≤ 2 * 10 ^ 12 * (n + 1) * n = mul-le (2 * 10 ^ 12 * 2) n (2 * 10 ^ 12 * (n + 1)) n (omega arith) (omega arith) in
    IsWeightWithin-weaken (h + 4 * 10 ^ 12 * n) (h + 2 * 10 ^ 12 * (n + 1) * n) z (omega arith) within

module _ {n : ℕ} {a b : Exchanges} (u1 u2 v1 v2 : List Weight) (few : n ≤ most_elements)
    (small : (x : ℕ) → x < n → IsWeightWithin largest_weight (weight_at u1 x ⊕ weight_at u2 x)) (old : AreWeightsWithin split_room u2)
    (long1 : length v1 ≡ n) (long2 : length v2 ≡ n)
    (grown : IsGrownSplit n a b (sum_at (weight_at u1) (weight_at u2)) (weight_at u2) (weight_at v1) (weight_at v2)) where
  second_in : (x : ℕ) → x < n → IsWeightWithin (10 ^ 26) (weight_at v2 x)
  second_in x l = second_within (weight_at v2 x) n few (grown.within split_room (λ y k. weight_within_at split_room u2 old y) x l)

  pub grown_first_within : AreWeightsWithin largest_number v1
  grown_first_within = AreWeightsWithin-from largest_number n v1 long1 (λ x l.
      IsWeightWithin-weaken (10 ^ 27) largest_number (weight_at v1 x) (omega arith) (first_within (weight_at v1 x) (weight_at v2 x) _ (grown.adds x l) (small x l) (second_in x l)))

  pub grown_second_within : AreWeightsWithin largest_number v2
  grown_second_within = AreWeightsWithin-from largest_number n v2 long2 (λ x l. IsWeightWithin-weaken (10 ^ 26) largest_number (weight_at v2 x) (omega arith) (second_in x l))

  pub grown_found : (found : Found) → IsFound n a b (weight_at v1) (weight_at v2) found
      → IsGrown n a b u1 u2 (record { first = v1; second = v2; found = found })
  grown_found found is = record {
    first_length = long1;
    second_length = long2;
    split = grown;
    bounded = λ h within. AreWeightsWithin-from (h + 2 * 10 ^ 12 * (n + 1) * n) n v2 long2 (λ x l.
        within_more (weight_at v2 x) h n (omega arith) (grown.within h (λ y k. weight_within_at h u2 within y) x l));
    found = is;
    no_slack = no_slack n a b (weight_at v1) (weight_at v2) found grown.ends is;
  }

-- the set stays heaviest
pub stays_heaviest : (n : ℕ) (first second : List Exchange) (I : List ℕ) (w1 w2 : List Weight) (g : Grown)
    → IsGrown n (exchanges_in first) (exchanges_in second) w1 w2 g → StaysHeaviest n first second I w1 w2 g
stays_heaviest n first second I w1 w2 g grown = λ p q lp lq rows1 rows2 best1 best2. (
  heaviest_in_rows lp (weight_at g.first) I best1.passes (subst (λ t. NoExchangeGains (exchanges_in t) (weight_at g.first)) rows1 grown.split.first_gains),
  heaviest_in_rows lq (weight_at g.second) I best2.passes (subst (λ t. NoExchangeGains (exchanges_in t) (weight_at g.second)) rows2 grown.split.second_gains),
)

-- the same for copies of the weights
pub grown_of_copies : {a b : Exchanges} {d1 d2 u1 u2 : List Weight} (v1 v2 : List Weight) → d1 ≡ u1 → d2 ≡ u2
    → IsGrownSplit (length d1) a b (sum_at (weight_at d1) (weight_at d2)) (weight_at d2) (weight_at v1) (weight_at v2)
    → IsGrownSplit (length u1) a b (sum_at (weight_at u1) (weight_at u2)) (weight_at u2) (weight_at v1) (weight_at v2)
grown_of_copies v1 v2 e1 e2 grown = rw (e1, e2) at grown
