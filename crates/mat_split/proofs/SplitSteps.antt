-- From a rung to the next, by one search that grows. A rung's set gains by no exchange; after the search so it is under the new weights,
-- which differ little from the old, and a path leads to a larger set, or the reached set is a cut.
use Rattle.mat_split.proofs.Common.{Vec, Global, ◌≡◌, ℕ, suc, ◌+◌, ◌*◌, ◌^◌, ◌≤◌, Bool, List, length, Option, None, ap, ◌∙◌, subst, arith, mul-le, most_elements, split_room, IsSet-length, weight_at, AreWeightsWithin, Weight, weight_within_at, IsMatroid, rows_of, IsCut, IsHeaviest, exchanges_at}
use Rattle.mat_split.proofs.Common.{exchanges_in, exchanged_along, IsSplitWithin, cut_without_slack, gains_in_rows, heaviest_in_rows, rows_tell_exchanges, IsTableAt-rows_of, exchange_along_tight_path, IsWeightWithin-weaken, AreWeightsWithin-from, IsSplitRung, size_bound, weights_of, Rung}
use Rattle.std.proofs.Math.Nat.{mul-le-mul_left}
use Rattle.mat_laws.specs.declared.exchange.Exchange.{Exchange}
use Rattle.mat_exchange.specs.declared.found.Found.TheVariants.{Path, Stuck}
use Rattle.mat_exchange.specs.declared.grown.Grown.{Grown}
use Rattle.mat_exchange.specs.Growing.{NoExchangeGains, IsGrown, HasNoSlack}
use Rattle.mat_exchange.specs.Searching.{IsFound}
use Rattle.mat_exchange.specs.Tables.{IsTableAt}

bound_fits : (n k : ℕ) → n ≤ most_elements → k ≤ n → size_bound n k ≤ split_room
bound_fits n k hn hk =
    let a = mul-le (n + 1) (n + 1) 501 501 (omega arith) (omega arith) in
    let b = mul-le ((n + 1) * (n + 1)) k (501 * 501) 500 a (omega arith) in
    omega arith

-- the bound of the next size has room for what one search adds
next_bound : (n k : ℕ) → size_bound n k + 2 * 10 ^ 12 * (n + 1) * n ≤ size_bound n (suc k)
next_bound n k = let le : n ≤ n + 1 = omega arith in let a = mul-le-mul_left (2 * 10 ^ 12 * (n + 1)) le in omega arith

module _ {n : ℕ} {p q : List ℕ → Bool} {rung : Rung} (first_laws : IsMatroid n p) (second_laws : IsMatroid n q) (few : n ≤ most_elements)
    (s : IsSplitRung n p q (weights_of rung) (length rung.set) rung) where
  -- what the search takes
  pub first_table : {t : List Exchange} {d : List Weight} → t ≡ rows_of n p rung.set → d ≡ rung.first → IsTableAt (length d) rung.set t
  first_table told same = rw (told, same, s.first_length) (IsTableAt-rows_of first_laws rung.set s.at.first.passes)

  pub second_table : {m : ℕ} {t : List Exchange} {d : List Weight} → m ≡ n → t ≡ rows_of m q rung.set → d ≡ rung.first → IsTableAt (length d) rung.set t
  second_table ground_size told same = rw (told, ground_size, same, s.first_length) (IsTableAt-rows_of second_laws rung.set s.at.second.passes)

  pub first_gains : {t : List Exchange} {d : List Weight} → t ≡ rows_of n p rung.set → d ≡ rung.first → NoExchangeGains (exchanges_in t) (weight_at d)
  first_gains told same = rw (told, same) (gains_in_rows first_laws (weight_at rung.first) rung.set s.at.first)

  pub second_gains : {m : ℕ} {t : List Exchange} {d : List Weight} → m ≡ n → t ≡ rows_of m q rung.set → d ≡ rung.second
      → NoExchangeGains (exchanges_in t) (weight_at d)
  second_gains ground_size told same = rw (told, ground_size, same) (gains_in_rows second_laws (weight_at rung.second) rung.set s.at.second)

  second_bounded : AreWeightsWithin (size_bound n (length rung.set)) rung.second
  second_bounded = AreWeightsWithin-from (size_bound n (length rung.set)) n rung.second s.second_length s.at.split.within

  pub second_small : {d : List Weight} → d ≡ rung.second → AreWeightsWithin split_room d
  second_small same =
      let fits = bound_fits n (length rung.set) few (IsSet-length n rung.set (first_laws.sets rung.set s.at.first.passes)) in
      rw same (AreWeightsWithin-from split_room n rung.second s.second_length
      (λ x l. IsWeightWithin-weaken (size_bound n (length rung.set)) split_room (weight_at rung.second x) fits (s.at.split.within x l)))

  -- what it gives, at the exchanges of the matroids
  module _ {m : ℕ} {t1 t2 : List Exchange} {d1 d2 : List Weight} {g : Grown} (ground_size : m ≡ n) (told1 : t1 ≡ rows_of n p rung.set)
      (told2 : t2 ≡ rows_of m q rung.set) (same1 : d1 ≡ rung.first) (same2 : d2 ≡ rung.second)
      (given : IsGrown (length d1) (exchanges_in t1) (exchanges_in t2) d1 d2 g) where
    grown : IsGrown n (exchanges_in (rows_of n p rung.set)) (exchanges_in (rows_of n q rung.set)) rung.first rung.second g
    grown = rw (told1, told2, ground_size, same1, same2, s.first_length) at given

    first_heaviest : IsHeaviest p (weight_at g.first) rung.set
    first_heaviest = heaviest_in_rows first_laws (weight_at g.first) rung.set s.at.first.passes grown.split.first_gains

    second_heaviest : IsHeaviest q (weight_at g.second) rung.set
    second_heaviest = heaviest_in_rows second_laws (weight_at g.second) rung.set s.at.second.passes grown.split.second_gains

    found : IsFound n (exchanges_at p rung.set) (exchanges_at q rung.set) (weight_at g.first) (weight_at g.second) g.found
    found = rw (rows_tell_exchanges first_laws rung.set, rows_tell_exchanges second_laws rung.set) at grown.found

    split : IsSplitWithin n (weights_of rung) (weight_at g.first) (weight_at g.second) (size_bound n (suc (length rung.set)))
    split = record {
      adds = grown.split.adds;
      within = λ x l. IsWeightWithin-weaken _ _ (weight_at g.second x) (next_bound n (length rung.set))
          (weight_within_at _ g.second (grown.bounded (size_bound n (length rung.set)) second_bounded) x);
    }

    -- a path leads to a rung of one element more
    pub larger_from_grown : {path : Vec ℕ Global} {vertices set : List ℕ} → g.found ≡ Path path → vertices ≡ path.items
        → set ≡ exchanged_along rung.set vertices
        → IsSplitRung n p q (weights_of rung) (suc (length rung.set)) (record { set = set; first = g.first; second = g.second })
    larger_from_grown {path} is same set_is =
        let tight = subst (IsFound n (exchanges_at p rung.set) (exchanges_at q rung.set) (weight_at g.first) (weight_at g.second)) is found in
        let step = exchange_along_tight_path first_laws second_laws (weight_at g.first) (weight_at g.second) rung.set path.items
        first_heaviest second_heaviest tight in
        rw (set_is, same) (record {
          first_length = grown.first_length;
          second_length = grown.second_length;
          at = record { size = step.0; first = step.1; second = step.2; split = split };
        })

    -- a reached set is a cut
    pub cut_from_grown : {R : List ℕ} {slack : Option Weight} → g.found ≡ Stuck R slack → IsCut n p q (length rung.set) R
    cut_from_grown {R} {slack} is =
        let none : slack ≡ None = subst HasNoSlack is grown.no_slack in
        let stuck = subst (IsFound n (exchanges_at p rung.set) (exchanges_at q rung.set) (weight_at g.first) (weight_at g.second)) (is ∙ ap (Stuck R) none) found in
        cut_without_slack first_laws second_laws (weight_at g.first) (weight_at g.second) rung.set R s.at.first.passes s.at.second.passes
        stuck.0.reached.set stuck.1
