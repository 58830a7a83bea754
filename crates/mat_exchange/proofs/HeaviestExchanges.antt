-- A set is heaviest of its size where and only where no exchange makes it heavier.
use Rattle.mat_exchange.proofs.Common.{◌≡◌, ℕ, Bool, true, List, Weight, IsMatroid, rows_of, IsHeaviest, exchanges_at, exchanges_in, NoExchangeGains, exchangeable_gives, exchangeable_from}
use Rattle.mat_laws.proofs.LocallyHeaviest.{heaviest_from_exchanges, exchange_gains_nothing}
use Rattle.mat_exchange.proofs.RowExchanges.{rows_tell_exchanges}

module _ {n : ℕ} {p : List ℕ → Bool} (laws : IsMatroid n p) (w : ℕ → Weight) (I : List ℕ) where
  pub gains_at_heaviest : IsHeaviest p w I → NoExchangeGains (exchanges_at p I) w
  gains_at_heaviest best = record {
    each = λ y x t. (let e = exchangeable_gives p I y x t in exchange_gains_nothing laws w I x y best e.inside e.outside e.passes);
  }

  pub heaviest_at_gains : p I ≡ true → NoExchangeGains (exchanges_at p I) w → IsHeaviest p w I
  heaviest_at_gains ok none = heaviest_from_exchanges laws w I ok (λ x y m o k. none.each y x (exchangeable_from p I y x m o k))

  pub heaviest_in_rows : p I ≡ true → NoExchangeGains (exchanges_in (rows_of n p I)) w → IsHeaviest p w I
  heaviest_in_rows ok none = heaviest_at_gains ok (rw (rows_tell_exchanges laws I) at none)

  pub gains_in_rows : IsHeaviest p w I → NoExchangeGains (exchanges_in (rows_of n p I)) w
  gains_in_rows best = rw (rows_tell_exchanges laws I) (gains_at_heaviest best)
