-- Rungs with a share for each member of their sets.
use Rattle.std.specs.Prelude.{length}
use Rattle.mat_sets.specs.Sets.{AllBelow}
use Rattle.mat_cert.specs.declared.answer.PricedRung.{PricedRung}

-- both lists of shares have one for each member of the set
pub record HasShares (rung : PricedRung) : Type 0 where
  pub first : AllBelow (length rung.first) rung.set
  pub second : AllBelow (length rung.second) rung.set
