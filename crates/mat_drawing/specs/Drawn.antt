-- What a drawing is.
use Rattle.std.specs.Prelude.{ℕ, List}
use Rattle.std.specs.Global.{Global}

-- where a drawing gets its memory, and its lines of markup
pub record Drawn : Type 0 where
  pub alloc : Global
  pub markup : List ℕ
