-- Tables of rows.
use Rattle.std.specs.Prelude.{◌≡◌, ℕ, true, false, List, length}
use Rattle.mat_sets.specs.Sets.{is_member, IsSet}
use Rattle.mat_laws.specs.declared.exchange.Exchange.{Exchange}
use Rattle.mat_laws.specs.TightPaths.{exchanges_in}

-- a table of n rows at a set I, in which only elements outside I are exchanged, and only for members of I
pub record IsTableAt (n : ℕ) (I : List ℕ) (rows : List Exchange) : Type 0 where
  pub set : IsSet n I
  pub count : length rows ≡ n
  pub member : (y x : ℕ) → (exchanges_in rows).trades y x ≡ true → is_member y I ≡ true
  pub outside : (y x : ℕ) → (exchanges_in rows).trades y x ≡ true → is_member x I ≡ false
