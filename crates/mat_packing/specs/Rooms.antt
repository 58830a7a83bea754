-- How many bases have room outside a cut, and how many independent sets have room for it.
use Rattle.std.specs.Prelude.{ℕ, ◌+◌, ◌-◌, ◌*◌, ◌<◌, ◌≤◌}

-- `count` bases have room, and one more has none, where each needs `need` of the elements outside the cut
pub record IsRoom (outside need count : ℕ) : Type 0 where
  pub fits : count * need ≤ outside
  pub no_more : outside < (count + 1) * need

-- `count` sets have room for the members, and one fewer has none, where each takes at most `each` of them
pub record IsEnough (members each count : ℕ) : Type 0 where
  pub some : 0 < count
  pub room : members ≤ count * each
  pub no_fewer : (count - 1) * each < members
