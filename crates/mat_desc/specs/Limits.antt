-- The limit of a description.
use Rattle.std.specs.Prelude.{ℕ}

-- the most bytes that a description may have
abbrev pub description_limit : ℕ
description_limit = 4194304
