-- What a verdict says, as plain data.
use Rattle.std.specs.Prelude.{Option, Some, None}
use Rattle.mat_check.specs.Clauses.{Failure, failure_at}
use Rattle.mat_check.specs.declared.verdict.Verdict.{Verdict}
use Rattle.mat_check.specs.declared.verdict.Verdict.TheVariants.{Yes, No}

-- the first clause that fails and its places, or None where the answer is right
abbrev pub failure_in : Verdict → Option Failure
failure_in Yes = None
failure_in (No reason a b) = Some (failure_at reason a b)
