-- The words by which a note tells which clause fails.
use Rattle.std.specs.Prelude.{ℕ, List, codes}
use Rattle.mat_check.specs.declared.reason.Reason.{Reason}
use Rattle.mat_check.specs.declared.reason.Reason.TheVariants as reasons

-- the word of a reason
abbrev pub reason_word : Reason → List ℕ
reason_word reasons.Header = codes "header"
reason_word reasons.Weight = codes "weight"
reason_word reasons.Dependent = codes "dependent"
reason_word reasons.Sum = codes "sum"
reason_word reasons.Beaten = codes "beaten"
reason_word reasons.Short = codes "short"
reason_word reasons.Cut = codes "cut"
reason_word reasons.Overlap = codes "overlap"
reason_word reasons.Level = codes "level"
reason_word reasons.Outside = codes "outside"
reason_word reasons.Missed = codes "missed"
reason_word reasons.Claim = codes "claim"
reason_word reasons.Empty = codes "empty"
reason_word reasons.Root = codes "root"
reason_word reasons.Crossing = codes "crossing"
reason_word reasons.Tree = codes "tree"
reason_word reasons.Colours = codes "colours"
