use Rattle.mat_graphic.proofs.Common.{IsCopied}
use Rattle.mat_graphic.proofs.hanging.copy_outside.Given as goal

abbrev pub invariant-loop-at : goal.invariant-loop-at
invariant-loop-at l = IsCopied l.forest l.inside l.at l.new
