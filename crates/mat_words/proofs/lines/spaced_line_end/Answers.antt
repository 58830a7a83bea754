use Rattle.mat_words.proofs.WordLemmas.{walk_ends}
use Rattle.mat_words.proofs.lines.spaced_line_end.Goals as goal

pub returns-then-b-eq10-clause-spaced : goal.returns-then-b-eq10-clause-spaced
returns-then-b-eq10-clause-spaced c = (walk_ends c.args.text.now c.loop-i.i (rw c.if-at_start.false at c.loop-i.invariant.walked)).0
