use Rattle.mat_arbor.proofs.Common.{arith, get_or, length}
use Rattle.mat_arbor.proofs.Gaps.{gap_below, AreTaken-more}
use Rattle.mat_arbor.proofs.numbers.taken_gaps.Goals as goal

pub loop-x-preserved : goal.loop-x-preserved
loop-x-preserved c =
    let held = c.args.held.now in
    let i = c.loop-x.x-index in
    let few = c.requires.few in
    let below = gap_below c.args.unit (length held) (get_or held i 0) c.requires.unit in
    AreTaken-more c.args.unit held c.requires.unit i c.loop-x.taken c.add.new.self _ (omega arith) c.in_ok-add.ensures.ok.1 c.loop-x.invariant
