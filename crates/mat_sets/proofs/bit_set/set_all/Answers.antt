use Rattle.mat_sets.proofs.Common.{arith, bit_or, refl, ◌∙◌, length-set}
use Rattle.mat_sets.proofs.Bits.{changed_none, changed_next, united_all}
use Rattle.mat_sets.proofs.bit_set.set_all.Goals as goal

pub loop-at-init : goal.loop-at-init
loop-at-init c = record { length = refl; words = changed_none bit_or c.args.words.now c.args.others.now }

pub loop-at-preserved : goal.loop-at-preserved
loop-at-preserved c =
    let now = c.loop-at.invariant in
    let long = now.length in
    record {
      length = length-set c.loop-at.words c.loop-at.at _ ∙ long;
      words = changed_next bit_or c.args.words.now c.args.others.now c.loop-at.words c.loop-at.at (omega arith) now.words;
    }

pub returns : goal.returns
returns c =
    let now = c.loop-at.invariant in
    record {
      length = now.length;
      bits = united_all c.args.words.now c.args.others.now c.loop-at.words c.loop-at.at (omega arith) now.words;
    }
