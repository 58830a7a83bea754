use Rattle.mat_sets.proofs.Common.{arith, refl, ◌∙◌, length-set}
use Rattle.mat_sets.proofs.Bits.{changed_none, changed_next, cleared_all, without_bits}
use Rattle.mat_sets.proofs.bit_set.clear_all.Goals as goal

pub loop-at-init : goal.loop-at-init
loop-at-init c = record { length = refl; words = changed_none without_bits c.args.words.now c.args.others.now }

pub loop-at-preserved : goal.loop-at-preserved
loop-at-preserved c =
    let now = c.loop-at.invariant in
    record {
      length = length-set c.loop-at.words c.loop-at.at _ ∙ now.length;
      words = changed_next without_bits c.args.words.now c.args.others.now c.loop-at.words c.loop-at.at (omega arith) now.words;
    }

pub returns : goal.returns
returns c =
    let now = c.loop-at.invariant in
    record {
      length = now.length;
      bits = cleared_all c.args.words.now c.args.others.now c.loop-at.words c.loop-at.at (omega arith) (λ i. (c.type_inv.others i).fits) now.words;
    }
