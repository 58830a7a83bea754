use Rattle.mat_words.proofs.Common.{◌++◌, ◌∷◌, pos, arith, rules, numeral}
use Rattle.mat_words.proofs.WrittenLines.{item_written, line_written}
use Rattle.mat_words.proofs.writing.put_members_behind.Goals as goal

pub returns-clause-ok : goal.returns-clause-ok
returns-clause-ok c =
    line_written (λ x. numeral (pos x)) c.args.out.now.items c.args.keyword.now c.args.members.now c.loop-x.x-index c.loop-x.out.items _
    (omega arith) c.loop-x.invariant (search rules)

pub loop-x-preserved : goal.loop-x-preserved
loop-x-preserved c =
    item_written (λ x. 32 ∷ numeral (pos x)) (c.args.out.now.items ++ c.args.keyword.now) c.args.members.now c.loop-x.x-index 0
    c.loop-x.out.items _ (omega arith) c.loop-x.invariant (search rules)
