use Rattle.mat_cert.proofs.Common.{◌++◌, ◌∷◌, ◌∙◌, [], codes, pos, append_assoc, arith, rules, text_of, numeral, weight_word, members_line, item_written, line_written}
use Rattle.mat_cert.proofs.write.sets.put_level_line.Goals as goal

pub returns : goal.returns
returns c =
    line_written (λ x. numeral (pos x)) (c.args.out.now.items ++ codes "level ") (weight_word c.args.weight) c.args.members.now
    c.loop-x.x-index c.loop-x.out.items _ (omega arith) c.loop-x.invariant (search rules)
    ∙ append_assoc c.args.out.now.items (codes "level ") (text_of (members_line (weight_word c.args.weight) c.args.members.now ∷ []))

pub loop-x-preserved : goal.loop-x-preserved
loop-x-preserved c =
    item_written (λ x. 32 ∷ numeral (pos x)) ((c.args.out.now.items ++ codes "level ") ++ weight_word c.args.weight) c.args.members.now
    c.loop-x.x-index 0 c.loop-x.out.items _ (omega arith) c.loop-x.invariant (search rules)
