use Rattle.mat_desc.proofs.Common.{◌++◌, ◌∷◌, [], rules, names_of, item_written, words_written}
use Rattle.mat_desc.proofs.Writing.{all_written}
use Rattle.mat_desc.proofs.write.lines.put_names_line.Goals as goal

pub loop-i-preserved : goal.loop-i-preserved
loop-i-preserved c =
    item_written (λ name. 32 ∷ name) (c.args.out.now.items ++ c.args.keyword.now) (names_of c.args.names.now) c.loop-i.i [] c.loop-i.out.items
    _ (search rules) c.loop-i.invariant (search rules)

pub returns : goal.returns
returns c =
    words_written c.args.out.now.items c.args.keyword.now (names_of c.args.names.now) c.loop-i.out.items _
    (all_written (c.args.out.now.items ++ c.args.keyword.now) (names_of c.args.names.now) c.loop-i.i c.loop-i.out.items (search rules)
    c.loop-i.invariant) (search rules)
