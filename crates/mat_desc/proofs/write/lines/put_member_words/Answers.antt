use Rattle.mat_desc.proofs.Common.{◌<◌, ◌∷◌, get_or, arith, rules, AllBelow, AllBelow-at, item_written, words_done, word_for, naming}
use Rattle.mat_desc.proofs.NamedParts.{where_named}
use Rattle.mat_desc.proofs.write.lines.put_member_words.Goals as goal

pub put_member_word-requires : goal.put_member_word-requires
put_member_word-requires c =
    let i = c.loop-x.x-index in
    where_named (naming c.args.names) (λ n. AllBelow n c.args.set.now) (λ n. get_or c.args.set.now i 0 < n)
    (λ n below. AllBelow-at n c.args.set.now i below (omega arith)) c.requires

pub loop-x-preserved : goal.loop-x-preserved
loop-x-preserved c =
    item_written (λ x. 32 ∷ word_for (naming c.args.names) x) c.args.out.now.items c.args.set.now c.loop-x.x-index 0 c.loop-x.out.items _
    (omega arith) c.loop-x.invariant (search rules)

pub returns : goal.returns
returns c =
    words_done (word_for (naming c.args.names)) c.args.out.now.items c.args.set.now c.loop-x.x-index c.loop-x.out.items (omega arith)
    c.loop-x.invariant
