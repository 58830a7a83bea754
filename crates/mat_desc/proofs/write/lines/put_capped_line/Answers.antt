use Rattle.mat_desc.proofs.Common.{rules, words_for, naming}
use Rattle.mat_desc.proofs.Writing.{capped_written}
use Rattle.mat_desc.proofs.write.lines.put_capped_line.Goals as goal

pub returns : goal.returns
returns c =
    capped_written c.args.out.now.items c.args.keyword.now c.args.cap (words_for (naming c.args.names) c.args.set.now)
    c.put_member_words.new.out.items _ (search rules) (search rules)
