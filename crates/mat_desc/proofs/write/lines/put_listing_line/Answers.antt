use Rattle.mat_desc.proofs.Common.{rules, words_written, words_for, naming}
use Rattle.mat_desc.proofs.write.lines.put_listing_line.Goals as goal

pub returns : goal.returns
returns c =
    words_written c.args.out.now.items c.args.keyword.now (words_for (naming c.args.names) c.args.set.now) c.put_member_words.new.out.items _
    (search rules) (search rules)
