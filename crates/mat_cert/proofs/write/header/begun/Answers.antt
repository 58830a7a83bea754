use Rattle.mat_cert.proofs.Common.{◌∷◌, [], codes, map, rules, text_of, text_word, words_written, version_line}
use Rattle.mat_cert.proofs.write.header.begun.Goals as goal

pub returns : goal.returns
returns c =
    words_written (text_of (version_line ∷ [])) (codes "answer") (map text_word c.args.words.now) c.put_words.new.out.items _
    (search rules) (search rules)
