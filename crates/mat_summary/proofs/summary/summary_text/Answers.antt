use Rattle.mat_summary.proofs.Common.{◌≡◌, ◌++◌, ◌∷◌, [], codes, pos, rules, numeral, kind_word, summary_words, spaced, certificate_of}
use Rattle.mat_summary.proofs.SummaryLines.{line_of_pieces}
use Rattle.mat_summary.proofs.summary.summary_text.Goals as goal

pub returns : goal.returns
returns c =
    let first = kind_word c.args.kind ∷ numeral (pos c.args.size) ∷ numeral (pos c.args.seed) ∷ [] in
    let begun : c.put_words.new.out.items ≡ codes "sample" ++ spaced first = search rules in
    line_of_pieces (codes "sample") first (summary_words (certificate_of c.args.answer.now)) (codes "accepted" ∷ [])
    c.put_words.new.out.items c.put_answer_words.new.out.items c.put_words-2.new.out.items _
    begun c.in_ok-put_answer_words.ensures c.in_ok-put_words-2.ensures.ok (search rules)
