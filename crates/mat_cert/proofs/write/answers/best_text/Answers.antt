use Rattle.mat_cert.proofs.Common.{◌≡◌, ◌∷◌, [], codes, rules, text_of, numerals, end_line, rungs_lines, plain_rung_lines, last_rung, certificate_text}
use Rattle.mat_cert.proofs.LineTexts.{opening, three_pieces}
use Rattle.mat_cert.proofs.write.answers.best_text.Goals as goal

pub returns : goal.returns
unfolding certificate_text
returns c =
    let start = opening (codes "best") (numerals (c.args.count ∷ last_rung c.args.rungs.now ∷ [])) in
    let last : c.saturating_sub.result ≡ last_rung c.args.rungs.now = search rules in
    let begun : c.in_ok-out.out.items ≡ text_of start = search (rules, last) in
    three_pieces start (rungs_lines plain_rung_lines 0 c.args.rungs.now) (end_line ∷ [])
    c.in_ok-out.out.items c.put_plain_rungs.new.out.items _
    begun c.in_ok-put_plain_rungs.ensures c.in_ok-put_end_line.ensures.ok
