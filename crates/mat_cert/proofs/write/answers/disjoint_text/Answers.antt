use Rattle.mat_cert.proofs.Common.{◌≡◌, ◌∷◌, [], codes, length, rules, text_of, numerals, end_line, sets_lines, certificate_text}
use Rattle.mat_cert.proofs.LineTexts.{opening, three_pieces}
use Rattle.mat_cert.proofs.write.answers.disjoint_text.Goals as goal

pub returns : goal.returns
unfolding certificate_text
returns c =
    let start = opening (codes "disjoint") (numerals (c.args.count ∷ length c.args.sets.now ∷ [])) in
    let begun : c.in_ok-out.out.items ≡ text_of start = search rules in
    three_pieces start (sets_lines (codes "tree") c.args.sets.now) (end_line ∷ [])
    c.in_ok-out.out.items c.put_set_lines.new.out.items _
    begun c.in_ok-put_set_lines.ensures c.in_ok-put_end_line.ensures.ok
