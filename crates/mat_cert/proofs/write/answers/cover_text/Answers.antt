use Rattle.mat_cert.proofs.Common.{◌≡◌, ◌∷◌, [], codes, length, rules, text_of, numerals, end_line, sets_lines, option_lines, certificate_text}
use Rattle.mat_cert.proofs.LineTexts.{opening, four_pieces}
use Rattle.mat_cert.proofs.write.answers.cover_text.Goals as goal

pub returns : goal.returns
unfolding certificate_text
returns c =
    let start = opening (codes "cover") (numerals (c.args.count ∷ length c.args.sets.now ∷ [])) in
    let begun : c.in_ok-out.out.items ≡ text_of start = search rules in
    four_pieces start (sets_lines (codes "part") c.args.sets.now) (option_lines (codes "cut") c.args.cut.now) (end_line ∷ [])
    c.in_ok-out.out.items c.put_set_lines.new.out.items c.put_option_line.new.out.items _
    begun c.in_ok-put_set_lines.ensures c.in_ok-put_option_line.ensures c.in_ok-put_end_line.ensures.ok
