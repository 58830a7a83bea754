use Rattle.mat_cert.proofs.Common.{◌≡◌, ◌∷◌, [], codes, ◌++◌, length, rules, text_of, numerals, end_line, sets_lines, certificate_text}
use Rattle.mat_cert.proofs.LineTexts.{opening, three_pieces}
use Rattle.mat_cert.proofs.write.answers.classes_text.Goals as goal

pub returns : goal.returns
unfolding certificate_text
returns c =
    let start = opening (codes "trees") (numerals (c.args.count ∷ c.args.k ∷ []) ++ codes "none" ∷ numerals (c.args.vertices ∷ length c.args.classes.now ∷ [])) in
    let begun : c.in_ok-out.out.items ≡ text_of start = search rules in
    three_pieces start (sets_lines (codes "class") c.args.classes.now) (end_line ∷ [])
    c.in_ok-out.out.items c.put_set_lines.new.out.items _
    begun c.in_ok-put_set_lines.ensures c.in_ok-put_end_line.ensures.ok
