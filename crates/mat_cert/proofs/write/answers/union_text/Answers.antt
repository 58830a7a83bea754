use Rattle.mat_cert.proofs.Common.{◌≡◌, ◌∷◌, [], codes, ◌++◌, length, map, rules, text_of, numerals, weight_word, end_line, sets_lines, level_line, certificate_text}
use Rattle.mat_cert.proofs.LineTexts.{opening, four_pieces}
use Rattle.mat_cert.proofs.write.answers.union_text.Goals as goal

pub returns : goal.returns
unfolding certificate_text
returns c =
    let start = opening (codes "union") (numerals (c.args.count ∷ length c.args.parts.now ∷ length c.args.levels.now ∷ []) ++ weight_word c.args.weight ∷ []) in
    let begun : c.in_ok-out.out.items ≡ text_of start = search rules in
    four_pieces start (sets_lines (codes "part") c.args.parts.now) (map level_line c.args.levels.now) (end_line ∷ [])
    c.in_ok-out.out.items c.put_set_lines.new.out.items c.put_level_lines.new.out.items _
    begun c.in_ok-put_set_lines.ensures c.in_ok-put_level_lines.ensures c.in_ok-put_end_line.ensures.ok
