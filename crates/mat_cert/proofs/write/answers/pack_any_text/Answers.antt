use Rattle.mat_cert.proofs.Common.{◌≡◌, ◌∷◌, [], codes, pos, rules, text_of, numeral, end_line, certificate_text}
use Rattle.mat_cert.proofs.LineTexts.{opening, two_pieces}
use Rattle.mat_cert.proofs.write.answers.pack_any_text.Goals as goal

pub returns : goal.returns
unfolding certificate_text
returns c =
    let start = opening (codes "pack") (numeral (pos c.args.count) ∷ codes "any" ∷ []) in
    let begun : c.in_ok-out.out.items ≡ text_of start = search rules in
    two_pieces start (end_line ∷ [])
    c.in_ok-out.out.items _
    begun c.in_ok-put_end_line.ensures.ok
