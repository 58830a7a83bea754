use Rattle.mat_cert.proofs.Common.{◌≡◌, ◌∷◌, [], codes, pos, rules, text_of, numeral, members_line, end_line, certificate_text}
use Rattle.mat_cert.proofs.LineTexts.{opening, three_pieces}
use Rattle.mat_cert.proofs.write.answers.unreached_text.Goals as goal

pub returns : goal.returns
unfolding certificate_text
returns c =
    let start = opening (codes "arborescence") (numeral (pos c.args.count) ∷ codes "unreached" ∷ numeral (pos c.args.vertices) ∷ []) in
    let begun : c.in_ok-out.out.items ≡ text_of start = search rules in
    three_pieces start (members_line (codes "vertices") c.args.set.now ∷ []) (end_line ∷ [])
    c.in_ok-out.out.items c.put_members_line.new.out.items _
    begun (search rules) c.in_ok-put_end_line.ensures.ok
