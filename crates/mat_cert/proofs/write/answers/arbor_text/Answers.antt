use Rattle.mat_cert.proofs.Common.{◌≡◌, ◌∷◌, [], codes, pos, rules, text_of, numeral, weight_word, members_line, weights_line, end_line, certificate_text}
use Rattle.mat_cert.proofs.LineTexts.{opening, five_pieces}
use Rattle.mat_cert.proofs.write.answers.arbor_text.Goals as goal

pub returns : goal.returns
unfolding certificate_text
returns c =
    let start = opening (codes "arborescence") (numeral (pos c.args.count) ∷ codes "tree" ∷ weight_word c.args.cost ∷ []) in
    let begun : c.in_ok-out.out.items ≡ text_of start = search rules in
    five_pieces start (members_line (codes "set") c.args.arcs.now ∷ []) (weights_line (codes "first") c.args.first.now ∷ []) (weights_line (codes "second") c.args.second.now ∷ []) (end_line ∷ [])
    c.in_ok-out.out.items c.put_members_line.new.out.items c.put_weights_line.new.out.items c.put_weights_line-2.new.out.items _
    begun (search rules) (search rules) (search rules) c.in_ok-put_end_line.ensures.ok
