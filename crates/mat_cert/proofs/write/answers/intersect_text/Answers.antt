use Rattle.mat_cert.proofs.Common.{◌≡◌, ◌∷◌, [], codes, rules, text_of, numerals, members_line, end_line, rungs_lines, priced_rung_lines, last_rung, certificate_text}
use Rattle.mat_cert.proofs.LineTexts.{opening, four_pieces}
use Rattle.mat_cert.proofs.write.answers.intersect_text.Goals as goal

pub returns : goal.returns
unfolding certificate_text
returns c =
    let start = opening (codes "intersect") (numerals (c.args.count ∷ last_rung c.args.rungs.now ∷ [])) in
    let last : c.saturating_sub.result ≡ last_rung c.args.rungs.now = search rules in
    let begun : c.in_ok-out.out.items ≡ text_of start = search (rules, last) in
    four_pieces start (rungs_lines priced_rung_lines 0 c.args.rungs.now) (members_line (codes "cut") c.args.cut.now ∷ []) (end_line ∷ [])
    c.in_ok-out.out.items c.put_priced_rungs.new.out.items c.put_members_line.new.out.items _
    begun c.in_ok-put_priced_rungs.ensures (search rules) c.in_ok-put_end_line.ensures.ok
