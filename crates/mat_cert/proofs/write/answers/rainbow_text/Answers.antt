use Rattle.mat_cert.proofs.Common.{◌≡◌, ◌∷◌, [], codes, rules, text_of, numerals, members_line, end_line, option_lines, rungs_lines, priced_rung_lines, last_rung, certificate_text}
use Rattle.mat_cert.proofs.LineTexts.{opening, five_pieces}
use Rattle.mat_cert.proofs.write.answers.rainbow_text.Goals as goal

pub returns : goal.returns
unfolding certificate_text
returns c =
    let start = opening (codes "rainbow") (numerals (c.args.count ∷ last_rung c.args.rungs.now ∷ c.args.vertices ∷ c.args.colours ∷ [])) in
    let last : c.saturating_sub.result ≡ last_rung c.args.rungs.now = search rules in
    let begun : c.in_ok-out.out.items ≡ text_of start = search (rules, last) in
    five_pieces start (rungs_lines priced_rung_lines 0 c.args.rungs.now) (members_line (codes "cut") c.args.cut.now ∷ []) (option_lines (codes "colours") c.args.missing.now) (end_line ∷ [])
    c.in_ok-out.out.items c.put_priced_rungs.new.out.items c.put_members_line.new.out.items c.put_option_line.new.out.items _
    begun c.in_ok-put_priced_rungs.ensures (search rules) c.in_ok-put_option_line.ensures c.in_ok-put_end_line.ensures.ok
