use Rattle.mat_top.proofs.Common.{◌≡◌, ◌∷◌, [], codes, length, map, pos, rules, text_of, numeral, members_line, end_line, opening, four_pieces, cut_line}
use Rattle.mat_top.proofs.cut_lines.tree_text.Goals as goal

pub returns : goal.returns
returns c =
    let start = opening (codes "cuts") (numeral (pos c.args.count) ∷ numeral c.args.cost ∷ numeral (pos (length c.args.cuts.now)) ∷ []) in
    let begun : c.put_numbers_line.new.out.items ≡ text_of start = search rules in
    four_pieces start (members_line (codes "set") c.args.tree.now ∷ []) (map cut_line c.args.cuts.now) (end_line ∷ [])
    c.put_numbers_line.new.out.items c.put_members_line.new.out.items c.put_cut_lines.new.out.items _
    begun (search rules) c.in_ok-put_cut_lines.ensures (search rules)
