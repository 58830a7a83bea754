use Rattle.mat_witness.proofs.Common.{◌≡◌, ◌∷◌, [], codes, map, pos, rules, text_of, numeral, end_line, tree_of, five_pieces, bounds_lines, free_lines, bounded_trees, bound_part, free_part}
use Rattle.mat_witness.proofs.text.write.witness_text.Goals as goal

pub returns : goal.returns
returns c =
    let witness = c.args.witness.now in
    let first = tree_of c.args.first.now in
    let second = tree_of c.args.second.now in
    let head = (codes "witness" ∷ codes "1" ∷ []) ∷ (codes "rung" ∷ numeral (pos witness.k) ∷ []) ∷ [] in
    let begun : c.put_numbers_line.new.out.items ≡ text_of head = search rules in
    let bounds : c.as_slice.result.now ≡ witness.bounds.items = search rules in
    five_pieces head (free_lines first (free_part witness.first)) (free_lines second (free_part witness.second))
    (bounds_lines (bounded_trees first second c.args.k c.args.rung.now) (map bound_part witness.bounds.items)) (end_line ∷ [])
    c.put_numbers_line.new.out.items c.put_free.new.out.items c.put_free-2.new.out.items c.put_rung_bounds.new.out.items _
    begun c.in_ok-put_free.ensures c.in_ok-put_free-2.ensures (rw bounds at c.in_ok-put_rung_bounds.ensures) c.in_ok-put_end_line.ensures.ok
