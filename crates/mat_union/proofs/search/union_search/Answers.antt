use Rattle.mat_union.proofs.Common.{◌≡◌, length, get_or, [], ap, ◌∙◌, get_or_default}
use Rattle.mat_union.proofs.WalkMoves.{stuck_search}
use Rattle.mat_union.proofs.search.union_search.Goals as goal

pub returns : goal.returns
returns c =
    let row : length c.index-rows-0.result ≡ length (get_or c.args.rows.now 0 []) = ap length (c.index-rows-0.is ∙ get_or_default c.args.rows.now 0 c.index-rows-0.result [] c.requires.some) in
    let size : length c.in_ok-table.table ≡ length (get_or c.args.rows.now 0 []) = c.in_ok-table.ensures.long ∙ (c.len-n.ensures ∙ row) in
    stuck_search c.requires.movable (length c.in_ok-table.table) c.in-Reached.reach c.in_ok-walk.field-0 size c.in-Reached.is c.in_ok-walk.ensures
