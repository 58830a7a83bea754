use Rattle.mat_summary.proofs.Common.{IsRanged, intersect, assign, union_of}
use Rattle.mat_summary.proofs.SummaryRanges.{rung_weights_within, set_sizes_within}
use Rattle.mat_summary.proofs.summary.put_answer_words.Goals as goal

pub put_ladder_words-requires-clause-small : goal.put_ladder_words-requires-clause-small
put_ladder_words-requires-clause-small c =
    let ranged : IsRanged (intersect c.in-Intersect.count c.in-Intersect.rungs.items c.in-Intersect.cut) = rw c.in-Intersect.is at c.requires in
    rw c.deref.ensures.value (rung_weights_within c.in-Intersect.count c.in-Intersect.rungs.items ranged.0)

pub put_ladder_words-requires-in-Assign-clause-small : goal.put_ladder_words-requires-in-Assign-clause-small
put_ladder_words-requires-in-Assign-clause-small c =
    let a = c.in-Assign in
    let ranged : IsRanged (assign a.count a.rows a.columns a.rungs.items a.cut) = rw a.is at c.requires in
    rw c.deref-in-Assign.ensures.value (rung_weights_within a.count a.rungs.items ranged.ladder_in_range.0)

pub put_union_words-requires-clause-small : goal.put_union_words-requires-clause-small
put_union_words-requires-clause-small c =
    let a = c.in-UnionOf in
    let ranged : IsRanged (union_of a.count a.weight a.parts a.levels.items) = rw a.is at c.requires in
    set_sizes_within a.count a.parts ranged.few ranged.parts_in_range.each
