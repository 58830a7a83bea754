use Rattle.mat_any.proofs.Common.{[], ap, ◌∙◌, AreDistinct-rising, grown_along, run_length, union_in}
use Rattle.mat_any.proofs.JoinedLaws.{union_lawful}
use Rattle.mat_any.proofs.independence.union_independent.Goals as goal

pub union_run-requires-clause-distinct : goal.union_run-requires-clause-distinct
union_run-requires-clause-distinct c = rw c.as_slice.ensures.items (AreDistinct-rising c.args.set.now c.rises.ensures)

pub returns : goal.returns
returns c =
    let ms = c.args.matroids.now in
    rw (c.len.ensures.count, c.len-2.ensures.count)
    (run_length (union_lawful ms c.requires.joined) c.args.set.now c.in_ok-taken.taken c.rises.ensures
    (c.in_ok-taken.ensures ∙ ap (grown_along (union_in ms) []) c.as_slice.ensures.items))
