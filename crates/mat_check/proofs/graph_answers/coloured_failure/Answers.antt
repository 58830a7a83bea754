use Rattle.mat_check.proofs.Common.{◌≡◌, ◌++◌, length, sym, subst, IfOk, slice_index, and_parts, eqb-true, ends_of, is_graphic, is_once, first_failure, ladder_clauses, colours_clauses}
use Rattle.mat_check.proofs.graph_answers.coloured_failure.Goals as goal

pub returns : goal.returns
returns g c =
    let edges = c.args.edges.now in
    let header = rw c.in-Rainbow.is at c.requires.header in
    let count : c.in-Rainbow.count ≡ length edges = eqb-true c.in-Rainbow.count (length edges) (and_parts _ _ header).0 in
    rw c.in-Rainbow.is (subst
    (λ n. IfOk c.rainbow_failure.result (λ found. found ≡ first_failure (ladder_clauses n (is_graphic n (ends_of edges))
    (is_once n c.args.colours (slice_index c.args.colour_of.now)) c.args.weights.now c.in-Rainbow.rungs.items c.in-Rainbow.cut
    ++ colours_clauses c.args.vertices n (ends_of edges) (slice_index c.args.colour_of.now) c.in-Rainbow.missing)))
    (sym count) (rw (c.as_slice.ensures, c.deref.ensures.value) at c.rainbow_failure.ensures))
