-- The clauses come in turn: the bases are disjoint, each is a base, and the cut shows that there are no more; the first that fails is told.
use Rattle.mat_check.proofs.Common.{[], length, sym, ◌∙◌, overlap_clauses, packing_cut_clause}
use Rattle.mat_check.proofs.FailingClauses.{first_of_failing, first_of_holding}
use Rattle.mat_check.proofs.JoinedClauses.{in_first, in_second, in_third}
use Rattle.mat_check.proofs.RightPackings.{all_bases, packing_end}
use Rattle.mat_check.proofs.sets.packings.pack_failure.Goals as goal

pub returns-in-Some : goal.returns-in-Some
returns-in-Some g c =
    let n = g.M.Matroid.ground_size c.args.m.now in
    let p = g.M.Matroid.indep c.args.m.now in
    let bases = c.args.bases.now in
    in_first (overlap_clauses n bases) (all_bases n p bases c.args.cut.now) (packing_end n p bases c.args.cut.now) c.in-Some.failure
    (sym (rw c.size.ensures at c.overlap_failure.ensures) ∙ c.in-Some.is)

pub returns-in-Some-2 : goal.returns-in-Some-2
returns-in-Some-2 g c =
    let n = g.M.Matroid.ground_size c.args.m.now in
    let p = g.M.Matroid.indep c.args.m.now in
    let bases = c.args.bases.now in
    in_second (overlap_clauses n bases) (all_bases n p bases c.args.cut.now) (packing_end n p bases c.args.cut.now) c.in-Some-2.failure
    (sym (rw c.size.ensures at c.overlap_failure.ensures) ∙ c.in_default.is) (sym c.in_ok-failure.ensures ∙ c.in-Some-2.is)

pub returns-then-not-branch : goal.returns-then-not-branch
returns-then-not-branch g c =
    let n = g.M.Matroid.ground_size c.args.m.now in
    let p = g.M.Matroid.indep c.args.m.now in
    let bases = c.args.bases.now in
    rw c.at.ensures (sym (first_of_failing (packing_cut_clause n p (length bases) c.args.cut.now) [] (sym c.in_ok-cut_shows_most.ensures ∙ c.if-not-branch.true))
    ∙ in_third (overlap_clauses n bases) (all_bases n p bases c.args.cut.now) (packing_end n p bases c.args.cut.now)
    (sym (rw c.size.ensures at c.overlap_failure.ensures) ∙ c.in_default.is) (sym c.in_ok-failure.ensures ∙ c.in_default-2.is))

pub returns : goal.returns
returns g c =
    let n = g.M.Matroid.ground_size c.args.m.now in
    let p = g.M.Matroid.indep c.args.m.now in
    let bases = c.args.bases.now in
    sym (first_of_holding (packing_cut_clause n p (length bases) c.args.cut.now) [] (sym c.in_ok-cut_shows_most.ensures ∙ c.if-not-branch.false))
    ∙ in_third (overlap_clauses n bases) (all_bases n p bases c.args.cut.now) (packing_end n p bases c.args.cut.now)
    (sym (rw c.size.ensures at c.overlap_failure.ensures) ∙ c.in_default.is) (sym c.in_ok-failure.ensures ∙ c.in_default-2.is)
