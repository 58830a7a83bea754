use Rattle.mat_check.proofs.Common.{length, sym, ◌∙◌, IfOk-weaker, cover_cut_clauses, missed_clauses}
use Rattle.mat_check.proofs.JoinedClauses.{in_first, in_second, in_third}
use Rattle.mat_check.proofs.RightPackings.{all_sets}
use Rattle.mat_check.proofs.sets.coverings.cover_failure.Goals as goal

pub returns-in-Some : goal.returns-in-Some
returns-in-Some g c =
    let n = g.M.Matroid.ground_size c.args.m.now in
    let p = g.M.Matroid.indep c.args.m.now in
    let sets = c.args.sets.now in
    in_first (all_sets n p sets) (missed_clauses n sets) (cover_cut_clauses p (length sets) c.args.cut.now) c.in-Some.failure
    (sym c.in_ok-failure.ensures ∙ c.in-Some.is)

pub returns-in-Some-missed_failure : goal.returns-in-Some-missed_failure
returns-in-Some-missed_failure g c =
    let n = g.M.Matroid.ground_size c.args.m.now in
    let p = g.M.Matroid.indep c.args.m.now in
    let sets = c.args.sets.now in
    in_second (all_sets n p sets) (missed_clauses n sets) (cover_cut_clauses p (length sets) c.args.cut.now) c.in-Some-missed_failure.failure
    (sym c.in_ok-failure.ensures ∙ c.in_default.is) (sym (rw c.size.ensures at c.missed_failure.ensures) ∙ c.in-Some-missed_failure.is)

pub returns : goal.returns
returns g c =
    let n = g.M.Matroid.ground_size c.args.m.now in
    let p = g.M.Matroid.indep c.args.m.now in
    let sets = c.args.sets.now in
    IfOk-weaker c.cover_cut_failure.result _ _ (λ found h. h ∙ in_third (all_sets n p sets) (missed_clauses n sets)
    (cover_cut_clauses p (length sets) c.args.cut.now) (sym c.in_ok-failure.ensures ∙ c.in_default.is) (sym (rw c.size.ensures at c.missed_failure.ensures) ∙ c.in_default-missed_failure.is)) c.cover_cut_failure.ensures
