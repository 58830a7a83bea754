use Rattle.mat_exchange.proofs.Common.{◌∙◌, sym, ap, both_ways, IfOk-weaker, is_member}
use Rattle.mat_exchange.proofs.ComputedRows.{element_below, row_computed, row_of-member}
use Rattle.mat_exchange.proofs.exchanges.MissingRowsRowJob.row.Goals as goal

pub returns-then-not-contains : goal.returns-then-not-contains
returns-then-not-contains g c = λ m.
    absurd (both_ways _ (sym c.contains.ensures ∙ c.if-not-contains.true) (ap (λ v. is_member c.args.x v.1) c.self.view_is ∙ m))

pub returns-then-contains : goal.returns-then-contains
returns-then-contains g c = λ m.
    let job = c.self.inside in
    let p = g.M.Matroid.indep job.matroid.now in
    row_computed (g.M.Matroid.ground_size job.matroid.now) p job.set.now c.args.self.now.0 c.args.x (ap (λ v. v.0) c.self.view_is) c.requires.below _
    (c.no_exchanges-then-contains.ensures ∙ row_of-member p job.set.now c.args.x (sym c.contains-2.ensures.found ∙ c.if-contains.true))

pub row-requires-clause-below : goal.row-requires-clause-below
row-requires-clause-below g c =
    let job = c.self.inside in
    element_below (g.M.Matroid.ground_size job.matroid.now) (g.M.Matroid.indep job.matroid.now) job.set.now c.args.self.now.0 c.args.x
    (ap (λ v. v.0) c.self.view_is) c.requires.below

pub returns : goal.returns
returns g c =
    let job = c.self.inside in
    IfOk-weaker c.row.result _ _
    (λ row h m. row_computed (g.M.Matroid.ground_size job.matroid.now) (g.M.Matroid.indep job.matroid.now) job.set.now c.args.self.now.0 c.args.x
    (ap (λ v. v.0) c.self.view_is) c.requires.below row h) c.row.ensures.row
