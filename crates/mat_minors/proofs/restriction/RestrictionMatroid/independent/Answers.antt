use Rattle.mat_minors.proofs.Common.{◌≡◌, sym, ◌∙◌, both_ways, IfOk-weaker, is_restricted}
use Rattle.mat_minors.proofs.Joining.{restricted_inside, dependent_outside}
use Rattle.mat_minors.proofs.restriction.RestrictionMatroid.independent.Goals as goal

pub returns-then-not-is_subset : goal.returns-then-not-is_subset
returns-then-not-is_subset g c =
    sym (dependent_outside (g.M.Matroid.indep c.args.self.now.inner) c.args.self.now.kept c.args.set.now
    (λ inside. both_ways _ c.if-not-is_subset.true (c.is_subset.ensures.inside.1 inside)))

pub returns : goal.returns
returns g c =
    let p = g.M.Matroid.indep c.args.self.now.inner in
    let same = restricted_inside p c.args.self.now.kept c.args.set.now (c.is_subset.ensures.inside.0 c.if-not-is_subset.false) in
    IfOk-weaker c.independent.result (λ b. b ≡ p c.args.set.now) (λ b. b ≡ is_restricted c.args.self.now.kept p c.args.set.now)
    (λ b told. told ∙ same) c.independent.ensures
