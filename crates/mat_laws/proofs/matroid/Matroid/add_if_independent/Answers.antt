use Rattle.mat_laws.proofs.Common.{◌∙◌, arith, with_one-member}
use Rattle.mat_laws.proofs.matroid.Matroid.add_if_independent.Goals as goal

pub returns-then-not-branch-clause-set : goal.returns-then-not-branch-clause-set
returns-then-not-branch-clause-set g c =
    c.in_ok-add.ensures.ok.1
    ∙ with_one-member _ _ c.in_ok-add.ensures.rose (let new = c.in_ok-add.ensures.ok.0 in let old = c.if-not-branch.true in grind arith)
