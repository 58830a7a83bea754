use Rattle.mat_packing.proofs.Common.{◌∙◌, ◌<◌, [], ◌∷◌, ap, arith, inl, inr, subst, sym, cases_eq, not-false, not-true}
use Rattle.mat_packing.proofs.covering.find_loop.Goals as goal

pub loop-x-preserved : goal.loop-x-preserved
loop-x-preserved g c = λ y l. elim (cases_eq y c.loop-x.x) [
  | inl e ↦ ap (λ z. g.M.Matroid.indep c.args.m.now (z ∷ [])) e ∙ not-false _ (sym c.in_ok-is_loop.ensures ∙ c.if-branch.false)
  | inr d ↦ c.loop-x.invariant y (omega arith)
]

pub returns-then-branch : goal.returns-then-branch
returns-then-branch g c = (subst (λ k. c.loop-x.x < k) c.size-x-end.ensures c.loop-x-test.true, not-true _ (sym c.in_ok-is_loop.ensures ∙ c.if-branch.true))
