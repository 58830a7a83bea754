use Rattle.mat_flow.proofs.Common.{sym, ◌∙◌, arith}
use Rattle.mat_flow.proofs.PushedWalks.{first_start, no_start, no_start_live}
use Rattle.mat_flow.proofs.turned_residual.TurnedResidualSearchGraph.next_start.Goals as goal
use Rattle.mat_flow.proofs.turned_residual.TurnedResidualSearchGraph.next_start.Goals.{else-from-self-via-then-from-self+else-contains, else-from-self-via-else-from-self}

pub returns-then-contains : goal.returns-then-contains
returns-then-contains c =
    first_start c.args.among.now c.args.from c.args.self.now.v c.if-from-self.true (sym c.contains.ensures ∙ c.if-contains.true)

pub returns-else-from-self : goal.returns-else-from-self
returns-else-from-self c = elim c.else-from-self.branch [
  | else-from-self-via-then-from-self+else-contains w ↦ no_start_live c.args.among.now c.args.from c.args.self.now.v (sym w.contains.ensures ∙ w.if-contains.false)
  | else-from-self-via-else-from-self w ↦ no_start c.args.among.now c.args.from c.args.self.now.v (omega (arith, w.if-from-self.false))
]
