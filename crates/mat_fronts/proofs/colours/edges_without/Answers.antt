use Rattle.mat_fronts.proofs.Common.{ℕ, sym, ap, not, get_or, ◌∙◌, is_member, with_one}
use Rattle.mat_sets.proofs.Rounds.{those_below-none, those_below-put, those_below-skip}
use Rattle.mat_fronts.proofs.colours.edges_without.Goals as goal
use Rattle.mat_fronts.proofs.colours.edges_without.Goals.{then-not-contains+in_ok-add, else-not-contains}

pub loop-e-init : goal.loop-e-init
loop-e-init c = c.new-rest.ensures.members ∙ those_below-none (λ e. not (is_member (get_or c.args.colour_of.now e 0) c.args.colours.now))

pub loop-e-preserved : goal.loop-e-preserved
loop-e-preserved c =
    let other = λ (e : ℕ). not (is_member (get_or c.args.colour_of.now e 0) c.args.colours.now) in
    elim c.if-not-contains.branch [
      | then-not-contains+in_ok-add w ↦ w.rest-is ∙ w.in_ok-add.ensures.ok.1 ∙ ap (λ s. with_one s c.loop-e.e) c.loop-e.invariant
          ∙ those_below-put c.loop-e.e other (ap not (sym c.contains.ensures.found ∙ w.if-not-contains.true))
      | else-not-contains w ↦ w.rest-is ∙ c.loop-e.invariant
          ∙ those_below-skip c.loop-e.e other (ap not (sym c.contains.ensures.found ∙ w.if-not-contains.false))
    ]
