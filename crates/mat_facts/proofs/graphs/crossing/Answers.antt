use Rattle.mat_facts.proofs.Common.{◌∙◌, ap, cond, ends_of, not, with_one}
use Rattle.mat_sets.proofs.Rounds.{those_below-more, those_below-none}
use Rattle.mat_packing.specs.Trees.{stays}
use Rattle.mat_facts.proofs.graphs.crossing.Goals as goal

pub loop-e-init : goal.loop-e-init
loop-e-init c = c.new-found.ensures.members ∙ those_below-none (λ e. not (stays (ends_of c.args.edges.now) c.args.classes.now e))

pub loop-e-preserved : goal.loop-e-preserved
loop-e-preserved c =
    those_below-more c.loop-e.e (λ e. not (stays (ends_of c.args.edges.now) c.args.classes.now e)) c.loop-e.found c.add_if.new.self c.loop-e.invariant
    (c.in_ok-add_if.ensures.ok ∙ ap (λ b. cond (not b) (with_one c.loop-e.found c.loop-e.e) c.loop-e.found) c.stays.ensures)
