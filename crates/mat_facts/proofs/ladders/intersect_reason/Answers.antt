use Rattle.mat_facts.proofs.Common.{◌∙◌, ap, length, sym, subst, is_independent, ladder_facts}
use Rattle.mat_sets.specs.Sets.{AllBelow}
use Rattle.mat_any.specs.Views.{tree_of}
use Rattle.mat_facts.specs.Views.{is_told}
use Rattle.mat_facts.proofs.RangedAnswers.{all_share, few_rungs}
use Rattle.mat_facts.proofs.ladders.intersect_reason.Goals as goal

pub ladder_reason-requires-clause-below : goal.ladder_reason-requires-clause-below
ladder_reason-requires-clause-below c κs = subst (λ n. AllBelow n c.args.cut.now) (sym c.requires.second_size) c.requires.ranged.1.below

pub ladder_reason-requires-clause-small : goal.ladder_reason-requires-clause-small
ladder_reason-requires-clause-small c κs = few_rungs (length c.args.weights.now) c.args.rungs.now c.requires.ranged.0

pub ladder_reason-requires-clause-shares : goal.ladder_reason-requires-clause-shares
ladder_reason-requires-clause-shares c κs = all_share (length c.args.weights.now) c.args.rungs.now c.requires.ranged.0

pub returns : goal.returns
returns c =
    c.in_ok-facts.ensures
    ∙ ap (λ n. ladder_facts (is_told c.args.told) n (is_independent (tree_of c.args.first.now)) (is_independent (tree_of c.args.second.now))
    c.args.rungs.now c.args.cut.now) c.requires.first_size
