use Rattle.mat_union.proofs.Common.{◌∙◌, map, sym, family_union, union_test}
use Rattle.mat_union.proofs.GrowthLoops.{is_spanned}
use Rattle.mat_union.proofs.UnionRuns.{spanned_turn, turn_stands}
use Rattle.mat_union.proofs.running.take_turn.Goals as goal
use Rattle.mat_union.proofs.running.take_turn.Goals.{then-stands-via-then-stands, then-stands-via-else-stands+then-not-contains}

pub returns-then-stands-clause-step : goal.returns-then-stands-clause-step
returns-then-stands-clause-step g c =
    let x = c.args.x in
    let old = c.args.growth.now in
    elim c.then-stands.branch [
      | then-stands-via-then-stands w ↦ turn_stands (union_test c.args.n (map g.M.Asked.indep c.args.matroids.now)) (family_union old.parts) x (sym c.stands.ensures ∙ w.if-stands.true)
      | then-stands-via-else-stands+then-not-contains w ↦ spanned_turn c.all_lawful.ensures x (sym c.stands.ensures ∙ w.if-stands.false) c.requires.growing
          (is_spanned c.requires.growing x c.requires.below (sym w.contains.ensures ∙ w.if-not-contains.true))
    ]
