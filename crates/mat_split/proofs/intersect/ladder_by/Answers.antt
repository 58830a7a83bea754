-- Each turn adds a rung with one element more and the tables at its set; where no larger set exists, the cut ends the ladder.
use Rattle.mat_split.proofs.Common.{◌≡◌, subst, sym, rows_of, IsAugmented}
use Rattle.mat_split.proofs.RungSteps.{AreRungs-start, AreRungs-next, IsLadder-end, fewer_left, own_rung, weights_within}
use Rattle.mat_split.proofs.intersect.ladder_by.Goals as goal

pub loop-second-init : goal.loop-second-init
loop-second-init g c =
    let first = c.in_ok-rung.ensures in (
      AreRungs-start c.lawful.ensures c.lawful-2.ensures c.requires.ground c.requires.lengths c.requires.small c.new-rungs.ensures.items
          first.set first.first first.second,
      subst (λ set. g.A.Matroid.keeps c.args.a.now set c.args.first_at.kept) (sym first.set) c.requires.first_kept,
      subst (λ set. c.args.first_at.table ≡ rows_of (g.A.Matroid.ground_size c.args.a.now) (g.A.Matroid.indep c.args.a.now) set) (sym first.set)
          c.requires.first_table,
      subst (λ set. g.B.Matroid.keeps c.args.b.now set c.args.second_at.kept) (sym first.set) c.requires.second_kept,
      subst (λ set. c.args.second_at.table ≡ rows_of (g.B.Matroid.ground_size c.args.b.now) (g.B.Matroid.indep c.args.b.now) set) (sym first.set)
          c.requires.second_table,
    )

pub augment-requires-clause-small : goal.augment-requires-clause-small
augment-requires-clause-small g c = λ lifetimes outlive. weights_within c.loop-second.invariant.0

pub augment-requires-clause-rung : goal.augment-requires-clause-rung
augment-requires-clause-rung g c = λ lifetimes outlive. own_rung c.loop-second.invariant.0

pub loop-second-smaller : goal.loop-second-smaller
loop-second-smaller g c = fewer_left c.loop-second.invariant.0 c.in_ok-push-in-Larger.ensures.items

pub loop-second-preserved : goal.loop-second-preserved
loop-second-preserved g c =
    let first = c.requires.first_made _ _ _ _ c.in_ok-first-in-Larger.ensures in
    let second = c.requires.second_made _ _ _ _ c.in_ok-second-in-Larger.ensures in (
      AreRungs-next c.loop-second.invariant.0 c.in_ok-push-in-Larger.ensures.items
          (subst (IsAugmented _ _ _ _ _) c.in-Larger.is c.in_ok-larger.ensures),
      first.0,
      first.1,
      second.0,
      second.1,
    )

pub returns-in-Last : goal.returns-in-Last
returns-in-Last g c =
    IsLadder-end c.loop-second.invariant.0 c.in_ok-push-in-Last.ensures.items
    (subst (IsAugmented _ _ _ _ _) c.in-Last.is c.in_ok-larger.ensures)
