-- The loop goes over the falling weights: at each the spanned elements become the cut of its level.
use Rattle.mat_union.proofs.Common.{◌≡◌, ◌∙◌, ◌+◌, ◌<◌, ◌≤◌, length, map, subst, sym, ap, length-map, falling_weights, family_union, those_below, is_member, is_same, weight_at, IsRightUnion}
use Rattle.mat_union.proofs.EmptyParts.{empty_are, nothing}
use Rattle.mat_union.proofs.GrowthLoops.{done_ext}
use Rattle.mat_union.proofs.LevelSteps.{came, level_done, level_fresh, levels_end, levels_more, levels_none, none_came, AreLevelsSo}
use Rattle.mat_union.proofs.best.best_union.Goals as goal

pub growth_from-requires-clause-parts : goal.growth_from-requires-clause-parts
growth_from-requires-clause-parts g c = empty_are c.all_lawful.ensures c.in_ok-parts.parts (c.in_ok-parts.ensures.long ∙ sym (length-map c.args.matroids.now g.M.Matroid.indep)) c.in_ok-parts.ensures.empty

pub loop-at-init : goal.loop-at-init
loop-at-init g c =
    let w = c.args.weights.now in
    let none = nothing c.in_ok-parts.parts c.in_ok-parts.ensures.empty in
    record {
      growing = c.in_ok-growth.ensures.growing;
      kept = c.in_ok-growth.ensures.kept;
      done = done_ext (λ v. is_member v (family_union c.in_ok-parts.parts)) (came w 0) (λ v. none v ∙ sym (none_came w v)) c.in_ok-growth.ensures.done;
      levels = levels_none c.common_size-n.result (map g.M.Matroid.indep c.args.matroids.now) w _ _ c.new-levels.ensures.items;
    }

pub grow_by-requires-clause-fresh : goal.grow_by-requires-clause-fresh
grow_by-requires-clause-fresh g c κs within =
    let w = c.args.weights.now in
    let i = c.loop-at.at-index in
    let same : c.deref-at-items.result.now ≡ falling_weights w = c.deref-at-items.ensures.value ∙ c.in_ok-falling.ensures in
    let inside : i < length (falling_weights w) = subst (λ ws. i < length ws) same c.loop-at-test.true in
    let are = c.as_slice.ensures.items ∙ c.in_ok-elements.ensures ∙ ap (λ ws. those_below (length w) (λ x. is_same (weight_at w x) (weight_at ws i))) same in
    level_fresh w i inside c.as_slice.result.now are c.common_size-n.result c.loop-at.growth.parts c.loop-at.growth.spanned (sym c.common_size-n.ensures) c.loop-at.invariant.done

pub loop-at-preserved : goal.loop-at-preserved
loop-at-preserved g c =
    let w = c.args.weights.now in
    let i = c.loop-at.at-index in
    let tests = map g.M.Matroid.indep c.args.matroids.now in
    let same : c.deref-at-items.result.now ≡ falling_weights w = c.deref-at-items.ensures.value ∙ c.in_ok-falling.ensures in
    let inside : i < length (falling_weights w) = subst (λ ws. i < length ws) same c.loop-at-test.true in
    let are = c.as_slice.ensures.items ∙ c.in_ok-elements.ensures ∙ ap (λ ws. those_below (length w) (λ x. is_same (weight_at w x) (weight_at ws i))) same in
    let told = c.in_ok-grow_by.ensures in
    let done = level_done w i inside c.as_slice.result.now are c.all_lawful.ensures told.growing (sym c.common_size-n.ensures) (told.done _ c.loop-at.invariant.done) in
    record {
      growing = told.growing;
      kept = told.kept;
      done = done;
      levels = subst (AreLevelsSo c.common_size-n.result tests w (i + 1) _) (sym c.in_ok-push.ensures.items)
          (levels_more c.all_lawful.ensures (sym c.common_size-n.ensures) inside c.loop-at.invariant.levels _ _ told.growing done told.holds _
          (ap (λ ws. weight_at ws i) same) c.in_ok-cut.ensures.equal);
    }

pub returns : goal.returns
returns g c =
    let w = c.args.weights.now in
    let i = c.loop-at.at-index in
    let tests = map g.M.Matroid.indep c.args.matroids.now in
    let same : c.deref-at-items.result.now ≡ falling_weights w = c.deref-at-items.ensures.value ∙ c.in_ok-falling.ensures in
    subst (λ k. IsRightUnion k tests w c.loop-at.growth.parts c.loop-at.levels.items) c.common_size-n.ensures
    (levels_end c.common_size-n.result tests w i c.loop-at.growth.parts c.loop-at.levels.items c.loop-at.invariant.levels c.loop-at.invariant.growing.are
    (subst (λ ws. length ws ≤ i) same c.loop-at-test.false))
