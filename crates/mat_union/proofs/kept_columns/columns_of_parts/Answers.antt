use Rattle.mat_union.proofs.Common.{length, arith, map, subst, sym, IfOk-weaker, AllBelow, AreReached, exchanges_with, parts_set}
use Rattle.mat_union.proofs.kept_columns.columns_of_parts.Goals as goal

pub follow-requires : goal.follow-requires
follow-requires g c =
    let base = subst (AllBelow c.args.n) c.requires.kept.together (parts_set c.all_lawful.ensures c.requires.kept.are).below in
    rw c.as_slice-2.ensures.items (subst (λ k. AllBelow k c.args.base.now) (sym c.in_ok-arcs.ensures.count) base)

pub columns-requires-clause-few : goal.columns-requires-clause-few
columns-requires-clause-few g c =
    let reached = c.in_ok-follow.ensures c.args.n _ _ c.in_ok-arcs.ensures in
    omega (arith, reached.count, c.ranges.n.fits)

pub columns-requires-clause-below : goal.columns-requires-clause-below
columns-requires-clause-below g c =
    let reached = c.in_ok-follow.ensures c.args.n _ _ c.in_ok-arcs.ensures in
    subst (λ k. AllBelow k c.args.base.now) (sym reached.count)
    (subst (AllBelow c.args.n) c.requires.kept.together (parts_set c.all_lawful.ensures c.requires.kept.are).below)

pub returns : goal.returns
returns g c =
    let tests = map g.M.Asked.indep c.args.matroids.now in
    let parts = c.args.held.now.parts in
    let reached = c.in_ok-follow.ensures c.args.n (length parts) (exchanges_with tests parts) c.in_ok-arcs.ensures in
    IfOk-weaker c.columns.result _ _
    (λ columns told. told c.args.n tests parts c.all_lawful.ensures c.requires.kept.are c.requires.kept.together
    (subst (λ s. AreReached c.args.n (length parts) (exchanges_with tests parts) s c.follow.new.self) c.as_slice-2.ensures.items reached)) c.columns.ensures
