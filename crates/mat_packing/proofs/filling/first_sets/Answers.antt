use Rattle.mat_packing.proofs.Common.{◌∙◌, ◌<◌, ap, arith, length, subst, sym, AreDisjoint, all_below, union, IsSubset, part_at}
use Rattle.mat_packing.proofs.FirstSets.{first_more, first_none}
use Rattle.mat_packing.proofs.filling.first_sets.Goals as goal

pub loop-init : goal.loop-init
loop-init g c = first_none _ _ _ _ c.new-sets.ensures.items (c.in_ok-rest.ensures.members ∙ ap all_below c.size.ensures)

pub grow_base-requires-clause-start : goal.grow_base-requires-clause-start
grow_base-requires-clause-start g c κs within = ap (g.M.Matroid.indep c.args.m.now) c.new-none.ensures.members ∙ c.lawful.ensures.empty

pub grow_base-requires-clause-below : goal.grow_base-requires-clause-below
grow_base-requires-clause-below g c κs within = c.loop.invariant.set.below

pub loop-preserved : goal.loop-preserved
loop-preserved g c =
    first_more c.loop.invariant c.in_ok-set.set c.in_ok-set.ensures.maximal.passes (subst (λ e. IsSubset c.in_ok-set.set (union e c.loop.rest)) c.new-none.ensures.members c.in_ok-set.ensures.maximal.inside) _ _
    c.in_ok-push.ensures.items c.in_ok-rest-2.ensures.members

pub returns-clause-long : goal.returns-clause-long
returns-clause-long g c = ap length c.new.ensures.items ∙ c.loop.invariant.long ∙ omega (arith, c.loop-test.false, c.loop.auto.counter-end)

pub returns-clause-disjoint : goal.returns-clause-disjoint
returns-clause-disjoint g c = subst AreDisjoint (sym c.new.ensures.items) c.loop.invariant.disjoint

pub returns-clause-passes : goal.returns-clause-passes
returns-clause-passes g c = λ i l. ap (λ s. g.M.Matroid.indep c.args.m.now (part_at s i)) c.new.ensures.items ∙ c.loop.invariant.passes i (subst (λ s. i < length s) c.new.ensures.items l)
