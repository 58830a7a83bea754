use Rattle.mat_union.proofs.Common.{map, subst, sym, family_union, is_member, AreDone, AreGrowing}
use Rattle.mat_union.proofs.FillingParts.{start_done, start_growing}
use Rattle.mat_union.proofs.growth.growth_from.Goals as goal

pub returns-clause-growing : goal.returns-clause-growing
returns-clause-growing g c = subst (λ p. AreGrowing c.args.n (map g.M.Asked.indep c.args.matroids.now) p c.new.result c.in_ok-all_below.field-0) (sym c.parts.view_is)
    (start_growing c.all_lawful.ensures c.args.parts c.requires.parts _ _ c.new.ensures.members c.in_ok-all_below.ensures)

pub returns-clause-done : goal.returns-clause-done
returns-clause-done g c = subst (λ p. AreDone c.args.n (λ v. is_member v (family_union c.args.parts)) p c.new.result) (sym c.parts.view_is) (start_done c.args.n c.args.parts _ c.new.ensures.members)
