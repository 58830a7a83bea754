use Rattle.mat_union.proofs.Common.{◌≡◌, ◌∙◌, ap, map, subst, sym, false, ltb-true, IfOk, family_union, all_below, is_member, is_member-all_below, IsBrought, IsPlacing}
use Rattle.mat_union.proofs.GrowingSteps.{in_new}
use Rattle.mat_union.proofs.StuckParts.{stuck_refuses}
use Rattle.mat_union.proofs.kept_parts.bring.Goals as goal
use Rattle.mat_union.proofs.kept_parts.bring.Goals.{in-None, in-Some}

pub place-requires-clause-among : goal.place-requires-clause-among
place-requires-clause-among g c = λ v h. ltb-true v c.args.n (sym (is_member-all_below v c.args.n) ∙ ap (is_member v) (sym c.requires.all) ∙ h)

pub returns-clause-brought : goal.returns-clause-brought
returns-clause-brought g c =
    let tests = map g.M.Asked.indep c.args.matroids.now in
    let parts = c.args.held.now.parts in
    let x = c.args.x in
    let fresh : is_member x (family_union parts) ≡ false = sym c.stands.ensures ∙ c.if-stands.false in
    let placing = IsPlacing c.args.n tests parts (all_below c.args.n) x c.place.new.parts in
    let placed : placing c.in_ok-place.field-0 = subst (λ a. IsPlacing c.args.n tests parts a x c.place.new.parts c.in_ok-place.field-0) c.requires.all c.in_ok-place.ensures.placed in
    elim c.match-branch-2.branch [
      | in-None w ↦ subst (λ r. IfOk r (IsBrought c.args.n tests parts x c.place.new.parts)) (sym w.result-is) (in_new (subst placing w.in-None.is placed))
      | in-Some w ↦ subst (λ r. IfOk r (IsBrought c.args.n tests parts x c.place.new.parts)) (sym w.result-is)
          (let stuck = subst placing w.in-Some.is placed in stuck_refuses c.all_lawful.ensures c.requires.parts x _ stuck.1.reaching stuck.1.end fresh)
    ]
