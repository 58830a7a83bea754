-- Either the element finds a place, and the parts hold one element more, or the search is stuck, and then the reached elements are spanned in each
-- matroid; either way the element is done with.
use Rattle.mat_union.proofs.Common.{◌≡◌, ◌∙◌, ◌||◌, ap, eqb, map, subst, sym, true, or_right, family_union, is_member, AreDone, AreGrowing, IsPlacing}
use Rattle.mat_union.proofs.GrowingParts.{placed_grow}
use Rattle.mat_union.proofs.GrowingSteps.{spanned_done, spanned_grown, placed_done, placed_hold}
use Rattle.mat_union.proofs.UnionRuns.{spanned_turn, placed_turn}
use Rattle.mat_union.proofs.growth.grow.Goals as goal

pub returns-in-None-clause-growing : goal.returns-in-None-clause-growing
returns-in-None-clause-growing g c =
    placed_grow c.all_lawful.ensures c.requires.growing (subst (IsPlacing _ _ _ _ _ _) c.in-None.is c.in_ok-place.ensures.placed) c.requires.unspanned

pub returns-in-None-clause-done : goal.returns-in-None-clause-done
returns-in-None-clause-done g c =
    λ done d. placed_done (subst (IsPlacing _ _ _ _ _ _) c.in-None.is c.in_ok-place.ensures.placed) done d

pub returns-in-None-clause-holds : goal.returns-in-None-clause-holds
returns-in-None-clause-holds g c =
    placed_hold (subst (IsPlacing _ _ _ _ _ _) c.in-None.is c.in_ok-place.ensures.placed)

pub returns-in_ok-mark_spanned-in-Some-clause-growing : goal.returns-in_ok-mark_spanned-in-Some-clause-growing
returns-in_ok-mark_spanned-in-Some-clause-growing g c =
    let stuck = subst (IsPlacing _ _ _ _ _ _) c.in-Some.is c.in_ok-place.ensures.placed in
    subst (λ p. AreGrowing c.args.n (map g.M.Asked.indep c.args.matroids.now) p c.mark_spanned.new.spanned c.mark_spanned.new.unspanned) (sym stuck.0) (spanned_grown c.all_lawful.ensures c.requires.growing stuck.1.reaching stuck.1.end c.mark_spanned.new.spanned c.mark_spanned.new.unspanned c.reached.result.now c.reached.ensures c.mark_spanned.ensures.rises
    c.in_ok-mark_spanned-in-Some.ensures.spanned c.in_ok-mark_spanned-in-Some.ensures.unspanned)

pub returns-in_ok-mark_spanned-in-Some-clause-done : goal.returns-in_ok-mark_spanned-in-Some-clause-done
returns-in_ok-mark_spanned-in-Some-clause-done g c =
    let stuck = subst (IsPlacing _ _ _ _ _ _) c.in-Some.is c.in_ok-place.ensures.placed in
    λ done d. subst (λ p. AreDone c.args.n (λ v. done v || eqb v c.args.x) p c.mark_spanned.new.spanned) (sym stuck.0) (spanned_done c.all_lawful.ensures c.requires.growing stuck.1.reaching stuck.1.end c.mark_spanned.new.spanned c.mark_spanned.new.unspanned c.reached.result.now c.reached.ensures c.mark_spanned.ensures.rises
    c.in_ok-mark_spanned-in-Some.ensures.spanned c.in_ok-mark_spanned-in-Some.ensures.unspanned done d)

pub returns-in-None-clause-step : goal.returns-in-None-clause-step
returns-in-None-clause-step g c =
    placed_turn c.all_lawful.ensures c.args.x c.requires.fresh (subst (IsPlacing _ _ _ _ _ _) c.in-None.is c.in_ok-place.ensures.placed)

pub returns-in_ok-mark_spanned-in-Some-clause-step : goal.returns-in_ok-mark_spanned-in-Some-clause-step
returns-in_ok-mark_spanned-in-Some-clause-step g c =
    let tests = map g.M.Asked.indep c.args.matroids.now in
    let old = c.args.growth.now in
    let stuck = subst (IsPlacing _ _ _ _ _ _) c.in-Some.is c.in_ok-place.ensures.placed in
    let grown : AreGrowing c.args.n tests old.parts c.mark_spanned.new.spanned c.mark_spanned.new.unspanned = spanned_grown c.all_lawful.ensures c.requires.growing stuck.1.reaching stuck.1.end c.mark_spanned.new.spanned c.mark_spanned.new.unspanned
    c.reached.result.now c.reached.ensures c.mark_spanned.ensures.rises c.in_ok-mark_spanned-in-Some.ensures.spanned c.in_ok-mark_spanned-in-Some.ensures.unspanned in
    let reached : is_member c.args.x c.reached.result.now ≡ true = ap (is_member c.args.x) c.reached.ensures ∙ stuck.1.reaching.so_far.first in
    ap family_union stuck.0 ∙ spanned_turn c.all_lawful.ensures c.args.x c.requires.fresh grown
    (c.in_ok-mark_spanned-in-Some.ensures.spanned c.args.x ∙ or_right (is_member c.args.x old.spanned) (is_member c.args.x c.reached.result.now) reached)
