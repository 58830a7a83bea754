use Rattle.mat_laws.proofs.Common.{◌≡◌, ◌∙◌, ℕ, [], ◌∷◌, not, refl, ap, subst, sym, AllBelow, with_one}
use Rattle.mat_laws.proofs.loops.is_loop.Goals as goal

alone_is : (x : ℕ) → with_one [] x ≡ x ∷ []
unfolding with_one
alone_is x = refl

pub independent-requires-clause-below : goal.independent-requires-clause-below
independent-requires-clause-below g c =
    let set = c.in_ok-add.ensures.ok.1 ∙ ap (λ s. with_one s c.args.x) c.new-alone.ensures.members ∙ alone_is c.args.x in
    subst (AllBelow (g.M.Matroid.ground_size c.args.m.now)) (sym set) (c.requires.below, tt)

pub returns : goal.returns
returns g c =
    let set = c.in_ok-add.ensures.ok.1 ∙ ap (λ s. with_one s c.args.x) c.new-alone.ensures.members ∙ alone_is c.args.x in
    ap not (c.in_ok-independent.ensures ∙ ap (g.M.Matroid.indep c.args.m.now) set)
