use Rattle.mat_minors.proofs.Common.{◌≡◌, subst, sym, ap, ◌∙◌, both_ways, IfOk-weaker, AllBelow, IsSet-union, is_contracted}
use Rattle.mat_minors.proofs.Joining.{dependent_where_met}
use Rattle.mat_minors.proofs.MinorRows.{contracted_apart}
use Rattle.mat_minors.proofs.contraction.ContractionMatroid.independent.Goals as goal

pub returns-then-not-is_disjoint : goal.returns-then-not-is_disjoint
returns-then-not-is_disjoint g c =
    sym (dependent_where_met _ (g.M.Matroid.indep c.args.self.now.inner) c.args.self.now.away c.args.set.now c.requires.sound.1.set.rising
    (λ apart. both_ways _ c.if-not-is_disjoint.true (c.is_disjoint.ensures.apart.1 apart)))

pub independent-requires-clause-below : goal.independent-requires-clause-below
independent-requires-clause-below g c =
    let laws = g.met.M.Matroid.laws c.args.self.now.inner c.requires.sound.0 in
    subst (AllBelow (g.M.Matroid.ground_size c.args.self.now.inner)) (sym c.in_ok-joined.ensures.members)
    (IsSet-union _ c.args.set.now c.args.self.now.chosen c.requires.below (laws.sets c.args.self.now.chosen c.requires.sound.1.maximal.passes)).below

pub returns : goal.returns
returns g c =
    let laws = g.met.M.Matroid.laws c.args.self.now.inner c.requires.sound.0 in
    let p = g.M.Matroid.indep c.args.self.now.inner in
    let contraction = c.requires.sound.1 in
    let rises = c.is_disjoint.ensures.rises in
    let disjoint = c.is_disjoint.ensures.apart.0 c.if-not-is_disjoint.false in
    let apart = contracted_apart laws _ _ contraction.set contraction.maximal c.args.set.now
    (record { rising = rises; below = c.requires.below }) disjoint in
    IfOk-weaker c.independent.result (λ b. b ≡ p c.in_ok-joined.joined)
    (λ b. b ≡ is_contracted (g.M.Matroid.ground_size c.args.self.now.inner) c.args.self.now.away p c.args.set.now)
    (λ b told. told ∙ ap p c.in_ok-joined.ensures.members ∙ sym apart) c.independent.ensures
