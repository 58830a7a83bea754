-- Each member is taken out in turn: x can take its place if the rest with x is independent.
use Rattle.mat_laws.proofs.Common.{◌∙◌, subst, sym, ap, length, get_or, ◌<◌, ◌≤◌, AllBelow, with_one, without_one, AllBelow-with_one, AllBelow-subset, without_one-IsSubset}
use Rattle.mat_laws.proofs.Independent.{rising, below}
use Rattle.mat_laws.proofs.Rows.{IsCollecting-start, IsCollecting-found, IsCollecting-passed, IsCollecting-end, row_outside}
use Rattle.mat_laws.proofs.matroid.Matroid.circuit_by_questions.Goals as goal
use Rattle.mat_laws.proofs.matroid.Matroid.circuit_by_questions.Goals.{then-branch+in_ok-add-2, else-branch}

pub independent-requires-clause-below : goal.independent-requires-clause-below
independent-requires-clause-below g c =
    let set = c.in_ok-add.ensures.ok.1 ∙ ap (λ s. with_one s c.args.x) c.in_ok-larger.ensures.equal in
    subst (AllBelow (g.Self.Matroid.ground_size c.args.self.now)) (sym set)
    (AllBelow-with_one _ c.args.base.now c.args.x (below c.lawful.ensures c.args.base.now c.requires.base) c.requires.below)

pub loop-y-init : goal.loop-y-init
loop-y-init g c = IsCollecting-start _ c.args.base.now c.args.x _ c.new-with.ensures.members

pub independent-requires-in-loop-y-clause-below : goal.independent-requires-in-loop-y-clause-below
independent-requires-in-loop-y-clause-below g c =
    let n = g.Self.Matroid.ground_size c.args.self.now in
    let set = c.in_ok-add.ensures.ok.1 ∙ ap (λ s. with_one s c.args.x) c.in_ok-larger.ensures.equal in
    let larger = AllBelow-with_one n c.args.base.now c.args.x (below c.lawful.ensures c.args.base.now c.requires.base) c.requires.below in
    let y = get_or c.as_slice-y-items.result.now c.loop-y.y-index 0 in
    subst (AllBelow n) (sym (c.in_ok-rest.ensures.members ∙ ap (λ s. without_one s y) set))
    (AllBelow-subset n (without_one (with_one c.args.base.now c.args.x) y) _ (without_one-IsSubset _ y) larger)

pub loop-y-preserved : goal.loop-y-preserved
loop-y-preserved g c =
    let p = g.Self.Matroid.indep c.args.self.now in
    let base = c.args.base.now in
    let x = c.args.x in
    let i = c.loop-y.y-index in
    let items = c.as_slice-y-items.ensures.items in
    let y = get_or c.as_slice-y-items.result.now i 0 in
    let set = c.in_ok-add.ensures.ok.1 ∙ ap (λ s. with_one s x) c.in_ok-larger.ensures.equal in
    let rest = c.in_ok-rest.ensures.members ∙ ap (λ s. without_one s y) set ∙ ap (λ s. without_one (with_one base x) (get_or s i 0)) items in
    let told = c.in_ok-independent.ensures ∙ ap p rest in
    let rises = rising c.lawful.ensures base c.requires.base in
    let inside = subst (λ s. i < length s) items c.loop-y-test.true in
    elim c.if-branch.branch [
      | then-branch+in_ok-add-2 w ↦ IsCollecting-found c.loop-y.invariant _ rises c.requires.outside inside (sym w.if-branch.true ∙ told)
          (w.with-is ∙ w.in_ok-add-2.ensures.ok.1 ∙ ap (λ s. with_one c.loop-y.with (get_or s i 0)) items)
      | else-branch w ↦ rw w.with-is (IsCollecting-passed c.loop-y.invariant rises c.requires.outside inside (sym w.if-branch.false ∙ told))
    ]

pub returns-clause-row : goal.returns-clause-row
returns-clause-row g c =
    let set = c.in_ok-add.ensures.ok.1 ∙ ap (λ s. with_one s c.args.x) c.in_ok-larger.ensures.equal in
    let rises = rising c.lawful.ensures c.args.base.now c.requires.base in
    row_outside (g.Self.Matroid.indep c.args.self.now) c.args.base.now c.args.x _ c.requires.outside
    (c.in_ok-addable.ensures ∙ ap (g.Self.Matroid.indep c.args.self.now) set)
    (IsCollecting-end c.loop-y.invariant rises (subst (λ s. length s ≤ c.loop-y.y-index) c.as_slice-y-items.ensures.items c.loop-y-test.false))
