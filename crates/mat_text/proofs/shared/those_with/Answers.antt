use Rattle.std.proofs.Common.{◌≡◌, ◌∙◌, ℕ, [], get_or, ap, sym}
use Rattle.mat_sets.specs.Sets.{with_one}
use Rattle.mat_sets.proofs.Rounds.{those_below-put, those_below-skip}
use Rattle.mat_words.specs.NameLists.{names_of}
use Rattle.mat_text.specs.Shared.{has_part}
use Rattle.mat_text.proofs.shared.those_with.Goals as goal
use Rattle.mat_text.proofs.shared.those_with.Goals.{then-has_part+in_ok-add, else-has_part}

pub loop-e-preserved : goal.loop-e-preserved
loop-e-preserved c =
    let test = λ (e : ℕ). has_part c.args.side c.args.part.now (get_or (names_of c.args.names.now) e []) in
    let here : test c.loop-e.e ≡ c.has_part.result =
    ap (has_part c.args.side c.args.part.now) (sym c.get.ensures.value) ∙ sym c.has_part.ensures in
    elim c.if-has_part.branch [
      | then-has_part+in_ok-add w ↦ w.set-is ∙ w.in_ok-add.ensures.ok.1 ∙ ap (λ s. with_one s c.loop-e.e) c.loop-e.invariant
          ∙ those_below-put c.loop-e.e test (here ∙ w.if-has_part.true)
      | else-has_part w ↦ w.set-is ∙ c.loop-e.invariant ∙ those_below-skip c.loop-e.e test (here ∙ w.if-has_part.false)
    ]
