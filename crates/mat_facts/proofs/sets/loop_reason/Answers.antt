use Rattle.mat_facts.proofs.Common.{◌≡◌, ◌∙◌, ℕ, List, [], ◌∷◌, ◌++◌, ap, refl, with_one, Fact, allowed, at_most}
use Rattle.mat_facts.specs.Views.{facts_of}
use Rattle.mat_facts.proofs.sets.loop_reason.Goals as goal

alone : (x : ℕ) → with_one [] x ≡ x ∷ []
unfolding with_one
alone x = refl

pub returns : goal.returns
returns c =
    let one = c.in_ok-add.ensures.ok.1 ∙ ap (λ X. with_one X c.args.loop_at) c.new-elements.ensures.members ∙ alone c.args.loop_at in
    c.in_ok-put-2.ensures ∙ ap (λ (xs : List Fact). xs ++ at_most 0 c.add.new.self 0 ∷ [])
    (c.in_ok-put.ensures ∙ ap (λ xs. facts_of xs ++ allowed ∷ []) c.new-facts.ensures.items) ∙ ap (λ X. allowed ∷ at_most 0 X 0 ∷ []) one
