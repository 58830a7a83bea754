use Rattle.mat_any.proofs.Common.{Option, ap, subst, ◌∙◌, IfSome, IfOk-weaker, IsUnited, tree_of}
use Rattle.mat_any.proofs.PartLists.{united_joined, united_test}
use Rattle.mat_any.proofs.any.AnyMatroidMatroid.independent.Goals as goal

pub independent-requires-clause-sound : goal.independent-requires-clause-sound
independent-requires-clause-sound c =
    let united = subst (λ (f : Option _). IfSome f (λ u. IsUnited (tree_of c.args.self.now) u.parts.items)) c.in-Some.is c.in_ok-union.ensures in
    united_joined united

pub returns-in-Some : goal.returns-in-Some
returns-in-Some c =
    let united = subst (λ (f : Option _). IfSome f (λ u. IsUnited (tree_of c.args.self.now) u.parts.items)) c.in-Some.is c.in_ok-union.ensures in
    IfOk-weaker c.independent.result _ _ (λ b told. told ∙ ap (λ p. p c.args.set.now) (united_test united)) c.independent.ensures
