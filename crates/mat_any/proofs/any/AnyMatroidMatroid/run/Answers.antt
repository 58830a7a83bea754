use Rattle.mat_any.proofs.Common.{Option, ap, subst, ◌∙◌, [], IfSome, IfOk-weaker, grown_along, IsUnited, tree_of}
use Rattle.mat_any.proofs.PartLists.{united_joined, united_test}
use Rattle.mat_any.proofs.any.AnyMatroidMatroid.run.Goals as goal

pub run-requires-clause-sound : goal.run-requires-clause-sound
run-requires-clause-sound c =
    let united = subst (λ (f : Option _). IfSome f (λ u. IsUnited (tree_of c.args.self.now) u.parts.items)) c.in-Some.is c.in_ok-union.ensures in
    united_joined united

pub returns-in-Some : goal.returns-in-Some
returns-in-Some c =
    let united = subst (λ (f : Option _). IfSome f (λ u. IsUnited (tree_of c.args.self.now) u.parts.items)) c.in-Some.is c.in_ok-union.ensures in
    IfOk-weaker c.run.result _ _ (λ s told. told ∙ ap (λ p. grown_along p [] c.args.order.now) (united_test united)) c.run.ensures
