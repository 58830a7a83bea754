use Rattle.mat_any.proofs.Common.{Option, ap, subst, ◌∙◌, IfSome, IsUnited, tree_of}
use Rattle.mat_any.proofs.PartLists.{united_joined, united_kept, united_test}
use Rattle.mat_any.proofs.any.AnyMatroidMatroid.keep.Goals as goal

pub keep-requires-clause-sound : goal.keep-requires-clause-sound
keep-requires-clause-sound c =
    let united = subst (λ (f : Option _). IfSome f (λ u. IsUnited (tree_of c.args.self.now) u.parts.items)) c.in-Some.is c.in_ok-union.ensures in
    united_joined united

pub keep-requires-clause-base : goal.keep-requires-clause-base
keep-requires-clause-base c =
    let united = subst (λ (f : Option _). IfSome f (λ u. IsUnited (tree_of c.args.self.now) u.parts.items)) c.in-Some.is c.in_ok-union.ensures in
    ap (λ p. p c.args.base.now) (united_test united) ∙ c.requires.base

pub returns-in_ok-keep-in-Some : goal.returns-in_ok-keep-in-Some
returns-in_ok-keep-in-Some c =
    let united = subst (λ (f : Option _). IfSome f (λ u. IsUnited (tree_of c.args.self.now) u.parts.items)) c.in-Some.is c.in_ok-union.ensures in
    let held = c.in_ok-keep-in-Some.field-0 in
    (united.flat, united_kept united c.args.base.now held.parts held.kept.items c.in_ok-keep-in-Some.ensures.1)
