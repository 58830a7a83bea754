-- The part that takes x gives parts of the set with x.
use Rattle.mat_any.proofs.Common.{◌≡◌, ◌<◌, true, length, map, [], subst, ap, ◌∙◌, IfSome, is_member, with_one, exchanges_with, parts_pass, test_in, union_in}
use Rattle.mat_union.proofs.AddedElements.{move_places}
use Rattle.mat_any.proofs.JoinedLaws.{each_lawful}
use Rattle.mat_any.proofs.rows.union_takes_at_once.Goals as goal

pub returns-in-Some : goal.returns-in-Some
returns-in-Some c =
    let ms = c.args.matroids.now in
    let parts = c.args.parts.now in
    let x = c.args.x in
    let laws = each_lawful ms c.requires.joined in
    let told = c.in_ok-part_that_takes.ensures in
    let placed = move_places laws c.requires.parts x c.in-Some.field-0 (ap (is_member x) c.requires.together ∙ c.requires.outside)
    (subst (λ f. IfSome f (λ q. q < length parts)) c.in-Some.is told.below)
    (subst (λ f. IfSome f (λ q. (exchanges_with (map test_in ms) parts q).adds x ≡ true)) c.in-Some.is told.takes) [] in
    λ _. rw c.requires.outside (subst (λ Y. union_in ms Y ≡ true) (placed.together ∙ ap (λ s. with_one s x) c.requires.together)
    (parts_pass (map test_in ms) laws _ placed.are))
