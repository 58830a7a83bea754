use Rattle.mat_any.proofs.Common.{◌≡◌, ◌<◌, true, length, map, subst, IfSome, exchanges_with, size_in, test_in}
use Rattle.mat_any.proofs.JoinedLaws.{each_lawful}
use Rattle.mat_any.proofs.rows.place_for.Goals as goal

pub returns-in-Some : goal.returns-in-Some
returns-in-Some c =
    let ms = c.args.matroids.now in
    let parts = c.args.parts.now in
    c.in_ok-move_into.ensures.placed (size_in ms) (map test_in ms) parts c.args.among.now (each_lawful ms c.requires.joined) c.requires.parts c.requires.fresh
    (subst (λ f. IfSome f (λ q. q < length parts)) c.in-Some.is c.in_ok-q.ensures.below)
    (subst (λ f. IfSome f (λ q. (exchanges_with (map test_in ms) parts q).adds c.args.x ≡ true)) c.in-Some.is c.in_ok-q.ensures.takes)
