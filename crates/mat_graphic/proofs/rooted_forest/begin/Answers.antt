use Rattle.mat_graphic.proofs.Common.{◌≡◌, ◌<◌, ℕ, length, get_or, None, ap, arith, rules}
use Rattle.std.proofs.lemmas.Grind.{common_steps}
use Rattle.mat_graphic.proofs.TrailScans.{IsExploring-none}
use Rattle.mat_graphic.proofs.rooted_forest.begin.Goals as goal

pub returns-clause-exploring : goal.returns-clause-exploring
returns-clause-exploring c = λ firsts seconds set.
    let place = c.in_ok-place.place.items in
    let long : length place ≡ c.args.vertices = search rules in
    let none : (v : ℕ) → v < length place → get_or place v None ≡ None = λ v l. grind (arith, common_steps) in
    IsExploring-none firsts seconds set c.args.vertices _ _ _ _ _ long none (ap length c.in_ok-order.ensures.items) c.in_ok-order.ensures.items
    c.in_ok-through.ensures.items c.in_ok-before.ensures.items
