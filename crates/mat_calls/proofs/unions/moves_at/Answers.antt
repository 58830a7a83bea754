use Rattle.std.proofs.Common.{◌∙◌}
use Rattle.mat_calls.proofs.TwoParts.{two_parts}
use Rattle.mat_calls.proofs.unions.moves_at.Goals as goal

pub union_search-requires-clause-movable : goal.union_search-requires-clause-movable
union_search-requires-clause-movable c =
    let first = c.in_ok-rows_at.ensures in
    let second = c.in_ok-rows_at-2.ensures in
    let given = c.requires in
    let movable = two_parts 3 _ _ _ _ first.long second.long given.first given.second given.apart first.inside second.inside in
    rw (c.as_slice.ensures.value ∙ c.in_ok-rows.ensures.items, first.long, c.new-parts.ensures.items ∙ c.in_ok-vec.ensures.items, c.in_ok-within.ensures.members) movable
