use Rattle.mat_union.proofs.PlacedElements.{moves_told, told_place, told_stuck}
use Rattle.mat_union.proofs.ended.found_place.Goals as goal

pub returns-in-Some : goal.returns-in-Some
returns-in-Some c = λ n tests among x e.
    told_place e.are e.reaching c.in_ok-moves.field-0 (moves_told e c.as_slice.result.now c.as_slice.ensures.items c.in_ok-moves.field-0 c.in_ok-moves.ensures)
    c.in-Some.moves c.in-Some.is

pub returns-in-None : goal.returns-in-None
returns-in-None c = λ n tests among x e.
    told_stuck e.are e.reaching c.in_ok-moves.field-0 (moves_told e c.as_slice.result.now c.as_slice.ensures.items c.in_ok-moves.field-0 c.in_ok-moves.ensures)
    c.in-None.is e.end
