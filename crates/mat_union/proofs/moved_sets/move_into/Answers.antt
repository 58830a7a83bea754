use Rattle.mat_union.proofs.Common.{List, [], ◌∷◌, ◌++◌, sym, ap, subst, ◌∙◌, all_moved, ArePlaced, Move}
use Rattle.mat_union.proofs.AddedElements.{move_places}
use Rattle.mat_union.proofs.moved_sets.move_into.Goals as goal

pub returns-clause-placed : goal.returns-clause-placed
returns-clause-placed c = λ n tests parts among laws are fresh l adds.
    subst (λ moves. ArePlaced tests parts among c.args.x (all_moved parts moves))
    (sym (c.in_ok-push.ensures.items ∙ ap (λ (moves : List Move). moves ++ record { element = c.args.x; part = c.args.q } ∷ []) c.new-moves.ensures.items))
    (move_places laws are c.args.x c.args.q fresh l adds among)
