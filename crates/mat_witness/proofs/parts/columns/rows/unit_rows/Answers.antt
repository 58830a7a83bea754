use Rattle.mat_witness.proofs.Common.{◌*◌, ◌%◌, ◌^◌, ◌∙◌, ◌++◌, ◌∷◌, [], ap, sym, map, arith, all_below, map-all_below_none, map-all_below_more}
use Rattle.mat_witness.proofs.RowSteps.{one_shifted}
use Rattle.mat_witness.proofs.parts.columns.rows.unit_rows.Goals as goal

pub loop-place-init : goal.loop-place-init
loop-place-init c = c.new-rows.ensures.items ∙ sym (map-all_below_none (λ place. 2 ^ place))

pub loop-place-preserved : goal.loop-place-preserved
loop-place-preserved c =
    let place = c.loop-place.place in
    let below = c.loop-place-test.true in
    let few = c.requires in
    c.in_ok-push.ensures.items ∙ ap (λ rows. rows ++ (1 * 2 ^ place) % 2 ^ 128 ∷ []) c.loop-place.invariant
    ∙ ap (λ row. map (λ place. 2 ^ place) (all_below place) ++ row ∷ []) (one_shifted place (omega arith))
    ∙ sym (map-all_below_more (λ place. 2 ^ place) place)
