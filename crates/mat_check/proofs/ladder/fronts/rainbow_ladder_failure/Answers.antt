use Rattle.mat_check.proofs.Common.{◌∙◌, ℕ, List, ap, get_or, length, subst, sym, IfOk-weaker, ends_of, CappedClasses, is_graphic, Graphic, is_once, IsRangedLadder, first_failure, test_of}
use Rattle.mat_check.proofs.SameLadders.{same_ladder}
use Rattle.mat_check.proofs.ladder.fronts.rainbow_ladder_failure.Goals as goal

pub owned_ladder_failure-requires-clause-first_lengths : goal.owned_ladder_failure-requires-clause-first_lengths
owned_ladder_failure-requires-clause-first_lengths g c =
    let edges = ap (λ (m : Graphic). m.edges) c.in_ok-new.ensures.value ∙ c.in_ok-copy.ensures in
    c.requires.lengths ∙ sym (ap length edges)

pub owned_ladder_failure-requires-clause-second_lengths : goal.owned_ladder_failure-requires-clause-second_lengths
owned_ladder_failure-requires-clause-second_lengths g c =
    c.requires.lengths ∙ sym c.requires.long ∙ sym (ap (λ (m : CappedClasses). m.count) c.in_ok-one_for_each_label.ensures.value)

pub owned_ladder_failure-requires-clause-ranged : goal.owned_ladder_failure-requires-clause-ranged
owned_ladder_failure-requires-clause-ranged g c =
    subst (λ n. IsRangedLadder n c.args.rungs.now c.args.cut.now) (sym c.requires.lengths) c.requires.ranged

pub returns : goal.returns
returns g c =
    let es = c.args.edges.now in
    let n = length es in
    let colour = λ (e : ℕ). get_or c.args.colour_of.now e 0 in
    let edges = ap (λ (m : Graphic). m.edges) c.in_ok-new.ensures.value ∙ c.in_ok-copy.ensures in
    let same = same_ladder (length c.args.weights.now) n (is_graphic (length c.in_ok-new.field-0.edges) (ends_of c.in_ok-new.field-0.edges))
    (test_of c.in_ok-one_for_each_label.field-0) (is_graphic n (ends_of es)) (is_once n c.args.colours colour)
    c.args.weights.now c.args.rungs.now c.args.cut.now c.requires.lengths (ap (λ (xs : List (ℕ × ℕ)). is_graphic (length xs) (ends_of xs)) edges)
    (ap test_of c.in_ok-one_for_each_label.ensures.value ∙ ap (λ (m : ℕ). is_once m c.args.colours colour) c.requires.long) in
    IfOk-weaker c.owned_ladder_failure.result _ _ (λ found h. h ∙ ap first_failure same) c.owned_ladder_failure.ensures
