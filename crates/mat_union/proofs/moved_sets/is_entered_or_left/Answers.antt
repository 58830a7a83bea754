use Rattle.mat_union.proofs.Common.{◌||◌, ◌==◌, length, sym, ◌∙◌, is_member, some_below_from, some_below-next, some_below-zero, element_at, place_at}
use Rattle.mat_union.proofs.moved_sets.is_entered_or_left.Goals as goal

pub loop-i-init : goal.loop-i-init
loop-i-init c = some_below-zero (λ k. place_at c.args.moves.now k == c.args.q || is_member (element_at c.args.moves.now k) c.args.part.now)

pub returns-then-is_changed_by : goal.returns-then-is_changed_by
returns-then-is_changed_by c =
    sym (some_below_from (length c.args.moves.now) c.loop-i.i (λ k. place_at c.args.moves.now k == c.args.q || is_member (element_at c.args.moves.now k) c.args.part.now)
    c.loop-i-test.true (sym c.is_changed_by.ensures ∙ c.if-is_changed_by.true))

pub loop-i-preserved : goal.loop-i-preserved
loop-i-preserved c =
    some_below-next c.loop-i.i (λ k. place_at c.args.moves.now k == c.args.q || is_member (element_at c.args.moves.now k) c.args.part.now)
    (sym c.is_changed_by.ensures ∙ c.if-is_changed_by.false) c.loop-i.invariant
