use Rattle.mat_words.proofs.Common.{◌≡◌, ◌∙◌, ◌∷◌, arith, ap, ℕ, List, ◌≤ℤ◌, ints, parts_left, numeral, number_at}
use mir.Val.{to_z, of_z}
use mir.Syntax.{w128}
use Rattle.mat_words.proofs.WordReading.{number_at_again}
use Rattle.mat_words.proofs.reading.next_short.Goals as goal

pub returns-clause-value : goal.returns-clause-value
returns-clause-value c =
    let number = c.in_ok-number.number in
    let kept : to_z w128 (of_z w128 number) ≡ number = grind (arith, ints, c.in_ok-number.ensures.short) in
    let low_kept : to_z w128 (of_z w128 c.args.low) ≡ c.args.low = grind (arith, ints, c.ranges.low) in
    let high_kept : to_z w128 (of_z w128 c.args.high) ≡ c.args.high = grind (arith, ints, c.ranges.high) in
    let not_below = rw (kept, low_kept) at c.if-number-low.false in
    let not_above = rw (kept, high_kept) at c.if-high-number.false in
    let least : c.args.low ≤ℤ number = grind (arith, ints, not_below) in
    let most : number ≤ℤ c.args.high = grind (arith, ints, not_above) in
    let cut : parts_left c.args.words.left ≡ numeral number ∷ parts_left c.in_ok-number.left =
    ap parts_left c.in_ok-words.was ∙ c.in_ok-number.ensures.word in
    rw kept (ap (λ (words : List (List ℕ)). number_at c.args.low c.args.high (record { line = c.args.words.line; words = words })) cut
    ∙ number_at_again c.args.low c.args.high c.args.words.line number (parts_left c.in_ok-number.left) least most)
