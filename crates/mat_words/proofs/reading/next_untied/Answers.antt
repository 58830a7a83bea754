use Rattle.mat_words.proofs.Common.{◌≡◌, arith, pos, ◌≤ℤ◌, ints, words_left}
use mir.Val.{to_z, of_z}
use mir.Syntax.{w128}
use Rattle.mat_words.proofs.WordReading.{untied_found}
use Rattle.mat_words.proofs.reading.next_untied.Goals as goal

pub returns : goal.returns
returns c =
    let low_kept : to_z w128 (of_z w128 c.args.low) ≡ c.args.low = grind (arith, ints, c.ranges.low) in
    let high_kept : to_z w128 (of_z w128 c.args.high) ≡ c.args.high = grind (arith, ints, c.ranges.high) in
    let read = rw (low_kept, high_kept) at c.in_ok-main.ensures in
    let main = c.in_ok-main.main in
    let kept : to_z w128 (of_z w128 main) ≡ main = grind (arith, ints, read.range, c.ranges.low, c.ranges.high) in
    let least : c.args.low ≤ℤ pos 0 = grind (arith, ints, low_kept, c.if-low-gt0.false) in
    let most : pos 0 ≤ℤ c.args.high = grind (arith, ints, high_kept, c.if-high-lt0.false) in
    rw kept (untied_found c.args.low c.args.high (words_left c.args.words) main (words_left c.in_ok-main.rest) least most read.value)
