use Rattle.mat_count.proofs.Common.{arith, length, AllBelow-at}
use Rattle.mat_count.proofs.PlaceTables.{number-before}
use Rattle.mat_count.proofs.laminar.count_at.Goals as goal

pub overflow_add-numbers : goal.overflow_add-numbers
overflow_add-numbers c =
    let before = c.args.numbers.now in
    let places = c.args.places.now in
    let small = AllBelow-at (length before) places c.loop-k.k c.requires.inside (omega arith) in
    let same = number-before before places c.loop-k.numbers c.loop-k.k c.get.result c.get.ensures.rises
    (omega arith) c.get.ensures.item c.requires.inside c.loop-k.invariant in
    let room = c.requires.room c.get.result (omega (arith, c.get.ensures.item)) in
    omega arith
