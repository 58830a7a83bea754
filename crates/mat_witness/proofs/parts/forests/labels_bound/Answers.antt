use Rattle.mat_witness.proofs.Common.{◌≡◌, ℕ, ◌≤◌, List, [], length, ap, arith, union, length-items}
use Rattle.mat_witness.proofs.parts.forests.labels_bound.Goals as goal

-- the different labels are at most as many as all
few : (numbers : List ℕ) {different : List ℕ} {count : ℕ} → different ≡ union numbers [] → count ≡ length different → count ≤ length numbers
few numbers {different} {count} is counted = omega (arith, length-items numbers, ap length is)

pub overflow_cast-result : goal.overflow_cast-result
overflow_cast-result c =
    let least = few c.args.numbers.now c.in_ok-different.ensures.members c.len.ensures.count in
    omega (arith, least, c.requires.long, c.vertices.ensures, c.vertices.type_inv)

pub overflow_sub-result : goal.overflow_sub-result
overflow_sub-result c =
    let least = few c.args.numbers.now c.in_ok-different.ensures.members c.len.ensures.count in
    omega (arith, least, c.requires.long, c.vertices.ensures)
