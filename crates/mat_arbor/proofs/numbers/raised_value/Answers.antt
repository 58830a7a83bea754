use Rattle.mat_arbor.proofs.Common.{arith, ints}
use Rattle.mat_arbor.proofs.Values.{product_is}
use Rattle.mat_arbor.proofs.numbers.raised_value.Goals as goal

pub overflow_add-result-2 : goal.overflow_add-result-2
overflow_add-result-2 c =
    let u = c.args.unit in
    let most = c.requires.unit in
    let small = c.requires.cost in
    let product = product_is u c.args.cost.now.main (omega arith) small.0 in
    omega (arith, ints, product.0, product.1, product.2)

pub returns : goal.returns
returns c =
    let u = c.args.unit in
    let most = c.requires.unit in
    let small = c.requires.cost in
    let product = product_is u c.args.cost.now.main (omega arith) small.0 in
    omega (arith, ints, product.0, product.1, product.2)
