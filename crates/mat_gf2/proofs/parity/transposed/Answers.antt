use Rattle.mat_gf2.proofs.Common.{◌∙◌, ap, sym, one_shl, inner_product_is_one}
use Rattle.std.specs.Int.Bits.{bit_xor}
use Rattle.mat_gf2.proofs.ParityChecks.{positive_from_product, transposed-passed, transposed-failed}
use Rattle.mat_gf2.proofs.parity.transposed.Goals as goal

pub returns-then-not-inner_product_is_one : goal.returns-then-not-inner_product_is_one
returns-then-not-inner_product_is_one c =
    transposed-passed c.args.check c.args.row (sym c.inner_product_is_one.ensures ∙ c.if-not-inner_product_is_one.true)

pub ilog2-place-requires : goal.ilog2-place-requires
ilog2-place-requires c =
    positive_from_product c.args.check c.args.row (sym c.inner_product_is_one.ensures ∙ c.if-not-inner_product_is_one.false)

pub returns : goal.returns
returns c = λ v.
    let place = c.ilog2-place.result in
    let powers = c.ilog2-place.ensures in
    ap (λ bit. inner_product_is_one (bit_xor c.args.check bit) v) (one_shl place 128 powers.bound)
    ∙ transposed-failed c.args.check c.args.row place powers.power_le powers.next_power_gt
    (sym c.inner_product_is_one.ensures ∙ c.if-not-inner_product_is_one.false) v
