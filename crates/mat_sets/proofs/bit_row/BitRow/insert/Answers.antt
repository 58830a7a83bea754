use Rattle.mat_sets.proofs.Common.{◌<◌, ◌/◌, ◌∙◌, length, get_or, arith, ap, get_or_default, with_one}
use Rattle.mat_sets.proofs.Bits.{bits_of-put}
use Rattle.mat_sets.proofs.bit_row.BitRow.insert.Goals as goal

pub returns : goal.returns
returns c =
    let words = c.self.inside.words in
    let at = c.args.x / 64 in
    let word = get_or words at 0 in
    let l : at < length words = omega (arith, c.self.told, c.requires) in
    bits_of-put words c.args.x word l (get_or_default words at 0 word l) ∙ ap (λ s. with_one s c.args.x) c.self.view_is
