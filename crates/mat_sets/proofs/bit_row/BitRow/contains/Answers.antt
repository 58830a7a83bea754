use Rattle.mat_sets.proofs.Common.{◌<◌, ◌/◌, length, get_or, arith, sym, ◌∙◌, le-ltb, get_or_default}
use Rattle.mat_sets.proofs.Bits.{missing_past, read_bit}
use Rattle.mat_sets.proofs.bit_row.BitRow.contains.Goals as goal

pub returns-then-at-lt8 : goal.returns-then-at-lt8
returns-then-at-lt8 c =
    let words = c.self.inside.words in
    let at = c.args.x / 64 in
    let word = get_or words at 0 in
    let l : at < length words = omega (arith, c.self.told, c.if-at-lt8.true) in
    rw (sym c.self.view_is) (read_bit words c.args.x word l (get_or_default words at 0 word l))

pub returns-else-at-lt8 : goal.returns-else-at-lt8
returns-else-at-lt8 c =
    rw (sym c.self.view_is) (le-ltb _ _ c.if-at-lt8.false ∙ missing_past c.self.inside.words c.args.x (omega (arith, c.self.told, c.if-at-lt8.false)))
