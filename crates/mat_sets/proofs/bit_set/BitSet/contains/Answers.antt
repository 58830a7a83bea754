use Rattle.mat_sets.proofs.Common.{arith, sym, ◌∙◌, le-ltb}
use Rattle.mat_sets.proofs.Bits.{missing_past, read_bit}
use Rattle.mat_sets.proofs.bit_set.BitSet.contains.Goals as goal

pub returns-then-at-len : goal.returns-then-at-len
returns-then-at-len c = rw (sym c.self.view_is) (read_bit c.self.inside.words.items c.args.x c.index.result.now (omega arith) c.index.ensures)

pub returns-else-at-len : goal.returns-else-at-len
returns-else-at-len c = rw (sym c.self.view_is) (le-ltb _ _ c.if-at-len.false ∙ missing_past c.self.inside.words.items c.args.x (omega arith))
