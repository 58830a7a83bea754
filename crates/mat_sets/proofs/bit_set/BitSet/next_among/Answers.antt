use Rattle.mat_sets.proofs.Common.{arith, bit_and, get_or, sym, get_or_read, and_le_r}
use Rattle.mat_sets.proofs.BitScan.{scan_end, scan_found, scan_more, scan_start}
use Rattle.mat_sets.proofs.bit_set.BitSet.next_among.Goals as goal

pub loop-at-init : goal.loop-at-init
loop-at-init c = scan_start c.args.words.now c.self.inside.words.items c.args.from

pub returns-then-common-ne0 : goal.returns-then-common-ne0
returns-then-common-ne0 c =
    let word = get_or c.args.words.now c.loop-at.at 0 in
    let q = get_or_read c.self.inside.words.items c.loop-at.at c.index.result.now (omega arith) c.index.ensures 0 in
    rw (sym c.self.view_is)
    (scan_found c.args.words.now c.self.inside.words.items c.args.from c.loop-at.at c.loop-at.mask _ c.loop-at.invariant
    (rw q) (omega arith) (omega (arith, and_le_r (bit_and word c.index.result.now) c.loop-at.mask)))

pub loop-at-preserved : goal.loop-at-preserved
loop-at-preserved c =
    let q = get_or_read c.self.inside.words.items c.loop-at.at c.index.result.now (omega arith) c.index.ensures 0 in
    scan_more _ _ _ _ c.loop-at.mask c.loop-at.invariant (omega arith) (rw (sym q) c.if-common-ne0.false)

pub returns : goal.returns
returns c = rw (sym c.self.view_is) (scan_end c.args.words.now c.self.inside.words.items _ _ _ c.loop-at.invariant
    (omega arith))
