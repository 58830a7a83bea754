-- The numbers so far tell their members; one that does not fails the whole.
use Rattle.mat_witness.proofs.Common.{◌≡◌, true, eqb, length, get_or, sym, ◌∙◌, arith, and_from, and_right, eq-eqb, column_of}
use Rattle.mat_witness.proofs.PassingLists.{below_next, fails_below, passes_below}
use Rattle.mat_witness.proofs.TellingRows.{tells_member, tells_member-read}
use Rattle.mat_witness.proofs.parts.columns.probes.shows_probes.Goals as goal

pub returns-then-not-tells_member : goal.returns-then-not-tells_member
returns-then-not-tells_member c =
    let columns = c.args.matroid.now.columns in
    let numbers = c.args.numbers.now in
    let set = c.args.set.now in
    let i = c.loop-i.i in
    let within = c.loop-i-test.true in
    let alike = c.if-numbers-len.false in
    let count = c.len.ensures.count in
    let read = tells_member-read columns c.columns.result.now set c.as_slice.result.now (get_or numbers i 0) i c.columns.ensures c.as_slice.ensures.items in
    sym (and_right (eqb (length numbers) (length set)) _
    (fails_below (length set) (λ i. tells_member (column_of columns) set (get_or numbers i 0) i) i (omega arith)
    (sym read ∙ sym c.tells_member.ensures ∙ c.if-not-tells_member.true)))

pub loop-i-preserved : goal.loop-i-preserved
loop-i-preserved c =
    let columns = c.args.matroid.now.columns in
    let numbers = c.args.numbers.now in
    let set = c.args.set.now in
    let i = c.loop-i.i in
    let read = tells_member-read columns c.columns.result.now set c.as_slice.result.now (get_or numbers i 0) i c.columns.ensures c.as_slice.ensures.items in
    below_next (λ i. tells_member (column_of columns) set (get_or numbers i 0) i ≡ true) i c.loop-i.invariant
    (sym read ∙ sym c.tells_member.ensures ∙ c.if-not-tells_member.false)

pub returns : goal.returns
returns c =
    let columns = c.args.matroid.now.columns in
    let numbers = c.args.numbers.now in
    let set = c.args.set.now in
    let over = c.loop-i-test.false in
    let alike = c.if-numbers-len.false in
    let count = c.len.ensures.count in
    sym (and_from (eqb (length numbers) (length set)) _ (eq-eqb (length numbers) (length set) (omega arith))
    (passes_below (length set) (λ i. tells_member (column_of columns) set (get_or numbers i 0) i) (λ i l. c.loop-i.invariant i (omega arith))))
