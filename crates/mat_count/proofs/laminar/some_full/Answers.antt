-- None of the sets at the places so far is full; the first full one answers the question.
use Rattle.mat_count.proofs.Common.{◌≡◌, true, false, not, eqb, refl, sym, ap, ◌∙◌, length, get_or, and_from, both_ways, eqb-true, false_from_ne_true, le-leb, lt-leb, take_all, is_member, no_member, filter-passed, is_member-filter, is_member-get_or, AllBelow-at, is_full}
use Rattle.std.specs.List.{filter}
use Rattle.mat_count.proofs.laminar.some_full.Goals as goal

pub bounds-numbers-i : goal.bounds-numbers-i
bounds-numbers-i c =
    let items = c.as_slice-i-items.ensures.items in
    let inside = rw items at c.loop-i-test.true in
    rw items (AllBelow-at (length c.args.numbers.now) c.args.places.now c.loop-i.i-index c.requires.inside inside)

pub bounds-caps-i : goal.bounds-caps-i
bounds-caps-i c =
    let items = c.as_slice-i-items.ensures.items in
    let inside = rw items at c.loop-i-test.true in
    let capped = c.requires.capped in
    rw (capped, items) (AllBelow-at (length c.args.numbers.now) c.args.places.now c.loop-i.i-index c.requires.inside inside)

pub returns-then-numbers-i : goal.returns-then-numbers-i
returns-then-numbers-i c =
    let places = c.args.places.now in
    let i = c.loop-i.i-index in
    let x = get_or places i 0 in
    let test = is_full c.args.caps.now c.args.numbers.now in
    let items = c.as_slice-i-items.ensures.items in
    let inside = rw items at c.loop-i-test.true in
    let passes : test x ≡ true = rw items at (le-leb _ _ c.if-numbers-i.true) in
    let full = filter test places in
    let listed : is_member x full ≡ true =
    is_member-filter test x places ∙ and_from (is_member x places) (test x) (is_member-get_or places i x inside refl) passes in
    let some : eqb (length full) 0 ≡ false =
    false_from_ne_true _ (λ none. both_ways (is_member x full) (no_member full x (eqb-true (length full) 0 none)) listed) in
    sym (ap not some)

pub loop-i-preserved : goal.loop-i-preserved
loop-i-preserved c =
    let places = c.args.places.now in
    let i = c.loop-i.i-index in
    let test = is_full c.args.caps.now c.args.numbers.now in
    let items = c.as_slice-i-items.ensures.items in
    let inside = rw items at c.loop-i-test.true in
    let fails : test (get_or places i 0) ≡ false = rw items at (lt-leb _ _ c.if-numbers-i.false) in
    c.loop-i.invariant ∙ filter-passed test places i inside fails

pub returns : goal.returns
returns c =
    let test = is_full c.args.caps.now c.args.numbers.now in
    let past = rw c.as_slice-i-items.ensures.items at c.loop-i-test.false in
    ap (λ s. not (eqb (length s) 0)) (c.loop-i.invariant ∙ ap (filter test) (take_all c.loop-i.i-index c.args.places.now past))
