-- Each word adds its element to the set; a fault of a word, or an element that is taken already, is the fault of the line.
use Rattle.mat_desc.proofs.Common.{◌≡◌, ◌∙◌, sym, [], err_from_is_err_and, not-true, not-false, parts_left, words_left, elements_at, naming, some_left, none_left}
use Rattle.mat_desc.proofs.ElementLists.{elements_go_on, elements_repeat, elements_fail, elements_done}
use Rattle.mat_desc.proofs.read.lines.elements_line.Goals as goal

pub returns-in_err-element : goal.returns-in_err-element
returns-in_err-element c =
    let p = err_from_is_err_and c.from_residual.result c.from_residual.ensures.1 in
    let names = naming c.args.names in
    rw (p.1, p.2) (elements_fail names c.args.count c.loop-rest.rest.line c.loop-rest.taken c.loop-rest.set (parts_left c.loop-rest.rest.left)
    c.in_err-element.field-0.0 (elements_at names c.args.count c.args.taken.now (words_left c.args.words))
    (some_left c.loop-rest.rest.left (sym c.is_some.ensures ∙ c.loop-rest-test.true)) c.in_err-element.ensures c.loop-rest.invariant)

pub returns-then-not-branch : goal.returns-then-not-branch
returns-then-not-branch c =
    let names = naming c.args.names in
    rw c.fault.ensures
    (elements_repeat names c.args.count c.loop-rest.rest.line c.loop-rest.taken c.loop-rest.set (parts_left c.loop-rest.rest.left)
    c.in_ok-element.element (words_left c.in_ok-element.after) (elements_at names c.args.count c.args.taken.now (words_left c.args.words))
    c.in_ok-element.ensures (not-false _ (sym c.in_ok-add.ensures.ok.0 ∙ c.if-not-branch.true)) c.loop-rest.invariant)

pub loop-rest-smaller : goal.loop-rest-smaller
loop-rest-smaller c =
    let names = naming c.args.names in
    (elements_go_on names c.args.count c.loop-rest.rest.line c.loop-rest.taken c.loop-rest.set (parts_left c.loop-rest.rest.left)
    c.in_ok-element.element (words_left c.in_ok-element.after) (elements_at names c.args.count c.args.taken.now (words_left c.args.words))
    c.in_ok-element.ensures (not-true _ (sym c.in_ok-add.ensures.ok.0 ∙ c.if-not-branch.false)) c.loop-rest.invariant).shorter

pub loop-rest-preserved : goal.loop-rest-preserved
loop-rest-preserved c =
    let names = naming c.args.names in
    rw (c.in_ok-add.ensures.ok.1, c.in_ok-add-2.ensures.ok.1)
    (elements_go_on names c.args.count c.loop-rest.rest.line c.loop-rest.taken c.loop-rest.set (parts_left c.loop-rest.rest.left)
    c.in_ok-element.element (words_left c.in_ok-element.after) (elements_at names c.args.count c.args.taken.now (words_left c.args.words))
    c.in_ok-element.ensures (not-true _ (sym c.in_ok-add.ensures.ok.0 ∙ c.if-not-branch.false)) c.loop-rest.invariant).reads

pub returns : goal.returns
returns c =
    let names = naming c.args.names in
    let none : parts_left c.loop-rest.rest.left ≡ [] = none_left c.loop-rest.rest.left (sym c.is_some.ensures ∙ c.loop-rest-test.false) in
    elements_done names c.args.count c.loop-rest.rest.line c.loop-rest.taken c.loop-rest.set
    (elements_at names c.args.count c.args.taken.now (words_left c.args.words)) (rw none at c.loop-rest.invariant)
