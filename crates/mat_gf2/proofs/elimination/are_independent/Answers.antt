-- The columns from the last member on are reduced to a basis; a column of which nothing is left is a sum of later ones.
use Rattle.mat_gf2.proofs.Common.{◌≡◌, ◌∙◌, ◌-◌, sym, ap, subst, drop, [], arith, IsLinearlyIndependent, column_of, reduced_by, test_from-IsLinearlyIndependent}
use Rattle.mat_gf2.proofs.Eliminating.{IsEliminating, IsEliminating-start, IsEliminating-more, drop_length, drop_before, below_before, dependent_from}
use Rattle.mat_gf2.proofs.elimination.are_independent.Goals as goal

pub loop-place-init : goal.loop-place-init
loop-place-init c =
    let column = column_of c.args.columns.now in
    subst (λ Y. IsEliminating column Y c.new-basis.result.items) (sym (drop_length c.args.set.now _ c.len-place.ensures.count))
    (subst (IsEliminating column []) (sym c.new-basis.ensures.items) (IsEliminating-start column))

pub bounds-columns-get : goal.bounds-columns-get
bounds-columns-get c =
    below_before _ c.args.set.now _ c.loop-place.place c.get.result c.requires c.len-place.ensures.count
    c.loop-place-test.true c.loop-place.auto.place c.get.ensures.item

pub returns-then-left-eq0-clause-answer : goal.returns-then-left-eq0-clause-answer
returns-then-left-eq0-clause-answer c =
    let column = column_of c.args.columns.now in
    let X = c.args.set.now in
    let e = c.get.result in
    let before = drop_before X _ c.loop-place.place e c.len-place.ensures.count c.loop-place-test.true c.loop-place.auto.place c.get.ensures.item in
    let told = c.reduce-left.ensures ∙ ap (λ basis. reduced_by basis (column e)) c.deref.ensures.value in
    sym (dependent_from column (drop c.loop-place.place X) c.loop-place.basis.items e c.reduce-left.result told c.loop-place.invariant
    X (c.loop-place.place - 1) c.get.ensures.rises before c.if-left-eq0.true)

pub loop-place-preserved : goal.loop-place-preserved
loop-place-preserved c =
    let column = column_of c.args.columns.now in
    let X = c.args.set.now in
    let e = c.get.result in
    let before = drop_before X _ c.loop-place.place e c.len-place.ensures.count c.loop-place-test.true c.loop-place.auto.place c.get.ensures.item in
    let told = c.reduce-left.ensures ∙ ap (λ basis. reduced_by basis (column e)) c.deref.ensures.value in
    subst (λ Y. IsEliminating column Y c.push.new.self.items) (sym before)
    (subst (IsEliminating column _) (sym c.in_ok-push.ensures.items)
    (IsEliminating-more column (drop c.loop-place.place X) c.loop-place.basis.items e c.reduce-left.result told
    c.loop-place.invariant c.if-left-eq0.false))

pub returns-clause-answer : goal.returns-clause-answer
returns-clause-answer c =
    let column = column_of c.args.columns.now in
    let X = c.args.set.now in
    let start : c.loop-place.place ≡ 0 = (let done = c.loop-place-test.false in omega arith) in
    sym (test_from-IsLinearlyIndependent column X c.len-place.ensures.rises
    (subst (λ k. IsLinearlyIndependent column (drop k X)) start c.loop-place.invariant.independent))
