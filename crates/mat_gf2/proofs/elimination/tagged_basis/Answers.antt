use Rattle.mat_gf2.proofs.Common.{◌∙◌, ◌-◌, ◌*◌, ◌^◌, ◌%◌, ◌<◌, sym, ap, subst, refl, drop, [], length, arith, TaggedColumn, column_of, reduced_tagged_by, IsTaggedBasis}
use Rattle.mat_gf2.proofs.Eliminating.{drop_length, drop_before, below_before}
use Rattle.mat_gf2.proofs.Tags.{IsTaggedBasis-start, IsTaggedBasis-more, marked-one_bit}
use Rattle.mat_gf2.proofs.elimination.tagged_basis.Goals as goal

pub loop-place-init : goal.loop-place-init
loop-place-init c =
    let column = column_of c.args.columns.now in
    let X = c.args.set.now in
    subst (λ Y. IsTaggedBasis column X Y c.new-basis.result.items) (sym (drop_length X _ c.len-place.ensures.count))
    (subst (IsTaggedBasis column X []) (sym c.new-basis.ensures.items) (IsTaggedBasis-start column X))

pub bounds-columns-get : goal.bounds-columns-get
bounds-columns-get c =
    below_before _ c.args.set.now _ c.loop-place.place c.get.result c.requires.below c.len-place.ensures.count
    c.loop-place-test.true c.loop-place.auto.place c.get.ensures.item

pub loop-place-preserved : goal.loop-place-preserved
loop-place-preserved c =
    let column = column_of c.args.columns.now in
    let X = c.args.set.now in
    let e = c.get.result in
    let place = c.loop-place.place - 1 in
    let before = drop_before X _ c.loop-place.place e c.len-place.ensures.count c.loop-place-test.true c.loop-place.auto.place c.get.ensures.item in
    let inside : place < length X =
    (let some = c.loop-place-test.true in let most = c.loop-place.auto.place in let count = c.len-place.ensures.count in omega arith) in
    let new : TaggedColumn = record { column = column e; tag = 1 * 2 ^ place % 2 ^ 128 } in
    subst (λ Y. IsTaggedBasis column X Y c.push.new.self.items) (sym before)
    (subst (IsTaggedBasis column X _) (sym c.in_ok-push.ensures.items)
    (IsTaggedBasis-more column X (drop c.loop-place.place X) e c.loop-place.basis.items new c.reduce_tagged-left.result refl
    (marked-one_bit column X place e inside c.requires.few c.get.ensures.item)
    (c.reduce_tagged-left.ensures ∙ ap (λ basis. reduced_tagged_by basis new) c.deref.ensures.value) c.loop-place.invariant))
