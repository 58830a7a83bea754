use Rattle.mat_union.proofs.Common.{◌<◌, ◌||◌, ◌∙◌, length, ap, arith, map, subst, sym, length-map, is_member, AreColumns, row_of, part_at, test_at}
use Rattle.mat_union.proofs.ArcsOfParts.{arcs_more}
use Rattle.mat_union.proofs.SoundMatroids.{test_is}
use Rattle.mat_union.proofs.kept_columns.arcs_of.Goals as goal

pub loop-i-preserved : goal.loop-i-preserved
loop-i-preserved g c =
    let indep = g.M.Asked.indep in
    let ms = c.args.matroids.now in
    let tests = map indep ms in
    let parts = c.args.parts.now in
    let i = c.loop-i.i in
    let m = c.index-matroids-i.result in
    let part = c.get-part.result.now in
    let own = c.in_ok-columns.columns in
    let arcs = c.loop-i.arcs in
    let test = test_is indep ms i m c.loop-i-test.true c.index-matroids-i.is in
    let same = c.get-part.ensures.item in
    let l : i < length tests = (let e = length-map ms indep in omega (arith, e, c.loop-i-test.true)) in
    arcs_more tests parts i arcs (record { into = c.add.new.self.into; entering = c.enter_each.new.entering }) own (c.all_lawful.ensures.each i l) c.loop-i.invariant
    (subst (λ p. AreColumns c.args.n p (part_at parts i) own) (sym test) (subst (λ P. AreColumns c.args.n (indep m) P own) same c.in_ok-columns.ensures))
    c.in_ok-add.ensures.into
    (λ x. c.in_ok-enter_each.ensures x ∙ ap (λ s. is_member x s || (row_of (indep m) part x).addable) c.in_ok-add.ensures.entering
    ∙ ap (λ p. is_member x arcs.entering || (row_of p part x).addable) (sym test)
    ∙ ap (λ P. is_member x arcs.entering || (row_of (test_at tests i) P x).addable) same)
