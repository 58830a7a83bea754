use Rattle.mat_gf2.proofs.Common.{◌≡◌, subst, refl, drop, arith, TaggedColumn, IsTransposed}
use Rattle.mat_gf2.proofs.ParityChecks.{IsTransposed-check, IsTransposed-more, IsTransposed-start}
use Rattle.mat_gf2.proofs.parity.parity_check.Goals as goal

pub loop-place-init : goal.loop-place-init
loop-place-init c = IsTransposed-start c.args.basis.now _ c.args.start refl

pub loop-place-preserved : goal.loop-place-preserved
loop-place-preserved c =
    let none : TaggedColumn = record { column = 0; tag = 0 } in
    IsTransposed-more c.args.basis.now none c.loop-place.place c.args.start c.loop-place.check c.transposed-check.result
    c.loop-place-test.true c.loop-place.auto.place c.transposed-check.ensures c.loop-place.invariant

pub returns-clause-transposed : goal.returns-clause-transposed
returns-clause-transposed c =
    let start : c.loop-place.place ≡ 0 = (let done = c.loop-place-test.false in omega arith) in
    subst (λ k. IsTransposed (drop k c.args.basis.now) c.args.start c.loop-place.check) start c.loop-place.invariant

pub returns-clause-check : goal.returns-clause-check
returns-clause-check c = IsTransposed-check c.args.basis.now c.args.start c.loop-place.check (returns-clause-transposed c)
