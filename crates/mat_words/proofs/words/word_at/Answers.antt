use Rattle.mat_words.proofs.Common.{arith, common_steps}
use Rattle.mat_words.proofs.WordLemmas.{none_passed, word_passed, last_passed, word_found}
use Rattle.mat_words.proofs.words.word_at.Goals as goal

pub loop-init : goal.loop-init
loop-init c = none_passed c.args.line.now (grind (arith, common_steps))

pub loop-preserved : goal.loop-preserved
loop-preserved c =
    let parts = rw c.in-Some.is at c.split_word.ensures.parts in
    word_passed c.args.line.now c.loop.rest.now c.split_word.result.0.now c.in-Some.after.now c.loop.counter parts c.loop.invariant

pub returns-in-None : goal.returns-in-None
returns-in-None c =
    let parts = rw c.in-None.is at c.split_word.ensures.parts in
    last_passed c.args.line.now c.loop.rest.now c.split_word.result.0.now c.loop.counter c.args.i parts c.loop.invariant c.loop-test.true

pub returns : goal.returns
returns c = word_found (λ x. x.now) c.split_word-2.result.1 c.args.line.now c.loop.rest.now c.split_word-2.result.0.now c.loop.counter c.args.i
    c.split_word-2.ensures.parts c.loop.invariant (omega arith)
