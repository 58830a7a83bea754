use Rattle.mat_judge.proofs.Common.{ℕ, subst, err_from_is_err_and, AppendedProperPrefix}
use Rattle.std.specs.Global.{Vec}
use Rattle.mat_judge.proofs.Pieces.{pieces_prefix}
use Rattle.mat_judge.proofs.writing.put_texts.Goals as goal

pub returns-in_err-put_all-clause-err : goal.returns-in_err-put_all-clause-err
returns-in_err-put_all-clause-err g c =
    let old = g.O.Sink.written c.args.sink.now in
    let between = g.O.Sink.written c.loop-text.sink in
    let new = g.O.Sink.written c.put_all.new.sink in
    let p = err_from_is_err_and c.from_residual.result c.from_residual.ensures.1 in
    rw p.1 (pieces_prefix (λ (text : Vec ℕ). text.items) old between new c.args.texts.now c.loop-text.text-index c.text-item.result c.loop-text-test.true
    c.loop-text.invariant.appended
    (subst (λ (text : Vec ℕ). AppendedProperPrefix between text.items new) c.text-item.is (rw c.deref.ensures.value at c.in_err-put_all.ensures.err)))
