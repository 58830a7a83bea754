use Rattle.mat_judge.proofs.Common.{arith, take_rest, err_from_is_err_and, Appended-take, AppendedProperPrefix-take}
use Rattle.std.proofs.lemmas.Grind.{common_steps}
use Rattle.mat_judge.proofs.writing.put_all.Goals as goal

pub loop-at-preserved : goal.loop-at-preserved
loop-at-preserved g c = record {
  within = grind (arith, common_steps);
  grows = omega (arith, c.in_ok-at.ensures.grows);
  appended =
      Appended-take (g.O.Sink.written c.args.sink.now) (g.O.Sink.written c.loop-at.sink) (g.O.Sink.written c.put.new.self) c.args.text.now
      c.loop-at.at _ c.loop-at.invariant.appended (rw take_rest at c.in_ok-at.ensures.appended);
}

pub returns-in_err-at-clause-err : goal.returns-in_err-at-clause-err
returns-in_err-at-clause-err g c =
    let p = err_from_is_err_and c.from_residual.result c.from_residual.ensures.1 in
    rw (p.1, c.in_err-at.ensures.unchanged) (AppendedProperPrefix-take (g.O.Sink.written c.args.sink.now) (g.O.Sink.written c.loop-at.sink) c.args.text.now
    c.loop-at.at c.loop-at-test.true c.loop-at.invariant.appended)
