use Rattle.mat_cert.proofs.Common.{◌≡◌, ◌++◌, codes, take, text_of, priced_rung_lines, rungs_lines}
use Rattle.mat_cert.specs.Writing.{IsWeightsLine}
use Rattle.mat_cert.proofs.write.rungs.put_priced_rungs.Given as goal

-- the lines of the rungs so far stand there, and the last lines of weights are at hand
abbrev pub invariant-loop-k : goal.invariant-loop-k
invariant-loop-k l = record {
  lines : l.out.items ≡ l.fn.out.items ++ text_of (rungs_lines priced_rung_lines 0 (take l.k l.rungs));
  first : IsWeightsLine (codes "first") l.first.weights.now l.first.text.items;
  second : IsWeightsLine (codes "second") l.second.weights.now l.second.text.items;
}
