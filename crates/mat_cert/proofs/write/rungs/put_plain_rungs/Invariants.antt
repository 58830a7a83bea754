use Rattle.mat_cert.proofs.Common.{◌≡◌, ◌++◌, take, text_of, plain_rung_lines, rungs_lines}
use Rattle.mat_cert.proofs.write.rungs.put_plain_rungs.Given as goal

-- the lines of the rungs so far stand there
abbrev pub invariant-loop-k : goal.invariant-loop-k
invariant-loop-k l = l.out.items ≡ l.fn.out.items ++ text_of (rungs_lines plain_rung_lines 0 (take l.k l.rungs))
