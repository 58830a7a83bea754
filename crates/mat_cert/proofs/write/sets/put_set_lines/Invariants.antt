use Rattle.mat_cert.proofs.Common.{◌≡◌, ◌++◌, take, text_of, sets_lines}
use Rattle.mat_cert.proofs.write.sets.put_set_lines.Given as goal

-- the lines of the sets so far stand there
abbrev pub invariant-loop-set : goal.invariant-loop-set
invariant-loop-set l = l.out.items ≡ l.fn.out.items ++ text_of (sets_lines l.keyword (take l.set-index l.items))
