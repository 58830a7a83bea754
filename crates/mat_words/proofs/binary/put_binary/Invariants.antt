use Rattle.mat_words.proofs.Common.{◌≡◌, ◌++◌, binary}
use Rattle.mat_words.proofs.binary.put_binary.Given as goal

-- what stands there, and behind it the digits that are left
abbrev pub invariant-loop-place : goal.invariant-loop-place
invariant-loop-place l = l.out.items ++ binary l.place l.number ≡ l.fn.out.items ++ binary l.digits l.number
