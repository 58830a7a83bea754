use Rattle.mat_words.proofs.Common.{◌≡◌, ◌++◌, ◌∷◌, take, numeral}
use Rattle.std.specs.List.{flat_map}
use Rattle.mat_words.proofs.writing.put_numbers_behind.Given as goal

-- the keyword stands there, and behind it the numbers so far
abbrev pub invariant-loop-z : goal.invariant-loop-z
invariant-loop-z l = l.out.items ≡ (l.fn.out.items ++ l.keyword) ++ flat_map (λ z. 32 ∷ numeral z) (take l.z-index l.numbers)
