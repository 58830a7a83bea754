use Rattle.mat_words.proofs.Common.{◌≡◌, ◌++◌, ◌∷◌, take, weight_word}
use Rattle.std.specs.List.{flat_map}
use Rattle.mat_words.proofs.writing.put_weights_behind.Given as goal

-- the keyword stands there, and behind it the weights so far
abbrev pub invariant-loop-w : goal.invariant-loop-w
invariant-loop-w l = l.out.items ≡ (l.fn.out.items ++ l.keyword) ++ flat_map (λ z. 32 ∷ weight_word z) (take l.w-index l.weights)
