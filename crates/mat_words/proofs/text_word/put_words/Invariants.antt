use Rattle.mat_words.proofs.Common.{◌≡◌, ◌++◌, ◌∷◌, take, text_word}
use Rattle.std.specs.List.{flat_map}
use Rattle.mat_words.proofs.text_word.put_words.Given as goal

-- the words so far stand there
abbrev pub invariant-loop-word : goal.invariant-loop-word
invariant-loop-word l = l.out.items ≡ l.fn.out.items ++ flat_map (λ word. 32 ∷ text_word word) (take l.word-index l.words)
