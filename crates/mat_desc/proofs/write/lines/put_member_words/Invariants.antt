use Rattle.mat_desc.proofs.Common.{◌≡◌, ◌++◌, ◌∷◌, take, word_for, naming}
use Rattle.std.specs.List.{flat_map}
use Rattle.mat_desc.proofs.write.lines.put_member_words.Given as goal

-- the words for the members so far stand there
abbrev pub invariant-loop-x : goal.invariant-loop-x
invariant-loop-x l = l.out.items ≡ l.fn.out.items ++ flat_map (λ x. 32 ∷ word_for (naming l.names) x) (take l.x-index l.set)
