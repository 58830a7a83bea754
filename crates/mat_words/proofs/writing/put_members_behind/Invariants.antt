use Rattle.mat_words.proofs.Common.{◌≡◌, ◌++◌, ◌∷◌, pos, take, numeral}
use Rattle.std.specs.List.{flat_map}
use Rattle.mat_words.proofs.writing.put_members_behind.Given as goal

-- the keyword stands there, and behind it the members so far
abbrev pub invariant-loop-x : goal.invariant-loop-x
invariant-loop-x l = l.out.items ≡ (l.fn.out.items ++ l.keyword) ++ flat_map (λ x. 32 ∷ numeral (pos x)) (take l.x-index l.members)
