use Rattle.mat_desc.proofs.Common.{◌≡◌, [], ◌∷◌, names_of, numbered}
use Rattle.mat_desc.proofs.named.numbered_names.Given as goal

-- the names so far
abbrev pub invariant-loop-i : goal.invariant-loop-i
invariant-loop-i l = names_of l.names ≡ numbered (l.letter ∷ []) l.i
