use Rattle.mat_sets.proofs.Common.{arith}
use Rattle.mat_sets.proofs.Places.{gap_at_end}
use Rattle.mat_sets.proofs.place.place_to_add.Goals.{then-len-eq0, else-len-eq0}
use Rattle.mat_sets.proofs.place.place_to_add.Goals as goal

pub returns-then-items-len : goal.returns-then-items-len
returns-then-items-len c = gap_at_end _ _ c.requires (λ p. elim c.if-len-eq0.branch [ then-len-eq0 w ↦ absurd (grind (arith, w)) | else-len-eq0 w ↦ grind (arith, w) ])
