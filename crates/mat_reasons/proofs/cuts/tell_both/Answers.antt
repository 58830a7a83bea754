use Rattle.std.proofs.Common.{◌≡◌, Some, subst, sym}
use Rattle.std.specs.List.{slice_get}
use Rattle.mat_reasons.proofs.cuts.tell_both.Goals as goal
use Rattle.mat_reasons.proofs.cuts.tell_both.Goals.{then-len+in_ok-tell_sides, else-len+in_ok-tell_sides-2}

pub returns : goal.returns
returns g c = λ k p h. c.detail.ensures.kept k p (elim c.if-len.branch [
  | then-len+in_ok-tell_sides w ↦ subst (λ t. slice_get t.paragraphs.items k ≡ Some p) (sym w.text-is) (w.tell_sides.ensures k p h)
  | else-len+in_ok-tell_sides-2 w ↦ subst (λ t. slice_get t.paragraphs.items k ≡ Some p) (sym w.text-is) (w.tell_sides-else-len.ensures k p h)
])
