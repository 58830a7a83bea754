use Rattle.mat_witness.proofs.Common.{◌≡◌, take, caps_sum}
use Rattle.mat_witness.proofs.parts.counted.sum_caps.Given as goal

abbrev pub invariant-loop-i : goal.invariant-loop-i
invariant-loop-i l = l.sum ≡ caps_sum l.caps (take l.i-index l.chosen)
