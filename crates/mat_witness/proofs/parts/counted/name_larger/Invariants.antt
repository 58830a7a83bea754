use Rattle.mat_witness.proofs.Common.{◌≡◌, [], length, get_or, take, AreListed, AreLargerNamed}
use Rattle.mat_witness.proofs.parts.counted.name_larger.Given as goal

abbrev pub invariant-loop-x : goal.invariant-loop-x
invariant-loop-x l = record {
  long : length l.named ≡ length l.fn.named;
  listed : AreListed l.sets l.named;
  entries : AreLargerNamed l.sets l.place (take l.x-index (get_or l.sets l.place [])) l.fn.named l.named;
}
