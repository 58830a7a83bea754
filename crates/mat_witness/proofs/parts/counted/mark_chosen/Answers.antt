use Rattle.mat_witness.proofs.NamedSets.{listed_below}
use Rattle.mat_witness.proofs.parts.counted.mark_chosen.Goals as goal

pub get-requires : goal.get-requires
get-requires c = listed_below c.as_slice-i-items.ensures.items c.requires c.loop-i-test.true
