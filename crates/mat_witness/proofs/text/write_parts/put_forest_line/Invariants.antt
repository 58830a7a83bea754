use Rattle.mat_witness.proofs.Common.{◌≡◌, ◌++◌, codes, take}
use Rattle.std.specs.List.{flat_map}
use Rattle.mat_witness.proofs.PartTexts.{pair_bytes}
use Rattle.mat_witness.proofs.text.write_parts.put_forest_line.Given as goal

-- the keyword stands there, and behind it the pairs so far
abbrev pub invariant-loop-pair : goal.invariant-loop-pair
invariant-loop-pair l = l.out.items ≡ (l.fn.out.items ++ codes "forest") ++ flat_map pair_bytes (take l.pair-index l.pairs)
