-- What contracts see of witnesses.
use Rattle.std.specs.Prelude.{map}
use Rattle.mat_witness.specs.declared.witness.Free.{Free}
use Rattle.mat_witness.specs.declared.witness.Free.TheVariants as frees
use Rattle.mat_witness.specs.declared.witness.Most.{Most}
use Rattle.mat_witness.specs.declared.witness.Most.TheVariants as mosts
use Rattle.mat_witness.specs.declared.witness.Witness.{Witness}
use Rattle.mat_witness.specs.Parts.{BoundPart, FreePart, WitnessParts, count, forest, paths, probes, spent, labels, gate, zeros}

-- what shows independence, as plain data
abbrev pub free_part : Free → FreePart
free_part frees.Count = count
free_part (frees.Forest pairs) = forest pairs
free_part (frees.Paths walks) = paths walks.items
free_part (frees.Probes numbers) = probes numbers.items

-- a bound as plain data
abbrev pub bound_part : Most → BoundPart
bound_part (mosts.Spent elements chosen) = spent elements chosen
bound_part (mosts.Labels numbers) = labels numbers.items
bound_part (mosts.Gate reached closing) = gate reached closing
bound_part (mosts.Zeros numbers) = zeros numbers.items

-- a witness as plain data
abbrev pub witness_parts : Witness → WitnessParts
witness_parts witness = record {
  k = witness.k;
  first = free_part witness.first;
  second = free_part witness.second;
  bounds = map bound_part witness.bounds.items;
}
