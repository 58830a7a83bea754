use Rattle.mat_desc.proofs.CanonicalLaws.{canonical_spelled, canonical_equal, named_spelled}
use Rattle.mat_desc.proofs.laws.writing_laws.Goals as goal

pub returns : goal.returns
returns c = record { spelled = canonical_spelled; equal = canonical_equal; named = named_spelled }
