use Rattle.mat_exchange.proofs.Common.{bits_of, weight_at, in_bucket}
use Rattle.mat_exchange.proofs.WordSearches.{IsWordSearched}
use Rattle.mat_exchange.proofs.heaviest_members.heaviest_in_bucket.Given as goal

abbrev pub invariant-loop-rest : goal.invariant-loop-rest
invariant-loop-rest l = IsWordSearched (in_bucket (bits_of l.words) l.at) (weight_at l.weights) l.first l.rest l.heaviest

abbrev pub decreases-loop-rest : goal.decreases-loop-rest
decreases-loop-rest l = l.rest
