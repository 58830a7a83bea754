-- The answers that the solving commands print.
use Rattle.std.specs.Prelude.{◌≡◌, ℕ, List, Some, slice_get}
use Rattle.mat_sets.specs.Weights.{AreWeightsWithin}
use Rattle.mat_sets.specs.declared.weight.Weight.{Weight}
use Rattle.mat_laws.specs.Ladders.{split_bound}
use Rattle.mat_problem.specs.Instances.{Instance}
use Rattle.mat_cert.specs.Certificates as certificates
use Rattle.mat_cert.specs.Certificates.{Certificate, certificate_text, IsRanged}
use Rattle.mat_cert.specs.declared.answer.PricedRung.{PricedRung}
use Rattle.mat_right.specs.Right.{IsRight}
use Rattle.mat_solve.specs.Queries.{IsAnswerOf}
use Rattle.mat_solve.specs.declared.query.Query.{Query}

-- both numbers of each weight of a split are within the bound for n elements
abbrev pub IsBoundedSplit : ℕ → List Weight → List Weight → Type 0
IsBoundedSplit n first second = AreWeightsWithin (split_bound n) first × AreWeightsWithin (split_bound n) second

-- so are those of the split of each rung
abbrev pub HaveBoundedSplits : ℕ → List PricedRung → Type 0
HaveBoundedSplits n rungs = (k : ℕ) (rung : PricedRung) → slice_get rungs k ≡ Some rung → IsBoundedSplit n rung.first rung.second

-- so are those of each split of an answer
abbrev pub HasBoundedSplits : Certificate → Type 0
HasBoundedSplits (certificates.intersect n rungs cut) = HaveBoundedSplits n rungs
HasBoundedSplits (certificates.arbor n cost arcs first second) = IsBoundedSplit n first second
HasBoundedSplits (certificates.rainbow n vertices colours rungs cut missing) = HaveBoundedSplits n rungs
HasBoundedSplits (certificates.assign n rows columns rungs cut) = HaveBoundedSplits n rungs
HasBoundedSplits certificate = Unit {0}

-- an answer that a solving command may print
pub record IsSolution (instance : Instance) (certificate : Certificate) : Type 0 where
  pub ranged : IsRanged certificate
  pub right : IsRight instance certificate
  pub bounded : HasBoundedSplits certificate

-- the text of such an answer to the query
pub record IsSolutionText (query : Query) (instance : Instance) (text : List ℕ) : Type 0 where
  pub certificate : Certificate
  pub of_query : IsAnswerOf query certificate
  pub solution : IsSolution instance certificate
  pub whole : text ≡ certificate_text certificate
