-- A sample has the form of the query that is answered for its kind.
use Rattle.mat_summary.proofs.Common.{◌≡◌, ℕ, true, refl, sample_of, SampleKind, has_form, query_of_kind}
use Rattle.mat_gen.specs.declared.kind.SampleKind.TheVariants as kinds

pub sample_has_form : (kind : SampleKind) (size seed : ℕ) → has_form (query_of_kind kind) (sample_of kind size seed) ≡ true
sample_has_form kinds.Pair size seed = refl
sample_has_form kind size seed = refl
