-- Facts as values, and which sizes are told, as plain data.
use Rattle.std.specs.Prelude.{ℕ, Bool, true, List, [], ◌∷◌, map}
use Rattle.mat_facts.specs.Facts.{Fact, allowed, at_most, shared, few_above, full, in_parts, between, falls_apart, without_root, entered_by, none_gains}
use Rattle.mat_facts.specs.Reasons.{told_sizes}
use Rattle.mat_facts.specs.declared.fact.Fact.{Fact as FactValue}
use Rattle.mat_facts.specs.declared.fact.Fact.TheVariants as values
use Rattle.mat_facts.specs.declared.told.ToldSizes.{ToldSizes}
use Rattle.mat_facts.specs.declared.told.ToldSizes.TheVariants as sizes

-- the fact that a value is
abbrev pub fact_of : FactValue → Fact
fact_of values.Allowed = allowed
fact_of (values.AtMost rule elements most) = at_most rule elements most
fact_of (values.Whole weights) = shared (weights.now ∷ [])
fact_of (values.Shared first second) = shared (first.now ∷ second.now ∷ [])
fact_of (values.FewAbove rule shares terms) = few_above rule shares.now terms.items
fact_of (values.Full set) = full set.now
fact_of (values.InParts at count) = in_parts at count
fact_of (values.Between classes edges) = between classes.now edges
fact_of (values.FallsApart colours count) = falls_apart colours.now count
fact_of (values.WithoutRoot set) = without_root set.now
fact_of (values.EnteredBy set arcs) = entered_by set.now arcs
fact_of values.NoneGains = none_gains

-- the facts that values are
abbrev pub facts_of : List FactValue → List Fact
facts_of values = map fact_of values

-- whether a size is told
abbrev pub is_told : ToldSizes → ℕ → Bool
is_told sizes.Each k = true
is_told (sizes.Beside heaviest last) k = told_sizes heaviest last k
