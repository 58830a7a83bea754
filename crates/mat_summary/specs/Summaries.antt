-- The line that sums up a right answer to a problem that is made from a number.
use Rattle.std.specs.Prelude.{◌≡◌, ℕ, ◌+◌, List, [], ◌∷◌, ◌++◌, length, codes, pos}
use Rattle.mat_sets.specs.Weights.{zero_weight, ◌⊕◌}
use Rattle.mat_sets.specs.declared.weight.Weight.{Weight}
use Rattle.mat_words.specs.Lines.{Line, text_of}
use Rattle.mat_words.specs.Numbers.{numeral}
use Rattle.mat_words.specs.Weights.{weight_word}
use Rattle.mat_cert.specs.Certificates as certificates
use Rattle.mat_cert.specs.Certificates.{Certificate, last_rung}
use Rattle.mat_cert.specs.declared.answer.PricedRung.{PricedRung}
use Rattle.mat_gen.specs.Samples.{sample_of}
use Rattle.mat_gen.specs.declared.kind.SampleKind.{SampleKind}
use Rattle.mat_gen.specs.declared.kind.SampleKind.TheVariants as kinds
use Rattle.mat_solve.specs.Answers.{IsSolution}
use Rattle.mat_solve.specs.Queries.{IsAnswerOf}
use Rattle.mat_solve.specs.declared.query.Query.{Query}
use Rattle.mat_solve.specs.declared.query.Query.TheVariants.{Intersect, Union, Trees, Arborescence, Assign}

-- the word that names a kind of sample
abbrev pub kind_word : SampleKind → List ℕ
kind_word kinds.Pair = codes "pair"
kind_word kinds.List = codes "list"
kind_word kinds.Graph = codes "graph"
kind_word kinds.Rooted = codes "rooted"
kind_word kinds.Table = codes "table"

-- the query that is answered for a sample of this kind
abbrev pub query_of_kind : SampleKind → Query
query_of_kind kinds.Pair = Intersect
query_of_kind kinds.List = Union
query_of_kind kinds.Graph = Trees 2
query_of_kind kinds.Rooted = Arborescence
query_of_kind kinds.Table = Assign

-- the weight of the last rung, and 0 where there is none
abbrev pub last_weight : List PricedRung → Weight
last_weight [] = zero_weight
last_weight (rung ∷ []) = rung.weight
last_weight (rung ∷ next ∷ rungs) = last_weight (next ∷ rungs)

-- the weights of all rungs, added
abbrev pub ladder_weight : List PricedRung → Weight
ladder_weight [] = zero_weight
ladder_weight (rung ∷ rungs) = rung.weight ⊕ ladder_weight rungs

-- how many members the sets have together
abbrev pub all_members : List (List ℕ) → ℕ
all_members [] = 0
all_members (set ∷ sets) = length set + all_members sets

-- what a ladder comes to: the size of its last rung, the weight of that rung, and the weights of all rungs, added
abbrev pub ladder_words : List PricedRung → Line
ladder_words rungs =
    codes "size" ∷ numeral (pos (last_rung rungs)) ∷ codes "weight" ∷ weight_word (last_weight rungs)
    ∷ codes "ladder" ∷ weight_word (ladder_weight rungs) ∷ []

-- what an answer comes to
abbrev pub summary_words : Certificate → Line
summary_words (certificates.intersect n rungs cut) = ladder_words rungs
summary_words (certificates.assign n rows columns rungs cut) = ladder_words rungs
summary_words (certificates.union_of n weight parts levels) =
    codes "size" ∷ numeral (pos (all_members parts)) ∷ codes "weight" ∷ weight_word weight ∷ []
summary_words (certificates.trees n sets) = codes "trees" ∷ []
summary_words (certificates.trees_none n asked vertices classes) = codes "partition" ∷ []
summary_words (certificates.arbor n cost arcs first second) = codes "cost" ∷ weight_word cost ∷ []
summary_words (certificates.unreached n vertices set) = codes "unreached" ∷ []
summary_words certificate = []

-- the summary of an answer to the problem of this kind, size and seed
abbrev pub summary_line : SampleKind → ℕ → ℕ → Certificate → Line
summary_line kind size seed certificate =
    codes "sample" ∷ kind_word kind ∷ numeral (pos size) ∷ numeral (pos seed) ∷ summary_words certificate ++ codes "accepted" ∷ []

-- the text is the summary of a right answer to the problem of this kind, size and seed
pub record IsSummary (kind : SampleKind) (size seed : ℕ) (text : List ℕ) : Type 0 where
  pub certificate : Certificate
  pub of_query : IsAnswerOf (query_of_kind kind) certificate
  pub solution : IsSolution (sample_of kind size seed) certificate
  pub whole : text ≡ text_of (summary_line kind size seed certificate ∷ [])
