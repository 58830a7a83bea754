-- Answers that weighted vertex sets prove: which problems have them, and their texts.
use Rattle.std.specs.Prelude.{◌≡◌, ℕ, ℤ, pos, ◌≤ℤ◌, List, [], ◌∷◌, ◌++◌, length, map, codes, All}
use Rattle.mat_sets.specs.declared.weight.Weight.{Weight}
use Rattle.mat_words.specs.Lines.{Line, text_of}
use Rattle.mat_words.specs.Numbers.{numeral, numerals}
use Rattle.mat_words.specs.Writing.{end_line, members_line}
use Rattle.mat_problem.specs.Instances.{Instance, rooted}
use Rattle.mat_cert.specs.Certificates.{version_line, header_line}
use Rattle.mat_cuts.specs.Answers.{AreRight, AreInRange}
use Rattle.mat_cuts.specs.Costs.{cost_of}
use Rattle.mat_cuts.specs.declared.cut_weight.CutWeight.{CutWeight}
use Rattle.mat_cuts.specs.declared.cut_weight.Cuts.{Cuts}
use Rattle.mat_cuts.specs.declared.cut_weight.Cuts.TheVariants.{Tree, Unreached}

-- a cost that weights of vertex sets can pay: not below 0, and without a tie
pub record IsPayable (cost : Weight) : Type 0 where
  pub main : pos 0 ≤ℤ cost.main
  pub tie : cost.tie ≡ pos 0

-- every cost of the problem is such, where it has costs
abbrev pub HasPayableCosts : Instance → Type 0
HasPayableCosts (rooted vertices root arcs costs) = All IsPayable costs
HasPayableCosts instance = Unit {0}

-- the numbers that the costs stand for
abbrev pub mains : List Weight → List ℤ
mains costs = map (λ cost. cost.main) costs

-- ---- the text

-- the line of a vertex set with its weight
abbrev pub cut_line : CutWeight → Line
cut_line cut = codes "cut" ∷ numeral cut.weight ∷ numerals cut.set

-- the lines of an answer for n arcs with these costs between so many vertices
abbrev pub cuts_lines : (n vertices : ℕ) → List ℤ → Cuts → List Line
cuts_lines n vertices costs (Tree tree cuts) =
    version_line ∷ header_line (codes "cuts") (numeral (pos n) ∷ numeral (cost_of costs tree) ∷ numeral (pos (length cuts.items)) ∷ [])
    ∷ members_line (codes "set") tree ∷ map cut_line cuts.items ++ end_line ∷ []
cuts_lines n vertices costs (Unreached set) =
    version_line ∷ header_line (codes "cuts") (numeral (pos n) ∷ codes "unreached" ∷ numeral (pos vertices) ∷ [])
    ∷ members_line (codes "vertices") set ∷ end_line ∷ []

-- the text is that of right cuts for the problem: a cheapest spanning arborescence and the weighted vertex sets that prove it, or a set of
-- vertices that no arc enters (Edmonds 1967, Fulkerson 1974; Schrijver, chapter 52)
abbrev pub IsCutsText : Instance → List ℕ → Type 0
IsCutsText (rooted vertices root arcs costs) text =
    (cuts : Cuts) × AreRight vertices arcs (mains costs) root cuts × AreInRange vertices (length arcs) cuts
    × (text ≡ text_of (cuts_lines (length arcs) vertices (mains costs) cuts))
IsCutsText instance text = ⊥
