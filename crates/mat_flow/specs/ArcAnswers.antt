-- What a search for paths that share no arc answers (Menger's theorem for arcs; Schrijver, chapter 9).
use Rattle.std.specs.Prelude.{ℕ, Bool, true, false, List}
use Rattle.mat_flow.specs.ArcPaths.{AreArcPaths, IsArcCut}
use Rattle.mat_flow.specs.declared.arc_flow.ArcAnswer.{ArcAnswer}
use Rattle.mat_flow.specs.declared.arc_flow.ArcAnswer.TheVariants.{Paths, Cut}

-- so many paths, or a cut that fewer live arcs enter
abbrev pub IsArcAnswer : (vertices : ℕ) (ends : ℕ → ℕ × ℕ) (live : List ℕ) (from to want : ℕ) → ArcAnswer → Type 0
IsArcAnswer vertices ends live from to want (Paths paths) = AreArcPaths ends live from to want paths.items
IsArcAnswer vertices ends live from to want (Cut cut) = IsArcCut vertices ends live from to want cut

-- there are not so many paths
abbrev pub HasNoArcPaths : (ends : ℕ → ℕ × ℕ) (live : List ℕ) (from to want : ℕ) → Type 0
HasNoArcPaths ends live from to want = (paths : List (List ℕ)) → ¬ AreArcPaths ends live from to want paths

-- whether the answer is a cut, and so that there are not so many paths
abbrev pub is_arc_cut : ArcAnswer → Bool
is_arc_cut (Paths paths) = false
is_arc_cut (Cut cut) = true
