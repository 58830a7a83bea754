-- Paths that share no arc are at most as many as the live arcs that enter a vertex set with their end and without their start.
use Rattle.mat_flow.proofs.Common.{◌≡◌, ℕ, ◌≤◌, ◌↔◌, true, false, List, [], length, refl, subst, arith, false≢true, is_member, IsRising, AreDisjoint-distinct, AreArcPaths, IsArcCut, IsArcPath, Paths, Cut, entering, at_most_entering, walk_enters, Comes}
use Rattle.mat_flow.specs.ArcAnswers.{is_arc_cut, HasNoArcPaths, IsArcAnswer}
use Rattle.mat_flow.specs.declared.arc_flow.ArcAnswer.{ArcAnswer}

module _ (ends : ℕ → ℕ × ℕ) (live : List ℕ) (from to want : ℕ) where
  path_comes : (cut path : List ℕ) → is_member from cut ≡ false → is_member to cut ≡ true → IsArcPath ends live from to path → Comes ends live cut path
  path_comes cut path out inside p =
      let w = walk_enters ends cut path from to p.walk out inside in
      record { arc = w.0; member = w.1; live_arc = p.inside.inside w.0 w.1; comes = w.2 }

  -- so many arcs enter each vertex set with the end and without the start
  pub paths_enter : (cut : List ℕ) (paths : List (List ℕ)) → IsRising live → is_member from cut ≡ false → is_member to cut ≡ true
      → AreArcPaths ends live from to want paths → want ≤ length (entering ends live cut)
  paths_enter cut paths r out inside p =
      let most = at_most_entering ends live cut paths r (AreDisjoint-distinct paths p.distinct) (λ path i l e.
      path_comes cut path out inside (subst (IsArcPath ends live from to) e (p.each i [] l))) in
      omega (arith, most, p.many)

  -- there are not both such paths and such a cut
  pub paths_have_no_cut : (vertices : ℕ) (cut : List ℕ) (paths : List (List ℕ)) → IsRising live → AreArcPaths ends live from to want paths
      → IsArcCut vertices ends live from to want cut → ⊥
  paths_have_no_cut vertices cut paths r p c = let most = paths_enter cut paths r c.misses c.holds p in let few = c.few in absurd (omega arith)

  -- a right answer is a cut exactly where there are no such paths
  pub no_paths_told : (vertices : ℕ) (answer : ArcAnswer) → IsRising live → IsArcAnswer vertices ends live from to want answer
      → (is_arc_cut answer ≡ true) ↔ HasNoArcPaths ends live from to want
  no_paths_told vertices (Paths paths) r a = ((λ e. absurd (false≢true e)), λ none. absurd (none paths.items a))
  no_paths_told vertices (Cut cut) r a = ((λ _ paths p. paths_have_no_cut vertices cut paths r p a), λ _. refl)
