-- The forms of answers that fit a problem: what holds of each of these forms holds of every answer that fits, and a right one does.
use Rattle.mat_check.proofs.Common.{◌≡◌, ◌↔◌, ◌==◌, ℕ, true, List, [], ◌∷◌, length, Option, None, refl, arith, eqb-true, false≢true, Weight, Tree, IsValid, Instance, pair, list, graph, rooted, coloured, table, IsSoundInstance, Certificate, IsRanged, intersect, best, union_of, pack_any, pack}
use Rattle.mat_check.proofs.Common.{cover_never, cover, trees, trees_none, arbor, unreached, disjoint, disjoint_none, rainbow, assign, LevelLine, PlainRung, PricedRung, IsRight, failure_of, fits, IsOptimal}

-- ---- what is shown of each form

-- an answer in range is right exactly where none of its clauses fails
abbrev pub RightHasNoFailure : Instance → Certificate → Type 0
RightHasNoFailure instance answer =
    IsValid instance → IsSoundInstance instance → IsRanged answer → IsRight instance answer ↔ (failure_of instance answer ≡ None)

-- no better answer exists than a right one
abbrev pub RightIsOptimal : Instance → Certificate → Type 0
RightIsOptimal instance answer = IsValid instance → IsSoundInstance instance → IsRight instance answer → IsOptimal instance answer

-- ---- the forms of answers

-- what holds of each answer of each form
pub record OnEachForm (P : Instance → Certificate → Type 0) : Type 0 where
  pub ladder : (w : List Weight) (first second : Tree) (n : ℕ) (rungs : List PricedRung) (cut : List ℕ)
      → P (pair w first second) (intersect n rungs cut)
  pub single : (w : List Weight) (matroid : Tree) (n : ℕ) (rungs : List PlainRung)
      → P (list w (matroid ∷ [])) (best n rungs)
  pub union : (w : List Weight) (matroids : List Tree) (n : ℕ) (weight : Weight) (parts : List (List ℕ)) (levels : List LevelLine)
      → P (list w matroids) (union_of n weight parts levels)
  pub packing_of_none : (w : List Weight) (matroid : Tree) (n : ℕ)
      → P (list w (matroid ∷ [])) (pack_any n)
  pub packing : (w : List Weight) (matroid : Tree) (n : ℕ) (bases : List (List ℕ)) (cut : List ℕ)
      → P (list w (matroid ∷ [])) (pack n bases cut)
  pub loop : (w : List Weight) (matroid : Tree) (n loop_at : ℕ)
      → P (list w (matroid ∷ [])) (cover_never n loop_at)
  pub covering : (w : List Weight) (matroid : Tree) (n : ℕ) (sets : List (List ℕ)) (cut : Option (List ℕ))
      → P (list w (matroid ∷ [])) (cover n sets cut)
  pub trees_found : (vertices : ℕ) (edges : List (ℕ × ℕ)) (n : ℕ) (sets : List (List ℕ))
      → P (graph vertices edges) (trees n sets)
  pub partition : (vertices : ℕ) (edges : List (ℕ × ℕ)) (n k v : ℕ) (classes : List (List ℕ))
      → P (graph vertices edges) (trees_none n k v classes)
  pub arborescence : (vertices root : ℕ) (arcs : List (ℕ × ℕ)) (costs : List Weight) (n : ℕ) (cost : Weight) (tree : List ℕ) (first second : List Weight)
      → P (rooted vertices root arcs costs) (arbor n cost tree first second)
  pub unreached_set : (vertices root : ℕ) (arcs : List (ℕ × ℕ)) (costs : List Weight) (n v : ℕ) (set : List ℕ)
      → P (rooted vertices root arcs costs) (unreached n v set)
  pub arborescences : (vertices root : ℕ) (arcs : List (ℕ × ℕ)) (costs : List Weight) (n : ℕ) (sets : List (List ℕ))
      → P (rooted vertices root arcs costs) (disjoint n sets)
  pub seldom_entered : (vertices root : ℕ) (arcs : List (ℕ × ℕ)) (costs : List Weight) (n k v : ℕ) (set : List ℕ)
      → P (rooted vertices root arcs costs) (disjoint_none n k v set)
  pub rainbow_ladder : (vertices colours : ℕ) (edges : List (ℕ × ℕ)) (colour_of : List ℕ) (w : List Weight) (n v c : ℕ) (rungs : List PricedRung) (cut : List ℕ) (missing : Option (List ℕ))
      → P (coloured vertices colours edges colour_of w) (rainbow n v c rungs cut missing)
  pub assignment : (rows columns : ℕ) (cells : List (ℕ × ℕ)) (w : List Weight) (n r c : ℕ) (rungs : List PricedRung) (cut : List ℕ)
      → P (table rows columns cells w) (assign n r c rungs cut)

-- two matroids are not one
not_single : (matroid other : Tree) (others : List Tree) → (length (matroid ∷ other ∷ others) == 1) ≡ true → ⊥
not_single matroid other others h = let one = eqb-true (length (matroid ∷ other ∷ others)) 1 h in omega arith

-- holds of every answer that fits
pub by_fitting : (P : Instance → Certificate → Type 0) → OnEachForm P → (answer : Certificate) (instance : Instance)
    → fits instance answer ≡ true → P instance answer
by_fitting P each (intersect n rungs cut) (pair w first second) h = each.ladder w first second n rungs cut
by_fitting P each (union_of n weight parts levels) (list w matroids) h = each.union w matroids n weight parts levels
by_fitting P each (best n rungs) (list w (matroid ∷ [])) h = each.single w matroid n rungs
by_fitting P each (best n rungs) (list w (matroid ∷ other ∷ others)) h = absurd (not_single matroid other others h)
by_fitting P each (pack_any n) (list w (matroid ∷ [])) h = each.packing_of_none w matroid n
by_fitting P each (pack_any n) (list w (matroid ∷ other ∷ others)) h = absurd (not_single matroid other others h)
by_fitting P each (pack n bases cut) (list w (matroid ∷ [])) h = each.packing w matroid n bases cut
by_fitting P each (pack n bases cut) (list w (matroid ∷ other ∷ others)) h = absurd (not_single matroid other others h)
by_fitting P each (cover_never n loop_at) (list w (matroid ∷ [])) h = each.loop w matroid n loop_at
by_fitting P each (cover_never n loop_at) (list w (matroid ∷ other ∷ others)) h = absurd (not_single matroid other others h)
by_fitting P each (cover n sets cut) (list w (matroid ∷ [])) h = each.covering w matroid n sets cut
by_fitting P each (cover n sets cut) (list w (matroid ∷ other ∷ others)) h = absurd (not_single matroid other others h)
by_fitting P each (trees n sets) (graph vertices edges) h = each.trees_found vertices edges n sets
by_fitting P each (trees_none n k v classes) (graph vertices edges) h = each.partition vertices edges n k v classes
by_fitting P each (arbor n cost tree first second) (rooted vertices root arcs costs) h = each.arborescence vertices root arcs costs n cost tree first second
by_fitting P each (unreached n v set) (rooted vertices root arcs costs) h = each.unreached_set vertices root arcs costs n v set
by_fitting P each (disjoint n sets) (rooted vertices root arcs costs) h = each.arborescences vertices root arcs costs n sets
by_fitting P each (disjoint_none n k v set) (rooted vertices root arcs costs) h = each.seldom_entered vertices root arcs costs n k v set
by_fitting P each (rainbow n v c rungs cut missing) (coloured vertices colours edges colour_of w) h =
    each.rainbow_ladder vertices colours edges colour_of w n v c rungs cut missing
by_fitting P each (assign n r c rungs cut) (table rows columns cells w) h = each.assignment rows columns cells w n r c rungs cut
by_fitting P each answer instance h = absurd (false≢true h)

-- a right answer fits
pub right_fits : (instance : Instance) (answer : Certificate) → IsRight instance answer → fits instance answer ≡ true
right_fits (pair _ _ _) (intersect _ _ _) right = refl
right_fits (list _ _) (union_of _ _ _ _) right = refl
right_fits (list _ (_ ∷ [])) (best _ _) right = refl
right_fits (list _ (_ ∷ [])) (pack_any _) right = refl
right_fits (list _ (_ ∷ [])) (pack _ _ _) right = refl
right_fits (list _ (_ ∷ [])) (cover_never _ _) right = refl
right_fits (list _ (_ ∷ [])) (cover _ _ _) right = refl
right_fits (graph _ _) (trees _ _) right = refl
right_fits (graph _ _) (trees_none _ _ _ _) right = refl
right_fits (rooted _ _ _ _) (arbor _ _ _ _ _) right = refl
right_fits (rooted _ _ _ _) (unreached _ _ _) right = refl
right_fits (rooted _ _ _ _) (disjoint _ _) right = refl
right_fits (rooted _ _ _ _) (disjoint_none _ _ _ _) right = refl
right_fits (coloured _ _ _ _ _) (rainbow _ _ _ _ _ _) right = refl
right_fits (table _ _ _ _) (assign _ _ _ _ _) right = refl
right_fits instance answer right = absurd right

-- so what holds of each form holds of every right answer
pub by_right : (P : Instance → Certificate → Type 0) → OnEachForm P → (instance : Instance) (answer : Certificate) → IsRight instance answer
    → P instance answer
by_right P each instance answer right = by_fitting P each answer instance (right_fits instance answer right)
