-- No union, packing or covering is better than a right one: the laws of the crates below, at the matroids of the problem.
use Rattle.mat_check.proofs.Common.{◌≡◌, ℕ, ◌<◌, false, List, [], ◌∷◌, Bool, length, map, get_or, Option, Some, None, sym, subst, arith, length-map, get_or-map, All-get_or, Weight, IsMatroid, AreMatroids, Tree, element_count, is_independent, IsSound, list, IsSoundInstance, union_of, pack_any, pack}
use Rattle.mat_check.proofs.Common.{cover_never, cover, LevelLine, level_of, AreFewestSets}
use Rattle.mat_union.proofs.LevelsShow.{right_is_best}
use Rattle.mat_packing.specs.Packings.{IsRightCovering}
use Rattle.mat_packing.proofs.Copies.{covering_is_least, loop_has_no_cover, packing_is_most, rank_none}
use Rattle.mat_check.proofs.AnswerForms.{RightIsOptimal}
use Rattle.mat_check.proofs.RightLadders.{laws_as_said, laws_of_one, laws_on_weights}

-- ---- the matroids

the_matroid : (w : List Weight) (n : ℕ) (matroid : Tree) → n ≡ length w → IsSoundInstance (list w (matroid ∷ []))
    → IsMatroid n (is_independent matroid)
the_matroid w n matroid same sound =
    laws_as_said n w (is_independent matroid) same (laws_of_one w matroid sound)

-- each matroid of a list; the list has some, which serves as any
the_matroids : (w : List Weight) (n : ℕ) (matroids : List Tree) → n ≡ length w → IsSoundInstance (list w matroids)
    → AreMatroids n (map is_independent matroids)
the_matroids w n [] same sound = record { each = λ i l. absurd (omega arith) }
the_matroids w n (m ∷ ms) same sound = record {
  each = λ i l.
      let inside : i < length (m ∷ ms) = subst (λ k. i < k) (length-map (m ∷ ms) is_independent) l in
      subst (IsMatroid n) (sym (get_or-map is_independent (m ∷ ms) i m (λ X. false) inside))
      (let here = All-get_or (λ tree. IsSound tree × (element_count tree ≡ length w)) (m ∷ ms) i m inside sound in
      laws_as_said n w (is_independent (get_or (m ∷ ms) i m)) same (laws_on_weights w (get_or (m ∷ ms) i m) here.0 here.1));
}

-- ---- unions

pub union_case : (w : List Weight) (matroids : List Tree) (n : ℕ) (weight : Weight) (parts : List (List ℕ)) (levels : List LevelLine)
    → RightIsOptimal (list w matroids) (union_of n weight parts levels)
union_case w matroids n weight parts levels valid sound right =
    (right.1.right.are, right_is_best (the_matroids w n matroids right.0 sound) w (sym right.0) parts (map level_of levels) right.1.right)

-- ---- packings

pub packing_of_none_case : (w : List Weight) (matroid : Tree) (n : ℕ) → RightIsOptimal (list w (matroid ∷ [])) (pack_any n)
packing_of_none_case w matroid n valid sound right = rank_none (the_matroid w n matroid right.0 sound) right.1

pub packing_case : (w : List Weight) (matroid : Tree) (n : ℕ) (bases : List (List ℕ)) (cut : List ℕ)
    → RightIsOptimal (list w (matroid ∷ [])) (pack n bases cut)
packing_case w matroid n bases cut valid sound right =
    record { are = right.1.are; most = packing_is_most (the_matroid w n matroid right.0 sound) bases cut right.1 }

-- ---- coverings

pub loop_case : (w : List Weight) (matroid : Tree) (n loop_at : ℕ) → RightIsOptimal (list w (matroid ∷ [])) (cover_never n loop_at)
loop_case w matroid n loop_at valid sound right = loop_has_no_cover (the_matroid w n matroid right.0 sound) loop_at right.1

-- none are fewer than none
covering_is_fewest : {n : ℕ} {p : List ℕ → Bool} → IsMatroid n p → (sets : List (List ℕ)) (cut : Option (List ℕ))
    → IsRightCovering n p sets cut
    → AreFewestSets n p sets
covering_is_fewest laws sets None r = record { cover = r.cover; fewest = λ others c. let none = r.least in omega arith }
covering_is_fewest laws sets (Some A) r = record { cover = r.cover; fewest = covering_is_least laws sets A r.least.1 }

pub covering_case : (w : List Weight) (matroid : Tree) (n : ℕ) (sets : List (List ℕ)) (cut : Option (List ℕ))
    → RightIsOptimal (list w (matroid ∷ [])) (cover n sets cut)
covering_case w matroid n sets cut valid sound right = covering_is_fewest (the_matroid w n matroid right.0 sound) sets cut right.1
