-- The lines of matroids that stand one after the other: what is read is spelled so, and what is spelled so is read.
use Rattle.mat_desc.proofs.Common.{◌≡◌, ℕ, zero, suc, List, [], ◌∷◌, length, Ok, refl, ap, subst, All-nil, All-cons, All-head, All-tail, Line, Tree, Naming, IsNaming, LinesLeft, repeat_at, matroid_at, IsValidMatroid, MatroidsLines, found-same, bind_found, AreLeft}
use Rattle.std.specs.List.{All}
use Rattle.mat_desc.proofs.MatroidLaws.{matroid_found, matroid_again}

-- as many matroids were read
pub record AreMatroidsRead (naming : Naming) (n many : ℕ) (p : LinesLeft) (trees : List Tree) (q : LinesLeft) : Type 0 where
  pub count : length trees ≡ many
  pub each : All (IsValidMatroid n) trees
  pub spelled : (rest : List Line) → AreLeft rest q → (lines : List Line) × AreLeft lines p × MatroidsLines naming trees lines rest

pub matroids_found : (naming : Naming) (n : ℕ) → IsNaming n naming → (many : ℕ) (p : LinesLeft) (trees : List Tree) (q : LinesLeft)
    → repeat_at (matroid_at naming n) many p ≡ Ok (trees, q)
    → AreMatroidsRead naming n many p trees q
unfolding repeat_at
matroids_found naming n named zero p trees q e =
    let same = found-same ([], p) (trees, q) e in
    subst (λ (r : List Tree × LinesLeft). AreMatroidsRead naming n 0 p r.0 r.1) same
    (record { count = refl; each = All-nil (IsValidMatroid n); spelled = λ rest left. (rest, left, refl) })
matroids_found naming n named (suc many) p trees q e =
    let first = bind_found (matroid_at naming n p) _ (trees, q) e in
    let others = bind_found (repeat_at (matroid_at naming n) many first.0.1) _ (trees, q) first.2 in
    let same = found-same (first.0.0 ∷ others.0.0, others.0.1) (trees, q) others.2 in
    let here = matroid_found naming n named p first.0.0 first.0.1 first.1 in
    let more = matroids_found naming n named many first.0.1 others.0.0 others.0.1 others.1 in
    subst (λ (r : List Tree × LinesLeft). AreMatroidsRead naming n (suc many) p r.0 r.1) same (record {
      count = ap suc more.count;
      each = All-cons (IsValidMatroid n) first.0.0 others.0.0 here.valid more.each;
      spelled = λ rest left.
          let behind = more.spelled rest left in
          let lines = here.spelled behind.0 behind.1 in
          (lines.0, lines.1, (behind.0, lines.2, behind.2));
    })

pub matroids_again : (naming : Naming) (n : ℕ) → IsNaming n naming → (p : LinesLeft) (trees : List Tree) (lines rest : List Line)
    → All (IsValidMatroid n) trees
    → MatroidsLines naming trees lines rest → AreLeft lines p
    → (q : LinesLeft) × (repeat_at (matroid_at naming n) (length trees) p ≡ Ok (trees, q)) × AreLeft rest q
unfolding repeat_at
matroids_again naming n named p [] lines rest valid spelled left = (p, refl, subst (λ (ls : List Line). AreLeft ls p) spelled left)
matroids_again naming n named p (tree ∷ trees) lines rest valid spelled left =
    let first = matroid_again naming n named p tree lines spelled.0 (All-head (IsValidMatroid n) tree trees valid) spelled.1 left in
    let others = matroids_again naming n named first.0 trees spelled.0 rest (All-tail (IsValidMatroid n) tree trees valid) spelled.2 first.2 in
    (others.0, rw (first.1, others.1) refl, others.2)
