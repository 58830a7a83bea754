-- Each right answer gives a reason: facts that hold and suffice.
use Rattle.mat_facts.proofs.Common.{◌<◌, ◌-◌, suc, true, Bool, length, map, inl, inr, arith, ◌≡◌, ℕ, [], ◌∷◌, Some, slice_get, ◌+◌, ◌≤◌, ◌⊎◌, ◌||◌, eqb, refl, cases_lt, eq-eqb, or_left, or_right, slice_get_within, ◌≼◌, PlainRung, Instance, pair, list, graph, rooted, coloured, table}
use Rattle.mat_facts.proofs.Common.{IsValid, Certificate, intersect, best, union_of, pack_any, pack, cover_never, cover, trees, trees_none, arbor, unreached, disjoint, disjoint_none, rainbow, assign, IsRight, plain_rung, rungs_of, Holds, reason_of, told_sizes, BoundsEachSize, BoundsSize}
use Rattle.mat_facts.proofs.Common.{Suffice}
use Rattle.std.specs.List.{All}
use Rattle.mat_facts.proofs.BestOfRungs.{heaviest_shown, rungs_shown}
use Rattle.mat_facts.proofs.RightGraphReasons.{arborescences_give, least_gives, partition_gives, seldom_entered_gives, trees_give, unreached_gives}
use Rattle.mat_facts.proofs.RightLadderReasons.{assignment_gives, best_gives, intersection_gives, rainbow_gives, GivesReason, GivesRungs}
use Rattle.mat_facts.proofs.RightSetReasons.{covering_gives, never_gives, no_rank_gives, packing_gives, union_gives}

-- the facts hold, and they suffice if each size of which the answer has a set is told
abbrev ReasonHolds : (ℕ → Bool) → Instance → Certificate → Type 0
ReasonHolds told problem answer = All (Holds problem answer) (reason_of told problem answer)
    × (((k : ℕ) → k < length (rungs_of answer) → told k ≡ true) → Suffice problem answer (reason_of told problem answer))

-- whatever is told, they suffice
always : (told : ℕ → Bool) (problem : Instance) (answer : Certificate) → GivesReason problem answer → ReasonHolds told problem answer
always told problem answer g = ((g told).0, λ all. (g told).1)

pub right_gives_reason : (told : ℕ → Bool) (problem : Instance) (answer : Certificate) → IsValid problem → IsRight problem answer
    → ReasonHolds told problem answer
right_gives_reason told (pair w first second) (intersect n rungs cut) valid right =
    let g = intersection_gives told w first second n rungs cut valid right in
    (g.hold, λ all. rungs_shown told (pair w first second) (map plain_rung rungs) (reason_of told (pair w first second) (intersect n rungs cut)) all g.rungs)
right_gives_reason told (list w matroids) (union_of n printed parts levels) valid right =
    always told (list w matroids) (union_of n printed parts levels) (union_gives w matroids n printed parts levels valid right)
right_gives_reason told (list w (matroid ∷ [])) (best n rungs) valid right =
    let g = best_gives told w matroid n rungs valid right in
    (g.hold, λ all. rungs_shown told (list w (matroid ∷ [])) rungs (reason_of told (list w (matroid ∷ [])) (best n rungs)) all g.rungs)
right_gives_reason told (list w (matroid ∷ [])) (pack_any n) valid right =
    always told (list w (matroid ∷ [])) (pack_any n) (no_rank_gives w matroid n valid right)
right_gives_reason told (list w (matroid ∷ [])) (pack n bases cut) valid right =
    always told (list w (matroid ∷ [])) (pack n bases cut) (packing_gives w matroid n valid bases cut right)
right_gives_reason told (list w (matroid ∷ [])) (cover_never n loop_at) valid right =
    always told (list w (matroid ∷ [])) (cover_never n loop_at) (never_gives w matroid n valid loop_at right)
right_gives_reason told (list w (matroid ∷ [])) (cover n sets cut) valid right =
    always told (list w (matroid ∷ [])) (cover n sets cut) (covering_gives w matroid n valid sets cut right)
right_gives_reason told (graph vertices edges) (trees n sets) valid right =
    always told (graph vertices edges) (trees n sets) (trees_give vertices edges n sets right)
right_gives_reason told (graph vertices edges) (trees_none n k v classes) valid right =
    always told (graph vertices edges) (trees_none n k v classes) (partition_gives vertices edges n k v classes right)
right_gives_reason told (rooted vertices root arcs costs) (arbor n cost tree first second) valid right =
    always told (rooted vertices root arcs costs) (arbor n cost tree first second)
    (least_gives vertices root arcs costs n cost tree first second valid right)
right_gives_reason told (rooted vertices root arcs costs) (unreached n v set) valid right =
    always told (rooted vertices root arcs costs) (unreached n v set) (unreached_gives vertices root arcs costs n v set right)
right_gives_reason told (rooted vertices root arcs costs) (disjoint n sets) valid right =
    always told (rooted vertices root arcs costs) (disjoint n sets) (arborescences_give vertices root arcs costs n sets right)
right_gives_reason told (rooted vertices root arcs costs) (disjoint_none n k v set) valid right =
    always told (rooted vertices root arcs costs) (disjoint_none n k v set) (seldom_entered_gives vertices root arcs costs n k v set right)
right_gives_reason told (coloured vertices colours edges colour_of w) (rainbow n v c rungs cut missing) valid right =
    let g = rainbow_gives told vertices colours edges colour_of w n v c rungs cut missing valid right in (
      g.hold,
      λ all. rungs_shown told (coloured vertices colours edges colour_of w) (map plain_rung rungs)
          (reason_of told (coloured vertices colours edges colour_of w) (rainbow n v c rungs cut missing)) all g.rungs,
    )
right_gives_reason told (table rows columns cells w) (assign n r c rungs cut) valid right =
    let g = assignment_gives told rows columns cells w n r c rungs cut valid right in
    (g.hold, λ all. rungs_shown told (table rows columns cells w) (map plain_rung rungs) (reason_of told (table rows columns cells w) (assign n r c rungs cut)) all g.rungs)
right_gives_reason told problem answer valid right = absurd right

-- ---- sets of each size

-- the rungs of a right answer that has some
pub right_gives_rungs : (told : ℕ → Bool) (problem : Instance) (answer : Certificate) → IsValid problem → IsRight problem answer
    → 0 < length (rungs_of answer) → GivesRungs told problem answer
right_gives_rungs told (pair w first second) (intersect n rungs cut) valid right some = intersection_gives told w first second n rungs cut valid right
right_gives_rungs told (list w (matroid ∷ [])) (best n rungs) valid right some = best_gives told w matroid n rungs valid right
right_gives_rungs told (coloured vertices colours edges colour_of w) (rainbow n v c rungs cut missing) valid right some =
    rainbow_gives told vertices colours edges colour_of w n v c rungs cut missing valid right
right_gives_rungs told (table rows columns cells w) (assign n r c rungs cut) valid right some =
    assignment_gives told rows columns cells w n r c rungs cut valid right
right_gives_rungs told problem (union_of n printed parts levels) valid right some = absurd (omega arith)
right_gives_rungs told problem (pack_any n) valid right some = absurd (omega arith)
right_gives_rungs told problem (pack n bases cut) valid right some = absurd (omega arith)
right_gives_rungs told problem (cover_never n loop_at) valid right some = absurd (omega arith)
right_gives_rungs told problem (cover n sets cut) valid right some = absurd (omega arith)
right_gives_rungs told problem (trees n sets) valid right some = absurd (omega arith)
right_gives_rungs told problem (trees_none n k v classes) valid right some = absurd (omega arith)
right_gives_rungs told problem (arbor n cost tree first second) valid right some = absurd (omega arith)
right_gives_rungs told problem (unreached n v set) valid right some = absurd (omega arith)
right_gives_rungs told problem (disjoint n sets) valid right some = absurd (omega arith)
right_gives_rungs told problem (disjoint_none n k v set) valid right some = absurd (omega arith)
right_gives_rungs told problem answer valid right some = absurd right

-- the sizes that are told for the heaviest set and for the last: both, and those beside the first
pub told_sizes_are : (k last : ℕ) → (told_sizes k last k ≡ true) × (told_sizes k last (k - 1) ≡ true) × (told_sizes k last (suc k) ≡ true)
    × (told_sizes k last last ≡ true)
told_sizes_are k last = (
  or_left (eqb k k || (eqb (k + 1) k || eqb k (k + 1))) (eqb k last) (or_left (eqb k k) (eqb (k + 1) k || eqb k (k + 1)) (eq-eqb k k refl)),
  or_left (eqb (k - 1) k || (eqb (k - 1 + 1) k || eqb (k - 1) (k + 1))) (eqb (k - 1) last) (before (cases_lt 0 k)),
  or_left (eqb (suc k) k || (eqb (suc k + 1) k || eqb (suc k) (k + 1))) (eqb (suc k) last)
      (or_right (eqb (suc k) k) _ (or_right (eqb (suc k + 1) k) (eqb (suc k) (k + 1)) (eq-eqb (suc k) (k + 1) (omega arith)))),
  or_right _ (eqb last last) (eq-eqb last last refl),
)
  where
    before : (0 < k) ⊎ (k ≤ 0) → (eqb (k - 1) k || (eqb (k - 1 + 1) k || eqb (k - 1) (k + 1))) ≡ true
    before (inl some) = or_right (eqb (k - 1) k) _ (or_left (eqb (k - 1 + 1) k) (eqb (k - 1) (k + 1)) (eq-eqb (k - 1 + 1) k (omega arith)))
    before (inr none) = or_left (eqb (k - 1) k) _ (eq-eqb (k - 1) k (omega arith))

module _ (told : ℕ → Bool) (problem : Instance) (answer : Certificate) (valid : IsValid problem) (right : IsRight problem answer)
    (k : ℕ) (rung : PlainRung) (at : slice_get (rungs_of answer) k ≡ Some rung) (here : told k ≡ true) where
  some_rung : 0 < length (rungs_of answer)
  some_rung = let inside = slice_get_within (rungs_of answer) k rung at in omega arith

  -- a size that is told is bounded
  pub told_size_bounded : BoundsSize problem (reason_of told problem answer) k rung.weight
  told_size_bounded = ((right_gives_rungs told problem answer valid right some_rung).rungs.each k rung at here).bound

  -- the heaviest of all, where the sizes beside it are told too
  pub heaviest_rung_shown : told (k - 1) ≡ true → told (suc k) ≡ true
      → ((j : ℕ) (other : PlainRung) → slice_get (rungs_of answer) j ≡ Some other → other.weight ≼ rung.weight)
      → BoundsEachSize problem (reason_of told problem answer) k rung.weight
  heaviest_rung_shown before behind heaviest =
      let g = right_gives_rungs told problem answer valid right some_rung in
      heaviest_shown problem answer (reason_of told problem answer) valid g.hold told (rungs_of answer) g.are g.rungs k rung at here before behind heaviest
