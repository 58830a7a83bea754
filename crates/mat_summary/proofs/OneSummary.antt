-- One sample has one summary: two right answers to a problem are both best, and what a summary says of an answer is what is best.
use Rattle.mat_summary.proofs.Common.{◌≡◌, ℕ, ◌≤◌, List, [], ◌∷◌, ◌++◌, length, map, codes, pos, refl, sym, ap, subst, ◌∙◌, arith, most_elements, weight, Weight, at_most_both, Line, text_of, numeral, Certificate, intersect, union_of, trees, trees_none, arbor, unreached, assign, PricedRung}
use Rattle.mat_summary.proofs.Common.{IsRightLadder, IsOptimal, sample_of, SampleKind, IsAnswerOf, IsSummary, kind_word, query_of_kind, summary_words}
use Rattle.mat_any.specs.Trees.{Tree, is_independent}
use Rattle.mat_fronts.specs.Assignments.{column_at, row_at}
use Rattle.mat_fronts.specs.Once.{is_once}
use Rattle.mat_problem.specs.Validity.{IsValid}
use Rattle.mat_problem.specs.Instances.{Instance, pair, list, graph, rooted, table}
use Rattle.mat_cert.specs.declared.answer.LevelLine.{LevelLine}
use Rattle.mat_check.proofs.OptimalAnswers.{right_is_optimal}
use Rattle.mat_gen.specs.declared.kind.SampleKind.TheVariants as kinds
use Rattle.mat_gen.proofs.Validity.{sample_valid}
use Rattle.mat_solve.specs.Answers.{IsSolution}
use Rattle.mat_solve.specs.declared.query.Query.TheVariants.{Intersect, Union, Trees, Arborescence, Assign}
use Rattle.mat_solve.proofs.QueryAnswers.{on_intersect, on_union, on_trees, on_arborescence, on_assign}
use Rattle.mat_summary.proofs.SameLadders.{one_ladder}
use Rattle.mat_summary.proofs.SameUnions.{same_members, same_union_weight}
use Rattle.mat_summary.proofs.SummaryRanges.{sets_rise}

-- what two right answers to a problem come to is the same
abbrev Agree : Instance → Certificate → Certificate → Type 0
Agree instance answer other = IsSolution instance answer → IsSolution instance other → summary_words answer ≡ summary_words other

-- a right answer to a problem in range is best
best_of : (instance : Instance) → IsValid instance → (answer : Certificate) → IsSolution instance answer → IsOptimal instance answer
best_of instance valid answer solution = right_is_optimal instance answer valid solution.right

-- two ladders
ladders_agree : (w : List Weight) (first second : Tree) → IsValid (pair w first second) → (n m : ℕ) (rungs others : List PricedRung)
    (cut other_cut : List ℕ) → Agree (pair w first second) (intersect n rungs cut) (intersect m others other_cut)
ladders_agree w first second valid n m rungs others cut other_cut one two =
    let p = is_independent first in
    let q = is_independent second in
    let right = subst (λ k. IsRightLadder k p q w rungs cut) one.right.0 one.right.1 in
    let other = subst (λ k. IsRightLadder k p q w others other_cut) two.right.0 two.right.1 in
    one_ladder (length w) p q w rungs others cut other_cut right (best_of (pair w first second) valid (intersect n rungs cut) one)
    other (best_of (pair w first second) valid (intersect m others other_cut) two)

-- a right ladder of assignments, at the number of cells
right_assignments : (rows columns : ℕ) (cells : List (ℕ × ℕ)) (w : List Weight) (count n : ℕ) (rungs : List PricedRung) (cut : List ℕ)
    → n ≡ count → IsRightLadder n (is_once n rows (row_at cells)) (is_once n columns (column_at cells)) w rungs cut
    → IsRightLadder count (is_once count rows (row_at cells)) (is_once count columns (column_at cells)) w rungs cut
right_assignments rows columns cells w count n rungs cut same right =
    subst (λ k. IsRightLadder k (is_once k rows (row_at cells)) (is_once k columns (column_at cells)) w rungs cut) same right

-- two ladders of assignments
assignments_agree : (rows columns : ℕ) (cells : List (ℕ × ℕ)) (w : List Weight) → IsValid (table rows columns cells w)
    → (n r c m s d : ℕ) (rungs others : List PricedRung) (cut other_cut : List ℕ)
    → Agree (table rows columns cells w) (assign n r c rungs cut) (assign m s d others other_cut)
assignments_agree rows columns cells w valid n r c m s d rungs others cut other_cut one two =
    let right = right_assignments rows columns cells w (length cells) n rungs cut one.right.0 one.right.3 in
    let other = right_assignments rows columns cells w (length cells) m others other_cut two.right.0 two.right.3 in
    let k = length cells in
    one_ladder k (is_once k rows (row_at cells)) (is_once k columns (column_at cells)) w rungs others cut other_cut
    right (best_of (table rows columns cells w) valid (assign n r c rungs cut) one)
    other (best_of (table rows columns cells w) valid (assign m s d others other_cut) two)

-- two unions
unions_agree : (w : List Weight) (matroids : List Tree) → IsValid (list w matroids) → (n m : ℕ) (weight other_weight : Weight)
    (parts others : List (List ℕ)) (levels other_levels : List LevelLine)
    → Agree (list w matroids) (union_of n weight parts levels) (union_of m other_weight others other_levels)
unions_agree w matroids valid n m weight other_weight parts others levels other_levels one two =
    let tests = map is_independent matroids in
    let best = best_of (list w matroids) valid (union_of n weight parts levels) one in
    let other = best_of (list w matroids) valid (union_of m other_weight others other_levels) two in
    let members = same_members tests w parts others best.0 best.1 other.0 other.1
    (sets_rise n parts one.ranged.parts_in_range.each) (sets_rise m others two.ranged.parts_in_range.each) in
    let sum = one.right.1.priced ∙ same_union_weight tests w parts others best.0 best.1 other.0 other.1 ∙ sym two.right.1.priced in
    rw (members, sum) refl

-- trees, and that there are none
trees_apart : (vertices : ℕ) (edges : List (ℕ × ℕ)) → IsValid (graph vertices edges) → (n m asked v : ℕ) (sets classes : List (List ℕ))
    → length sets ≡ asked → IsSolution (graph vertices edges) (trees n sets)
    → IsSolution (graph vertices edges) (trees_none m asked v classes) → ⊥
trees_apart vertices edges valid n m asked v sets classes many one two =
    let found = best_of (graph vertices edges) valid (trees n sets) one in
    let fewer = best_of (graph vertices edges) valid (trees_none m asked v classes) two sets found in
    omega (arith, fewer, many)

-- two arborescences
arborescences_agree : (vertices root : ℕ) (arcs : List (ℕ × ℕ)) (costs : List Weight) → IsValid (rooted vertices root arcs costs)
    → (n m : ℕ) (cost other_cost : Weight) (tree other : List ℕ) (first second other_first other_second : List Weight)
    → Agree (rooted vertices root arcs costs) (arbor n cost tree first second) (arbor m other_cost other other_first other_second)
arborescences_agree vertices root arcs costs valid n m cost other_cost tree other first second other_first other_second one two =
    let best = best_of (rooted vertices root arcs costs) valid (arbor n cost tree first second) one in
    let best2 = best_of (rooted vertices root arcs costs) valid (arbor m other_cost other other_first other_second) two in
    let sum : cost ≡ other_cost =
    best.priced ∙ at_most_both (weight costs tree) (weight costs other) (best.least other best2.spanning) (best2.least tree best.spanning)
    ∙ sym best2.priced in
    rw sum refl

-- an arborescence, and that there is none
arborescence_apart : (vertices root : ℕ) (arcs : List (ℕ × ℕ)) (costs : List Weight) → IsValid (rooted vertices root arcs costs)
    → (n m v : ℕ) (cost : Weight) (tree set : List ℕ) (first second : List Weight)
    → IsSolution (rooted vertices root arcs costs) (arbor n cost tree first second)
    → IsSolution (rooted vertices root arcs costs) (unreached m v set) → ⊥
arborescence_apart vertices root arcs costs valid n m v cost tree set first second one two =
    let best = best_of (rooted vertices root arcs costs) valid (arbor n cost tree first second) one in
    best_of (rooted vertices root arcs costs) valid (unreached m v set) two tree best.spanning

-- ---- two right answers to the query about a problem of its form

pairs_agree : (w : List Weight) (first second : Tree) → IsValid (pair w first second) → (answer other : Certificate)
    → IsAnswerOf Intersect answer → IsAnswerOf Intersect other → Agree (pair w first second) answer other
pairs_agree w first second valid answer other of other_of =
    on_intersect (λ a. Agree (pair w first second) a other)
    (λ n rungs cut. on_intersect (Agree (pair w first second) (intersect n rungs cut))
    (λ m others other_cut. ladders_agree w first second valid n m rungs others cut other_cut) other other_of) answer of

tables_agree : (rows columns : ℕ) (cells : List (ℕ × ℕ)) (w : List Weight) → IsValid (table rows columns cells w)
    → (answer other : Certificate) → IsAnswerOf Assign answer → IsAnswerOf Assign other → Agree (table rows columns cells w) answer other
tables_agree rows columns cells w valid answer other of other_of =
    on_assign (λ a. Agree (table rows columns cells w) a other)
    (λ n r c rungs cut. on_assign (Agree (table rows columns cells w) (assign n r c rungs cut))
    (λ m s d others other_cut. assignments_agree rows columns cells w valid n r c m s d rungs others cut other_cut) other other_of) answer of

lists_agree : (w : List Weight) (matroids : List Tree) → IsValid (list w matroids) → (answer other : Certificate)
    → IsAnswerOf Union answer → IsAnswerOf Union other → Agree (list w matroids) answer other
lists_agree w matroids valid answer other of other_of =
    on_union (λ a. Agree (list w matroids) a other)
    (λ n weight parts levels. on_union (Agree (list w matroids) (union_of n weight parts levels))
    (λ m other_weight others other_levels. unions_agree w matroids valid n m weight other_weight parts others levels other_levels)
    other other_of) answer of

graphs_agree : (k vertices : ℕ) (edges : List (ℕ × ℕ)) → IsValid (graph vertices edges) → (answer other : Certificate)
    → IsAnswerOf (Trees k) answer → IsAnswerOf (Trees k) other → Agree (graph vertices edges) answer other
graphs_agree k vertices edges valid answer other of other_of =
    on_trees (λ a. Agree (graph vertices edges) a other) k
    (λ n sets many. on_trees (Agree (graph vertices edges) (trees n sets)) k
    (λ m others other_many one two. refl)
    (λ m asked v classes as_asked one two. absurd (trees_apart vertices edges valid n m asked v sets classes (many ∙ sym as_asked) one two))
    other other_of)
    (λ n asked v classes as_asked. on_trees (Agree (graph vertices edges) (trees_none n asked v classes)) k
    (λ m sets many one two. absurd (trees_apart vertices edges valid m n asked v sets classes (many ∙ sym as_asked) two one))
    (λ m other_asked u others as_other one two. refl) other other_of)
    answer of

rooted_agree : (vertices root : ℕ) (arcs : List (ℕ × ℕ)) (costs : List Weight) → IsValid (rooted vertices root arcs costs)
    → (answer other : Certificate) → IsAnswerOf Arborescence answer → IsAnswerOf Arborescence other
    → Agree (rooted vertices root arcs costs) answer other
rooted_agree vertices root arcs costs valid answer other of other_of =
    let problem = rooted vertices root arcs costs in
    on_arborescence (λ a. Agree problem a other)
    (λ n cost tree first second. on_arborescence (Agree problem (arbor n cost tree first second))
    (λ m other_cost other_tree other_first other_second. arborescences_agree vertices root arcs costs valid n m cost other_cost tree other_tree
    first second other_first other_second)
    (λ m v set one two. absurd (arborescence_apart vertices root arcs costs valid n m v cost tree set first second one two))
    other other_of)
    (λ n v set. on_arborescence (Agree problem (unreached n v set))
    (λ m cost tree first second one two. absurd (arborescence_apart vertices root arcs costs valid m n v cost tree set first second two one))
    (λ m u others one two. refl) other other_of)
    answer of

-- ---- samples

samples_agree : (kind : SampleKind) (size seed : ℕ) → IsValid (sample_of kind size seed) → (answer other : Certificate)
    → IsAnswerOf (query_of_kind kind) answer → IsAnswerOf (query_of_kind kind) other → Agree (sample_of kind size seed) answer other
samples_agree kinds.Pair size seed valid = pairs_agree _ _ _ valid
samples_agree kinds.List size seed valid = lists_agree _ _ valid
samples_agree kinds.Graph size seed valid = graphs_agree 2 _ _ valid
samples_agree kinds.Rooted size seed valid = rooted_agree _ _ _ _ valid
samples_agree kinds.Table size seed valid = tables_agree _ _ _ _ valid

-- the text of a sample whose answer comes to these words
abbrev sample_line : SampleKind → ℕ → ℕ → Line → List ℕ
sample_line kind size seed words =
    text_of ((codes "sample" ∷ kind_word kind ∷ numeral (pos size) ∷ numeral (pos seed) ∷ words ++ codes "accepted" ∷ []) ∷ [])

pub one_summary : (kind : SampleKind) (size seed : ℕ) (text other : List ℕ) → size ≤ most_elements → IsSummary kind size seed text
    → IsSummary kind size seed other → text ≡ other
one_summary kind size seed text other few one two =
    let valid = sample_valid kind size seed few in
    let same = samples_agree kind size seed valid one.certificate two.certificate one.of_query two.of_query one.solution two.solution in
    one.whole ∙ ap (sample_line kind size seed) same ∙ sym two.whole
