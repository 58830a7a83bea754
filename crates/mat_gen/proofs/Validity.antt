-- What is drawn is in range: each draw is below its bound, and so the numbers of a sample are those of a valid problem.
use Rattle.mat_gen.proofs.Common.{◌≡◌, ℕ, zero, suc, ◌+◌, ◌*◌, ◌/◌, ◌<◌, ◌≤◌, List, [], ◌∷◌, length, map, replicate, pos, ◌-ℤ◌, Result, Ok, Err, refl, sym, subst, ◌∙◌, arith, IfOk, length-replicate, IsSet, all_below, length-map_all_below, IsSet-those_below, classes_by, Tree, graphic, partition}
use Rattle.mat_gen.proofs.Common.{Instance, state_after, draw, class_drawn, pair_drawn, pairs_drawn, sample_of, weight_from, weights_from}
use Rattle.std.specs.List.{All}
use Rattle.std.proofs.Math.Nat.{mod-lt}
use Rattle.std.proofs.lemmas.Int.{ints}
use Rattle.std.proofs.lemmas.List.Elements.{All-nil, All-cons}
use Rattle.mat_sets.specs.Sums.{IsWithin}
use Rattle.mat_sets.specs.Graphs.{IsGraph}
use Rattle.mat_count.proofs.LabelClasses.{IsPartition-classes_by}
use Rattle.mat_sets.specs.Limits.{largest_weight, most_elements}
use Rattle.mat_problem.specs.Validity.{AreClasses, IsPairBelow, IsValidMatroid, IsWeight, IsValid}
use Rattle.mat_problem.proofs.SoundProblems.{IsGraph-pairs}
use Rattle.mat_gen.specs.declared.kind.SampleKind.{SampleKind}
use Rattle.mat_gen.specs.declared.kind.SampleKind.TheVariants as kinds

-- ---- one draw

pub draw-below : (seed k m : ℕ) → 0 < m → draw seed k m < m
draw-below seed k m some = mod-lt (state_after seed (suc k)) some

pair_below : (seed k m : ℕ) → 0 < m → IsPairBelow m m (pair_drawn seed k m)
pair_below seed k m some = (draw-below seed k m some, draw-below seed (suc k) m some)

small_weight : (d z : ℕ) → d < 2001 → z ≤ 1000 → IsWithin largest_weight (pos d -ℤ pos z)
small_weight d z l small = (omega (arith, ints), omega (arith, ints))

no_tie : IsWithin largest_weight (pos 0)
no_tie = (omega (arith, ints), omega (arith, ints))

weight_within : (seed k m z : ℕ) → 0 < m → m ≤ 2001 → z ≤ 1000 → IsWeight (weight_from seed k m z)
weight_within seed k m z some few small =
    let below = draw-below seed k m some in (small_weight (draw seed k m) z (omega (arith, below, few)) small, no_tie)

-- ---- a list of draws

pub All-map_each : {A B : Type 0} (P : B → Type 0) (f : A → B) → ((x : A) → P (f x)) → (xs : List A) → All P (map f xs)
All-map_each P f h [] = All-nil P
All-map_each P f h (x ∷ xs) = All-cons P (f x) (map f xs) (h x) (All-map_each P f h xs)

All-replicate : {A : Type 0} (P : A → Type 0) (x : A) → P x → (n : ℕ) → All P (replicate n x)
All-replicate P x h zero = All-nil P
All-replicate P x h (suc n) = All-cons P x (replicate n x) h (All-replicate P x h n)

pairs_below : (seed n each from m : ℕ) → 0 < m → All (IsPairBelow m m) (pairs_drawn seed n each from m)
pairs_below seed n each from m some =
    All-map_each (IsPairBelow m m) (λ e. pair_drawn seed (each * e + from) m) (λ e. pair_below seed (each * e + from) m some) (all_below n)

length-pairs : (seed n each from m : ℕ) → length (pairs_drawn seed n each from m) ≡ n
length-pairs seed n each from m = length-map_all_below (λ e. pair_drawn seed (each * e + from) m) n

weights_within : (seed n each from m z : ℕ) → 0 < m → m ≤ 2001 → z ≤ 1000 → All IsWeight (weights_from seed n each from m z)
weights_within seed n each from m z some few small =
    All-map_each IsWeight (λ e. weight_from seed (each * e + from) m z)
    (λ e. weight_within seed (each * e + from) m z some few small) (all_below n)

length-weights : (seed n each from m z : ℕ) → length (weights_from seed n each from m z) ≡ n
length-weights seed n each from m z = length-map_all_below (λ e. weight_from seed (each * e + from) m z) n

-- edges that are drawn are those of a graph
pub graph_drawn : (seed n each from m : ℕ) (edges : List (ℕ × ℕ)) → n ≤ most_elements → 0 < m → edges ≡ pairs_drawn seed n each from m
    → IsGraph m edges
graph_drawn seed n each from m edges few some is =
    subst (IsGraph m) (sym is)
    (IsGraph-pairs m (pairs_drawn seed n each from m) (rw (length-pairs seed n each from m) (omega (arith, few)))
    (pairs_below seed n each from m some))

-- ---- matroids

graphic_valid : (seed n each from m : ℕ) → 1 ≤ m → m ≤ most_elements → IsValidMatroid n (graphic m (pairs_drawn seed n each from m))
graphic_valid seed n each from m some few =
    ((length-pairs seed n each from m, some, few, pairs_below seed n each from m (omega (arith, some))), omega arith)

classes_valid : (seed n q : ℕ) → q ≤ most_elements → AreClasses n (map (class_drawn seed n q) (all_below q)) (replicate q 1)
unfolding classes_by
classes_valid seed n q few =
    let label : ℕ → ℕ = λ e. draw seed (4 * e + 2) q in
    let long : length (replicate q 1) ≡ q = length-replicate q 1 in
    let many : length (map (class_drawn seed n q) (all_below q)) ≡ q = length-map_all_below (class_drawn seed n q) q in
    let parts = IsPartition-classes_by n q label (replicate q 1) long in
    record {
      few = few_classes (length (map (class_drawn seed n q) (all_below q))) many;
      as_many = long ∙ sym many;
      caps_small = All-replicate (λ cap. cap ≤ most_elements) 1 one_small q;
      sets = All-map_each (IsSet n) (class_drawn seed n q) (λ c. IsSet-those_below n _) (all_below q);
      disjoint = parts.disjoint;
    }
  where
    few_classes : (many : ℕ) → many ≡ q → many ≤ most_elements
    few_classes many is = omega (arith, is, few)

    one_small : 1 ≤ most_elements
    one_small = omega arith

-- ---- samples

-- numbers of vertices, rows and classes
vertices_few : (n : ℕ) → n ≤ most_elements → n / 4 + 2 ≤ most_elements
vertices_few n few = omega (arith, few)

eighths_few : (n : ℕ) → n ≤ most_elements → n / 8 + 2 ≤ most_elements
eighths_few n few = omega (arith, few)

classes_few : (n : ℕ) → n ≤ most_elements → n / 5 + 1 ≤ most_elements
classes_few n few = omega (arith, few)

-- a sample of at most 500 elements is in range
pub sample_valid : (kind : SampleKind) (n seed : ℕ) → n ≤ most_elements → IsValid (sample_of kind n seed)
sample_valid kinds.Pair n seed few =
    let v = n / 4 + 2 in
    let q = n / 5 + 1 in
    let long = length-weights seed n 4 3 2001 1000 in (
      (omega (arith, long, few), weights_within seed n 4 3 2001 1000 (omega arith) (omega arith) (omega arith)),
      subst (λ (m : ℕ). IsValidMatroid m (graphic v (pairs_drawn seed n 4 0 v))) (sym long)
          (graphic_valid seed n 4 0 v (omega arith) (vertices_few n few)),
      subst (λ (m : ℕ). IsValidMatroid m (partition n (map (class_drawn seed n q) (all_below q)) (replicate q 1))) (sym long)
          ((refl, classes_valid seed n q (classes_few n few)), omega arith),
    )
sample_valid kinds.List n seed few =
    let v = n / 4 + 2 in
    let long = length-weights seed n 5 4 2001 1000 in
    let first : Tree = graphic v (pairs_drawn seed n 5 0 v) in
    let second : Tree = graphic v (pairs_drawn seed n 5 2 v) in
    let one : IsValidMatroid n first = graphic_valid seed n 5 0 v (omega arith) (vertices_few n few) in
    let two : IsValidMatroid n second = graphic_valid seed n 5 2 v (omega arith) (vertices_few n few) in (
      (omega (arith, long, few), weights_within seed n 5 4 2001 1000 (omega arith) (omega arith) (omega arith)),
      omega arith,
      omega arith,
      subst (λ (m : ℕ). All (IsValidMatroid m) (first ∷ second ∷ [])) (sym long)
          (All-cons (IsValidMatroid n) first (second ∷ []) one (All-cons (IsValidMatroid n) second [] two (All-nil (IsValidMatroid n)))),
    )
sample_valid kinds.Graph n seed few =
    let v = n / 8 + 2 in
    let long = length-pairs seed n 2 0 v in
    (omega arith, eighths_few n few, (omega (arith, long, few), pairs_below seed n 2 0 v (omega arith)))
sample_valid kinds.Rooted n seed few =
    let v = n / 4 + 2 in
    let long = length-pairs seed n 3 0 v in
    let paid = length-weights seed n 3 2 1001 0 in (
      omega arith,
      vertices_few n few,
      omega arith,
      (omega (arith, long, few), pairs_below seed n 3 0 v (omega arith)),
      paid ∙ sym long,
      weights_within seed n 3 2 1001 0 (omega arith) (omega arith) (omega arith),
    )
sample_valid kinds.Table n seed few =
    let v = n / 4 + 1 in
    let long = length-pairs seed n 3 0 v in
    let weighed = length-weights seed n 3 2 2001 1000 in (
      omega (arith, vertices_few n few),
      omega (arith, vertices_few n few),
      (omega (arith, long, few), pairs_below seed n 3 0 v (omega arith)),
      weighed ∙ sym long,
      weights_within seed n 3 2 2001 1000 (omega arith) (omega arith) (omega arith),
    )

-- ---- answers

-- an answer that is the sample is in range
pub answer_valid : {X E : Type 0} (view : X → Instance) (kind : SampleKind) (n seed : ℕ) → n ≤ most_elements → (result : Result X E)
    → IfOk result (λ x. view x ≡ sample_of kind n seed) → IfOk result (λ x. IsValid (view x))
answer_valid view kind n seed few (Ok x) is = subst IsValid (sym is) (sample_valid kind n seed few)
answer_valid view kind n seed few (Err e) is = tt
