-- Spanning trees, partitions, arborescences and vertex sets that are entered too seldom: an answer in range is right exactly where none of its
-- clauses fails. Each clause is the test of a sentence of the definition, so that all hold where each sentence does.
use Rattle.mat_check.proofs.Common.{◌≡◌, ℕ, ◌<◌, ◌-◌, ◌*◌, ◌&&◌, true, eqb, List, [], ◌∷◌, ◌++◌, length, get_or, inl, inr, refl, sym, subst, ◌∙◌, arith, and_from, and_parts, both_ways, cases_lt, eq-eqb, eqb-true, false_from_ne_true, lt-ltb, ltb-true, not-true, not_from_false, All-from_get_or}
use Rattle.mat_check.proofs.Common.{ends_of, entering, enters, IsGraph, IsSpanningArborescence, IsUnentered, all_below, is_member, IsSet, Weight, is_member-entering, below_member, is_member-all_below, IsSet-all_below, member_from_some, some_from_member, part_at, crossing, AreTrees, IsRightPartition}
use Rattle.mat_check.proofs.Common.{AreDisjointArborescences, IsSeldomEntered, spanning_is_told, graph, rooted, disjoint, disjoint_none, trees, trees_none, unreached, clauses_of, Clause, numbered_clauses, missed_clauses, overlap_clauses, arborescence_clause, crossing_clause, disjoint_clauses}
use Rattle.mat_check.proofs.Common.{partition_clauses, seldom_entered_clauses, some_clause, tree_clause, trees_clauses}
use Rattle.std.specs.List.{All}
use Rattle.mat_packing.proofs.SpanningTrees.{spanning_tree_from, spanning_tree_gives}
use Rattle.mat_check.proofs.AnswerForms.{RightHasNoFailure}
use Rattle.mat_check.proofs.FirstFailures.{all_hold, none_fails, AllHold, AllHold-append, AllHold-back, AllHold-front}
use Rattle.mat_check.proofs.NumberedFailures.{all_items_hold, each_holds}
use Rattle.mat_check.proofs.Overlaps.{disjoint_where_none_overlaps, missed_none, none_missed, none_overlaps, overlap_none}
use Rattle.mat_check.proofs.ValidGraphs.{rooted_is_graph, root_is_below}

-- ---- a header with two numbers

same_numbers : (n count v vertices : ℕ) → n ≡ count → v ≡ vertices → (eqb n count && eqb v vertices) ≡ true
same_numbers n count v vertices a b = and_from (eqb n count) (eqb v vertices) (eq-eqb n count a) (eq-eqb v vertices b)

numbers_same : (n count v vertices : ℕ) → (eqb n count && eqb v vertices) ≡ true → (n ≡ count) × (v ≡ vertices)
numbers_same n count v vertices h =
    let both = and_parts (eqb n count) (eqb v vertices) h in
    (eqb-true n count both.0, eqb-true v vertices both.1)

-- ---- spanning trees

module _ (vertices n : ℕ) (ends : ℕ → ℕ × ℕ) (sets : List (List ℕ)) where
  abbrev tree_at : ℕ → List ℕ → List Clause
  tree_at i tree = tree_clause vertices n ends i tree ∷ []

  trees_hold : AreTrees vertices n ends sets → AllHold (trees_clauses vertices n ends sets)
  trees_hold r = AllHold-append (overlap_clauses n sets) (numbered_clauses tree_at 0 sets)
      (none_overlaps n sets (λ x small. r.disjoint.once x))
      (all_items_hold tree_at sets [] (λ i l. (spanning_tree_from (r.each i l), tt)))

  trees_are_right : All (IsSet n) sets → AllHold (trees_clauses vertices n ends sets) → AreTrees vertices n ends sets
  trees_are_right ranged h = record {
    disjoint = disjoint_where_none_overlaps n sets ranged (AllHold-front (overlap_clauses n sets) (numbered_clauses tree_at 0 sets) h);
    each = λ i l. spanning_tree_gives
        (each_holds tree_at sets [] (AllHold-back (overlap_clauses n sets) (numbered_clauses tree_at 0 sets) h) i l).0;
  }

pub trees_found : (vertices : ℕ) (edges : List (ℕ × ℕ)) (n : ℕ) (sets : List (List ℕ))
    → RightHasNoFailure (graph vertices edges) (trees n sets)
trees_found vertices edges n sets valid sound ranged =
    let clauses = clauses_of (graph vertices edges) (trees n sets) in (
      λ right. none_fails clauses (eq-eqb n (length edges) right.0, trees_hold vertices n (ends_of edges) sets right.1),
      λ none.
          let h = all_hold clauses none in
          (eqb-true n (length edges) h.0, trees_are_right vertices n (ends_of edges) sets ranged.sets_in_range.each h.1),
    )

-- ---- partitions

module _ (vertices n : ℕ) (ends : ℕ → ℕ × ℕ) (k : ℕ) (classes : List (List ℕ)) where
  abbrev some_at : ℕ → List ℕ → List Clause
  some_at i class = some_clause i class ∷ []

  abbrev overlaps : List Clause
  overlaps = overlap_clauses vertices classes

  abbrev filled : List Clause
  filled = numbered_clauses some_at 0 classes

  abbrev misses : List Clause
  misses = missed_clauses vertices classes

  abbrev few : List Clause
  few = crossing_clause n ends k classes ∷ []

  partition_holds : IsRightPartition vertices n ends k classes → AllHold (partition_clauses vertices n ends k classes)
  partition_holds r =
      let apart = none_overlaps vertices classes (λ x small. let e = r.once x small in omega arith) in
      let some = all_items_hold some_at classes [] (λ i l. (lt-ltb 0 (length (part_at classes i)) (r.filled i l), tt)) in
      let all = none_missed vertices classes (λ x small. let e = r.once x small in omega arith) in
      let last = lt-ltb (length (crossing n ends classes)) (k * (length classes - 1)) r.few in
      AllHold-append (overlaps ++ filled ++ misses) few
      (AllHold-append (overlaps ++ filled) misses (AllHold-append overlaps filled apart some) all) (last, tt)

  partition_is_right : All (IsSet vertices) classes → AllHold (partition_clauses vertices n ends k classes)
      → IsRightPartition vertices n ends k classes
  partition_is_right ranged h =
      let three = AllHold-front (overlaps ++ filled ++ misses) few h in
      let two = AllHold-front (overlaps ++ filled) misses three in
      let apart = AllHold-front overlaps filled two in
      let some = AllHold-back overlaps filled two in
      let all = AllHold-back (overlaps ++ filled) misses three in
      let last = AllHold-back (overlaps ++ filled ++ misses) few h in
      record {
        filled = λ q l. ltb-true 0 (length (part_at classes q)) (each_holds some_at classes [] some q l).0;
        below = λ q x l m. below_member (ranged q [] l) m;
        once = λ x small.
            let most = overlap_none vertices classes apart x small in
            let least = missed_none vertices classes all x small in
            omega arith;
        few = ltb-true (length (crossing n ends classes)) (k * (length classes - 1)) last.0;
      }

pub partition : (vertices : ℕ) (edges : List (ℕ × ℕ)) (n k v : ℕ) (classes : List (List ℕ))
    → RightHasNoFailure (graph vertices edges) (trees_none n k v classes)
partition vertices edges n k v classes valid sound ranged =
    let clauses = clauses_of (graph vertices edges) (trees_none n k v classes) in (
      λ right. none_fails clauses
          (same_numbers n (length edges) v vertices right.0 right.1, partition_holds vertices n (ends_of edges) k classes right.2),
      λ none.
          let h = all_hold clauses none in
          let same = numbers_same n (length edges) v vertices h.0 in
          let sets = subst (λ m. All (IsSet m) classes) same.1 ranged.1.each in
          (same.0, same.1, partition_is_right vertices n (ends_of edges) k classes sets h.1),
    )

-- ---- arborescences

module _ (vertices n root : ℕ) (ends : ℕ → ℕ × ℕ) (sets : List (List ℕ)) (below : root < vertices)
    (tails : (a : ℕ) → a < n → (ends a).0 < vertices) where
  abbrev arborescence_at : ℕ → List ℕ → List Clause
  arborescence_at i tree = arborescence_clause vertices ends root i tree ∷ []

  arborescences_hold : AreDisjointArborescences vertices n ends root (length sets) sets → AllHold (disjoint_clauses vertices n ends root sets)
  arborescences_hold r = AllHold-append (overlap_clauses n sets) (numbered_clauses arborescence_at 0 sets)
      (none_overlaps n sets (λ x small. r.disjoint.once x))
      (all_items_hold arborescence_at sets [] (λ i l.
      let spans : IsSpanningArborescence vertices n ends root (get_or sets i []) = r.each i [] l in
      ((spanning_is_told vertices n root ends (get_or sets i []) below tails spans.set).1 spans, tt)))

  arborescences_are_right : All (IsSet n) sets → AllHold (disjoint_clauses vertices n ends root sets)
      → (k : ℕ) → length sets ≡ k → AreDisjointArborescences vertices n ends root k sets
  arborescences_are_right ranged h k many =
      let apart = AllHold-front (overlap_clauses n sets) (numbered_clauses arborescence_at 0 sets) h in
      let each = AllHold-back (overlap_clauses n sets) (numbered_clauses arborescence_at 0 sets) h in
      record {
        many = many;
        each = All-from_get_or (IsSpanningArborescence vertices n ends root) sets [] (λ i l.
            (spanning_is_told vertices n root ends (get_or sets i []) below tails (ranged i [] l)).0
            (each_holds arborescence_at sets [] each i l).0);
        disjoint = disjoint_where_none_overlaps n sets ranged apart;
      }

-- the tails of as many arcs are vertices
tails_below : (vertices : ℕ) (arcs : List (ℕ × ℕ)) (n : ℕ) → n ≡ length arcs → IsGraph vertices arcs
    → (a : ℕ) → a < n → (ends_of arcs a).0 < vertices
tails_below vertices arcs n same g a small = g.first a (omega (arith, same, small))

pub arborescences : (vertices root : ℕ) (arcs : List (ℕ × ℕ)) (costs : List Weight) (n : ℕ) (sets : List (List ℕ))
    → RightHasNoFailure (rooted vertices root arcs costs) (disjoint n sets)
arborescences vertices root arcs costs n sets valid sound ranged =
    let clauses = clauses_of (rooted vertices root arcs costs) (disjoint n sets) in
    let g = rooted_is_graph vertices root arcs costs valid in
    let below = root_is_below vertices root arcs costs valid in (
      λ right. none_fails clauses (
        eq-eqb n (length arcs) right.0,
        arborescences_hold vertices n root (ends_of arcs) sets below (tails_below vertices arcs n right.0 g) right.1,
      ),
      λ none.
          let h = all_hold clauses none in
          let same = eqb-true n (length arcs) h.0 in (
            same,
            arborescences_are_right vertices n root (ends_of arcs) sets below (tails_below vertices arcs n same g)
                ranged.sets_in_range.each h.1 (length sets) refl,
          ),
    )

-- ---- vertex sets that are entered too seldom

module _ (vertices n : ℕ) (ends : ℕ → ℕ × ℕ) (root k : ℕ) (set : List ℕ) where
  abbrev coming : List ℕ
  coming = entering ends (all_below n) set

  seldom_holds : IsSeldomEntered vertices n ends root k set → AllHold (seldom_entered_clauses n ends root k set)
  seldom_holds r =
      (lt-ltb 0 (length set) r.root_free.some, (not_from_false _ r.root_free.free, (lt-ltb (length coming) k r.few, tt)))

  seldom_is_right : IsSet vertices set → AllHold (seldom_entered_clauses n ends root k set) → IsSeldomEntered vertices n ends root k set
  seldom_is_right ranged h = record {
    root_free = record { set = ranged; some = ltb-true 0 (length set) h.0; free = not-true _ h.1.0 };
    few = ltb-true (length coming) k h.1.1.0;
  }

pub seldom_entered : (vertices root : ℕ) (arcs : List (ℕ × ℕ)) (costs : List Weight) (n k v : ℕ) (set : List ℕ)
    → RightHasNoFailure (rooted vertices root arcs costs) (disjoint_none n k v set)
seldom_entered vertices root arcs costs n k v set valid sound ranged =
    let clauses = clauses_of (rooted vertices root arcs costs) (disjoint_none n k v set) in (
      λ right. none_fails clauses
          (same_numbers n (length arcs) v vertices right.0 right.1, seldom_holds vertices n (ends_of arcs) root k set right.2),
      λ none.
          let h = all_hold clauses none in
          let same = numbers_same n (length arcs) v vertices h.0 in
          let here = subst (λ m. IsSet m set) same.1 ranged.1 in
          (same.0, same.1, seldom_is_right vertices n (ends_of arcs) root k set here h.1),
    )

-- ---- vertex sets that no arc enters

module _ (vertices root : ℕ) (arcs : List (ℕ × ℕ)) (n : ℕ) (same : n ≡ length arcs) (set : List ℕ) where
  abbrev entered : List ℕ
  entered = entering (ends_of arcs) (all_below n) set

  -- no arc enters where fewer than one does
  unentered_from : IsSeldomEntered vertices n (ends_of arcs) root 1 set → IsUnentered vertices arcs root set
  unentered_from r = record {
    root_free = r.root_free;
    none = λ a small. false_from_ne_true _ (λ e.
        let live : is_member a (all_below n) ≡ true = is_member-all_below a n ∙ lt-ltb a n (omega (arith, same, small)) in
        let some = some_from_member a entered (is_member-entering (ends_of arcs) a (all_below n) set ∙ and_from _ _ live e) in
        absurd (omega (arith, some, r.few)));
  }

  unentered_gives : IsUnentered vertices arcs root set → IsSeldomEntered vertices n (ends_of arcs) root 1 set
  unentered_gives r = record {
    root_free = r.root_free;
    few = elim (cases_lt 0 (length entered)) [
      | inl some ↦
          let v = member_from_some entered some in
          let both = and_parts (is_member v.0 (all_below n)) (enters (ends_of arcs) set v.0)
          (sym (is_member-entering (ends_of arcs) v.0 (all_below n) set) ∙ v.1) in
          let small = below_member (IsSet-all_below n) both.0 in
          absurd (both_ways _ (r.none v.0 (omega (arith, same, small))) both.1)
      | inr none ↦ omega (arith, none)
    ];
  }

pub unreached_set : (vertices root : ℕ) (arcs : List (ℕ × ℕ)) (costs : List Weight) (n v : ℕ) (set : List ℕ)
    → RightHasNoFailure (rooted vertices root arcs costs) (unreached n v set)
unreached_set vertices root arcs costs n v set valid sound ranged =
    let clauses = clauses_of (rooted vertices root arcs costs) (unreached n v set) in (
      λ right. none_fails clauses (
        same_numbers n (length arcs) v vertices right.0 right.1,
        seldom_holds vertices n (ends_of arcs) root 1 set (unentered_gives vertices root arcs n right.0 set right.2),
      ),
      λ none.
          let h = all_hold clauses none in
          let same = numbers_same n (length arcs) v vertices h.0 in
          let here = subst (λ m. IsSet m set) same.1 ranged.set_in_range in
          (same.0, same.1, unentered_from vertices root arcs n same.0 set (seldom_is_right vertices n (ends_of arcs) root 1 set here h.1)),
    )
