-- The laws of unions: moves along a path with fewest moves, the cut of a stuck search, that the union is a matroid, and its exchanges.
use Rattle.std.proofs.Common.{◌≡◌, ◌≢◌, ◌⊎◌, ℕ, suc, ◌+◌, ◌<◌, ◌≤◌, Bool, true, false, not, ◌||◌, ◌&&◌, eqb, List, [], ◌∷◌, length, get_or, inl, inr, refl, sym, ap, ◌∙◌, subst, arith}
use Rattle.std.proofs.lemmas.Bool.{cases_Bool, cases_eq, cases_lt, and_parts, and_from, both_ways, false_from_ne_true, not-true, not_from_false, eqb-true, eq-eqb}
use Rattle.std.proofs.lemmas.List.{length-map}
use Rattle.mat_sets.specs.Sets.{is_member, IsRising, IsSet, IsSubset, minus, union, intersection, with_one, without_one}
use Rattle.mat_sets.specs.Families.{family_union}
use Rattle.mat_sets.specs.Search.{some_subset}
use Rattle.mat_sets.specs.SetTests.{is_set}
use Rattle.mat_sets.specs.Walks.{IsReachedSet, IsShortestWalk}
use Rattle.mat_sets.proofs.Members.{set_members, same_members, is_member-minus, is_member-union, is_member-get_or, is_member-intersection, is_member-with_one, is_member-without_one, place_of_member, minus-none, IsRising-minus, IsRising-union, IsRising-intersection, IsRising-with_one, IsRising-without_one}
use Rattle.mat_sets.proofs.Families.{IsRising-family_union, family_union-from}
use Rattle.mat_sets.proofs.Subsets.{length-subset, intersection-left, union-left, union-right}
use Rattle.mat_sets.proofs.Equalities.{intersection-subset}
use Rattle.mat_sets.proofs.Cardinalities.{length-minus-intersection, length-with_one}
use Rattle.mat_sets.proofs.Search.{some_below_from, some_below_gives, some_below_none, some_subset_from, some_subset_gives}
use Rattle.mat_sets.proofs.SetTests.{test_from-IsSet}
use Rattle.mat_sets.proofs.Ground.{below_member, IsSet-subset, IsSet-union, IsSet-nil}
use Rattle.mat_sets.proofs.Reach.{finite_reach, missed_goals_have_no_walk, reached_set_is_unique, reached_by_induction, shortest_walk_is_chordless}
use Rattle.mat_sets.proofs.Truths.{same_truth}
use Rattle.mat_laws.specs.Matroids.{IsMatroid, Augments}
use Rattle.mat_laws.specs.TightPaths.{Exchanges}
use Rattle.mat_laws.proofs.Cuts.{rank-in_reach}
use Rattle.mat_union.specs.Unions.{test_at, part_at, AreMatroids, AreParts, IsInUnion, divides, union_test, ranks_sum}
use Rattle.mat_union.specs.Moves.{can_push, can_enter, elements, entering, element_at, place_at, exchanges_with, is_free, moved, AreMoved, IsShortestMovePath, IsStuck}
use Rattle.mat_union.specs.PartListLaws.{law_at, part_set, parts_set, parts_pass, union_only, union_set, cut_bounds, ranks_bound, ranks_reached, AreMatroids-tail}
use Rattle.mat_union.specs.ShiftLaws.{IsShift, shifted, all_shifted, elements_into, elements_on, into_gives, into_from, on_gives, on_from, length-new, part_at-new, new_are, shifted_passes, shifted_passes_last, shifted_passes_other, together_added, together_exchanged}
use Rattle.mat_union.specs.MoveWalkLaws.{found_below, found_passes, element_of_list, entering_gives, entering_from, shortest_path_is_walk, shortest_walk_is_path, walk_moves, stuck_from, stuck_adds_none, AreBelow}
use Rattle.mat_union.specs.declared.moves.Move.{Move}

module _ (tests : List (List ℕ → Bool)) (parts : List (List ℕ)) where
  pub trade_gives : (q y x : ℕ) → (exchanges_with tests parts q).trades y x ≡ true
      → (is_member y (part_at parts q) ≡ true) × (is_member x (part_at parts q) ≡ false) × (test_at tests q (with_one (without_one (part_at parts q) y) x) ≡ true)
  trade_gives q y x h =
      let a = and_parts (is_member y (part_at parts q)) _ h in
      let b = and_parts (not (is_member x (part_at parts q))) _ a.1 in
      (a.0, not-true _ b.0, b.1)

  trade_none : (q y x : ℕ) → (exchanges_with tests parts q).trades y x ≡ false → is_member y (part_at parts q) ≡ true → is_member x (part_at parts q) ≡ false
      → test_at tests q (with_one (without_one (part_at parts q) y) x) ≡ false
  trade_none q y x h i o = false_from_ne_true _ (λ t. both_ways _ h (and_from _ _ i (and_from _ _ (not_from_false _ o) t)))

  add_none : (q x : ℕ) → (exchanges_with tests parts q).adds x ≡ false → is_member x (part_at parts q) ≡ false
      → test_at tests q (with_one (part_at parts q) x) ≡ false
  add_none q x h o = false_from_ne_true _ (λ t. both_ways _ h (and_from _ _ (not_from_false _ o) t))

module _ {n : ℕ} {tests : List (List ℕ → Bool)} {parts : List (List ℕ)} (laws : AreMatroids n tests) (are : AreParts tests parts) where
  abbrev m : ℕ
  m = length parts

  abbrev ex : ℕ → Exchanges
  ex = exchanges_with tests parts

  pub below_start : (start : ℕ → Bool) → ((x : ℕ) → start x ≡ true → x < n) → AreBelow n m ex start
  below_start start small = record { starts = small; trades = λ i y x l h. below_member (part_set laws are i l) (trade_gives tests parts i y x h).0 }

  -- a walk without a shortcut
  shift_from : (k : ℕ) (e t : ℕ → ℕ) → is_member (e 0) (family_union parts) ≡ false → ((i : ℕ) → i < k → t i < m)
      → ((i : ℕ) → i < k → (ex (t i)).trades (e (suc i)) (e i) ≡ true) → ((i j : ℕ) → i < j → j ≤ k → e i ≢ e j)
      → ((i j : ℕ) → suc i < j → j ≤ k → can_push m ex (e i) (e j) ≡ false) → IsShift tests parts k e t
  shift_from k e t fresh places steps differ no_chord = record {
    fresh = fresh;
    places = places;
    stands = λ i l. (trade_gives tests parts (t i) (e (suc i)) (e i) (steps i l)).0;
    away = λ i l. (trade_gives tests parts (t i) (e (suc i)) (e i) (steps i l)).1;
    own = λ i l. (trade_gives tests parts (t i) (e (suc i)) (e i) (steps i l)).2;
    none_later = λ i j l h same.
        (let none = some_below_none m (t j) (λ q. (ex q).trades (e (suc j)) (e i)) (no_chord i (suc j) (omega arith) (omega arith)) (places j h) in
        trade_none tests parts (t j) (e (suc j)) (e i) none (trade_gives tests parts (t j) (e (suc j)) (e j) (steps j h)).0
        (subst (λ q. is_member (e i) (part_at parts q) ≡ false) same (trade_gives tests parts (t i) (e (suc i)) (e i) (steps i (omega arith))).1));
    differ = differ;
  }

  -- ---- moves along a path with fewest moves

  -- along moves without a shortcut, of which no element but the last can be added
  pub chordless_moves : (moves : List Move) (k : ℕ) → length moves ≡ suc k → is_member (element_at moves 0) (family_union parts) ≡ false
      → ((i : ℕ) → i < suc k → place_at moves i < m)
      → ((i : ℕ) → i < k → (ex (place_at moves i)).trades (element_at moves (suc i)) (element_at moves i) ≡ true)
      → ((i j : ℕ) → i < j → j ≤ k → element_at moves i ≢ element_at moves j)
      → ((i j : ℕ) → suc i < j → j ≤ k → can_push m ex (element_at moves i) (element_at moves j) ≡ false)
      → ((i : ℕ) → i < k → can_enter m ex (element_at moves i) ≡ false)
      → (ex (place_at moves k)).adds (element_at moves k) ≡ true
      → (new : List (List ℕ)) × AreMoved tests parts moves new
  chordless_moves moves k long fresh places next differ no_chord none adding =
      let e : ℕ → ℕ = λ i. element_at moves i in
      let t : ℕ → ℕ = λ i. place_at moves i in
      let s : IsShift tests parts k e t = shift_from k e t fresh (λ i l. places i (omega arith)) next differ no_chord in
      let blocked : (q : ℕ) → q < m → (i : ℕ) → i < k → t i ≡ q → test_at tests q (with_one (part_at parts q) (e i)) ≡ false = λ q ql i l h.
      add_none tests parts q (e i) (some_below_none m q (λ r. (ex r).adds (e i)) (none i l) ql)
      (subst (λ r. is_member (e i) (part_at parts r) ≡ false) h (trade_gives tests parts (t i) (e (suc i)) (e i) (next i l)).1) in
      let adds = and_parts (not (is_member (e k) (part_at parts (t k)))) (test_at tests (t k) (with_one (part_at parts (t k)) (e k))) adding in
      let passing : (q : ℕ) → q < m → test_at tests q (shifted parts k (suc k) e t q) ≡ true = λ q ql.
      elim (cases_eq (t k) q) [
        | inl here ↦ shifted_passes_last laws are s q ql here (subst (λ r. is_member (e k) (part_at parts r) ≡ false) here (not-true _ adds.0))
            (subst (λ r. test_at tests r (with_one (part_at parts r) (e k)) ≡ true) here adds.1) (blocked q ql)
        | inr other ↦ shifted_passes_other laws are s q ql other
      ] in (
        all_shifted parts k (suc k) e t,
        record {
          are = new_are laws are s (suc k) (omega arith) (omega arith) places passing;
          each = λ q l. (let ql : q < m = (let r = length-new laws are s (suc k) (omega arith) (omega arith) places passing in omega arith) in
              part_at-new laws are s (suc k) (omega arith) (omega arith) places passing q ql ∙ same_part k long q ql);
          together = together_added laws are s places passing;
        },
      )
    where
      same_part : (k : ℕ) → length moves ≡ suc k → (q : ℕ) → q < m → shifted parts k (suc k) (λ i. element_at moves i) (λ i. place_at moves i) q ≡ moved parts moves q
      same_part k long q ql =
          let e : ℕ → ℕ = λ i. element_at moves i in
          let t : ℕ → ℕ = λ i. place_at moves i in
          let P = part_at parts q in
          let rp = (part_set laws are q ql).rising in
          let el : length (elements moves) ≡ length moves = length-map moves (λ v. v.element) in
          let enters : (z : ℕ) → is_member z (elements_into (suc k) e t q) ≡ is_member z (entering moves q) = λ z. same_truth _ _
          (λ h. let w = into_gives (suc k) e t q z h in let l = w.1 in subst (λ v. is_member v (entering moves q) ≡ true) w.3 (entering_from moves q w.0 (omega arith) w.2))
          (λ h. let w = entering_gives moves q z h in let l = w.1 in subst (λ v. is_member v (elements_into (suc k) e t q) ≡ true) w.3 (into_from (suc k) e t q w.0 (omega arith) w.2)) in
          let on : (z : ℕ) → is_member z (elements_on k e) ≡ is_member z (elements moves) = λ z. same_truth _ _
          (λ h. let w = on_gives k e z h in let l = w.1 in is_member-get_or (elements moves) w.0 z (omega arith) (element_of_list moves w.0 (omega arith) ∙ w.2))
          (λ h. let w = place_of_member z (elements moves) h in let l = w.1 in
          subst (λ v. is_member v (elements_on k e) ≡ true) (sym (element_of_list moves w.0 (omega arith)) ∙ w.2) (on_from k e w.0 (omega arith))) in
          same_members _ _ (IsRising-union _ _ (IsRising-minus P _ rp)) (IsRising-union _ _ (IsRising-minus P _ rp)) (λ z.
          is_member-union z (elements_into (suc k) e t q) (minus P (elements_on k e))
          ∙ four (is_member z (elements_into (suc k) e t q)) (is_member z (entering moves q)) (is_member z (minus P (elements_on k e))) (is_member z (minus P (elements moves))) (enters z)
          (is_member-minus z P (elements_on k e) ∙ ap (λ b. is_member z P && not b) (on z) ∙ sym (is_member-minus z P (elements moves)))
          ∙ sym (is_member-union z (entering moves q) (minus P (elements moves))))
        where
          four : (a b c d : Bool) → a ≡ b → c ≡ d → (a || c) ≡ (b || d)
          four a b c d f g = cc

  pub moves_keep : (start : ℕ → Bool) → ((x : ℕ) → start x ≡ true → x < n) → ((x : ℕ) → start x ≡ true → is_member x (family_union parts) ≡ false)
      → (moves : List Move) → IsShortestMovePath m ex start moves → (new : List (List ℕ)) × AreMoved tests parts moves new
  moves_keep start small fresh moves p =
      let b = below_start start small in
      let c = shortest_walk_is_chordless n (can_push m ex) start (can_enter m ex) (elements moves) (shortest_path_is_walk b moves p) in
      let le = p.path.long in
      let long : length (elements moves) ≡ length moves = length-map moves (λ v. v.element) in
      let k = p.path.steps in
      let at : (i : ℕ) → i ≤ k → get_or (elements moves) i 0 ≡ element_at moves i = λ i l. element_of_list moves i (omega arith) in
      chordless_moves moves k p.path.long (fresh (element_at moves 0) p.path.first) (λ i l. p.path.places i (omega arith)) (λ i l. p.path.next i (omega arith))
      (λ i j l h same. c.differ i j l (omega arith) (at i (omega arith) ∙ same ∙ sym (at j h)))
      (λ i j l h. pushes_none (element_at moves i) (get_or (elements moves) i 0) (element_at moves j) (get_or (elements moves) j 0) (sym (at i (omega arith))) (sym (at j h)) (c.no_chord i j l (omega arith)))
      (λ i l. ap (can_enter m ex) (sym (at i (omega arith))) ∙ c.goal_once i (omega arith)) p.path.last
    where
      pushes_none : (x x' y y' : ℕ) → x ≡ x' → y ≡ y' → can_push m ex x' y' ≡ false → can_push m ex x y ≡ false
      pushes_none x x' y y' a c h = rw (a, c) h

  -- ---- the cut of a stuck search

  -- in a set from which nothing can be added and no arc leads out, each part is as large as its matroid allows
  closed_ranks : (R : List ℕ) → IsRising R → ((v : ℕ) → is_member v R ≡ true → can_enter m ex v ≡ true → ⊥)
      → ((u v : ℕ) → is_member u R ≡ true → v < n → can_push m ex u v ≡ true → is_member v R ≡ true)
      → length (intersection (family_union parts) R) ≡ ranks_sum tests R
  closed_ranks R r none closed = ranks_reached tests parts R laws are r (λ i l. rank-in_reach (law_at laws are i l) (part_at parts i) R (are.passes i l) r
      (λ x o h. false_from_ne_true _ (λ adds. none x h (some_below_from m i (λ q. (ex q).adds x) l (and_from _ _ (not_from_false _ o) adds))))
      (λ x y o h y_in y_out. false_from_ne_true _ (λ trades. both_ways _ y_out (closed x y h (below_member (part_set laws are i l) y_in)
      (some_below_from m i (λ q. (ex q).trades y x) l (and_from _ _ y_in (and_from _ _ (not_from_false _ o) trades)))))))

  pub stuck_cut : (within : List ℕ) → IsSet n within → IsSubset (family_union parts) within → (reach : List ℕ) → IsStuck n m ex (is_free parts within) reach
      → length (family_union parts) ≡ length (minus within reach) + ranks_sum tests reach
  stuck_cut within w inside reach st =
      let S = family_union parts in
      let rs = IsRising-family_union parts in
      let split = length-minus-intersection S reach rs in
      let ranks = closed_ranks reach st.reached.set.rising (stuck_adds_none reach st) st.reached.closed in
      let same : minus S reach ≡ minus within reach = same_members _ _ (IsRising-minus S reach rs) (IsRising-minus within reach w.rising)
      (λ z. is_member-minus z S reach ∙ outside (is_member z S) (is_member z within) (is_member z reach) (inside.inside z)
      (λ a b. st.reached.starts z (below_member w a) (and_from _ _ a (not_from_false _ b))) ∙ sym (is_member-minus z within reach)) in
      let size = ap length same in
      omega arith
    where
      outside : (a b c : Bool) → (a ≡ true → b ≡ true) → (b ≡ true → a ≡ false → c ≡ true) → (a && not c) ≡ (b && not c)
      outside true b c f g = let h = f refl in grind arith
      outside false true c f g = let h = g refl refl in grind arith
      outside false false c f g = refl

  -- what is reached lies in within
  pub reach_inside : (within : List ℕ) → IsSubset (family_union parts) within → (reach : List ℕ) → IsReachedSet n (can_push m ex) (is_free parts within) reach → IsSubset reach within
  reach_inside within inside reach r = record {
    inside = reached_by_induction reach (λ v. is_member v within) r (λ v l h. (and_parts (is_member v within) _ h).0)
        (λ u v h l t arc. let w = some_below_gives m (λ q. (ex q).trades v u) arc in
        inside.inside v (family_union-from v parts w.0 w.1 (trade_gives tests parts w.0 v u w.2).0));
  }

-- ---- the union is a matroid

divides-none : {n : ℕ} (tests : List (List ℕ → Bool)) → AreMatroids n tests → divides tests [] ≡ true
unfolding divides some_subset
divides-none [] laws = refl
divides-none (test ∷ tests) laws = and_from (test []) (divides tests (minus [] [])) (laws.each 0 (omega arith)).empty
    (ap (divides tests) (minus-none []) ∙ divides-none tests (AreMatroids-tail laws))

divides-subset : {n : ℕ} (tests : List (List ℕ → Bool)) → AreMatroids n tests → (I J : List ℕ) → IsRising I → IsRising J → IsSubset I J
    → divides tests J ≡ true → divides tests I ≡ true
unfolding divides
divides-subset [] laws I J ri rj s h = eq-eqb (length I) 0 (let a = length-subset I J ri rj s in let b = eqb-true (length J) 0 h in omega arith)
divides-subset (test ∷ tests) laws I J ri rj s h =
    let w = some_subset_gives J (λ A. test A && divides tests (minus J A)) rj h in
    let A = w.0 in
    let both = and_parts (test A) (divides tests (minus J A)) w.3 in
    let B = intersection A I in
    let rb = IsRising-intersection A I w.1 in
    some_subset_from I B (λ A. test A && divides tests (minus I A)) ri rb (record { inside = λ k m. grind (arith, set_members) })
    (and_from (test B) (divides tests (minus I B)) ((laws.each 0 (omega arith)).subsets B A rb (intersection-left A I) both.0)
    (divides-subset tests (AreMatroids-tail laws) (minus I B) (minus J A) (IsRising-minus I B ri) (IsRising-minus J A rj) (rest I J A s) both.1))
  where
    rest : (I J A : List ℕ) → IsSubset I J → IsSubset (minus I (intersection A I)) (minus J A)
    rest I J A s = record { inside = λ k m. grind (arith, set_members, s.inside k) }

module _ {n : ℕ} (tests : List (List ℕ → Bool)) (laws : AreMatroids n tests) where
  union_subset : (I J : List ℕ) → IsRising I → IsSubset I J → union_test n tests J ≡ true → union_test n tests I ≡ true
  union_subset I J r s h =
      let set = union_set tests laws J h in
      and_from _ _ (test_from-IsSet n I (IsSet-subset n I J r s set))
      (divides-subset tests laws I J r set.rising s (and_parts (is_set n J) (divides tests J) h).1)

  -- either an element of F can be added to the parts, or there is a cut
  pub more_or_cut : (parts : List (List ℕ)) → AreParts tests parts → (F : List ℕ) → IsSet n F → IsSubset (family_union parts) F
      → ((e : ℕ) × (is_member e F ≡ true) × (is_member e (family_union parts) ≡ false) × (union_test n tests (with_one (family_union parts) e) ≡ true))
      ⊎ ((cut : List ℕ) × IsRising cut × IsSubset cut F × (length (family_union parts) ≡ length (minus F cut) + ranks_sum tests cut))
  more_or_cut parts are F w inside =
      let ex = exchanges_with tests parts in
      let b = below_start laws are (is_free parts F) (λ x h. below_member w (and_parts (is_member x F) _ h).0) in
      elim (finite_reach n (can_push (length parts) ex) (is_free parts F) (can_enter (length parts) ex)) [
        | inl q ↦ (let p = shortest_walk_is_path b q.0 q.1 in
            let path = walk_moves (length parts) ex q.1.walk.arcs (λ i. get_or q.0 i 0) in
            let moves = moves_keep laws are (is_free parts F) (λ x h. below_member w (and_parts (is_member x F) _ h).0) (λ x h. not-true _ (and_parts (is_member x F) (not (is_member x (family_union parts))) h).1) path p in
            let a = and_parts (is_member (element_at path 0) F) (not (is_member (element_at path 0) (family_union parts))) p.path.first in
            inl (element_at path 0, a.0, not-true _ a.1, subst (λ X. union_test n tests X ≡ true) moves.1.together (parts_pass tests laws moves.0 moves.1.are)))
        | inr q ↦ inr (q.0, q.1.set.rising, reach_inside laws are F inside q.0 q.1, stuck_cut laws are F w inside q.0 (stuck_from b q.0 q.1 q.2))
      ]

  pub union_laws : IsMatroid n (union_test n tests)
  union_laws = record {
    empty = and_from _ _ (test_from-IsSet n [] (IsSet-nil n)) (divides-none tests laws);
    subsets = union_subset;
    augmentation = λ I J i j l. grow I J j l (union_only tests laws I i) (union_only tests laws J j) (union_set tests laws J j);
    sets = union_set tests laws;
  }
    where
      other : (a b : Bool) → (a || b) ≡ true → a ≡ false → b ≡ true
      other a b h o = grind arith

      grow : (I J : List ℕ) → union_test n tests J ≡ true → length I < length J → IsInUnion tests I → IsInUnion tests J → IsSet n J → Augments (union_test n tests) I J
      grow I J j l u v set =
          let S = family_union u.parts in
          let F = union S J in
          let w = IsSet-union n S J (parts_set laws u.are).below set in
          elim (more_or_cut u.parts u.are F w (union-left S J)) [
            | inl a ↦ record {
              element = a.0;
              inside = other (is_member a.0 S) (is_member a.0 J) (sym (is_member-union a.0 S J) ∙ a.1) a.2;
              outside = ap (is_member a.0) (sym u.together) ∙ a.2;
              augmented = subst (λ X. union_test n tests (with_one X a.0) ≡ true) u.together a.3;
            }
            | inr a ↦ absurd (let bound = cut_bounds tests v.parts F a.0 laws v.are w.rising a.1 a.2 in
                let all : intersection (family_union v.parts) F ≡ J = ap (λ X. intersection X F) v.together ∙ intersection-subset J F set.rising (union-right S J) in
                let size = ap length all in
                let one = ap length u.together in
                let c = a.3 in
                omega arith)
          ]

  -- ---- exchanges

  -- an element that can be added can take any place
  pub addable_takes_all : (I : List ℕ) (x y : ℕ) → IsRising I → union_test n tests (with_one I x) ≡ true → union_test n tests (with_one (without_one I y) x) ≡ true
  addable_takes_all I x y r ok = union_subset (with_one (without_one I y) x) (with_one I x) (IsRising-with_one _ x (IsRising-without_one I y r)) (record { inside = λ k m. grind (arith, set_members) }) ok

  module _ (parts : List (List ℕ)) (are : AreParts tests parts) (x : ℕ) (small : x < n) (out : is_member x (family_union parts) ≡ false)
      (R : List ℕ) (reached : IsReachedSet n (can_push (length parts) (exchanges_with tests parts)) (λ v. eqb v x) R) where
    abbrev S : List ℕ
    S = family_union parts

    abbrev swaps : ℕ → Exchanges
    swaps = exchanges_with tests parts

    -- what x reaches can be exchanged for it
    reached_exchanges : (y : ℕ) → is_member y S ≡ true → is_member y R ≡ true → union_test n tests (with_one (without_one S y) x) ≡ true
    reached_exchanges y y_in h = elim (finite_reach n (can_push (length parts) swaps) (λ v. eqb v x) (λ v. eqb v y)) [
      | inl q ↦ along q.0 q.1
      | inr q ↦ (let w = reached.walks y h in absurd (missed_goals_have_no_walk n (can_push (length parts) swaps) (λ v. eqb v x) (λ v. eqb v y) q.0 w.0 q.1 q.2 w.1))
    ]
      where
        along : (ws : List ℕ) → IsShortestWalk n (can_push (length parts) swaps) (λ v. eqb v x) (λ v. eqb v y) ws → union_test n tests (with_one (without_one S y) x) ≡ true
        along ws w =
            let k = w.walk.arcs in
            let e : ℕ → ℕ = λ i. get_or ws i 0 in
            let t : ℕ → ℕ = λ i. found_below (length parts) (λ q. (swaps q).trades (e (suc i)) (e i)) in
            let c = shortest_walk_is_chordless n (can_push (length parts) swaps) (λ v. eqb v x) (λ v. eqb v y) ws w in
            let long = w.walk.long in
            let found : (i : ℕ) → i < k → (t i < length parts) × ((swaps (t i)).trades (e (suc i)) (e i) ≡ true) = λ i l. found_passes (length parts) (λ q. (swaps q).trades (e (suc i)) (e i)) (w.walk.steps i (omega arith)) in
            let first : e 0 ≡ x = eqb-true (e 0) x w.walk.first in
            let last : e k ≡ y = eqb-true (e k) y w.walk.last in
            let some : 0 < k = elim (cases_lt 0 k) [
              | inl l ↦ l
              | inr l ↦ absurd (let z : k ≡ 0 = omega arith in both_ways _ out (ap (λ v. is_member v S) (sym first ∙ ap e (sym z) ∙ last) ∙ y_in))
            ] in
            let s = shift_from laws are k e t (ap (λ v. is_member v S) first ∙ out) (λ i l. (found i l).0) (λ i l. (found i l).1)
            (λ i j l h. c.differ i j l (omega arith)) (λ i j l h. c.no_chord i j l (omega arith)) in
            let new = new_are laws are s k (omega arith) (omega arith) s.places (shifted_passes laws are s) in
            let whole = together_exchanged laws are s some in
            let named : with_one (without_one S (e k)) (e 0) ≡ with_one (without_one S y) x = rw (first, last) refl in
            ap (union_test n tests) (sym (whole ∙ named)) ∙ parts_pass tests laws (all_shifted parts k k e t) new

    module _ (full : union_test n tests (with_one S x) ≡ false) where
      -- where x cannot be added, nothing that it reaches can enter a part
      pub none_enters : (v : ℕ) → is_member v R ≡ true → can_enter (length parts) swaps v ≡ true → ⊥
      none_enters v h enters = elim (finite_reach n (can_push (length parts) swaps) (λ v. eqb v x) (can_enter (length parts) swaps)) [
        | inl q ↦ (let b = below_start laws are (λ v. eqb v x) (λ z e. subst (λ u. u < n) (sym (eqb-true z x e)) small) in
            let p = shortest_walk_is_path b q.0 q.1 in
            let path = walk_moves (length parts) swaps q.1.walk.arcs (λ i. get_or q.0 i 0) in
            let moves = moves_keep laws are (λ v. eqb v x) (λ z e. subst (λ u. u < n) (sym (eqb-true z x e)) small) (λ z e. ap (λ u. is_member u S) (eqb-true z x e) ∙ out) path p in
            let first : element_at path 0 ≡ x = eqb-true (element_at path 0) x p.path.first in
            both_ways _ full (ap (union_test n tests) (sym (moves.1.together ∙ ap (with_one S) first)) ∙ parts_pass tests laws moves.0 moves.1.are))
        | inr q ↦ (let same = reached_set_is_unique q.0 R q.1 reached in both_ways _ (q.2 v (ap (is_member v) same ∙ h)) enters)
      ]

      -- so that what it does not reach cannot be exchanged for it
      unreached_stays : (y : ℕ) → is_member y S ≡ true → is_member y R ≡ false → union_test n tests (with_one (without_one S y) x) ≡ true → ⊥
      unreached_stays y y_in o ok =
          let u = union_only tests laws _ ok in
          let J = with_one (without_one S y) x in
          let rs = IsRising-family_union parts in
          let rr = reached.set.rising in
          let ranks = closed_ranks laws are R rr none_enters reached.closed in
          let bound = ranks_bound tests u.parts R laws u.are rr in
          let x_in : is_member x R ≡ true = reached.starts x small (eq-eqb x x refl) in
          let ri = IsRising-intersection S R rs in
          let same : intersection J R ≡ with_one (intersection S R) x = same_members _ _ (IsRising-intersection J R (IsRising-with_one _ x (IsRising-without_one S y rs))) (IsRising-with_one _ x ri)
          (λ z. is_member-intersection z J R ∙ ap (λ b. b && is_member z R) (is_member-with_one z x (without_one S y) ∙ ap (λ b. eqb z x || b) (is_member-without_one z y S))
          ∙ sides (eqb z x) (is_member z S) (eqb z y) (is_member z R) (λ q. ap (λ v. is_member v R) (eqb-true z x q) ∙ x_in) (λ q. ap (λ v. is_member v R) (eqb-true z y q) ∙ o)
          ∙ ap (λ b. eqb z x || b) (sym (is_member-intersection z S R)) ∙ sym (is_member-with_one z x (intersection S R))) in
          let more = length-with_one (intersection S R) x ri (is_member-intersection x S R ∙ ap (λ b. b && is_member x R) out) in
          let size = ap length (ap (λ X. intersection X R) u.together ∙ same) in
          omega arith
        where
          sides : (a b c d : Bool) → (a ≡ true → d ≡ true) → (c ≡ true → d ≡ false) → ((a || (b && not c)) && d) ≡ (a || (b && d))
          sides true b c d f g = f refl
          sides false b true true f g = absurd (both_ways true (g refl) refl)
          sides false b true false f g = grind arith
          sides false b false d f g = grind arith

      pub exchanges_reached : (y : ℕ) → is_member y S ≡ true → union_test n tests (with_one (without_one S y) x) ≡ is_member y R
      exchanges_reached y y_in = elim (cases_Bool (is_member y R)) [
        | inl a ↦ reached_exchanges y y_in a ∙ sym a
        | inr a ↦ false_from_ne_true _ (unreached_stays y y_in a) ∙ sym a
      ]
