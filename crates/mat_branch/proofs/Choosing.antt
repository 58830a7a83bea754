-- The arc that can be taken (Edmonds' theorem, by Lovász' proof). Each root-free set is entered by at least m live arcs, and by more where it
-- does not meet the reached vertices. From a set X with a vertex that is not reached, entered by at most m live arcs, some arc leads from its
-- reached to its other vertices, since these others are entered by more. Where a set Y that only m live arcs enter is entered by that arc,
-- X ∩ Y is a smaller such set: it has the head of the arc and not its tail, and the number of entering arcs is submodular. One begins with
-- the set of all vertices, which no arc enters.
use Rattle.mat_branch.proofs.Common.{◌≡◌, ℕ, zero, suc, ◌<◌, ◌≤◌, Bool, true, false, not, ◌&&◌, leb, List, [], length, inl, inr, refl, sym, ap, ◌∙◌, subst, arith, eqb-true, lt-ltb, and_from, and_parts, both_ways, cases_Bool, cases_lt, false_from_ne_true, le-leb, leb-true, not-true, or_from}
use Rattle.mat_branch.proofs.Common.{and_right, some_subset, all_below, intersection, is_member, minus, union, without_one, IsRising, IsSet, IsSubset, length-without_one, is_member-all_below, length-all_below, below_member, AllBelow-subset, IsRising-all_below, IsSet-all_below, IsSet-intersection}
use Rattle.mat_branch.proofs.Common.{IsSet-minus, IsSet-union, IsSubset-all_below, is_member-intersection, is_member-union, is_member-without_one, IsRising-without_one, some_from_member, some_subset_gives, some_subset_none, intersection-left, length-subset, enters, entering, IsRootFree}
use Rattle.mat_branch.proofs.Common.{entering-more, entering-one_less, entering-same, entering-submodular, is_member-entering, AreEntered, AreEnteredOutside, IsTakable}
use Rattle.mat_sets.proofs.DisjointSets.{no_members, minus_from, minus_parts}
use Rattle.mat_sets.proofs.Equalities.{intersection-commute, intersection-subset}

-- ---- sets that are not empty

-- a set without a member of another and inside it is smaller
smaller : (A X : List ℕ) (x : ℕ) → IsRising A → IsRising X → IsSubset A X → is_member x X ≡ true → is_member x A ≡ false → length A < length X
smaller A X x r q s m out =
    let inside : IsSubset A (without_one X x) = record {
      inside = λ k h. is_member-without_one k x X ∙ and_from _ _ (s.inside k h) (ap not (false_from_ne_true _ (λ e.
          both_ways _ out (subst (λ z. is_member z A ≡ true) (eqb-true k x e) h))));
    } in
    let le = length-subset A (without_one X x) r (IsRising-without_one X x q) inside in
    omega (arith, le, length-without_one X x q m)

-- ---- the arc

module _ (vertices root : ℕ) (ends : ℕ → ℕ × ℕ) where
  module _ (live reached : List ℕ) (m : ℕ) (rises : IsRising live) (tails : (a : ℕ) → is_member a live ≡ true → (ends a).0 < vertices)
      (entered : AreEntered vertices root ends live m) (outside : AreEnteredOutside vertices root ends live reached (suc m)) (start : is_member root reached ≡ true) where
    -- a live arc from the reached to the other vertices of X
    record Leaves (X : List ℕ) : Type 0 where
      arc : ℕ
      live_arc : is_member arc live ≡ true
      tail : is_member (ends arc).0 reached ≡ true
      tail_in : is_member (ends arc).0 X ≡ true
      head : is_member (ends arc).1 reached ≡ false
      head_in : is_member (ends arc).1 X ≡ true

    leaves : (X : List ℕ) (x : ℕ) → IsSet vertices X → length (entering ends live X) ≤ m → is_member x X ≡ true → is_member x reached ≡ false
        → Leaves X
    leaves X x set few inside out =
        let B = minus X reached in
        let free : IsRootFree vertices root B = record {
          set = IsSet-minus vertices X reached set;
          some = some_from_member x B (minus_from X reached x inside out);
          free = false_from_ne_true _ (λ h. both_ways _ (minus_parts X reached root h).1 start);
        } in
        let more = outside.each B free (λ v h. (minus_parts X reached v h).1) in
        let f = entering-more ends live X B (omega arith) in
        let comes = and_parts (is_member (ends f.0).1 B) (not (is_member (ends f.0).0 B)) f.2 in
        let head = minus_parts X reached (ends f.0).1 comes.0 in
        let tail_in : is_member (ends f.0).0 X ≡ true = elim (cases_Bool (is_member (ends f.0).0 X)) [
          | inl here ↦ here
          | inr not_here ↦ absurd (both_ways _ f.3 (and_from _ _ head.0 (ap not not_here)))
        ] in
        record {
          arc = f.0;
          live_arc = f.1;
          tail = elim (cases_Bool (is_member (ends f.0).0 reached)) [
            | inl here ↦ here
            | inr not_here ↦ absurd (both_ways _ (not-true _ comes.1) (minus_from X reached (ends f.0).0 tail_in not_here))
          ];
          tail_in = tail_in;
          head = head.1;
          head_in = head.0;
        }

    -- a root-free set that the arc enters and no more than m live arcs do
    abbrev forbids : ℕ → List ℕ → Bool
    forbids a Y = enters ends Y a && (not (is_member root Y) && leb (length (entering ends live Y)) m)

    -- where no set forbids it, the arc can be taken
    takable : (a : ℕ) → is_member a live ≡ true → is_member (ends a).0 reached ≡ true → is_member (ends a).1 reached ≡ false
        → (ends a).1 < vertices → some_subset (all_below vertices) (forbids a) ≡ false → IsTakable vertices root ends live reached m a
    takable a live_arc tail head below none = record {
      live_arc = live_arc;
      tail = tail;
      head = head;
      below = below;
      spare = record {
        each = λ cut free. elim (cases_Bool (enters ends cut a)) [
          | inr out ↦ omega (arith, entering-same ends live cut a rises out, entered.each cut free)
          | inl comes ↦ (let not_forbidden = some_subset_none (all_below vertices) cut (forbids a) none (IsRising-all_below vertices) free.set.rising
              (IsSubset-all_below vertices cut free.set.below) in
              let many : m < length (entering ends live cut) = elim (cases_lt m (length (entering ends live cut))) [
                | inl l ↦ l
                | inr few ↦ absurd (both_ways _ not_forbidden (and_from _ _ comes (and_from _ _ (ap not free.free) (le-leb _ m few))))
              ] in
              omega (arith, entering-one_less ends live cut a rises live_arc comes))
        ];
      };
    }

    -- where X is entered by at most m live arcs and has a vertex that is not reached, and each root-free set that meets it and is entered by
    -- at most m meets it in such a set, an arc can be taken
    choose : (size : ℕ) (X : List ℕ) (x : ℕ) → length X < size → IsSet vertices X → length (entering ends live X) ≤ m → is_member x X ≡ true
        → is_member x reached ≡ false
        → ((Y : List ℕ) (y : ℕ) → IsRootFree vertices root Y → length (entering ends live Y) ≤ m → is_member y X ≡ true → is_member y Y ≡ true
        → length (entering ends live (intersection X Y)) ≤ m)
        → (a : ℕ) × IsTakable vertices root ends live reached m a
    choose zero X x l set few inside out meets = absurd (omega arith)
    choose (suc size) X x l set few inside out meets =
        let w = leaves X x set few inside out in
        elim (cases_Bool (some_subset (all_below vertices) (forbids w.arc))) [
          | inr none ↦ (w.arc, takable w.arc w.live_arc w.tail w.head (below_member set w.head_in) none)
          | inl some ↦ (
              let f = some_subset_gives (all_below vertices) (forbids w.arc) (IsRising-all_below vertices) some in
              let Y = f.0 in
              let p = and_parts (enters ends Y w.arc) _ f.3 in
              let q = and_parts (not (is_member root Y)) (leb (length (entering ends live Y)) m) p.1 in
              let comes = and_parts (is_member (ends w.arc).1 Y) (not (is_member (ends w.arc).0 Y)) p.0 in
              let few_Y = leb-true _ m q.1 in
              let Y_set : IsSet vertices Y = record { rising = f.1; below = AllBelow-subset vertices Y (all_below vertices) f.2 (IsSet-all_below vertices).below } in
              let Y_free : IsRootFree vertices root Y = record { set = Y_set; some = some_from_member (ends w.arc).1 Y comes.0; free = not-true _ q.0 } in
              let Z = intersection X Y in
              let Z_set = IsSet-intersection vertices X Y set in
              let head_in : is_member (ends w.arc).1 Z ≡ true = is_member-intersection _ X Y ∙ and_from _ _ w.head_in comes.0 in
              let few_Z = meets Y (ends w.arc).1 Y_free few_Y w.head_in comes.0 in
              let root_out : is_member root Z ≡ false = is_member-intersection root X Y ∙ rw (not-true _ q.0) (and_right (is_member root X) false refl) in
              let tail_out : is_member (ends w.arc).0 Z ≡ false = is_member-intersection _ X Y ∙ rw (not-true _ comes.1) (and_right (is_member (ends w.arc).0 X) false refl) in
              let less = smaller Z X (ends w.arc).0 Z_set.rising set.rising (intersection-left X Y) w.tail_in tail_out in
              choose size Z (ends w.arc).1 (omega arith) Z_set few_Z head_in w.head (λ W y W_free few_W in_Z in_W.
              let join : IsRootFree vertices root (union Z W) = record {
                set = IsSet-union vertices Z W Z_set.below W_free.set;
                some = some_from_member y (union Z W) (is_member-union y Z W ∙ rw in_Z refl);
                free = is_member-union root Z W ∙ or_from _ _ root_out W_free.free;
              } in
              omega (arith, entering-submodular ends live Z W, entered.each (union Z W) join)))
        ]

    -- no live arc enters the set of all vertices
    none_enters_all : entering ends live (all_below vertices) ≡ []
    none_enters_all = no_members _ (λ a h.
        let p = and_parts (is_member a live) _ (sym (is_member-entering ends a live (all_below vertices)) ∙ h) in
        let q = and_parts (is_member (ends a).1 (all_below vertices)) _ p.1 in
        both_ways _ (not-true _ q.1) (is_member-all_below (ends a).0 vertices ∙ lt-ltb (ends a).0 vertices (tails a p.0)))

    -- while some vertex is not reached, an arc can be taken
    pub some_takable : (x : ℕ) → x < vertices → is_member x reached ≡ false → (a : ℕ) × IsTakable vertices root ends live reached m a
    some_takable x below out =
        let all = all_below vertices in
        choose (suc vertices) all x (omega (arith, length-all_below vertices)) (IsSet-all_below vertices)
        (omega (arith, ap length none_enters_all)) (is_member-all_below x vertices ∙ lt-ltb x vertices below) out
        (λ Y y free few in_all in_Y. let same : intersection all Y ≡ Y = intersection-commute all Y (IsRising-all_below vertices) free.set.rising
        ∙ intersection-subset Y all free.set.rising (IsSubset-all_below vertices Y free.set.below) in
        omega (arith, ap (λ s. length (entering ends live s)) same))
