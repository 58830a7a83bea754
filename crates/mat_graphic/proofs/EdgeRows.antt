-- The exchanges of an edge x at a forest I: where its ends are in two components it can be added and exchanged for any member; else the
-- members for which it can be exchanged are those of a trail between its ends. A closed walk through one of these uses it once.
use Rattle.mat_graphic.proofs.Common.{◌≡◌, ℕ, ◌<◌, ◌≢◌, Bool, true, false, not, ◌&&◌, eqb, List, inl, inr, sym, ap, ◌∙◌, arith, refl, cases_Bool, ne_eqb, or_left, or_right, and_parts, and_from, both_ways, false_from_ne_true, eq-eqb, nat_tests, is_member, IsRising, IsSubset, IsSet, with_one}
use Rattle.mat_graphic.proofs.Common.{without_one, is_set, IsRising-with_one, IsRising-without_one, RisesFrom-filter, is_member-filter, is_member-with_one, is_member-without_one, same_members, set_members, IsSet-with_one, IsSet-without_one, without_one-IsSubset, IsSet-from_test, test_from-IsSet}
use Rattle.mat_graphic.proofs.Common.{Exchange, row_of, IsForest, is_forest, is_graphic, least_merged, Trail, IsWithin, member_within, trail_of_same, IsTrailSet, IsForest-from_test, test_from-IsForest, IsForest-more, IsForest-subset, crossed_once, in_with_one, is_graphic-with_one, never_joined}
use Rattle.mat_sets.proofs.Filters.{filter_whole}
use Rattle.mat_laws.proofs.Rows.{exchanged, row_outside}

in_both : (x y z : ℕ) (I : List ℕ) → is_member z (with_one (without_one I y) x) ≡ true → eqb z x ≡ false → is_member z I ≡ true
in_both x y z I m other = grind (arith, set_members)

module _ (ends : ℕ → ℕ × ℕ) where
  -- where the ends of x are in two components, I - y + x is a forest for any y
  exchanged-apart : (I : List ℕ) (x y : ℕ) → IsRising I → IsForest ends I
      → least_merged ends I (ends x).0 ≢ least_merged ends I (ends x).1
      → is_forest ends (with_one (without_one I y) x) ≡ true
  exchanged-apart I x y r forest apart =
      test_from-IsForest ends _
      (IsForest-more ends I x _ forest apart (λ z m other. in_both x y z I m other))

  -- an edge y of a trail between the ends of x: without it the ends of x are in two components
  exchanged-on : (I : List ℕ) (x y : ℕ) → IsRising I → IsForest ends I → (P : Trail ends I (ends x).1 (ends x).0)
      → is_member y P.edges ≡ true
      → IsForest ends (with_one (without_one I y) x)
  exchanged-on I x y r forest P on =
      let rest = without_one I y in
      let smaller : IsSubset rest I = without_one-IsSubset I y in
      let out : is_member y rest ≡ false = is_member-without_one y y I ∙ none (is_member y I) y in
      let kept : (g : ℕ) → is_member g P.edges ≡ true → eqb g y ≡ false → IsWithin ends rest g =
      λ g m other. member_within ends rest g (is_member-without_one g y I ∙ and_from _ _ (P.inside.inside g m) (ap not other)) in
      IsForest-more ends rest x (with_one rest x) (IsForest-subset ends rest I smaller forest)
      (λ same. (let own = crossed_once ends rest y P.edges (ends x).1 (ends x).0 P.distinct on kept P.walk (sym same) in
      never_joined ends rest I y forest out (P.inside.inside y on) smaller
      (trail_of_same ends rest (ends y).1 (ends y).0 (IsRising-without_one I y r) (sym own))))
      (in_with_one x rest)
    where
      none : (b : Bool) (y : ℕ) → (b && not (eqb y y)) ≡ false
      none b y = grind (arith, nat_tests)

  -- an edge y off the trail: with x the trail is still closed
  exchanged-off : (I : List ℕ) (x y : ℕ) → is_member x I ≡ false → (P : Trail ends I (ends x).1 (ends x).0)
      → is_member y P.edges ≡ false
      → IsForest ends (with_one (without_one I y) x) → ⊥
  exchanged-off I x y out P off forest =
      never_joined ends P.edges (with_one (without_one I y) x) x forest (false_from_ne_true _ (λ m. both_ways _ out (P.inside.inside x m)))
      (is_member-with_one x x (without_one I y) ∙ or_left (eqb x x) _ (eq-eqb x x refl))
      (record {
        inside = λ z m. is_member-with_one z x (without_one I y)
            ∙ or_right (eqb z x) _ (is_member-without_one z y I ∙ and_from _ _ (P.inside.inside z m)
            (ap not (ne_eqb z y (λ same. both_ways _ off (ap (λ w. is_member w P.edges) (sym same) ∙ m)))));
      })
      (record { edges = P.edges; distinct = P.distinct; inside = record { inside = λ z m. m }; walk = P.walk })

  -- x itself cannot be added
  pub added-closed : (I : List ℕ) (x : ℕ) → is_member x I ≡ false → Trail ends I (ends x).1 (ends x).0
      → IsForest ends (with_one I x) → ⊥
  added-closed I x out P forest =
      never_joined ends I (with_one I x) x forest out (is_member-with_one x x I ∙ or_left (eqb x x) _ (eq-eqb x x refl))
      (record { inside = λ z m. is_member-with_one z x I ∙ or_right (eqb z x) _ m }) P

-- ---- the rows

-- the test of I - y + x is that of forests alone
exchanged-test : (n : ℕ) (ends : ℕ → ℕ × ℕ) (I : List ℕ) (x y : ℕ) → x < n → IsSet n I
    → is_graphic n ends (with_one (without_one I y) x) ≡ is_forest ends (with_one (without_one I y) x)
exchanged-test n ends I x y small set =
    ap (λ b. b && is_forest ends (with_one (without_one I y) x)) (test_from-IsSet n _ (IsSet-with_one n _ x (IsSet-without_one n I y set) small))

pub row-apart : (n : ℕ) (ends : ℕ → ℕ × ℕ) (I : List ℕ) (x : ℕ) (row : Exchange) → x < n → is_graphic n ends I ≡ true
    → is_member x I ≡ false
    → least_merged ends I (ends x).0 ≢ least_merged ends I (ends x).1 → row.addable ≡ true → row.with ≡ I
    → row ≡ row_of (is_graphic n ends) I x
row-apart n ends I x row small passes out apart adds with' =
    let tests = and_parts (is_set n I) (is_forest ends I) passes in
    let set = IsSet-from_test n I tests.0 in
    row_outside (is_graphic n ends) I x row out (adds ∙ sym (is_graphic-with_one n ends I x small passes apart))
    (with' ∙ sym (filter_whole (exchanged (is_graphic n ends) I x) I
    (λ y m. exchanged-test n ends I x y small set ∙ exchanged-apart ends I x y set.rising (IsForest-from_test ends I set.rising tests.1) apart)))

-- an edge whose ends are in one component, by the set of the edges of a trail between them
pub row-trail : (n : ℕ) (ends : ℕ → ℕ × ℕ) (I : List ℕ) (x : ℕ) (row : Exchange) → x < n → is_graphic n ends I ≡ true
    → is_member x I ≡ false
    → IsRising row.with → IsTrailSet ends I (ends x).1 (ends x).0 row.with → row.addable ≡ false → row ≡ row_of (is_graphic n ends) I x
row-trail n ends I x row small passes out rises t adds =
    let tests = and_parts (is_set n I) (is_forest ends I) passes in
    let set = IsSet-from_test n I tests.0 in
    let forest = IsForest-from_test ends I set.rising tests.1 in
    let never : is_graphic n ends (with_one I x) ≡ false = false_from_ne_true _
    (λ h. added-closed ends I x out t.trail (IsForest-from_test ends _ (IsRising-with_one I x set.rising)
    (and_parts (is_set n (with_one I x)) (is_forest ends (with_one I x)) h).1)) in
    row_outside (is_graphic n ends) I x row out (adds ∙ sym never)
    (same_members row.with _ rises (record { rises = RisesFrom-filter (exchanged (is_graphic n ends) I x) 0 I set.rising.rises })
    (λ y. t.same y ∙ sym (is_member-filter (exchanged (is_graphic n ends) I x) y I ∙ ap (λ b. is_member y I && b)
    (exchanged-test n ends I x y small set) ∙ on_trail y forest set.rising)))
  where
    outside : (a b c : Bool) → c ≡ false → b ≡ false → (a && b) ≡ c
    outside a b c h k = grind (arith, nat_tests)

    on_trail : (y : ℕ) → IsForest ends I → IsRising I
        → (is_member y I && is_forest ends (with_one (without_one I y) x)) ≡ is_member y t.trail.edges
    on_trail y forest r = elim (cases_Bool (is_member y t.trail.edges)) [
      | inl on ↦ and_from (is_member y I) _ (t.trail.inside.inside y on)
          (test_from-IsForest ends _ (exchanged-on ends I x y r forest t.trail on)) ∙ sym on
      | inr off ↦ outside (is_member y I) _ (is_member y t.trail.edges) off
          (false_from_ne_true _ (λ h. exchanged-off ends I x y out t.trail off
          (IsForest-from_test ends _ (IsRising-with_one _ x (IsRising-without_one I y r)) h)))
    ]
