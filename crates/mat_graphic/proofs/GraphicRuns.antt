-- A greedy run by one union-find: an edge enters a forest where its ends are in two components. The table is of the components of the set,
-- whatever the order in which its members came, as the components are those of the members.
use Rattle.mat_graphic.proofs.Common.{◌≡◌, ℕ, ◌<◌, Bool, true, false, not, ◌&&◌, if◌then◌else◌, eqb, List, ◌∷◌, sym, ap, and_parts, and_from, eqb-true, eqb-false, not-true, not-false, false_from_ne_true, is_member, with_one, is_set, IsRising-with_one, is_member-with_one, IsSet-from_test, is_forest}
use Rattle.mat_graphic.proofs.Common.{is_graphic, least_merged, least_merged-same, least_merged-within, member_within, trail_of_same, IsForest-from_test, is_graphic-with_one, IsParentTable}
use Rattle.mat_graphic.proofs.EdgeRows.{added-closed}
use Rattle.mat_graphic.proofs.ParentTables.{IsParentTable-equal}

module _ (ends : ℕ → ℕ × ℕ) (set : List ℕ) (x : ℕ) where
  -- whether the ends of x are in two components
  abbrev is_apart : Bool
  is_apart = not (eqb (least_merged ends set (ends x).0) (least_merged ends set (ends x).1))

  -- an edge enters exactly where its ends are in two components
  pub enters_apart : (n : ℕ) (apart : Bool) → x < n → is_graphic n ends set ≡ true → apart ≡ is_apart
      → apart ≡ (not (is_member x set) && is_graphic n ends (with_one set x))
  enters_apart n true small passes told =
      let apart = eqb-false _ _ (not-true _ (sym told)) in
      sym (and_from (not (is_member x set)) _ (ap not (false_from_ne_true _ (λ m. apart (member_within ends set x m))))
      (is_graphic-with_one n ends set x small passes apart))
  enters_apart n false small passes told =
      let tests = and_parts (is_set n set) (is_forest ends set) passes in
      let rising = (IsSet-from_test n set tests.0).rising in
      let same = eqb-true _ _ (not-false _ (sym told)) in
      sym (false_from_ne_true _ (λ h.
      let enters = and_parts (not (is_member x set)) _ h in
      added-closed ends set x (not-true _ enters.0) (trail_of_same ends set (ends x).1 (ends x).0 rising (sym same))
      (IsForest-from_test ends _ (IsRising-with_one set x rising) (and_parts (is_set n (with_one set x))
      (is_forest ends (with_one set x)) enters.1).1)))

  -- the table after the ends of x have been united is of the components of the set after x came
  pub table_after : (parent : List ℕ) (apart : Bool) → apart ≡ is_apart → IsParentTable (least_merged ends (x ∷ set)) parent
      → IsParentTable (least_merged ends (if apart then with_one set x else set)) parent
  table_after parent true told t = IsParentTable-equal (least_merged ends (x ∷ set)) _ parent
      (least_merged-same ends (with_one set x) (x ∷ set) (λ z. is_member-with_one z x set)) t
  table_after parent false told t = IsParentTable-equal (least_merged ends (x ∷ set)) _ parent
      (λ v. sym (least_merged-within ends set x v (eqb-true _ _ (not-false _ (sym told))))) t
