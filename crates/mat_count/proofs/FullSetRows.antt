-- The row that the smallest full set tells: two listed sets that hold x are nested, so that a full set with fewest members of the base has no
-- member that another full one that holds x lacks, and an exchange for each of its members leaves room in all of them.
use Rattle.mat_count.proofs.Common.{◌≡◌, ℕ, ◌<◌, ◌≤◌, Bool, true, false, cond, leb, List, [], length, get_or, Option, Some, None, ◌⊎◌, inl, inr, refl, sym, ap, ◌∙◌, subst, arith, cases_lt, cases_order, both_ways, ltb-false, le-leb, leb-true, eq-eqb, eqb-true, get_or_default, get_or_past, ⊤}
use Rattle.mat_count.proofs.Common.{MatchOption, is_some, is_member, AllBelow, IsRising, IsSubset, intersection, IsRising-intersection, set_members, subset_or, same_size_subset, Exchange, row_of, is_counted, AreFullSets, IsSmallest, kept_at, has_fewer, row_at_place, row_of_size, where_full, crosses}
use Rattle.mat_count.proofs.Common.{IsLaminarFamily, test_from-Crosses, CappedSets, IsLaminar, IsPlaceTable, IsLaminarFamily-from_disjoint, names, CappedClasses, IsClassTable, IsPartition, FullSets}
use Rattle.mat_count.proofs.ClassRows.{IsOutside, IsOutside-from_test, row_with_room, row_at_full}
use Rattle.mat_count.proofs.KeptSets.{not_itself}
use Rattle.mat_count.proofs.PartitionRuns.{entry_known}
use Rattle.mat_count.proofs.PlaceTables.{AllBelow-read}

-- ---- two listed sets with a common member

-- sets that do not cross, and share a member, are nested
nested_pair : (A B : List ℕ) (x : ℕ) → is_member x A ≡ true → is_member x B ≡ true → crosses A B ≡ false → IsSubset A B ⊎ IsSubset B A
nested_pair A B x in_A in_B never = elim (subset_or A B) [
  | inl inside ↦ inl inside
  | inr first ↦ elim (subset_or B A) [
    | inl inside ↦ inr inside
    | inr second ↦ absurd (both_ways (crosses A B) never (test_from-Crosses A B (record {
      shared = x;
      first = first.0;
      second = second.0;
      shared_in_first = in_A;
      shared_in_second = in_B;
      first_inside = first.1;
      first_outside = first.2;
      second_inside = second.1;
      second_outside = second.2;
    })))
  ]
]

module _ (sets : List (List ℕ)) (family : IsLaminarFamily sets) (x : ℕ) where
  -- two listed sets that hold x are nested
  nested_at : (i j : ℕ) → i < length sets → j < length sets → is_member x (get_or sets i []) ≡ true → is_member x (get_or sets j []) ≡ true
      → IsSubset (get_or sets i []) (get_or sets j []) ⊎ IsSubset (get_or sets j []) (get_or sets i [])
  nested_at i j l m in_i in_j = elim (cases_order i j) [
    | inl same ↦ inl (record { inside = λ k h. subst (λ p. is_member k (get_or sets p []) ≡ true) same h })
    | inr (inl below) ↦ nested_pair _ _ x in_i in_j (family.nested i j below m)
    | inr (inr above) ↦ elim (nested_pair _ _ x in_j in_i (family.nested j i above l)) [
      | inl inside ↦ inr inside
      | inr inside ↦ inl inside
    ]
  ]

  -- of two of them the one with fewer members of I has no member of I that the other lacks
  fewer_inside : (I : List ℕ) (i j : ℕ) → IsRising I → i < length sets → j < length sets → is_member x (get_or sets i []) ≡ true
      → is_member x (get_or sets j []) ≡ true → length (intersection I (get_or sets i [])) ≤ length (intersection I (get_or sets j []))
      → (y : ℕ) → is_member y I ≡ true → is_member y (get_or sets i []) ≡ true → is_member y (get_or sets j []) ≡ true
  fewer_inside I i j rises l m in_i in_j fewer y y_in y_at = elim (nested_at i j l m in_i in_j) [
    | inl inside ↦ inside.inside y y_at
    | inr inside ↦ (
        let S = get_or sets i [] in
        let T = get_or sets j [] in
        let part : IsSubset (intersection I T) (intersection I S) = record { inside = λ k h. let more = inside.inside k in grind (arith, set_members) } in
        let same = same_size_subset (intersection I T) (intersection I S) (IsRising-intersection I T rises) (IsRising-intersection I S rises) part fewer in
        let here : is_member y (intersection I S) ≡ true = grind (arith, set_members) in
        let there : is_member y (intersection I T) ≡ true = ap (is_member y) same ∙ here in
        grind (arith, set_members))
  ]

-- ---- what is kept

-- of a set that is full its number of members is kept, and what is kept is that of a full one
kept_where_full : (cap number : ℕ) → cap ≤ number → where_full cap number ≡ Some number
kept_where_full cap number full = ap (λ b. cond b (Some number) None) (le-leb cap number full)

full_where_kept : (cap number found : ℕ) → where_full cap number ≡ Some found → (cap ≤ number) × (number ≡ found)
full_where_kept cap number found is =
    let parts = decide (leb cap number) is in
    (leb-true cap number parts.0, parts.1)
  where
    value : Option ℕ → ℕ
    value None = 0
    value (Some size) = size

    is_some : Option ℕ → Bool
    is_some None = false
    is_some (Some size) = true

    decide : (b : Bool) → cond b (Some number) None ≡ Some found → (b ≡ true) × (number ≡ found)
    decide true is = (refl, ap value is)
    decide false is = absurd (both_ways false refl (ap is_some is))

-- the row that a full set tells
pub row_where_full : (base set : List ℕ) (size : Option ℕ) (with : List ℕ) → is_some size ≡ true → with ≡ intersection base set
    → record { addable = false; with = with } ≡ row_of_size base set size
row_where_full base set (Some size) with full is = ap (λ members. record { addable = false; with = members }) is
row_where_full base set None with full is = absurd (both_ways false refl full)

-- what was found is a listed set that holds x, and no full one that holds x has fewer members
pub record IsSmallestAt (sets : List (List ℕ)) (x : ℕ) (sizes : List (Option ℕ)) (found : Option ℕ) : Type 0 where
  pub listed : (i : ℕ) → found ≡ Some i → is_member x (get_or sets i []) ≡ true
  pub least : (i : ℕ) → is_member x (get_or sets i []) ≡ true → has_fewer (get_or sizes i None) (kept_at sizes found) ≡ false

-- ---- the row

module _ {n : ℕ} {sets : List (List ℕ)} {caps I : List ℕ} {x : ℕ} (o : IsOutside n sets caps I x) (family : IsLaminarFamily sets)
    (kept : FullSets) (full : AreFullSets sets caps I kept) (row : Exchange) where
  abbrev sizes : List (Option ℕ)
  sizes = kept.sizes.items

  abbrev count_at : ℕ → ℕ
  count_at i = length (intersection I (get_or sets i []))

  -- of a full set its number of members is kept
  size_of_full : (i : ℕ) → i < length sets → get_or caps i 0 ≤ count_at i → get_or sizes i None ≡ Some (count_at i)
  size_of_full i l most = full.at i l ∙ kept_where_full (get_or caps i 0) (count_at i) most

  -- where no full set holds x
  row_of_none : ((i : ℕ) → is_member x (get_or sets i []) ≡ true → has_fewer (get_or sizes i None) None ≡ false)
      → row ≡ row_of_size I [] None → row ≡ row_of (is_counted n sets caps) I x
  row_of_none none is = row_with_room o row (λ i l h. elim (cases_lt (count_at i) (get_or caps i 0)) [
    | inl room ↦ room
    | inr most ↦ absurd (both_ways (has_fewer (get_or sizes i None) None) (none i h) (ap (λ s. has_fewer s None) (size_of_full i l most)))
  ]) (ap (λ e. e.addable) is) (ap (λ e. e.with) is)

  -- where the full set at this place holds x, and none that does has fewer members
  row_of_some : (place size : ℕ) → is_member x (get_or sets place []) ≡ true → get_or sizes place None ≡ Some size
      → ((i : ℕ) → is_member x (get_or sets i []) ≡ true → has_fewer (get_or sizes i None) (Some size) ≡ false)
      → row ≡ row_of_size I (get_or sets place []) (Some size) → row ≡ row_of (is_counted n sets caps) I x
  row_of_some place size own found least is =
      row_at_full o known own (λ i l h. elim (cases_lt (count_at i) (get_or caps i 0)) [
        | inl room ↦ inl room
        | inr most ↦ inr (fewer_inside sets family x I place i o.set.rising known l own h (fewest i l h most))
      ]) filled.0 row (ap (λ e. e.addable) is) (ap (λ e. e.with) is)
    where
      known : place < length sets
      known = elim (cases_lt place (length sets)) [
        | inl inside ↦ inside
        | inr past ↦ absurd (both_ways false refl (ap (is_member x) (sym (get_or_past sets place [] past)) ∙ own))
      ]

      filled : (get_or caps place 0 ≤ count_at place) × (count_at place ≡ size)
      filled = full_where_kept (get_or caps place 0) (count_at place) size (sym (full.at place known) ∙ found)

      fewest : (i : ℕ) → i < length sets → is_member x (get_or sets i []) ≡ true → get_or caps i 0 ≤ count_at i → count_at place ≤ count_at i
      fewest i l h most =
          let never = ap (λ s. has_fewer s (Some size)) (sym (size_of_full i l most)) ∙ least i h in
          let low = ltb-false (count_at i) size never in
          let same = filled.1 in
          omega arith

  pub row_of_smallest : (found : Option ℕ) → IsSmallestAt sets x sizes found → row ≡ row_at_place I sets sizes found
      → row ≡ row_of (is_counted n sets caps) I x
  row_of_smallest None small is = row_of_none small.least is
  row_of_smallest (Some place) small is = by_size (get_or sizes place None) refl
    where
      by_size : (size : Option ℕ) → get_or sizes place None ≡ size → row ≡ row_of (is_counted n sets caps) I x
      by_size None here =
          row_of_none (λ i h. ap (has_fewer (get_or sizes i None)) (sym here) ∙ small.least i h)
          (is ∙ ap (row_of_size I (get_or sets place [])) here)
      by_size (Some size) here =
          row_of_some place size (small.listed place refl) here
          (λ i h. ap (has_fewer (get_or sizes i None)) (sym here) ∙ small.least i h) (is ∙ ap (row_of_size I (get_or sets place [])) here)

-- ---- by the matroid

-- what a laminar matroid tells
abbrev laminar_seen : ℕ → List (List ℕ) → List ℕ → CappedSets
laminar_seen count sets caps = record { count = count; sets = sets; caps = caps }

-- a sound laminar matroid with the table of its places, an independent set of which the full sets are kept, and an element outside it
module _ (count : ℕ) (sets : List (List ℕ)) (caps : List ℕ) {m : CappedSets} (same : laminar_seen count sets caps ≡ m) (table : List (List ℕ))
    (right : IsPlaceTable count sets table) {I : List ℕ} (kept : FullSets) (full : AreFullSets m.sets m.caps I kept) (x : ℕ) (small : x < m.count) where
  -- the places of x are among those of which something is kept
  pub places_kept : {places : List ℕ} → places ≡ get_or table x [] → AllBelow (length kept.sizes.items) places
  places_kept read = AllBelow-read right (subst (λ k. x < k.count) (sym same) small) kept.sizes.items
      (subst (λ k. length kept.sizes.items ≡ length k.sets) (sym same) full.long) read

  -- the row, by the smallest of the full sets at the places of x
  pub row_at_smallest : IsLaminar m.count m.sets m.caps → is_counted m.count m.sets m.caps I ≡ true → is_member x I ≡ false
      → {found : Option ℕ} → IsSmallest kept.sizes.items (get_or table x []) found
      → (row : Exchange) → row ≡ row_at_place I sets kept.sizes.items found → row ≡ row_of (is_counted m.count m.sets m.caps) I x
  row_at_smallest sound passes outside {found} best row is =
      row_of_smallest (IsOutside-from_test m.count m.sets m.caps I x sound.capped small passes outside) sound.family kept full row found (record {
        listed = λ i h. sym (placed i) ∙ best.listed i h;
        least = λ i h. best.least i (placed i ∙ h);
      }) (is ∙ ap (λ k. row_at_place I k.sets kept.sizes.items found) same)
    where
      placed : (i : ℕ) → is_member i (get_or table x []) ≡ is_member x (get_or m.sets i [])
      placed i = (subst (λ k. IsPlaceTable k.count k.sets table) same right).right x i small

-- the class that the table names for x is the only one that holds it, and so the smallest
named_is_smallest : (n : ℕ) (classes : List (List ℕ)) (table : List (Option ℕ)) (x : ℕ) (sizes : List (Option ℕ)) → x < n
    → IsClassTable n classes table → IsSmallestAt classes x sizes (get_or table x None)
named_is_smallest n classes table x sizes small right = record {
  listed = λ i same. sym (right.right x i small) ∙ ap (λ entry. names entry i) same ∙ eq-eqb i i refl;
  least = λ i h. only (get_or table x None) i (right.right x i small ∙ h);
}
  where
    only : (entry : Option ℕ) (i : ℕ) → names entry i ≡ true → has_fewer (get_or sizes i None) (kept_at sizes entry) ≡ false
    only None i h = absurd (both_ways false refl h)
    only (Some k) i h = ap (λ j. has_fewer (get_or sizes j None) (get_or sizes k None)) (sym (eqb-true k i h)) ∙ not_itself (get_or sizes k None)

-- what a partition matroid tells
abbrev partition_seen : ℕ → List (List ℕ) → List ℕ → CappedClasses
partition_seen count classes caps = record { count = count; classes = classes; caps = caps }

-- a sound partition matroid with the table of its classes, an independent set of which the full classes are kept, and an element outside it
module _ (count : ℕ) (classes : List (List ℕ)) (caps : List ℕ) {p : CappedClasses} (same : partition_seen count classes caps ≡ p) (table : List (Option ℕ))
    (seen : IsClassTable count classes table) {I : List ℕ} (kept : FullSets) (full : AreFullSets p.classes p.caps I kept) (x : ℕ) (small : x < p.count)
    {entry : Option ℕ} (read : entry ≡ get_or table x entry) where
  right : IsClassTable p.count p.classes table
  right = subst (λ q. IsClassTable q.count q.classes table) same seen

  entry_read : get_or table x None ≡ entry
  entry_read = let entries = right.entries in sym (read ∙ get_or_default table x entry None (omega arith))

  -- the class that the table names for x is one of those of which something is kept
  pub entry_kept : MatchOption entry ⊤ (λ place. place < length kept.sizes.items)
  entry_kept =
      subst (λ e. MatchOption e ⊤ (λ place. place < length kept.sizes.items)) entry_read
      (subst (λ k. MatchOption (get_or table x None) ⊤ (λ place. place < k)) (sym full.long) (entry_known p.count p.classes table x small right))

  -- the row, by the class that the table names for x
  pub row_at_class : IsPartition p.count p.classes p.caps → is_counted p.count p.classes p.caps I ≡ true → is_member x I ≡ false
      → (row : Exchange) → row ≡ row_at_place I classes kept.sizes.items entry → row ≡ row_of (is_counted p.count p.classes p.caps) I x
  row_at_class sound passes outside row is =
      row_of_smallest (IsOutside-from_test p.count p.classes p.caps I x sound.capped small passes outside)
      (IsLaminarFamily-from_disjoint p.classes sound.disjoint) kept full row entry
      (subst (IsSmallestAt p.classes x kept.sizes.items) entry_read
      (named_is_smallest p.count p.classes table x kept.sizes.items small right)) (is ∙ ap (λ k. row_at_place I k.classes kept.sizes.items entry) same)
