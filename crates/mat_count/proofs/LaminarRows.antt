-- Adding to an independent set of a laminar matroid: x can be added where no listed set that holds x is full. The table of places tells which
-- sets hold an element.
use Rattle.mat_count.proofs.Common.{◌≡◌, ℕ, ◌<◌, ◌≤◌, true, false, eqb, List, [], length, get_or, inl, inr, refl, sym, ap, ◌∙◌, arith, cases_eq, cases_lt, both_ways, and_parts, and_from, le-leb, leb-true, eq-eqb, ne_eqb, get_or_past, is_member, with_one, intersection, some_member, is_member-filter}
use Rattle.mat_count.proofs.Common.{is_counted, counted_more, CountsMembers, IsPlaceTable, is_full, no_member}
use Rattle.std.specs.List.{filter}
use Rattle.mat_count.proofs.ClassRows.{IsOutside, added_with_room, not_counted}

-- the numbers are those of the members of I, and the table has the places of the sets that hold each element
module _ {n : ℕ} {sets : List (List ℕ)} {caps I : List ℕ} {x : ℕ} (o : IsOutside n sets caps I x) (numbers : List ℕ)
    (counts : CountsMembers sets I numbers) (table : List (List ℕ)) (right : IsPlaceTable n sets table) where
  abbrev full : List ℕ
  full = filter (is_full caps numbers) (get_or table x [])

  -- x stands in a set at such a place, and that is full
  full_listed : (i : ℕ) → is_member i full ≡ true
      → (i < length sets) × (is_member x (get_or sets i []) ≡ true) × (get_or caps i 0 ≤ length (intersection I (get_or sets i [])))
  full_listed i h =
      let tests = and_parts (is_member i (get_or table x [])) (is_full caps numbers i)
      (sym (is_member-filter (is_full caps numbers) i (get_or table x [])) ∙ h) in
      let stands = sym (right.right x i o.small) ∙ tests.0 in
      let inside : i < length sets = elim (cases_lt i (length sets)) [
        | inl inside ↦ inside
        | inr past ↦ absurd (both_ways false refl (ap (is_member x) (sym (get_or_past sets i [] past)) ∙ stands))
      ] in
      let most = leb-true (get_or caps i 0) (get_or numbers i 0) tests.1 in
      (inside, stands, omega (arith, counts.at i inside))

  -- and each full set that holds x has such a place
  in_full : (i : ℕ) → i < length sets → is_member x (get_or sets i []) ≡ true
      → get_or caps i 0 ≤ length (intersection I (get_or sets i [])) → is_member i full ≡ true
  in_full i l stands most =
      is_member-filter (is_full caps numbers) i (get_or table x [])
      ∙ and_from (is_member i (get_or table x [])) (is_full caps numbers i) (right.right x i o.small ∙ stands)
      (le-leb (get_or caps i 0) (get_or numbers i 0) (omega (arith, counts.at i l)))

  pub added_at : eqb (length full) 0 ≡ is_counted n sets caps (with_one I x)
  added_at = elim (cases_eq (length full) 0) [
    | inl none ↦ eq-eqb (length full) 0 none ∙ sym (added_with_room o (λ i l h.
        elim (cases_lt (length (intersection I (get_or sets i []))) (get_or caps i 0)) [
          | inl room ↦ room
          | inr most ↦ absurd (both_ways (is_member i full) (no_member full i none) (in_full i l h most))
        ]))
    | inr some ↦ (
        let found = some_member full some in
        let is = full_listed found.0 found.1 in
        let filled = is.2 in
        let more = counted_more (get_or sets found.0 []) I x o.set.rising o.outside is.1 in
        ne_eqb (length full) 0 some ∙ sym (not_counted n sets caps (with_one I x) found.0 o.same is.0 (omega arith)))
  ]
