-- Numbers are put into the rows at several places of a list, or taken out of each row, one place after the other: it is done to the rows
-- at the first places.
use Rattle.mat_sets.proofs.Common.{◌≡◌, ℕ, ◌+◌, ◌<◌, ◌≤◌, Bool, true, false, not, ◌&&◌, ◌||◌, eqb, ltb, List, [], length, get_or, set, take, inl, inr, refl, sym, ap, ◌∙◌, arith, get_or-set_other, get_or-set_same, length-set, cases_eq, cases_lt, eq-eqb, le-ltb, lt-ltb, ne_eqb, get_or_past, row_at}
use Rattle.mat_sets.proofs.Common.{AreEmptied, AreRemoved, IsEntered, is_member, with_one}
use Rattle.mat_sets.proofs.Members.{is_member-with_one}
use Rattle.mat_sets.proofs.Steps.{is_member-take_more}
use Rattle.mat_sets.proofs.Truths.{and_all, ltb-other, or_commute}

put_here : (old now own before more row : Bool) → now ≡ (old || (own && before)) → row ≡ (now || own) → more ≡ (before || true)
    → row ≡ (old || (own && more))
put_here old now own before more row e r f = grind arith

put_elsewhere : (old now own before more : Bool) → now ≡ (old || (own && before)) → more ≡ (before || false)
    → now ≡ (old || (own && more))
put_elsewhere old now own before more e f = grind arith

-- the numbers of a test are put into the row at place i
row_more : (own : ℕ → Bool) (places : List ℕ) (i : ℕ) (old new : List (List ℕ)) (row : List ℕ) → i < length places
    → get_or places i 0 < length new → ((j : ℕ) → is_member j row ≡ (is_member j (row_at new (get_or places i 0)) || own j))
    → ((j x : ℕ) → x < length old → is_member j (row_at new x) ≡ (is_member j (row_at old x) || (own j && is_member x (take i places))))
    → (j x : ℕ) → x < length old
    → is_member j (row_at (set new (get_or places i 0) row) x) ≡ (is_member j (row_at old x) || (own j && is_member x (take (i + 1) places)))
row_more own places i old new row l within put so_far j x m =
    let here = get_or places i 0 in
    elim (cases_eq x here) [
      | inl same ↦ ap (λ w. is_member j (row_at (set new here row) w)) same
          ∙ ap (is_member j) (get_or-set_same new here row [] within)
          ∙ put_here (is_member j (row_at old x)) (is_member j (row_at new here)) (own j) (is_member x (take i places))
          (is_member x (take (i + 1) places)) (is_member j row) (ap (λ w. is_member j (row_at new w)) (sym same) ∙ so_far j x m) (put j)
          (is_member-take_more places i x l ∙ ap (λ b. is_member x (take i places) || b) (eq-eqb x here same))
      | inr d ↦ ap (is_member j) (get_or-set_other new here x row [] d)
          ∙ put_elsewhere (is_member j (row_at old x)) (is_member j (row_at new x)) (own j) (is_member x (take i places))
          (is_member x (take (i + 1) places)) (so_far j x m)
          (is_member-take_more places i x l ∙ ap (λ b. is_member x (take i places) || b) (ne_eqb x here d))
    ]

pub IsEntered-more : (k : ℕ) (places : List ℕ) (i : ℕ) (old new : List (List ℕ)) (row : List ℕ) → i < length places
    → get_or places i 0 < length old → row ≡ with_one (row_at new (get_or places i 0)) k → IsEntered k (take i places) old new
    → IsEntered k (take (i + 1) places) old (set new (get_or places i 0) row)
IsEntered-more k places i old new row l below e r =
    let here = get_or places i 0 in
    let within : here < length new = omega (arith, below, r.count) in
    record {
      count = length-set new here row ∙ r.count;
      members = row_more (λ j. eqb j k) places i old new row l within
          (λ j. ap (is_member j) e ∙ is_member-with_one j k (row_at new here) ∙ or_commute (eqb j k) (is_member j (row_at new here))) r.members;
    }

-- what a number that is put into a row changes
pub is_member-inserted : (rows : List (List ℕ)) (i k u v : ℕ) → i < length rows
    → is_member v (row_at (set rows i (with_one (row_at rows i) k)) u) ≡ (is_member v (row_at rows u) || (eqb i u && eqb k v))
is_member-inserted rows i k u v within = elim (cases_eq u i) [
  | inl same ↦ ap (λ w. is_member v (row_at (set rows i (with_one (row_at rows i) k)) w)) same
      ∙ ap (is_member v) (get_or-set_same rows i (with_one (row_at rows i) k) [] within) ∙ is_member-with_one v k (row_at rows i)
      ∙ ap (λ w. eqb v k || is_member v (row_at rows w)) (sym same) ∙ here u v (is_member v (row_at rows u)) same
  | inr d ↦ ap (is_member v) (get_or-set_other rows i u (with_one (row_at rows i) k) [] d) ∙ elsewhere u v (is_member v (row_at rows u)) d
]
  where
    here : (u v : ℕ) (old : Bool) → u ≡ i → (eqb v k || old) ≡ (old || (eqb i u && eqb k v))
    here u v old same = grind arith

    elsewhere : (u v : ℕ) (old : Bool) → (u ≡ i → ⊥) → old ≡ (old || (eqb i u && eqb k v))
    elsewhere u v old differ = grind arith

-- the numbers are taken out of the rows before a place
abbrev pub AreRemovedBelow : ℕ → List ℕ → List (List ℕ) → List (List ℕ) → Type 0
AreRemovedBelow at gone rows rows' =
    (i x : ℕ) → is_member x (row_at rows' i) ≡ (is_member x (row_at rows i) && not (ltb i at && is_member x gone))

left_out : (old now gone more : Bool) → now ≡ (old && not (false && gone)) → more ≡ (now && not gone) → more ≡ (old && not (true && gone))
left_out old now gone more e f = grind arith

pub removed_none : (gone : List ℕ) (rows : List (List ℕ)) → AreRemovedBelow 0 gone rows rows
removed_none gone rows i x = sym (ap (λ b. is_member x (row_at rows i) && not (b && is_member x gone)) (le-ltb i 0 (omega arith))
    ∙ and_all (is_member x (row_at rows i)))

pub removed_next : (gone : List ℕ) (rows rows' : List (List ℕ)) (at : ℕ) (row : List ℕ) → at < length rows'
    → ((x : ℕ) → is_member x row ≡ (is_member x (row_at rows' at) && not (is_member x gone))) → AreRemovedBelow at gone rows rows'
    → AreRemovedBelow (at + 1) gone rows (set rows' at row)
removed_next gone rows rows' at row l out h i x = elim (cases_eq i at) [
  | inl s ↦ ap (λ k. is_member x (row_at (set rows' at row) k)) s ∙ ap (is_member x) (get_or-set_same rows' at row [] l)
      ∙ left_out (is_member x (row_at rows at)) (is_member x (row_at rows' at)) (is_member x gone) (is_member x row)
      (h at x ∙ ap (λ b. is_member x (row_at rows at) && not (b && is_member x gone)) (le-ltb at at (omega arith))) (out x)
      ∙ ap (λ b. is_member x (row_at rows at) && not (b && is_member x gone)) (sym (lt-ltb at (at + 1) (omega arith)))
      ∙ ap (λ k. is_member x (row_at rows k) && not (ltb k (at + 1) && is_member x gone)) (sym s)
  | inr d ↦ ap (is_member x) (get_or-set_other rows' at i row [] d) ∙ h i x
      ∙ ap (λ b. is_member x (row_at rows i) && not (b && is_member x gone)) (ltb-other i at d)
]

pub removed_all : (gone : List ℕ) (rows rows' : List (List ℕ)) (at : ℕ) → length rows' ≡ length rows → length rows ≤ at
    → AreRemovedBelow at gone rows rows' → AreRemoved gone rows rows'
removed_all gone rows rows' at long past h = record {
  count = long;
  members = λ i x. elim (cases_lt i at) [
    | inl l ↦ h i x ∙ ap (λ b. is_member x (row_at rows i) && not (b && is_member x gone)) (lt-ltb i at l)
    | inr g ↦ let none = get_or_past rows i [] (omega arith) in
        ap (is_member x) (get_or_past rows' i [] (omega arith)) ∙ sym (ap (λ r. is_member x r && not (is_member x gone)) none)
  ];
}

-- ---- empty rows

-- the rows at the first i places are empty
pub AreEmptied-none : (places : List ℕ) (rows : List (List ℕ)) → AreEmptied (take 0 places) rows rows
AreEmptied-none places rows = record { count = refl; members = λ i x. sym (and_all (is_member x (row_at rows i))) }

pub AreEmptied-more : (places : List ℕ) (k : ℕ) (old new : List (List ℕ)) (row : List ℕ) → k < length places → get_or places k 0 < length old
    → row ≡ [] → AreEmptied (take k places) old new → AreEmptied (take (k + 1) places) old (set new (get_or places k 0) row)
AreEmptied-more places k old new row l below none r =
    let here = get_or places k 0 in
    let within : here < length new = omega (arith, below, r.count) in
    record {
      count = length-set new here row ∙ r.count;
      members = λ i x. elim (cases_eq i here) [
        | inl same ↦ ap (λ w. is_member x (row_at (set new here row) w)) same
            ∙ ap (is_member x) (get_or-set_same new here row [] within ∙ none)
            ∙ emptied (is_member x (row_at old i)) (is_member i (take k places)) (is_member i (take (k + 1) places))
            (is_member-take_more places k i l ∙ ap (λ b. is_member i (take k places) || b) (eq-eqb i here same))
        | inr d ↦ ap (is_member x) (get_or-set_other new here i row [] d)
            ∙ r.members i x
            ∙ left_alone (is_member x (row_at old i)) (is_member i (take k places)) (is_member i (take (k + 1) places))
            (is_member-take_more places k i l ∙ ap (λ b. is_member i (take k places) || b) (ne_eqb i here d))
      ];
    }
  where
    emptied : (old before more : Bool) → more ≡ (before || true) → false ≡ (old && not more)
    emptied old before more e = grind arith

    left_alone : (old before more : Bool) → more ≡ (before || false) → (old && not before) ≡ (old && not more)
    left_alone old before more e = grind arith
