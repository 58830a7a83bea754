-- The row of an element by what is kept of an independent set: where a walk to a free index is found the element can be added, and so put in
-- the place of each member; else of those that are matched at reached indices.
use Rattle.mat_linked.proofs.Common.{◌≡◌, ℕ, ◌+◌, ◌<◌, ◌≢◌, Bool, true, false, ◌||◌, eqb, List, [], ◌∷◌, length, get_or, filter, take, is_none, Option, Some, None, inl, inr, refl, sym, ap, ◌∙◌, subst, arith, both_ways, cases_Bool, eq-eqb, eqb-true, false_from_ne_true, false≢true, or_cases, or_left}
use Rattle.mat_linked.proofs.Common.{or_right, is_member, with_one, without_one, intersection, AllBelow, IsSet, IsReachedSet, IsWalk, filter_whole, AllBelow-member, IsSet-with_one, IsSet-without_one, filter_same_at, is_member-with_one, set_members, or_none, row_at, entry_at, is_there, IsFreeWalk}
use Rattle.mat_linked.proofs.Common.{is_before_gives, is_before-more, AreLeading-same, shifted_table, Exchange, row_of, row_outside, LeadToFree, is_held, is_matched_among, AreIndices, AreMatchable, IsMatching, is_transversal-gives, transversal_laws, is_transversal, Family}
use Rattle.std.specs.List.{All}
use Rattle.mat_linked.proofs.AugmentedMatchings.{IsMatching-moved}
use Rattle.mat_linked.proofs.ExchangedMatchings.{exchanged, not_exchanged}
use Rattle.mat_linked.proofs.MatchableSets.{matched_is_transversal, AreMatchable-transversal}
use Rattle.mat_linked.proofs.StuckMatchings.{stuck}

-- ---- what is kept

-- the matching is one for any rows that have the indices of the family
pub IsMatching-any_rows : (n : ℕ) (family rows others : List (List ℕ)) (X : List ℕ) (matched : List (Option ℕ)) → AllBelow n X
    → AreIndices n family rows → AreIndices n family others → IsMatching rows X matched → IsMatching others X matched
IsMatching-any_rows n family rows others X matched below r s t = record {
  held = λ j x e. let l = AllBelow-member n X x below (t.inside j x e) in
      s.members x j l ∙ sym (r.members x j l) ∙ t.held j x e;
  inside = t.inside;
  covered = t.covered;
  once = t.once;
}

-- so too the indices from which a walk leads to a free one
pub LeadToFree-any_rows : (n : ℕ) (family rows others : List (List ℕ)) (X : List ℕ) (matched : List (Option ℕ)) (leading : List ℕ) → AllBelow n X
    → AreIndices n family rows → AreIndices n family others → IsMatching rows X matched → LeadToFree rows matched leading
    → LeadToFree others matched leading
LeadToFree-any_rows n family rows others X matched leading below r s t h =
    AreLeading-same (length matched) (λ j. is_held rows (entry_at matched j)) (λ j. is_held others (entry_at matched j))
    (λ j. is_none (entry_at matched j)) leading (λ j k. same k (entry_at matched j) (t.inside j)) h
  where
    same : (k : ℕ) (entry : Option ℕ) → ((x : ℕ) → entry ≡ Some x → is_member x X ≡ true) → is_held rows entry k ≡ is_held others entry k
    same k None m = refl
    same k (Some x) m = let l = AllBelow-member n X x below (m x refl) in r.members x k l ∙ sym (s.members x k l)

-- the rows that a matroid has are those of its family
pub indices_of : (made m : Family) (rows : List (List ℕ)) → made ≡ m → AreIndices made.count made.sets rows → AreIndices m.count m.sets rows
indices_of made m rows e r = subst (λ k. AreIndices k.count k.sets rows) e r

pub base_below : (n : ℕ) (family rows : List (List ℕ)) (X : List ℕ) → AreIndices n family rows → is_transversal n family X ≡ true
    → AllBelow (length rows) X
base_below n family rows X r h = subst (λ k. AllBelow k X) (sym r.long) (is_transversal-gives n family X h).set.below

pub base_matchable : (made m : Family) (rows : List (List ℕ)) (X : List ℕ) (sets : ℕ) → made ≡ m → sets ≡ length made.sets
    → AreIndices m.count m.sets rows → is_transversal m.count m.sets X ≡ true → AreMatchable rows sets X
base_matchable made m rows X sets e size r h =
    subst (λ k. AreMatchable rows k X) (sym (size ∙ ap (λ k. length k.sets) e))
    (AreMatchable-transversal m.count m.sets rows r X (is_transversal-gives m.count m.sets X h))

-- ---- the elements that some indices are matched with

pub matched_among_from : (matched : List (Option ℕ)) (indices : List ℕ) (j x : ℕ) → is_member j indices ≡ true → entry_at matched j ≡ Some x
    → is_matched_among matched indices x ≡ true
matched_among_from matched [] j x m e = absurd (false≢true m)
matched_among_from matched (i ∷ indices) j x m e = elim (or_cases (eqb j i) (is_member j indices) m) [
  | inl same ↦ or_left (is_there x (entry_at matched i)) (is_matched_among matched indices x)
      (ap (λ k. is_there x (entry_at matched k)) (sym (eqb-true j i same)) ∙ ap (is_there x) e ∙ eq-eqb x x refl)
  | inr later ↦ or_right (is_there x (entry_at matched i)) (is_matched_among matched indices x) (matched_among_from matched indices j x later e)
]

-- one index more, matched or not
pub matched_among-put : (matched : List (Option ℕ)) (indices : List ℕ) (i y : ℕ) (found : List ℕ) → i < length indices
    → entry_at matched (get_or indices i 0) ≡ Some y → ((x : ℕ) → is_member x found ≡ is_matched_among matched (take i indices) x)
    → (x : ℕ) → is_member x (with_one found y) ≡ is_matched_among matched (take (i + 1) indices) x
matched_among-put matched indices i y found l e so_far x =
    is_member-with_one x y found ∙ swapped (eqb x y) (is_member x found) (is_matched_among matched (take i indices) x) (so_far x)
    ∙ ap (λ entry. is_matched_among matched (take i indices) x || is_there x entry) (sym e) ∙ sym (is_before-more matched indices i x l)
  where
    swapped : (a b c : Bool) → b ≡ c → (a || b) ≡ (c || a)
    swapped a b c e = grind arith

pub matched_among-passed : (matched : List (Option ℕ)) (indices : List ℕ) (i : ℕ) (found : List ℕ) → i < length indices
    → entry_at matched (get_or indices i 0) ≡ None → ((x : ℕ) → is_member x found ≡ is_matched_among matched (take i indices) x)
    → (x : ℕ) → is_member x found ≡ is_matched_among matched (take (i + 1) indices) x
matched_among-passed matched indices i found l e so_far x =
    so_far x ∙ sym (or_none (is_matched_among matched (take i indices) x))
    ∙ ap (λ entry. is_matched_among matched (take i indices) x || is_there x entry) (sym e) ∙ sym (is_before-more matched indices i x l)

-- ---- the members that are among some numbers

intersection_is : (p : ℕ → Bool) (X found : List ℕ) → ((y : ℕ) → is_member y X ≡ true → is_member y found ≡ p y)
    → intersection X found ≡ filter p X
unfolding intersection
intersection_is p X found same = filter_same_at (λ y. is_member y found) p X same

-- ---- the row

module _ (rows : List (List ℕ)) (X : List ℕ) (matched : List (Option ℕ)) (element : ℕ) (t : IsMatching rows X matched)
    (fresh : is_member element X ≡ false) (below : element < length rows) (family : List (List ℕ)) (size : length family ≡ length matched)
    (inside : All (AllBelow (length rows)) family) (r : AreIndices (length rows) family rows)
    (passes : is_transversal (length rows) family X ≡ true) where
  abbrev is_independent : List ℕ → Bool
  is_independent = is_transversal (length rows) family

  abbrev arc : ℕ → ℕ → Bool
  arc j = is_held rows (entry_at matched j)

  abbrev start : ℕ → Bool
  start j = is_member j (row_at rows element)

  abbrev goal : ℕ → Bool
  goal j = is_none (entry_at matched j)

  set : IsSet (length rows) X
  set = (is_transversal-gives (length rows) family X passes).set

  matched_passes : (Y : List ℕ) (new : List (Option ℕ)) → IsSet (length rows) Y → length new ≡ length matched → IsMatching rows Y new
      → is_independent Y ≡ true
  matched_passes Y new s long m = matched_is_transversal (length rows) family rows r Y new s (long ∙ sym size) m

  passes_matchable : (Y : List ℕ) → is_independent Y ≡ true → AreMatchable rows (length matched) Y
  passes_matchable Y h =
      subst (λ n. AreMatchable rows n Y) size
      (AreMatchable-transversal (length rows) family rows r Y (is_transversal-gives (length rows) family Y h))

  exchanged_set : (y : ℕ) → IsSet (length rows) (with_one (without_one X y) element)
  exchanged_set y = IsSet-with_one (length rows) (without_one X y) element (IsSet-without_one (length rows) X y set) below

  -- where a walk leads to a free index
  addable : (walk : List ℕ) → IsWalk (length matched) arc start goal walk
      → ((i j : ℕ) → i < j → j < length walk → get_or walk i 0 ≢ get_or walk j 0) → is_independent (with_one X element) ≡ true
  addable walk w differ =
      let s = shifted_table (Some element) walk matched w.below differ in
      matched_passes (with_one X element) s.0 (IsSet-with_one (length rows) X element set below) s.1.long
      (IsMatching-moved (length matched) rows X matched s.0 element walk t fresh w differ s.1)

  smaller : (y k : ℕ) → is_member k (with_one (without_one X y) element) ≡ true → is_member k (with_one X element) ≡ true
  smaller y k m = grind (arith, set_members)

  row_with_walk : is_independent (with_one X element) ≡ true → record { addable = true; with = X } ≡ row_of is_independent X element
  row_with_walk whole =
      row_outside is_independent X element (record { addable = true; with = X }) fresh (sym whole)
      (sym (filter_whole (λ y. is_independent (with_one (without_one X y) element)) X (λ y m.
      (transversal_laws (length rows) family inside).subsets (with_one (without_one X y) element) (with_one X element)
      (exchanged_set y).rising (record { inside = smaller y }) whole)))

  pub row_added : (read : List (Option ℕ)) → read ≡ matched → (live walk others : List ℕ) → others ≡ X
      → IsFreeWalk (length read) (λ j. is_held rows (entry_at read j)) start (λ j. is_none (entry_at read j)) live walk
      → record { addable = true; with = others } ≡ row_of is_independent X element
  row_added read same live walk others is w =
      let free = subst (λ b. IsFreeWalk (length b) (λ j. is_held rows (entry_at b j)) start (λ j. is_none (entry_at b j)) live walk) same w in
      ap row_of_all is ∙ row_with_walk (addable walk free.walk free.differ)
    where
      row_of_all : List ℕ → Exchange
      row_of_all set = record { addable = true; with = set }

  -- where none does
  module _ (reached : List ℕ) (reach : IsReachedSet (length matched) arc start reached)
      (missed : (j : ℕ) → is_member j reached ≡ true → goal j ≡ false) where
    exchange_is : (y : ℕ) → is_matched_among matched reached y ≡ is_independent (with_one (without_one X y) element)
    exchange_is y = elim (cases_Bool (is_matched_among matched reached y)) [
      | inl on ↦
          let w = is_before_gives matched reached y on in
          let s = exchanged (length matched) rows X matched element t fresh reached reach w.0 y refl w.1 w.2 in
          on ∙ sym (matched_passes (with_one (without_one X y) element) s.0 (exchanged_set y) s.1 s.2)
      | inr off ↦ off ∙ sym (false_from_ne_true _ (λ h.
          not_exchanged (length matched) rows X matched element t fresh reached reach missed y
          (λ j on e. both_ways _ off (matched_among_from matched reached j y on e))
          (passes_matchable (with_one (without_one X y) element) h)))
    ]

    row_without_walk : (found : List ℕ) → ((y : ℕ) → is_member y found ≡ is_matched_among matched reached y)
        → record { addable = false; with = intersection X found } ≡ row_of is_independent X element
    row_without_walk found is =
        row_outside is_independent X element (record { addable = false; with = intersection X found }) fresh
        (sym (false_from_ne_true _ (λ h.
        stuck (length matched) rows matched matched element reached refl refl reach missed X fresh t
        (passes_matchable (with_one X element) h))))
        (intersection_is (λ y. is_independent (with_one (without_one X y) element)) X found (λ y m. is y ∙ exchange_is y))

  pub row_reached : (read : List (Option ℕ)) → read ≡ matched → (reached found others : List ℕ)
      → IsReachedSet (length read) (λ j. is_held rows (entry_at read j)) start reached
      → ((j : ℕ) → is_member j reached ≡ true → is_none (entry_at read j) ≡ false)
      → ((y : ℕ) → is_member y found ≡ is_matched_among matched reached y) → others ≡ intersection X found
      → record { addable = false; with = others } ≡ row_of is_independent X element
  row_reached read same reached found others reach missed is are =
      ap row_of_some are
      ∙ row_without_walk reached
      (subst (λ b. IsReachedSet (length b) (λ j. is_held rows (entry_at b j)) start reached) same reach)
      (λ j on. sym (ap (λ b. is_none (entry_at b j)) same) ∙ missed j on) found is
    where
      row_of_some : List ℕ → Exchange
      row_of_some set = record { addable = false; with = set }
