-- Searches for augmenting walks of a matching, one after the other: where the arcs from an index lead depends on its entry alone, so what was
-- reached in vain is left alone by later walks, and is never reached again.
use Rattle.mat_linked.proofs.Common.{arith, ◌≡◌, ℕ, ◌<◌, ◌^◌, Bool, true, false, not, ◌&&◌, List, length, is_none, is_some, Option, Some, None, refl, sym, ap, ◌∙◌, subst, and_from, and_parts, both_ways, false_from_ne_true, not-true, all_below, intersection, is_member, with_one, AllBelow, row_at}
use Rattle.mat_linked.proofs.Common.{IsNextFrom, reached_set_exists, walk_differs, same_truth, entry_at, IsShifted, live_in, IsFreeWalk, IsRoom, IsShut, IsSpent, is_before_gives, leading_walk, unled_misses, some_is_one, LeadToFree, is_held, is_matched_among, AreIndices, AreMatchable, IsMatching}
use Rattle.mat_linked.proofs.Common.{is_transversal-gives, is_transversal, Exchange, row_of, row-addable}
use Rattle.std.specs.List.{All}
use Rattle.mat_flow.specs.declared.seeking.SearchRoom.{SearchRoom}
use Rattle.mat_flow.proofs.FirstGoals.{shut_misses, spent_reaches, IsShut-all, IsShut-moved, IsShut-spent}
use Rattle.mat_linked.specs.Searches.{IsReady}
use Rattle.mat_linked.proofs.AugmentedMatchings.{IsMatching-moved}
use Rattle.mat_linked.proofs.KeptRows.{matched_among_from, row_added, row_reached}
use Rattle.mat_linked.proofs.MatchableSets.{element_below, AreMatchable-transversal}
use Rattle.mat_linked.proofs.StuckMatchings.{stuck}

-- at the start nothing was reached in vain
pub IsReady-start : (rows : List (List ℕ)) (matched : List (Option ℕ)) (room : SearchRoom) (sets : ℕ) → length matched ≡ sets → IsRoom sets room
    → live_in room ≡ all_below sets → IsReady rows matched room
IsReady-start rows matched room sets long fits all = record {
  fits = subst (λ n. IsRoom n room) (sym long) fits;
  shut = IsShut-all (length matched) _ _ (live_in room) (all ∙ ap all_below (sym long));
}

module _ (rows : List (List ℕ)) (old read : List (Option ℕ)) (element : ℕ) (same : read ≡ old) (live : List ℕ)
    (shut : IsShut (length old) (λ j. is_held rows (entry_at old j)) (λ j. is_none (entry_at old j)) live) where
  abbrev start : ℕ → Bool
  start j = is_member j (row_at rows element)

  -- ---- a walk

  module _ (new : List (Option ℕ)) (walk lent : List ℕ) (lent_is : lent ≡ walk)
      (found : IsFreeWalk (length read) (λ j. is_held rows (entry_at read j)) start (λ j. is_none (entry_at read j)) live walk)
      (moved : IsShifted (Some element) lent old new) where
    free : IsFreeWalk (length old) (λ j. is_held rows (entry_at old j)) start (λ j. is_none (entry_at old j)) live walk
    free = subst (λ b. IsFreeWalk (length b) (λ j. is_held rows (entry_at b j)) start (λ j. is_none (entry_at b j)) live walk) same found

    shifted : IsShifted (Some element) walk old new
    shifted = subst (λ v. IsShifted (Some element) v old new) lent_is moved

    pub matching_moves : (X : List ℕ) → is_member element X ≡ false → IsMatching rows X old → IsMatching rows (with_one X element) new
    matching_moves X fresh t = IsMatching-moved (length old) rows X old new element walk t fresh free.walk free.differ shifted

    pub shut_moves : (back : List ℕ) → ((v : ℕ) → is_member v back ≡ is_member v live)
        → IsShut (length new) (λ j. is_held rows (entry_at new j)) (λ j. is_none (entry_at new j)) back
    shut_moves back b =
        subst (λ n. IsShut n (λ j. is_held rows (entry_at new j)) (λ j. is_none (entry_at new j)) back) (sym shifted.long)
        (IsShut-moved (length old) _ _ live _ _ back shut
        (λ u out. let stays = shifted.kept u (false_from_ne_true (is_member u walk) (λ on. both_ways _ out (free.inside u on))) in
        (ap is_none stays, λ v. ap (λ e. is_held rows e v) stays)) b)

  -- ---- none

  module _ (rest : List ℕ)
      (spent : IsSpent (length read) (λ j. is_held rows (entry_at read j)) start (λ j. is_none (entry_at read j)) live rest) where
    ended : IsSpent (length old) (λ j. is_held rows (entry_at old j)) start (λ j. is_none (entry_at old j)) live rest
    ended = subst (λ b. IsSpent (length b) (λ j. is_held rows (entry_at b j)) start (λ j. is_none (entry_at b j)) live rest) same spent

    pub shut_ends : IsShut (length old) (λ j. is_held rows (entry_at old j)) (λ j. is_none (entry_at old j)) rest
    shut_ends = IsShut-spent (length old) _ _ live start rest shut ended

    pub stuck_ends : (X : List ℕ) → is_member element X ≡ false → IsMatching rows X old
        → AreMatchable rows (length old) (with_one X element) → ⊥
    stuck_ends =
        let r = reached_set_exists (length old) (λ j. is_held rows (entry_at old j)) start in
        stuck (length old) rows old old element r.0 refl refl r.1
        (shut_misses (length old) _ _ rest start r.0 shut_ends (λ v l s. ended.starts v s) r.1)

-- ---- a row

-- a search from the sets that hold an element is allowed
pub may_search : (rows : List (List ℕ)) (X : List ℕ) (matched read : List (Option ℕ)) (element : ℕ) → IsMatching rows X matched → read ≡ matched
    → length matched < 2 ^ 32 → element < length rows
    → (length read < 2 ^ 32) × ((x : ℕ) → Some element ≡ Some x → x < length rows) × ((j x : ℕ) → entry_at read j ≡ Some x → x < length rows)
may_search rows X matched read element t same few below =
    rw same (few, λ x e. subst (λ y. y < length rows) (some_is_one element x e) below, element_below rows X matched t)

-- the same indices are matched with the same elements
same_matched : (matched : List (Option ℕ)) (one other : List ℕ) → ((v : ℕ) → is_member v one ≡ is_member v other) → (y : ℕ)
    → is_matched_among matched one y ≡ is_matched_among matched other y
same_matched matched one other same y = same_truth _ _
    (λ h. let w = is_before_gives matched one y h in matched_among_from matched other w.0 y (sym (same w.0) ∙ w.1) w.2)
    (λ h. let w = is_before_gives matched other y h in matched_among_from matched one w.0 y (same w.0 ∙ w.1) w.2)

-- whether an element can be added, by the indices from which a walk leads to a free one
module _ (rows : List (List ℕ)) (X : List ℕ) (matched : List (Option ℕ)) (element : ℕ) (t : IsMatching rows X matched)
    (fresh : is_member element X ≡ false) (below : element < length rows) (family : List (List ℕ)) (size : length family ≡ length matched)
    (inside : All (AllBelow (length rows)) family) (r : AreIndices (length rows) family rows)
    (passes : is_transversal (length rows) family X ≡ true) (leading : List ℕ) (h : LeadToFree rows matched leading) where
  abbrev step : ℕ → ℕ → Bool
  step j = is_held rows (entry_at matched j)

  abbrev first : ℕ → Bool
  first j = is_member j (row_at rows element)

  abbrev free_index : ℕ → Bool
  free_index j = is_none (entry_at matched j)

  pub adds_told : (found : Option ℕ) → IsNextFrom (λ j. first j && is_member j leading) 0 found
      → is_some found ≡ (row_of (is_transversal (length rows) family) X element).addable
  adds_told (Some j) f =
      let p = and_parts (first j) (is_member j leading) f.passes in
      let q = leading_walk (length matched) step free_index leading h first j p.0 p.1 in
      ap (λ (e : Exchange). e.addable)
      (row_added rows X matched element t fresh below family size inside r passes matched refl q.0 q.0 X refl (record {
        walk = q.1.walk;
        differ = walk_differs (length matched) step first free_index q.0 q.0 refl q.1;
        inside = λ v m. m;
      }))
  adds_told None f =
      let reached = reached_set_exists (length matched) step first in
      sym (row-addable (is_transversal (length rows) family) X element _ fresh refl
      ∙ false_from_ne_true _ (λ whole. stuck (length matched) rows matched matched element reached.0 refl refl reached.1
      (unled_misses (length matched) step free_index leading h first reached.0 reached.1
      (λ j l s. false_from_ne_true _ (λ m. both_ways _ (f j (omega arith)) (and_from (first j) (is_member j leading) s m))))
      X fresh t
      (subst (λ n. AreMatchable rows n (with_one X element)) size
      (AreMatchable-transversal (length rows) family rows r (with_one X element) (is_transversal-gives (length rows) family (with_one X element) whole)))))

module _ (rows : List (List ℕ)) (X : List ℕ) (matched : List (Option ℕ)) (element : ℕ) (t : IsMatching rows X matched)
    (fresh : is_member element X ≡ false) (below : element < length rows) (family : List (List ℕ)) (size : length family ≡ length matched)
    (inside : All (AllBelow (length rows)) family) (r : AreIndices (length rows) family rows)
    (passes : is_transversal (length rows) family X ≡ true) (read : List (Option ℕ)) (same : read ≡ matched) (live : List ℕ) where
  pub row_spent : (n : ℕ) → n ≡ length read → live ≡ all_below n → (rest found : List ℕ)
      → IsSpent (length read) (λ j. is_held rows (entry_at read j)) (λ j. is_member j (row_at rows element)) (λ j. is_none (entry_at read j)) live rest
      → ((v : ℕ) → is_member v found ≡ (is_member v live && not (is_member v rest)))
      → (bits others : List ℕ) → ((y : ℕ) → is_member y bits ≡ is_matched_among matched found y) → others ≡ intersection X bits
      → record { addable = false; with = others } ≡ row_of (is_transversal (length rows) family) X element
  row_spent n long all rest found e f bits others is are =
      let reached = reached_set_exists (length read) (λ j. is_held rows (entry_at read j)) (λ j. is_member j (row_at rows element)) in
      let whole = all ∙ ap all_below long in
      let members = spent_reaches (length read) _ _ (λ j. is_none (entry_at read j)) live rest reached.0 whole e reached.1 in
      row_reached rows X matched element t fresh below family size inside r passes read same reached.0 bits others reached.1
      (λ j on. let p = and_parts (is_member j live) (not (is_member j rest)) (sym (members j) ∙ on) in
      e.missed j p.0 (not-true (is_member j rest) p.1))
      (λ y. is y ∙ same_matched matched found reached.0 (λ v. f v ∙ sym (members v)) y) are
