-- The greedy run of one matching: an element comes into the set exactly where the matching takes it, and the matching then has the set's
-- members; where it does not, the set with the element can be matched in no way.
use Rattle.mat_linked.proofs.Common.{◌≡◌, ℕ, ◌+◌, ◌<◌, ◌≤◌, Bool, true, false, not, ◌&&◌, if◌then◌else◌, eqb, List, [], ◌∷◌, length, get_or, drop, replicate, Option, None, refl, sym, ap, ◌∙◌, subst, and_from, false_from_ne_true, or_from, drop_more, length-replicate, is_member, with_one, AreDistinct}
use Rattle.mat_linked.proofs.Common.{IsSet-with_one, is_member-tail, member_differs, is_member-head, is_member-with_one, grown_along, IsRunning, IsRunning-next, IsRunning-end, AreIndices, AreMatchable, IsMatchedOrNone, IsMatching, is_transversal-from, is_transversal-gives, is_transversal}
use Rattle.mat_linked.proofs.MatchableSets.{matched_is_transversal, IsMatching-none, AreMatchable-transversal}

-- no element of an order comes twice: the next one is not among the later ones, nor in a set of earlier ones
pub record IsApart (order : List ℕ) (i : ℕ) (set : List ℕ) : Type 0 where
  pub distinct : AreDistinct (drop i order)
  pub fresh : (k : ℕ) → is_member k (drop i order) ≡ true → is_member k set ≡ false

module _ (order set : List ℕ) (i x : ℕ) (inside : i < length order) (at : x ≡ get_or order i 0) (a : IsApart order i set) where
  left : drop i order ≡ x ∷ drop (i + 1) order
  left = drop_more order i 0 inside ∙ ap (λ y. y ∷ drop (i + 1) order) (sym at)

  new_element : is_member x set ≡ false
  new_element = a.fresh x (ap (is_member x) left ∙ is_member-head x (drop (i + 1) order))

  later : AreDistinct (x ∷ drop (i + 1) order)
  later = subst AreDistinct left a.distinct

  still : (b : Bool) (k : ℕ) → is_member k (drop (i + 1) order) ≡ true → is_member k (if b then with_one set x else set) ≡ false
  still true k m = is_member-with_one k x set ∙ or_from (eqb k x) (is_member k set) (member_differs k x (drop (i + 1) order) m later.0)
      (a.fresh k (ap (is_member k) left ∙ is_member-tail k x (drop (i + 1) order) m))
  still false k m = a.fresh k (ap (is_member k) left ∙ is_member-tail k x (drop (i + 1) order) m)

  IsApart-next : (b : Bool) → IsApart order (i + 1) (if b then with_one set x else set)
  IsApart-next b = record { distinct = later.1; fresh = still b }

module _ (rows : List (List ℕ)) (sets : ℕ) (order : List ℕ) where
  -- the set has come over the first i elements, and the matching is one of its members
  pub record IsMatchingRun (i : ℕ) (set : List ℕ) (matched : List (Option ℕ)) : Type 0 where
    pub long : length matched ≡ sets
    pub matching : IsMatching rows set matched
    pub apart : IsApart order i set
    pub running : (family : List (List ℕ)) → length family ≡ sets → AreIndices (length rows) family rows
        → IsRunning (is_transversal (length rows) family) order i set

  pub IsMatchingRun-start : (set : List ℕ) (matched : List (Option ℕ)) → set ≡ [] → matched ≡ replicate sets None → AreDistinct order
      → IsMatchingRun 0 set matched
  IsMatchingRun-start set matched none empty d = rw none (rw empty (record {
    long = length-replicate sets None;
    matching = IsMatching-none rows sets;
    apart = record { distinct = d; fresh = λ k h. refl };
    running = λ family size r. record { passes = is_transversal-nil (length rows) family; rest = refl };
  }))
    where
      is_transversal-nil : (n : ℕ) (family : List (List ℕ)) → is_transversal n family [] ≡ true
      is_transversal-nil n family = is_transversal-from n family [] (record {
        set = record { rising = record { rises = tt }; below = tt };
        indices = [];
        listed = tt;
        distinct = tt;
        inside = refl;
      })

  module _ (set : List ℕ) (i x : ℕ) (inside : i < length order) (at : x ≡ get_or order i 0) (old : List (Option ℕ))
      (r : IsMatchingRun i set old) (below : x < length rows) (new : List (Option ℕ)) (long : length new ≡ length old) where
    fresh : is_member x set ≡ false
    fresh = new_element order set i x inside at r.apart

    -- whether the set with the element passes, by what the matching told
    told_of : (found : Bool) → IsMatchedOrNone rows (with_one set x) new found → (family : List (List ℕ)) → length family ≡ sets
        → AreIndices (length rows) family rows → found ≡ (not (is_member x set) && is_transversal (length rows) family (with_one set x))
    told_of true m family size a =
        let before = (is_transversal-gives (length rows) family set (r.running family size a).passes).set in
        sym (and_from (not (is_member x set)) (is_transversal (length rows) family (with_one set x)) (ap not fresh)
        (matched_is_transversal (length rows) family rows a (with_one set x) new (IsSet-with_one (length rows) set x before below)
        (long ∙ r.long ∙ sym size) m))
    told_of false none family size a =
        sym (ap (λ b. not b && is_transversal (length rows) family (with_one set x)) fresh ∙ false_from_ne_true _ (λ h.
        none (subst (λ n. AreMatchable rows n (with_one set x)) (size ∙ sym r.long ∙ sym long)
        (AreMatchable-transversal (length rows) family rows a (with_one set x) (is_transversal-gives (length rows) family (with_one set x) h)))))

    matching_after : (found : Bool) → IsMatchedOrNone rows (with_one set x) new found → (found ≡ false → new ≡ old)
        → IsMatching rows (if found then with_one set x else set) new
    matching_after true m stays = m
    matching_after false none stays = subst (IsMatching rows set) (sym (stays refl)) r.matching

    -- one turn of the loop
    pub IsMatchingRun-next : (found : Bool) → ((X : List ℕ) → is_member x X ≡ false → IsMatching rows X old
        → IsMatchedOrNone rows (with_one X x) new found)
        → (found ≡ false → new ≡ old) → (set' : List ℕ) → set' ≡ (if found then with_one set x else set)
        → IsMatchingRun (i + 1) set' new
    IsMatchingRun-next found told stays set' is =
        let m = told set fresh r.matching in
        rw is (record {
          long = long ∙ r.long;
          matching = matching_after found m stays;
          apart = IsApart-next order set i x inside at r.apart found;
          running = λ family size a. IsRunning-next (is_transversal (length rows) family) order set i x inside at (r.running family size a)
              found (if found then with_one set x else set) (told_of found m family size a) refl;
        })

  pub IsMatchingRun-end : (set : List ℕ) (i : ℕ) (matched : List (Option ℕ)) → length order ≤ i → IsMatchingRun i set matched
      → (family : List (List ℕ)) → length family ≡ sets → AreIndices (length rows) family rows
      → set ≡ grown_along (is_transversal (length rows) family) [] order
  IsMatchingRun-end set i matched l r family size a =
      IsRunning-end (is_transversal (length rows) family) order set i l (r.running family size a)
