-- The members of a set can be matched exactly where the set is a partial transversal: the loop matches one after the other, and stops with
-- a part of the set that cannot be matched.
use Rattle.mat_linked.proofs.Common.{◌≡◌, ℕ, zero, suc, ◌+◌, ◌<◌, ◌≤◌, Bool, true, false, eqb, cond, List, [], ◌∷◌, length, get_or, take, replicate, Option, Some, None, inl, inr, refl, sym, ap, ◌∙◌, subst, and_from, and_parts, both_ways, cond_both, cases_lt, eqb-true, false_from_ne_true, false≢true}
use Rattle.mat_linked.proofs.Common.{or_cases, get_or_past, length-replicate, take_all, is_member, with_one, AllBelow, AreDistinct, IsRising, IsSet, AllBelow-member, AreDistinct-rising, is_member-tail, is_member-head, is_member-take_next, take-with_one, entry_at, entry_inside, none_is_not_some}
use Rattle.mat_linked.proofs.Common.{some_is_one, AreIndices, AreMatchable, IsMatchedOrNone, IsMatching, is_transversal-from, is_transversal-gives, is_transversal, lie_in_sets, IsPartialTransversal}

-- ---- the first matching

pub entry_at-replicate : (n j : ℕ) → entry_at (replicate n None) j ≡ None
entry_at-replicate (suc n) (suc j) = entry_at-replicate n j
entry_at-replicate _ j = refl

pub IsMatching-none : (rows : List (List ℕ)) (n : ℕ) → IsMatching rows [] (replicate n None)
IsMatching-none rows n = record {
  held = λ j x e. absurd (nothing j x e);
  inside = λ j x e. absurd (nothing j x e);
  covered = λ x m. absurd (false≢true m);
  once = λ j k x e f. absurd (nothing j x e);
}
  where
    nothing : (j x : ℕ) → entry_at (replicate n None) j ≡ Some x → ⊥
    nothing j x e = none_is_not_some x (sym (entry_at-replicate n j) ∙ e)

-- an element that stands somewhere has a row
pub element_below : (rows : List (List ℕ)) (X : List ℕ) (matched : List (Option ℕ)) → IsMatching rows X matched → (j x : ℕ)
    → entry_at matched j ≡ Some x → x < length rows
element_below rows X matched t j x e = elim (cases_lt x (length rows)) [
  | inl l ↦ l
  | inr past ↦ absurd (both_ways _ (ap (is_member j) (get_or_past rows x [] past)) (t.held j x e))
]

-- ---- from a matching to a partial transversal

module _ (n : ℕ) (family rows : List (List ℕ)) (r : AreIndices n family rows) where
  -- the indices of some elements
  record IndicesOf (X all : List ℕ) (matched : List (Option ℕ)) : Type 0 where
    pub indices : List ℕ
    pub listed : AllBelow (length matched) indices
    pub distinct : AreDistinct indices
    pub holds : lie_in_sets family X indices ≡ true
    pub own : (j : ℕ) → is_member j indices ≡ true → (x : ℕ) × (is_member x X ≡ true) × (entry_at matched j ≡ Some x)

  indices_of : (X all : List ℕ) (matched : List (Option ℕ)) → IsMatching rows all matched → AreDistinct X → AllBelow n X
      → ((x : ℕ) → is_member x X ≡ true → is_member x all ≡ true) → IndicesOf X all matched
  indices_of [] all matched t d below inside =
      record { indices = []; listed = tt; distinct = tt; holds = refl; own = λ j m. absurd (false≢true m) }
  indices_of (x ∷ X) all matched t d below inside =
      let c = t.covered x (inside x (is_member-head x X)) in
      let rest = indices_of X all matched t d.1 below.1 (λ y m. inside y (is_member-tail y x X m)) in
      record {
        indices = c.0 ∷ rest.indices;
        listed = (entry_inside matched c.0 x c.1, rest.listed);
        distinct = (
          false_from_ne_true _ (λ m. (let w = rest.own c.0 m in
              both_ways _ d.0 (ap (λ z. is_member z X) (some_is_one x w.0 (sym c.1 ∙ w.2)) ∙ w.1))),
          rest.distinct,
        );
        holds =
            and_from (is_member x (get_or family c.0 [])) (lie_in_sets family X rest.indices)
            (sym (r.members x c.0 below.0) ∙ t.held c.0 x c.1) rest.holds;
        own = λ j m. elim (or_cases (eqb j c.0) (is_member j rest.indices) m) [
          | inl same ↦ (x, is_member-head x X, ap (entry_at matched) (eqb-true j c.0 same) ∙ c.1)
          | inr later ↦ (let w = rest.own j later in (w.0, is_member-tail w.0 x X w.1, w.2))
        ];
      }

  pub matched_is_transversal : (X : List ℕ) (matched : List (Option ℕ)) → IsSet n X → length matched ≡ length family
      → IsMatching rows X matched
      → is_transversal n family X ≡ true
  matched_is_transversal X matched set size t =
      let i = indices_of X X matched t (AreDistinct-rising X set.rising) set.below (λ x m. m) in
      is_transversal-from n family X (record {
        set = set;
        indices = i.indices;
        listed = subst (λ k. AllBelow k i.indices) size i.listed;
        distinct = i.distinct;
        inside = i.holds;
      })

  -- ---- from a partial transversal to indices

  -- the index that stands where e does
  partner : List ℕ → List ℕ → ℕ → ℕ
  partner [] indices e = 0
  partner (x ∷ X) [] e = 0
  partner (x ∷ X) (j ∷ indices) e = cond (eqb e x) j (partner X indices e)

  partner-is : (X indices : List ℕ) (e : ℕ) → lie_in_sets family X indices ≡ true → is_member e X ≡ true
      → (is_member (partner X indices e) indices ≡ true) × (is_member e (get_or family (partner X indices e) []) ≡ true)
  unfolding partner
  partner-is [] indices e h m = absurd (false≢true m)
  partner-is (x ∷ X) [] e h m = absurd (false≢true h)
  partner-is (x ∷ X) (j ∷ indices) e h m =
      let p = and_parts (is_member x (get_or family j [])) (lie_in_sets family X indices) h in
      cond_both (eqb e x) j (partner X indices e) (λ k. (is_member k (j ∷ indices) ≡ true) × (is_member e (get_or family k []) ≡ true))
      (λ same. (is_member-head j indices, ap (λ z. is_member z (get_or family j [])) (eqb-true e x same) ∙ p.0))
      (λ other. (let q = partner-is X indices e p.1 (rw other at m) in (is_member-tail (partner X indices e) j indices q.0, q.1)))

  partner-differs : (X indices : List ℕ) (e f : ℕ) → lie_in_sets family X indices ≡ true → AreDistinct indices → is_member e X ≡ true
      → is_member f X ≡ true → partner X indices e ≡ partner X indices f → e ≡ f
  unfolding partner
  partner-differs [] indices e f h d m k = absurd (false≢true m)
  partner-differs (x ∷ X) [] e f h d m k = absurd (false≢true h)
  partner-differs (x ∷ X) (j ∷ indices) e f h d m k =
      let p = and_parts (is_member x (get_or family j [])) (lie_in_sets family X indices) h in
      cond_both (eqb e x) j (partner X indices e) (λ a. a ≡ cond (eqb f x) j (partner X indices f) → e ≡ f)
      (λ first. cond_both (eqb f x) j (partner X indices f) (λ b. j ≡ b → e ≡ f)
      (λ second same. eqb-true e x first ∙ sym (eqb-true f x second))
      (λ other same. absurd (both_ways _ d.0 (ap (λ i. is_member i indices) same ∙ (partner-is X indices f p.1 (rw other at k)).0))))
      (λ first. cond_both (eqb f x) j (partner X indices f) (λ b. partner X indices e ≡ b → e ≡ f)
      (λ second same. absurd (both_ways _ d.0 (ap (λ i. is_member i indices) (sym same) ∙ (partner-is X indices e p.1 (rw first at m)).0)))
      (λ second same. partner-differs X indices e f p.1 d.1 (rw first at m) (rw second at k) same))

  pub AreMatchable-transversal : (X : List ℕ) → IsPartialTransversal n family X → AreMatchable rows (length family) X
  AreMatchable-transversal X t = record {
    index = partner X t.indices;
    listed = λ x m. AllBelow-member (length family) t.indices (partner X t.indices x) t.listed (partner-is X t.indices x t.inside m).0;
    held = λ x m. r.members x (partner X t.indices x) (AllBelow-member n X x t.set.below m) ∙ (partner-is X t.indices x t.inside m).1;
    differ = λ x y m k same. partner-differs X t.indices x y t.inside t.distinct m k same;
  }

pub AreMatchable-part : (rows : List (List ℕ)) (sets : ℕ) (X Y : List ℕ) → ((x : ℕ) → is_member x X ≡ true → is_member x Y ≡ true)
    → AreMatchable rows sets Y → AreMatchable rows sets X
AreMatchable-part rows sets X Y inside m = record {
  index = m.index;
  listed = λ x k. m.listed x (inside x k);
  held = λ x k. m.held x (inside x k);
  differ = λ x y k l. m.differ x y (inside x k) (inside y l);
}

pub take_inside : (xs : List ℕ) (i x : ℕ) → is_member x (take i xs) ≡ true → is_member x xs ≡ true
take_inside [] zero x m = m
take_inside [] (suc i) x m = m
take_inside (y ∷ xs) zero x m = absurd (false≢true m)
take_inside (y ∷ xs) (suc i) x m = elim (or_cases (eqb x y) (is_member x (take i xs)) m) [
  | inl same ↦ ap (λ z. is_member z (y ∷ xs)) (eqb-true x y same) ∙ is_member-head y xs
  | inr later ↦ is_member-tail x y xs (take_inside xs i x later)
]

-- ---- the loop

module _ (rows : List (List ℕ)) (sets : ℕ) (elements : List ℕ) where
  -- the first i elements are matched
  pub record AreMatchedTo (i : ℕ) (matched : List (Option ℕ)) : Type 0 where
    pub long : length matched ≡ sets
    pub matching : IsMatching rows (take i elements) matched

  pub AreMatchedTo-start : (matched : List (Option ℕ)) → matched ≡ replicate sets None → AreMatchedTo 0 matched
  AreMatchedTo-start matched empty = rw empty (record { long = length-replicate sets None; matching = IsMatching-none rows sets })

  -- what is told of one element more
  abbrev pub IsTold : ℕ → List (Option ℕ) → List (Option ℕ) → Bool → Type 0
  IsTold i old new found = (X : List ℕ) → is_member (get_or elements i 0) X ≡ false → IsMatching rows X old
      → IsMatchedOrNone rows (with_one X (get_or elements i 0)) new found

  told_here : (i : ℕ) (old new : List (Option ℕ)) (found : Bool) → IsRising elements → i < length elements → AreMatchedTo i old
      → IsTold i old new found → IsMatchedOrNone rows (take (i + 1) elements) new found
  told_here i old new found rises l m told =
      subst (λ X. IsMatchedOrNone rows X new found) (sym (take-with_one elements i rises l))
      (told (take i elements) (is_member-take_next elements i rises l) m.matching)

  pub AreMatchedTo-more : (i : ℕ) (old new : List (Option ℕ)) (found : Bool) → IsRising elements → i < length elements → AreMatchedTo i old
      → IsTold i old new found → length new ≡ length old → found ≡ true → AreMatchedTo (i + 1) new
  AreMatchedTo-more i old new found rises l m told long was = record {
    long = long ∙ m.long;
    matching = subst (IsMatchedOrNone rows (take (i + 1) elements) new) was (told_here i old new found rises l m told);
  }

  matched_to_all : (i : ℕ) (matched : List (Option ℕ)) → length elements ≤ i → AreMatchedTo i matched
      → IsMatching rows elements matched
  matched_to_all i matched past m = subst (λ X. IsMatching rows X matched) (take_all i elements past) m.matching

  -- the answer, for each family that has these rows
  abbrev pub Answers : Bool → Type 0
  Answers b = (family : List (List ℕ)) → length family ≡ sets → AreIndices (length rows) family rows
      → b ≡ is_transversal (length rows) family elements

  pub not_matched : (i : ℕ) (old new : List (Option ℕ)) (found : Bool) → IsRising elements → i < length elements → AreMatchedTo i old
      → IsTold i old new found → length new ≡ length old → found ≡ false → Answers false
  not_matched i old new found rises l m told long was family size r =
      let none = subst (IsMatchedOrNone rows (take (i + 1) elements) new) was (told_here i old new found rises l m told) in
      sym (false_from_ne_true _ (λ h.
      (let whole = AreMatchable-transversal (length rows) family rows r elements (is_transversal-gives (length rows) family elements h) in
      none (subst (λ n. AreMatchable rows n (take (i + 1) elements)) (size ∙ sym m.long ∙ sym long)
      (AreMatchable-part rows (length family) (take (i + 1) elements) elements (take_inside elements (i + 1)) whole)))))

  pub all_matched : (i : ℕ) (matched : List (Option ℕ)) → IsRising elements → AllBelow (length rows) elements → length elements ≤ i
      → AreMatchedTo i matched → Answers true
  all_matched i matched rises below past m family size r =
      sym (matched_is_transversal (length rows) family rows r elements matched (record { rising = rises; below = below }) (m.long ∙ sym size)
      (matched_to_all i matched past m))
