-- What is kept of the full sets is collected set by set, and the smallest of some of them is looked for place by place.
use Rattle.mat_count.proofs.Common.{◌≡◌, ℕ, ◌+◌, ◌<◌, true, false, ◌||◌, eqb, List, length, get_or, take, Option, Some, None, inl, inr, refl, sym, ap, ◌∙◌, arith, ⊤, MatchOption, both_ways, or_cases, eqb-true, eq-eqb, ltb-true, ltb-false, le-ltb, or_right}
use Rattle.mat_count.proofs.Common.{is_member, is_member-take_more, IsSmallest, kept_at, has_fewer, where_full}

-- ---- set by set

-- what is kept of the first i sets
pub record AreKept (caps numbers : List ℕ) (i : ℕ) (sizes : List (Option ℕ)) : Type 0 where
  pub long : length sizes ≡ i
  pub at : (k : ℕ) → k < i → get_or sizes k None ≡ where_full (get_or caps k 0) (get_or numbers k 0)

-- ---- place by place

-- what was found is the smallest at the first i places
pub record IsLooking (sizes : List (Option ℕ)) (places : List ℕ) (i : ℕ) (found : Option ℕ) : Type 0 where
  pub smallest : IsSmallest sizes (take i places) found
  pub known : MatchOption found ⊤ (λ place. place < length sizes)

abbrev place_in : Option ℕ → ℕ
place_in None = 0
place_in (Some i) = i

-- what has more members than one that was the smallest has more than one that is smaller still
fewer_still : (new old other : Option ℕ) → has_fewer new old ≡ true → has_fewer other old ≡ false → has_fewer other new ≡ false
fewer_still new old None h never = refl
fewer_still None old (Some m) h never = absurd (both_ways false refl h)
fewer_still (Some a) None (Some m) h never = absurd (both_ways true never refl)
fewer_still (Some a) (Some b) (Some m) h never =
    let less = ltb-true a b h in
    let most = ltb-false m b never in
    le-ltb m a (omega arith)

pub not_itself : (size : Option ℕ) → has_fewer size size ≡ false
not_itself None = refl
not_itself (Some m) = le-ltb m m (omega arith)

module _ {sizes : List (Option ℕ)} {places : List ℕ} {i : ℕ} {found : Option ℕ} (w : IsLooking sizes places i found)
    (place : ℕ) (inside : i < length places) (at : place ≡ get_or places i 0) where
  -- of the places up to the next one each is an earlier one, or the next
  either : {A : Type 0} (j : ℕ) → is_member j (take (i + 1) places) ≡ true → (is_member j (take i places) ≡ true → A) → (j ≡ place → A) → A
  either j h early last = elim (or_cases (is_member j (take i places)) (eqb j (get_or places i 0)) (sym (is_member-take_more places i j inside) ∙ h)) [
    | inl before ↦ early before
    | inr here ↦ last (eqb-true j (get_or places i 0) here ∙ sym at)
  ]

  pub IsLooking-found : place < length sizes → has_fewer (get_or sizes place None) (kept_at sizes found) ≡ true
      → IsLooking sizes places (i + 1) (Some place)
  IsLooking-found known fewer = record {
    smallest = record {
      listed = λ j same.
          ap (λ k. is_member k (take (i + 1) places)) (sym (ap place_in same)) ∙ is_member-take_more places i place inside
          ∙ or_right (is_member place (take i places)) (eqb place (get_or places i 0)) (ap (eqb place) (sym at) ∙ eq-eqb place place refl);
      least = λ j h. either j h
          (λ before. fewer_still (get_or sizes place None) (kept_at sizes found) (get_or sizes j None) fewer (w.smallest.least j before))
          (λ last. ap (λ k. has_fewer (get_or sizes k None) (get_or sizes place None)) last ∙ not_itself (get_or sizes place None));
    };
    known = known;
  }

  pub IsLooking-passed : has_fewer (get_or sizes place None) (kept_at sizes found) ≡ false → IsLooking sizes places (i + 1) found
  IsLooking-passed never = record {
    smallest = record {
      listed = λ j same. is_member-take_more places i j inside ∙ ap (λ b. b || eqb j (get_or places i 0)) (w.smallest.listed j same);
      least = λ j h. either j h (w.smallest.least j) (λ last. ap (λ k. has_fewer (get_or sizes k None) (kept_at sizes found)) last ∙ never);
    };
    known = w.known;
  }
