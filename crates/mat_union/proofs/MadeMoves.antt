-- Moves made part by part: a part that one of them enters or leaves becomes the one after all of them, and another is the same after them.
use Rattle.mat_union.proofs.Common.{◌≡◌, ℕ, ◌+◌, ◌<◌, ◌≤◌, Bool, true, false, not, ◌||◌, ◌&&◌, eqb, List, [], length, get_or, set, inl, inr, refl, sym, ap, ◌∙◌, subst, arith, both_ways, cases_eq, eq-eqb, false_from_ne_true, or_left, or_right, get_or-set_other, get_or-set_same, length-map}
use Rattle.mat_union.proofs.Common.{length-set, is_member, minus, union, IsRising, same_members, is_member-minus, is_member-union, place_of_member, IsRising-minus, IsRising-union, some_below_none, AreKept, all_moved, element_at, elements, entering, is_entered_or_left, moved, place_at}
use Rattle.mat_union.proofs.Common.{element_of_list, entering_gives, part_at, Move}
use Rattle.std.proofs.Math.Seq.{ext_get_or}
use Rattle.mat_union.proofs.MovedSets.{all_moved_at, length-all_moved}
use Rattle.mat_union.proofs.SoundMatroids.{AreKeptAnew}

-- ---- a part that no move enters or leaves

module _ (parts : List (List ℕ)) (moves : List Move) (q : ℕ) (r : IsRising (part_at parts q)) (none : is_entered_or_left moves q (part_at parts q) ≡ false) where
  neither : (i : ℕ) → i < length moves → (eqb (place_at moves i) q || is_member (element_at moves i) (part_at parts q)) ≡ false
  neither i l = some_below_none (length moves) i (λ k. eqb (place_at moves k) q || is_member (element_at moves k) (part_at parts q)) none l

  not_entering : (z : ℕ) → is_member z (entering moves q) ≡ false
  not_entering z = false_from_ne_true _ (λ h.
      (let w = entering_gives moves q z h in
      both_ways _ (neither w.0 w.1) (or_left (eqb (place_at moves w.0) q) (is_member (element_at moves w.0) (part_at parts q)) (eq-eqb (place_at moves w.0) q w.2))))

  not_leaving : (z : ℕ) → is_member z (part_at parts q) ≡ true → is_member z (elements moves) ≡ false
  not_leaving z inside = false_from_ne_true _ (λ h.
      (let w = place_of_member z (elements moves) h in
      let l : w.0 < length moves = (let a = w.1 in let b : length (elements moves) ≡ length moves = length-map moves (λ v. v.element) in omega arith) in
      let is : element_at moves w.0 ≡ z = sym (element_of_list moves w.0 l) ∙ w.2 in
      both_ways _ (neither w.0 l) (or_right (eqb (place_at moves w.0) q) (is_member (element_at moves w.0) (part_at parts q)) (ap (λ v. is_member v (part_at parts q)) is ∙ inside))))

  pub other_part_stays : moved parts moves q ≡ part_at parts q
  other_part_stays = same_members _ _ (IsRising-union (entering moves q) (minus (part_at parts q) (elements moves)) (IsRising-minus (part_at parts q) (elements moves) r)) r (λ z.
      is_member-union z (entering moves q) (minus (part_at parts q) (elements moves))
      ∙ ap (λ b. is_member z (entering moves q) || b) (is_member-minus z (part_at parts q) (elements moves))
      ∙ unmoved (is_member z (entering moves q)) (is_member z (elements moves)) (is_member z (part_at parts q)) (not_entering z) (not_leaving z))
    where
      unmoved : (i e p : Bool) → i ≡ false → (p ≡ true → e ≡ false) → (i || (p && not e)) ≡ p
      unmoved i e true a b = rw (a, b refl) refl
      unmoved i e false a b = rw a refl

-- ---- the loop over the parts

module _ (parts : List (List ℕ)) (moves : List Move) where
  -- after the moves are made in the first i parts: these are the parts after all moves, and the others are as they were
  pub record AreMadeSo (i : ℕ) (now : List (List ℕ)) : Type 0 where
    pub long : length now ≡ length parts
    pub made : (j : ℕ) → j < i → j < length parts → part_at now j ≡ moved parts moves j
    pub left : (j : ℕ) → i ≤ j → part_at now j ≡ part_at parts j

  pub made_none : AreMadeSo 0 parts
  made_none = record { long = refl; made = λ j h l. absurd (omega arith); left = λ j h. refl }

  -- a part that stays
  pub made_same : (i : ℕ) (now : List (List ℕ)) → AreMadeSo i now → moved parts moves i ≡ part_at parts i → AreMadeSo (i + 1) now
  made_same i now all e = record {
    long = all.long;
    made = λ j h l. elim (cases_eq j i) [
      | inl q ↦ ap (part_at now) q ∙ all.left i (omega arith) ∙ sym e ∙ ap (moved parts moves) (sym q)
      | inr q ↦ (let less : j < i = omega arith in all.made j less l)
    ];
    left = λ j h. all.left j (omega arith);
  }

  -- a part that is put in its place
  pub made_set : (i : ℕ) (now : List (List ℕ)) (part : List ℕ) → AreMadeSo i now → i < length parts → part ≡ moved parts moves i → AreMadeSo (i + 1) (set now i part)
  made_set i now part all l e = record {
    long = length-set now i part ∙ all.long;
    made = λ j h b. elim (cases_eq j i) [
      | inl q ↦ ap (part_at (set now i part)) q ∙ get_or-set_same now i part [] (let n = all.long in omega arith) ∙ e ∙ ap (moved parts moves) (sym q)
      | inr q ↦ (let less : j < i = omega arith in get_or-set_other now i j part [] q ∙ all.made j less b)
    ];
    left = λ j h. get_or-set_other now i j part [] (λ w. let no : ⊥ = omega arith in no) ∙ all.left j (omega arith);
  }

  -- the part that is made for place i of what stands there
  pub made_part : (i : ℕ) (now : List (List ℕ)) (part next : List ℕ) → AreMadeSo i now → part ≡ part_at now i → next ≡ union (entering moves i) (minus part (elements moves))
      → next ≡ moved parts moves i
  made_part i now part next all e is = is ∙ ap (λ p. union (entering moves i) (minus p (elements moves))) (e ∙ all.left i (omega arith))

  -- what stands at place i is the same after the moves, where none enters or leaves it
  pub part_stays : (i : ℕ) (now : List (List ℕ)) (part : List ℕ) → AreMadeSo i now → part ≡ part_at now i → IsRising (part_at now i) → is_entered_or_left moves i part ≡ false
      → moved parts moves i ≡ part_at parts i
  part_stays i now part all e r none =
      let same : part_at now i ≡ part_at parts i = all.left i (omega arith) in
      other_part_stays parts moves i (subst IsRising same r) (ap (is_entered_or_left moves i) (sym (e ∙ same)) ∙ none)

  pub made_end : (i : ℕ) (now : List (List ℕ)) → length parts ≤ i → AreMadeSo i now → now ≡ all_moved parts moves
  made_end i now l all = ext_get_or [] now (all_moved parts moves) (all.long ∙ sym (length-all_moved parts moves)) (λ j h.
      (let b : j < length parts = (let n = all.long in omega arith) in
      all.made j (omega arith) b ∙ sym (all_moved_at parts moves j b)))

module _ {M K : Type 0} (keeps : M → List ℕ → K → Type 0) (matroids : List M) (parts new : List (List ℕ)) where
  pub anew_none : (kept : List K) → AreKept keeps matroids parts kept → AreKeptAnew keeps matroids parts new 0 kept
  anew_none kept all = record { long = all.one_each; anew = λ j m k l. absurd (omega arith); left = λ j m k l h. all.each j m k h }

  -- what is kept of part i so far
  pub anew_at : (i : ℕ) (kept : List K) (m : M) (part : List ℕ) (k : K) → AreKeptAnew keeps matroids parts new i kept → i < length matroids → m ≡ get_or matroids i m → part ≡ part_at parts i
      → k ≡ get_or kept i k → keeps m part k
  anew_at i kept m part k all l e p q = three m (get_or matroids i m) part (part_at parts i) k (get_or kept i k) e p q (all.left i m k (omega arith) l)
    where
      three : (m m' : M) (p p' : List ℕ) (k k' : K) → m ≡ m' → p ≡ p' → k ≡ k' → keeps m' p' k' → keeps m p k
      three m m' p p' k k' a b c h = rw (a, b, c) h

  pub anew_end : (i : ℕ) (kept : List K) → length matroids ≤ i → AreKeptAnew keeps matroids parts new i kept → AreKept keeps matroids new kept
  anew_end i kept l all = record { one_each = all.long; each = λ j m k h. all.anew j m k (omega arith) h }
