-- An element that can be added to a part comes into the parts by one move, and no other element moves.
use Rattle.mat_union.proofs.Common.{◌≡◌, ℕ, suc, zero, ◌<◌, Bool, true, false, not, ◌||◌, ◌&&◌, eqb, List, [], ◌∷◌, length, refl, sym, ap, ◌∙◌, subst, arith, both_ways, false_from_ne_true, family_union, is_member, minus, is_member-minus, is_member-union, all_moved, elements, entering}
use Rattle.mat_union.proofs.Common.{exchanges_with, moved, place_at, AreMoved, ArePlaced, chordless_moves, part_at, AreMatroids, AreParts, Move}
use Rattle.mat_union.proofs.PlacedElements.{entering_elements, moved_list}

module _ {n : ℕ} {tests : List (List ℕ → Bool)} {parts : List (List ℕ)} (laws : AreMatroids n tests) (are : AreParts tests parts) (x q : ℕ)
    (fresh : is_member x (family_union parts) ≡ false) (l : q < length parts) (adds : (exchanges_with tests parts q).adds x ≡ true) where
  abbrev move : List Move
  move = record { element = x; part = q } ∷ []

  place : (i : ℕ) → i < suc 0 → place_at move i < length parts
  place zero h = l
  place (suc i) h = absurd (omega arith)

  pub one_move : (new : List (List ℕ)) × AreMoved tests parts move new
  one_move = chordless_moves laws are move 0 refl fresh place (λ i h. absurd (omega arith)) (λ i j h k. absurd (omega arith)) (λ i j h k. absurd (omega arith)) (λ i h. absurd (omega arith)) adds

  -- another element stays where it is
  stays : (p z : ℕ) → eqb z x ≡ false → is_member z (moved parts move p) ≡ is_member z (part_at parts p)
  stays p z o =
      is_member-union z (entering move p) (minus (part_at parts p) (elements move)) ∙ ap (λ b. is_member z (entering move p) || b) (is_member-minus z (part_at parts p) (elements move))
      ∙ unmoved (is_member z (entering move p)) (is_member z (elements move)) (is_member z (part_at parts p))
      (false_from_ne_true _ (λ h. both_ways _ out (entering_elements move p z h))) out
    where
      out : is_member z (elements move) ≡ false
      out = rw o refl

      unmoved : (i e b : Bool) → i ≡ false → e ≡ false → (i || (b && not e)) ≡ b
      unmoved i e true f g = rw (f, g) refl
      unmoved i e false f g = rw f refl

  pub move_places : (among : List ℕ) → ArePlaced tests parts among x (all_moved parts move)
  move_places among =
      let is : one_move.0 ≡ all_moved parts move = sym (moved_list tests parts move one_move.0 are one_move.1) in
      subst (ArePlaced tests parts among x) is (record {
        are = one_move.1.are;
        together = one_move.1.together;
        others = λ p z h o. ap (is_member z) (one_move.1.each p h) ∙ stays p z (neither (eqb z x) (is_member z among) o);
      })
    where
      neither : (a b : Bool) → (a || b) ≡ false → a ≡ false
      neither a b e = grind arith
