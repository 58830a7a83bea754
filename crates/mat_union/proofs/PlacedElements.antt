-- Moves along a path bring their first element into the parts, and no element moves that the search did not reach.
use Rattle.mat_union.proofs.Common.{Global, Vec, None, Some, Option, ◌≡◌, ℕ, ◌<◌, Bool, true, false, not, ◌||◌, ◌&&◌, eqb, List, [], length, refl, sym, ap, ◌∙◌, subst, arith, MatchOption, both_ways, false_from_ne_true, false≢true, length-map, family_union, is_member, minus, with_one}
use Rattle.mat_union.proofs.Common.{is_member-get_or, is_member-minus, is_member-union, IsEnded, all_moved, elements, entering, exchanges_with, AreMoved, AreFoundMoves, IsQuestion, IsReaching, element_of_list, entering_gives, ArePlaced, IsPlaceSearch, IsStuckSearch, part_at, AreMatroids, AreParts}
use Rattle.mat_union.proofs.Common.{MoveSearch, Move}
use Rattle.std.proofs.Math.Seq.{ext_get_or}
use Rattle.mat_union.specs.declared.ended.PlaceSearch.{PlaceSearch}
use Rattle.mat_union.specs.declared.ended.PlaceSearch.TheVariants.{Placed}
use Rattle.mat_union.proofs.MovedSets.{all_moved_at, length-all_moved}

pub entering_elements : (moves : List Move) (q z : ℕ) → is_member z (entering moves q) ≡ true → is_member z (elements moves) ≡ true
entering_elements moves q z h =
    let w = entering_gives moves q z h in
    let l : w.0 < length (elements moves) = (let a = w.1 in let b : length (elements moves) ≡ length moves = length-map moves (λ v. v.element) in omega arith) in
    is_member-get_or (elements moves) w.0 z l (element_of_list moves w.0 w.1 ∙ w.3)

-- the parts that were made are those that the law tells
pub moved_list : (tests : List (List ℕ → Bool)) (parts : List (List ℕ)) (moves : List Move) (new : List (List ℕ)) → AreParts tests parts → AreMoved tests parts moves new
    → all_moved parts moves ≡ new
moved_list tests parts moves new are m =
    let count = length-all_moved parts moves in
    let a = m.are.one_each in
    let b = are.one_each in
    ext_get_or [] (all_moved parts moves) new (omega arith) (λ i l. all_moved_at parts moves i (omega arith) ∙ sym (m.each i (omega arith)))

module _ {n : ℕ} {tests : List (List ℕ → Bool)} {parts : List (List ℕ)} {among : List ℕ} {start : ℕ} {s : MoveSearch} (are : AreParts tests parts)
    (reaching : IsReaching n (length parts) (exchanges_with tests parts) among start s) (moves : List Move) (found : AreFoundMoves tests parts s moves) where
  is_new : found.new ≡ all_moved parts moves
  is_new = sym (moved_list tests parts moves found.new are found.moved)

  -- what was not reached does not move
  stays : (z : ℕ) → (eqb z start || is_member z among) ≡ false → is_member z (elements moves) ≡ false
  stays z o = false_from_ne_true _ (λ h. both_ways _ o (reaching.so_far.reached z (found.reached z h)))

  stays_where : (q z : ℕ) → q < length found.new → (eqb z start || is_member z among) ≡ false → is_member z (part_at found.new q) ≡ is_member z (part_at parts q)
  stays_where q z l o =
      ap (is_member z) (found.moved.each q l) ∙ is_member-union z (entering moves q) (minus (part_at parts q) (elements moves))
      ∙ ap (λ b. is_member z (entering moves q) || b) (is_member-minus z (part_at parts q) (elements moves))
      ∙ unmoved (is_member z (entering moves q)) (is_member z (elements moves)) (is_member z (part_at parts q)) (false_from_ne_true _ (λ h. both_ways _ (stays z o) (entering_elements moves q z h))) (stays z o)
    where
      unmoved : (i e p : Bool) → i ≡ false → e ≡ false → (i || (p && not e)) ≡ p
      unmoved true e p a b = absurd (false≢true (sym a))
      unmoved false true p a b = absurd (false≢true (sym b))
      unmoved false false true a b = refl
      unmoved false false false a b = refl

  pub moves_place : ArePlaced tests parts among start (all_moved parts moves)
  moves_place = subst (ArePlaced tests parts among start) is_new (record {
    are = found.moved.are;
    together = found.moved.together ∙ ap (with_one (family_union parts)) (found.first ∙ reaching.from_start);
    others = stays_where;
  })

-- ---- what a search tells of the moves that it found

-- at the same parts by another name
pub moves_told : {n : ℕ} {tests : List (List ℕ → Bool)} {parts : List (List ℕ)} {among : List ℕ} {x : ℕ} {s : MoveSearch} → IsEnded n tests parts among x s → (p : List (List ℕ)) → p ≡ parts
    → (found : Option (Vec Move Global))
    → ((n : ℕ) (tests : List (List ℕ → Bool)) (among : List ℕ) (start : ℕ) → AreMatroids n tests → AreParts tests p
    → IsReaching n (length p) (exchanges_with tests p) among start s → is_member start (family_union p) ≡ false
    → MatchOption found (s.entered ≡ false) (λ (m : Vec Move Global). AreFoundMoves tests p s m.items))
    → MatchOption found (s.entered ≡ false) (λ (m : Vec Move Global). AreFoundMoves tests parts s m.items)
moves_told {n} {tests} {parts} {among} {x} {s} e p same found told =
    let at = subst (λ q. (n : ℕ) (tests : List (List ℕ → Bool)) (among : List ℕ) (start : ℕ) → AreMatroids n tests → AreParts tests q
    → IsReaching n (length q) (exchanges_with tests q) among start s → is_member start (family_union q) ≡ false
    → MatchOption found (s.entered ≡ false) (λ (m : Vec Move Global). AreFoundMoves tests q s m.items)) same told in
    at n tests among x e.laws e.are e.reaching e.fresh

module _ {n : ℕ} {tests : List (List ℕ → Bool)} {parts : List (List ℕ)} {among : List ℕ} {start : ℕ} {s : MoveSearch} (are : AreParts tests parts)
    (reaching : IsReaching n (length parts) (exchanges_with tests parts) among start s) (found : Option (Vec Move Global))
    (told : MatchOption found (s.entered ≡ false) (λ (m : Vec Move Global). AreFoundMoves tests parts s m.items)) where
  pub told_place : (moves : Vec Move Global) → found ≡ Some moves → ArePlaced tests parts among start (all_moved parts moves.items)
  told_place moves is = moves_place are reaching moves.items (subst (λ f. MatchOption f (s.entered ≡ false) (λ (m : Vec Move Global). AreFoundMoves tests parts s m.items)) is told)

  pub told_stuck : found ≡ None → IsQuestion s None → IsStuckSearch n tests parts among start s
  told_stuck is end = record {
    reaching = reaching;
    end = end (subst (λ f. MatchOption f (s.entered ≡ false) (λ (m : Vec Move Global). AreFoundMoves tests parts s m.items)) is told);
  }

-- ---- the moves that a search found

pub search_places : (n : ℕ) (tests : List (List ℕ → Bool)) (parts : List (List ℕ)) (among : List ℕ) (x : ℕ) {found : PlaceSearch} {moves : Vec Move Global} → found ≡ Placed moves
    → IsPlaceSearch n tests parts among x found → (items : List Move) → items ≡ moves.items → ArePlaced tests parts among x (all_moved parts items)
search_places n tests parts among x is told items same =
    subst (λ m. ArePlaced tests parts among x (all_moved parts m)) (sym same) (subst (IsPlaceSearch n tests parts among x) is told)
