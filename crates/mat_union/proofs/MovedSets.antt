-- Steps of the loops that make the parts after moves.
use Rattle.mat_union.proofs.Common.{◌≡◌, ℕ, ◌+◌, ◌<◌, Bool, true, false, not, ◌||◌, ◌&&◌, cond, eqb, List, [], ◌∷◌, ◌++◌, length, get_or, map, take, refl, sym, ap, ◌∙◌, inl, inr, arith, cases_Bool, get_or-map, length-map, map_more, map-append, filter_more, all_below, is_member, minus, union}
use Rattle.mat_union.proofs.Common.{with_one, without_one, IsRising, same_members, is_member-minus, is_member-union, is_member-with_one, is_member-without_one, IsRising-minus, IsRising-union, IsRising-with_one, IsRising-without_one, is_member-push, get_or-all_below, length-all_below, and_neither}
use Rattle.mat_union.proofs.Common.{all_moved, elements, entering, moved, no_move, part_at, Move}
use Rattle.std.specs.List.{filter}

pub elements-more : (moves : List Move) (i : ℕ) → i < length moves → elements (take (i + 1) moves) ≡ elements (take i moves) ++ (get_or moves i no_move).element ∷ []
elements-more moves i l = map_more (λ v. v.element) moves i no_move l

pub without-more : (part set : List ℕ) (moves : List Move) (i : ℕ) → IsRising part → i < length moves → set ≡ minus part (elements (take i moves))
    → without_one set (get_or moves i no_move).element ≡ minus part (elements (take (i + 1) moves))
without-more part set moves i r l e =
    ap (λ s. without_one s x) e
    ∙ same_members _ _ (IsRising-without_one _ x (IsRising-minus part _ r)) (IsRising-minus part _ r) (λ k.
    is_member-without_one k x (minus part (elements (take i moves))) ∙ ap (λ b. b && not (eqb k x)) (is_member-minus k part (elements (take i moves)))
    ∙ and_neither (is_member k part) (is_member k (elements (take i moves))) (eqb k x)
    ∙ ap (λ b. is_member k part && not b) (sym (is_member-push k x (elements (take i moves))) ∙ ap (is_member k) (sym (elements-more moves i l)))
    ∙ sym (is_member-minus k part (elements (take (i + 1) moves))))
  where
    x : ℕ
    x = (get_or moves i no_move).element

entering-more : (moves : List Move) (q i : ℕ) → i < length moves
    → entering (take (i + 1) moves) q ≡ entering (take i moves) q ++ map (λ v. v.element) (cond (eqb (get_or moves i no_move).part q) (get_or moves i no_move ∷ []) [])
entering-more moves q i l = ap (map (λ v. v.element)) (filter_more (λ v. eqb v.part q) moves i no_move l)
    ∙ map-append (λ v. v.element) (filter (λ v. eqb v.part q) (take i moves)) (cond (eqb (get_or moves i no_move).part q) (get_or moves i no_move ∷ []) [])

pub entering-found : (start set : List ℕ) (moves : List Move) (q i : ℕ) → IsRising start → i < length moves → eqb (get_or moves i no_move).part q ≡ true
    → set ≡ union (entering (take i moves) q) start → with_one set (get_or moves i no_move).element ≡ union (entering (take (i + 1) moves) q) start
entering-found start set moves q i r l here e =
    ap (λ s. with_one s x) e
    ∙ same_members _ _ (IsRising-with_one _ x (IsRising-union _ start r)) (IsRising-union _ start r) (λ k.
    is_member-with_one k x (union (entering (take i moves) q) start) ∙ ap (λ b. eqb k x || b) (is_member-union k (entering (take i moves) q) start)
    ∙ turn (eqb k x) (is_member k (entering (take i moves) q)) (is_member k start)
    ∙ ap (λ b. b || is_member k start) (sym (is_member-push k x (entering (take i moves) q)) ∙ ap (is_member k) (sym pushed))
    ∙ sym (is_member-union k (entering (take (i + 1) moves) q) start))
  where
    x : ℕ
    x = (get_or moves i no_move).element

    pushed : entering (take (i + 1) moves) q ≡ entering (take i moves) q ++ x ∷ []
    pushed = entering-more moves q i l ∙ rw here refl

    turn : (a b c : Bool) → (a || (b || c)) ≡ ((b || a) || c)
    turn true true c = refl
    turn true false c = refl
    turn false true c = refl
    turn false false c = refl

pub entering-passed : (moves : List Move) (q i : ℕ) → i < length moves → eqb (get_or moves i no_move).part q ≡ false
    → entering (take (i + 1) moves) q ≡ entering (take i moves) q
entering-passed moves q i l other = entering-more moves q i l ∙ rw other (nothing (entering (take i moves) q))
  where
    nothing : (xs : List ℕ) → xs ++ [] ≡ xs
    nothing [] = refl
    nothing (x ∷ xs) = ap (λ t. x ∷ t) (nothing xs)

pub entering-step : (start set set' : List ℕ) (moves : List Move) (q i : ℕ) → IsRising start → i < length moves
    → set ≡ union (entering (take i moves) q) start → set' ≡ cond (eqb (get_or moves i no_move).part q) (with_one set (get_or moves i no_move).element) set
    → set' ≡ union (entering (take (i + 1) moves) q) start
entering-step start set set' moves q i r l e is = elim (cases_Bool (eqb (get_or moves i no_move).part q)) [
  | inl a ↦ is ∙ rw a (entering-found start set moves q i r l a e)
  | inr a ↦ is ∙ rw a (e ∙ ap (λ xs. union xs start) (sym (entering-passed moves q i l a)))
]

pub union-nil : (a : List ℕ) → a ≡ union [] a
unfolding union
union-nil a = refl

pub without-none : (part : List ℕ) → IsRising part → part ≡ minus part []
without-none part r = same_members part (minus part []) r (IsRising-minus part [] r) (λ k. sym (is_member-minus k part [] ∙ keeps (is_member k part)))
  where
    keeps : (a : Bool) → (a && not false) ≡ a
    keeps true = refl
    keeps false = refl

-- ---- all parts after the moves

module _ (parts : List (List ℕ)) (moves : List Move) where
  pub length-all_moved : length (all_moved parts moves) ≡ length parts
  length-all_moved = length-map (all_below (length parts)) (moved parts moves) ∙ length-all_below (length parts)

  -- each part stands at its place
  pub all_moved_at : (i : ℕ) → i < length parts → part_at (all_moved parts moves) i ≡ moved parts moves i
  all_moved_at i l =
      get_or-map (moved parts moves) (all_below (length parts)) i 0 [] (let e = length-all_below (length parts) in omega arith)
      ∙ ap (moved parts moves) (get_or-all_below (length parts) i 0 l)
