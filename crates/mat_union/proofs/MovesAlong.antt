-- The loop that makes the moves along a walk.
use Rattle.mat_union.proofs.Common.{◌≡◌, ℕ, suc, ◌+◌, ◌<◌, true, List, [], ◌∷◌, ◌++◌, length, get_or, inl, inr, refl, sym, ap, ◌∙◌, arith, length-append, both_ways, cases_eq, disjoint-apart, get_or_append_left, AreDisjoint, is_member, element_at, no_move, place_at, AreMovesAt, part_at, Move}
use Rattle.std.proofs.Math.Numerals.{add-one}
use Rattle.std.proofs.Math.Seq.{get_or-append_seam}

-- the first k moves
pub record AreMovesSo (parts : List (List ℕ)) (walk : List ℕ) (k : ℕ) (moves : List Move) : Type 0 where
  pub long : length moves ≡ k
  pub elements : (i : ℕ) → i < k → element_at moves i ≡ get_or walk i 0
  pub places : (i q : ℕ) → i < k → AreDisjoint parts → q < length parts → is_member (get_or walk (suc i) 0) (part_at parts q) ≡ true → place_at moves i ≡ q

pub moves_none : (parts : List (List ℕ)) (walk : List ℕ) (moves : List Move) → moves ≡ [] → AreMovesSo parts walk 0 moves
moves_none parts walk moves e = rw e (record { long = refl; elements = λ i l. absurd (omega arith); places = λ i q l. absurd (omega arith) })

module _ {parts : List (List ℕ)} {walk : List ℕ} {k : ℕ} {moves : List Move} (a : AreMovesSo parts walk k moves) (v : Move) where
  before : (i : ℕ) → i < k → get_or (moves ++ v ∷ []) i no_move ≡ get_or moves i no_move
  before i l = get_or_append_left moves (v ∷ []) no_move i (let h = a.long in omega arith)

  at_end : get_or (moves ++ v ∷ []) k no_move ≡ v
  at_end = ap (λ i. get_or (moves ++ v ∷ []) i no_move) (sym a.long) ∙ get_or-append_seam moves v [] no_move

  pub moves_more : v.element ≡ get_or walk k 0
      → ((q : ℕ) → AreDisjoint parts → q < length parts → is_member (get_or walk (k + 1) 0) (part_at parts q) ≡ true → v.part ≡ q)
      → AreMovesSo parts walk (k + 1) (moves ++ v ∷ [])
  moves_more e p = record {
    long = (let h = a.long in let l = length-append moves (v ∷ []) in omega arith);
    elements = λ i l. elim (cases_eq i k) [
      | inl d ↦ ap (element_at (moves ++ v ∷ [])) d ∙ ap (λ u. u.element) at_end ∙ e ∙ ap (λ j. get_or walk j 0) (sym d)
      | inr d ↦ (let h : i < k = omega arith in ap (λ u. u.element) (before i h) ∙ a.elements i h)
    ];
    places = λ i q l s ql h. elim (cases_eq i k) [
      | inl d ↦ ap (place_at (moves ++ v ∷ [])) d ∙ ap (λ u. u.part) at_end ∙ p q s ql (ap (λ j. is_member (get_or walk j 0) (part_at parts q)) (add-one k ∙ ap suc (sym d)) ∙ h)
      | inr d ↦ (let g : i < k = omega arith in ap (λ u. u.part) (before i g) ∙ a.places i q g s ql h)
    ];
  }

  pub moves_end : (last : ℕ) → suc k ≡ length walk → v.element ≡ get_or walk k 0 → v.part ≡ last → AreMovesAt parts walk last (moves ++ v ∷ [])
  moves_end last w e p = record {
    long = (let h = a.long in let l = length-append moves (v ∷ []) in omega arith);
    elements = λ i l. elim (cases_eq i k) [
      | inl d ↦ ap (element_at (moves ++ v ∷ [])) d ∙ ap (λ u. u.element) at_end ∙ e ∙ ap (λ j. get_or walk j 0) (sym d)
      | inr d ↦ (let h : i < k = omega arith in ap (λ u. u.element) (before i h) ∙ a.elements i h)
    ];
    places = λ i q l s ql h. (let g : i < k = omega arith in ap (λ u. u.part) (before i g) ∙ a.places i q g s ql h);
    last_place = λ i h. (let d : i ≡ k = omega arith in ap (place_at (moves ++ v ∷ [])) d ∙ ap (λ u. u.part) at_end ∙ p);
  }

-- one part holds an element
pub one_holder : (parts : List (List ℕ)) (i q v : ℕ) → AreDisjoint parts → is_member v (part_at parts i) ≡ true → is_member v (part_at parts q) ≡ true → i ≡ q
one_holder parts i q v apart h k = elim (cases_eq i q) [
  | inl e ↦ e
  | inr d ↦ absurd (both_ways _ (disjoint-apart parts i q v apart d h) k)
]
