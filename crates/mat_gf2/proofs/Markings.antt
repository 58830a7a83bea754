-- The members that a tag marks are collected in rising order, place by place.
use Rattle.mat_gf2.proofs.Common.{◌≡◌, ℕ, ◌+◌, ◌/◌, ◌^◌, ◌<◌, ◌≤◌, ◌||◌, cond, eqb, List, ◌∷◌, length, get_or, drop, sym, ap, ◌∙◌, eq-eqb, ne_eqb, drop_all, drop_more, shr_and_one, is_member, IsRising, with_one, is_member-with_one, same_members, IsRising-with_one, marked_from, marked}
use Rattle.std.proofs.Math.Numerals.{add-one}
use Rattle.std.specs.Int.{bit_at}
use Rattle.std.specs.Int.Bits.{bit_and}
use Rattle.mat_sets.proofs.Truths.{or_assoc, or_commute, or_none}
use Rattle.mat_gf2.proofs.Tags.{IsRising-marked}

-- the members found and those marked from a place on are together all that the tag marks
pub record IsMarking (tag : ℕ) (X : List ℕ) (place : ℕ) (members : List ℕ) : Type 0 where
  pub rising : IsRising members
  pub all : (k : ℕ) → (is_member k members || is_member k (marked_from place tag (drop place X))) ≡ is_member k (marked tag X)

marked_from-next : (tag : ℕ) (X : List ℕ) (place : ℕ) → place < length X
    → marked_from place tag (drop place X)
    ≡ cond (eqb (bit_at tag place) 1) (get_or X place 0 ∷ marked_from (place + 1) tag (drop (place + 1) X))
    (marked_from (place + 1) tag (drop (place + 1) X))
unfolding marked_from
marked_from-next tag X place l =
    ap (marked_from place tag) (drop_more X place 0 l)
    ∙ ap (λ i. cond (eqb (bit_at tag place) 1) (get_or X place 0 ∷ marked_from i tag (drop (place + 1) X))
    (marked_from i tag (drop (place + 1) X)))
    (sym (add-one place))

-- a marked member is added
pub IsMarking-found : (tag : ℕ) (X : List ℕ) (place y : ℕ) (members : List ℕ) → place < length X → y ≡ get_or X place 0
    → bit_and (tag / 2 ^ place) 1 ≡ 1
    → IsMarking tag X place members → IsMarking tag X (place + 1) (with_one members y)
IsMarking-found tag X place y members l at set h = record {
  rising = IsRising-with_one members y h.rising;
  all = λ k. ap (λ b. b || is_member k rest) (is_member-with_one k y members ∙ or_commute (eqb k y) (is_member k members))
      ∙ sym (or_assoc (is_member k members) (eqb k y) (is_member k rest))
      ∙ ap (λ s. is_member k members || is_member k s) (sym next) ∙ h.all k;
}
  where
    rest : List ℕ
    rest = marked_from (place + 1) tag (drop (place + 1) X)

    next : marked_from place tag (drop place X) ≡ y ∷ rest
    next = marked_from-next tag X place l ∙ ap (λ b. cond b (get_or X place 0 ∷ rest) rest) (eq-eqb _ 1 (sym (shr_and_one tag place) ∙ set))
        ∙ ap (λ z. z ∷ rest) (sym at)

-- another is passed over
pub IsMarking-passed : (tag : ℕ) (X : List ℕ) (place : ℕ) (members : List ℕ) → place < length X
    → (bit_and (tag / 2 ^ place) 1 ≡ 1 → ⊥)
    → IsMarking tag X place members → IsMarking tag X (place + 1) members
IsMarking-passed tag X place members l clear h = record {
  rising = h.rising;
  all = λ k. ap (λ s. is_member k members || is_member k s) (sym next) ∙ h.all k;
}
  where
    rest : List ℕ
    rest = marked_from (place + 1) tag (drop (place + 1) X)

    next : marked_from place tag (drop place X) ≡ rest
    next = marked_from-next tag X place l
        ∙ ap (λ b. cond b (get_or X place 0 ∷ rest) rest) (ne_eqb _ 1 (λ q. clear (shr_and_one tag place ∙ q)))

pub IsMarking-end : (tag : ℕ) (X : List ℕ) (place : ℕ) (members : List ℕ) → IsRising X → length X ≤ place
    → IsMarking tag X place members → members ≡ marked tag X
unfolding marked_from
IsMarking-end tag X place members rising l h =
    same_members members (marked tag X) h.rising (IsRising-marked tag X rising)
    (λ k. sym (or_none (is_member k members)) ∙ ap (λ s. is_member k members || is_member k (marked_from place tag s)) (sym (drop_all place X l))
    ∙ h.all k)
