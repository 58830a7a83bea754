-- The columns at an independent set of a truncation, a restriction or a contraction, by those of the inner matroid: an element that the minor
-- leaves out takes no place, and every other one the places that it takes there.
use Rattle.mat_minors.proofs.Common.{◌≡◌, ℕ, Bool, true, false, not, ◌&&◌, ◌||◌, ltb, List, [], get_or, inl, inr, sym, ap, ◌∙◌, arith, cases_Bool, ltb-true, is_member, IsSet, union, without_one, is_member-union, IsMatroid, IsMaximal, exchanged, is_truncated, is_restricted, is_contracted}
use Rattle.mat_sets.specs.Rows.{AreEmptied, AreRemoved}
use Rattle.mat_laws.specs.Columns.{takes_place, AreColumns}
use Rattle.mat_minors.proofs.MinorRows.{truncated_exchanged, restricted_exchanged, restricted_fails}
use Rattle.mat_minors.proofs.MinorRows.{apart_from_chosen, contracted_exchanged, contracted_fails, outside_chosen}

-- the same places are taken where the exchanges of what lies outside are the same
takes_same : (n : ℕ) (p q : List ℕ → Bool) (I : List ℕ) (y z : ℕ) → (is_member z I ≡ false → exchanged p I z y ≡ exchanged q I z y)
    → takes_place n p I y z ≡ takes_place n q I y z
takes_same n p q I y z same = elim (cases_Bool (is_member z I)) [
  | inl m ↦ ap (λ b. ltb z n && (not b && exchanged p I z y)) m ∙ sym (ap (λ b. ltb z n && (not b && exchanged q I z y)) m)
  | inr o ↦ ap (λ b. ltb z n && (not (is_member z I) && b)) (same o)
]

-- ---- the truncation

pub truncated_columns : {n : ℕ} {p : List ℕ → Bool} → IsMatroid n p → (cap : ℕ) (I : List ℕ) (columns : List (List ℕ))
    → is_truncated cap p I ≡ true → AreColumns n p I columns → AreColumns n (is_truncated cap p) I columns
truncated_columns {n} {p} laws cap I columns passes c = record {
  long = c.long;
  columns_are = λ y z m. c.columns_are y z m ∙ takes_same n p (is_truncated cap p) I y z (λ o. truncated_exchanged laws cap I z y passes o m);
  others_are = c.others_are;
}

-- ---- the restriction

pub restricted_columns : {n : ℕ} {p : List ℕ → Bool} → IsMatroid n p → (kept I gone : List ℕ) (inner columns : List (List ℕ))
    → is_restricted kept p I ≡ true → AreColumns n p I inner → ((x : ℕ) → is_member x gone ≡ (ltb x n && not (is_member x kept)))
    → AreRemoved gone inner columns → AreColumns n (is_restricted kept p) I columns
restricted_columns {n} {p} laws kept I gone inner columns passes c outside removed = record {
  long = removed.count ∙ c.long;
  columns_are = λ y z m. removed.members y z ∙ ap (λ b. b && not (is_member z gone)) (c.columns_are y z m)
      ∙ ap (λ g. takes_place n p I y z && not g) (outside z) ∙ last y z;
  others_are = λ y z m. removed.members y z ∙ ap (λ b. b && not (is_member z gone)) (c.others_are y z m);
}
  where
    stays : (taken below here new : Bool) → here ≡ true → taken ≡ new → (taken && not (below && not here)) ≡ new
    stays taken below here new h same = grind arith

    leaves : (below free works here new : Bool) → here ≡ false → new ≡ false
        → ((below && (free && works)) && not (below && not here)) ≡ (below && (free && new))
    leaves below free works here new h none = grind arith

    last : (y z : ℕ) → (takes_place n p I y z && not (ltb z n && not (is_member z kept))) ≡ takes_place n (is_restricted kept p) I y z
    last y z = elim (cases_Bool (is_member z kept)) [
      | inl here ↦ stays (takes_place n p I y z) (ltb z n) (is_member z kept) (takes_place n (is_restricted kept p) I y z) here
          (takes_same n p (is_restricted kept p) I y z (λ o. restricted_exchanged laws kept I z y passes here))
      | inr away ↦ leaves (ltb z n) (not (is_member z I)) (exchanged p I z y) (is_member z kept) (exchanged (is_restricted kept p) I z y) away
          (restricted_fails p kept (without_one I y) z away)
    ]

-- ---- the contraction

pub contracted_columns : {n : ℕ} {p : List ℕ → Bool} → IsMatroid n p → (away B : List ℕ) → IsSet n away → IsMaximal p away B
    → (X J : List ℕ) (inner left columns : List (List ℕ)) → J ≡ union X B → is_contracted n away p X ≡ true → AreColumns n p J inner
    → AreRemoved away inner left → AreEmptied B left columns → AreColumns n (is_contracted n away p) X columns
contracted_columns {n} {p} laws away B set max X J inner left columns together passes c removed emptied = record {
  long = emptied.count ∙ removed.count ∙ c.long;
  columns_are = λ y z m. seen y z ∙ ap (λ b. (is_member z (get_or inner y []) && not (is_member z away)) && not b) (apart_from_chosen laws away B set max X y passes m)
      ∙ ap (λ b. (b && not (is_member z away)) && true) (c.columns_are y z (in_J y ∙ ap (λ b. b || is_member y B) m))
      ∙ last y z m;
  others_are = λ y z m. seen y z ∙ other (is_member z (get_or inner y [])) (is_member z away) (is_member y B)
      (λ o. c.others_are y z (in_J y ∙ ap (λ b. b || is_member y B) m ∙ o));
}
  where
    in_J : (y : ℕ) → is_member y J ≡ (is_member y X || is_member y B)
    in_J y = ap (is_member y) together ∙ is_member-union y X B

    seen : (y z : ℕ) → is_member z (get_or columns y [])
        ≡ ((is_member z (get_or inner y []) && not (is_member z away)) && not (is_member y B))
    seen y z = emptied.members y z ∙ ap (λ b. b && not (is_member y B)) (removed.members y z)

    other : (old gone chosen : Bool) → (chosen ≡ false → old ≡ false) → ((old && not gone) && not chosen) ≡ false
    other old gone chosen none = grind arith

    -- (z lies outside X where it lies outside J, unless it is contracted)
    stays : (below in_X in_J works gone new : Bool) → gone ≡ false → in_J ≡ in_X → (below ≡ true → works ≡ new)
        → (((below && (not in_J && works)) && not gone) && true) ≡ (below && (not in_X && new))
    stays below in_X in_J works gone new out same h = grind arith

    leaves : (below in_X in_J works gone new : Bool) → gone ≡ true → new ≡ false
        → (((below && (not in_J && works)) && not gone) && true) ≡ (below && (not in_X && new))
    leaves below in_X in_J works gone new here none = grind arith

    last : (y z : ℕ) → is_member y X ≡ true
        → ((takes_place n p J y z && not (is_member z away)) && true) ≡ takes_place n (is_contracted n away p) X y z
    last y z m = elim (cases_Bool (is_member z away)) [
      | inl here ↦ leaves (ltb z n) (is_member z X) (is_member z J) (exchanged p J z y) (is_member z away) (exchanged (is_contracted n away p) X z y) here
          (contracted_fails n p away (without_one X y) z set.rising here)
      | inr out ↦ stays (ltb z n) (is_member z X) (is_member z J) (exchanged p J z y) (is_member z away) (exchanged (is_contracted n away p) X z y) out
          (in_J z ∙ ap (λ b. is_member z X || b) (outside_chosen laws away B set max z out) ∙ alone (is_member z X))
          (λ below. ap (λ K. exchanged p K z y) together ∙ contracted_exchanged laws away B set max X z y passes (ltb-true z n below) out m)
    ]
      where
        alone : (b : Bool) → (b || false) ≡ b
        alone b = grind arith
