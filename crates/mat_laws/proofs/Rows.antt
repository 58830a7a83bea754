-- The members y of an independent set I for which x can be exchanged are collected one after the other, by questions about I + x - y, which
-- is I - y + x.
use Rattle.mat_laws.proofs.Common.{◌≡◌, ℕ, ◌+◌, ◌<◌, ◌≤◌, Bool, true, false, not, ◌&&◌, ◌||◌, cond, inl, inr, eqb, List, [], ◌∷◌, length, get_or, drop, refl, sym, ap, ◌∙◌, and_right, both_ways, cases_Bool, cond-false, cond-true, ne_eqb, drop_all, drop_more, is_member, IsRising, with_one}
use Rattle.mat_laws.proofs.Common.{without_one, Exchange, row_of, exchanges_at, is_member-filter, is_member-get_or, is_member-with_one, same_members, IsRising-nil, IsRising-with_one, RisesFrom-filter, without_one-with_one, or_none}
use Rattle.std.specs.List.{filter}

-- whether x can be exchanged for y
abbrev pub exchanged : (List ℕ → Bool) → List ℕ → ℕ → ℕ → Bool
exchanged independent I x y = independent (with_one (without_one I y) x)

abbrev row_with : Bool → List ℕ → Exchange
row_with addable with' = record { addable = addable; with = with' }

-- those found and those from place i on are together all members of I for which x can be exchanged
pub record IsCollecting (independent : List ℕ → Bool) (I : List ℕ) (x i : ℕ) (found : List ℕ) : Type 0 where
  pub rising : IsRising found
  pub members : (k : ℕ) → (is_member k found || is_member k (filter (exchanged independent I x) (drop i I)))
      ≡ is_member k (filter (exchanged independent I x) I)

pub IsCollecting-start : (independent : List ℕ → Bool) (I : List ℕ) (x : ℕ) (found : List ℕ) → found ≡ []
    → IsCollecting independent I x 0 found
IsCollecting-start independent I x found none = rw none (record { rising = IsRising-nil; members = λ k. refl })

module _ {independent : List ℕ → Bool} {I found : List ℕ} {x i : ℕ} (c : IsCollecting independent I x i found) where
  abbrev remaining : List ℕ
  remaining = filter (exchanged independent I x) (drop (i + 1) I)

  -- what is left from place i on, by the answer at the member that stands there
  filter_more : (answer : Bool) → IsRising I → is_member x I ≡ false → i < length I
      → answer ≡ independent (without_one (with_one I x) (get_or I i 0))
      → filter (exchanged independent I x) (drop i I) ≡ cond answer (get_or I i 0 ∷ remaining) remaining
  filter_more answer rises outside l told =
      ap (filter (exchanged independent I x)) (drop_more I i 0 l)
      ∙ ap (λ b. cond b (y ∷ remaining) remaining) (sym (told ∙ ap independent (without_one-with_one I x y rises (ne_eqb x y differ))))
    where
      y : ℕ
      y = get_or I i 0

      differ : x ≡ y → ⊥
      differ e = both_ways (is_member x I) outside (is_member-get_or I i x l (sym e))

  pub IsCollecting-found : (found' : List ℕ) → IsRising I → is_member x I ≡ false → i < length I
      → true ≡ independent (without_one (with_one I x) (get_or I i 0)) → found' ≡ with_one found (get_or I i 0)
      → IsCollecting independent I x (i + 1) found'
  IsCollecting-found found' rises outside l told more = record { rising = rw more (IsRising-with_one found y c.rising); members = members }
    where
      y : ℕ
      y = get_or I i 0

      swap : (a b d : Bool) → ((a || b) || d) ≡ (b || (a || d))
      swap true true d = refl
      swap _ b d = refl

      members : (k : ℕ) → (is_member k found' || is_member k remaining) ≡ is_member k (filter (exchanged independent I x) I)
      members k =
          ap (λ b. b || is_member k remaining) (ap (is_member k) more ∙ is_member-with_one k y found)
          ∙ swap (eqb k y) (is_member k found) (is_member k remaining)
          ∙ ap (λ s. is_member k found || is_member k s) (sym (filter_more true rises outside l told)) ∙ c.members k

  pub IsCollecting-passed : IsRising I → is_member x I ≡ false → i < length I
      → false ≡ independent (without_one (with_one I x) (get_or I i 0)) → IsCollecting independent I x (i + 1) found
  IsCollecting-passed rises outside l told = record {
    rising = c.rising;
    members = λ k. ap (λ s. is_member k found || is_member k s) (sym (filter_more false rises outside l told)) ∙ c.members k;
  }

  pub IsCollecting-end : IsRising I → length I ≤ i → found ≡ filter (exchanged independent I x) I
  IsCollecting-end rises l = same_members _ _ c.rising (record { rises = RisesFrom-filter _ 0 I rises.rises }) (λ k. none k ∙ c.members k)
    where
      none : (k : ℕ) → is_member k found ≡ (is_member k found || is_member k (filter (exchanged independent I x) (drop i I)))
      none k = sym (or_none (is_member k found))
          ∙ ap (λ s. is_member k found || is_member k (filter (exchanged independent I x) s)) (sym (drop_all i I l))

-- the two parts of the row of x outside I
pub row-addable : (independent : List ℕ → Bool) (I : List ℕ) (x : ℕ) (row : Exchange) → is_member x I ≡ false
    → row ≡ row_of independent I x → row.addable ≡ independent (with_one I x)
row-addable independent I x row out e = ap (λ r. r.addable) (e ∙ cond-false (is_member x I) _ _ out)

pub row-with : (independent : List ℕ → Bool) (I : List ℕ) (x : ℕ) (row : Exchange) → is_member x I ≡ false
    → row ≡ row_of independent I x → row.with ≡ filter (exchanged independent I x) I
row-with independent I x row out e = ap (λ r. r.with) (e ∙ cond-false (is_member x I) _ _ out)

-- and the row by its two parts
pub same_row : (a b : Bool) (xs ys : List ℕ) → a ≡ b → xs ≡ ys → row_with a xs ≡ row_with b ys
same_row a b xs ys d e = ap (λ c. row_with c xs) d ∙ ap (row_with b) e

pub row_outside : (independent : List ℕ → Bool) (I : List ℕ) (x : ℕ) (row : Exchange) → is_member x I ≡ false
    → row.addable ≡ independent (with_one I x) → row.with ≡ filter (exchanged independent I x) I → row ≡ row_of independent I x
row_outside independent I x row o a t = same_row row.addable _ row.with _ a t ∙ sym (cond-false (is_member x I) _ _ o)

-- ---- what a row tells

pub row_of-adds : (p : List ℕ → Bool) (I : List ℕ) (x : ℕ) → (row_of p I x).addable ≡ (exchanges_at p I).adds x
row_of-adds p I x = elim (cases_Bool (is_member x I)) [
  | inl i ↦ ap (λ (r : Exchange). r.addable) (cond-true (is_member x I) _ _ i) ∙ sym (ap (λ b. not b && p (with_one I x)) i)
  | inr o ↦ ap (λ (r : Exchange). r.addable) (cond-false (is_member x I) _ _ o) ∙ sym (ap (λ b. not b && p (with_one I x)) o)
]

pub row_of-trades : (p : List ℕ → Bool) (I : List ℕ) (y x : ℕ) → is_member y (row_of p I x).with ≡ (exchanges_at p I).trades y x
row_of-trades p I y x =
    let test : Bool → Bool = λ b. is_member y I && (not b && p (with_one (without_one I y) x)) in
    elim (cases_Bool (is_member x I)) [
      | inl i ↦ ap (λ (r : Exchange). is_member y r.with) (cond-true (is_member x I) _ _ i) ∙ sym (ap test i ∙ and_right (is_member y I) false refl)
      | inr o ↦ ap (λ (r : Exchange). is_member y r.with) (cond-false (is_member x I) _ _ o)
          ∙ is_member-filter (λ z. p (with_one (without_one I z) x)) y I ∙ sym (ap test o)
    ]
