-- Rows put at the places of their tickets, from the last row to the first.
use Rattle.mat_ticket.proofs.Common.{◌≡◌, ◌⊎◌, ℕ, zero, suc, ◌<◌, List, [], ◌∷◌, ◌++◌, length, Option, Some, set, slice_index, inl, inr, refl, sym, ap, ◌∙◌, subst, ⊎_elim, arith, slice_get, cases_lt, append_assoc, length-append, length-set, same_Some, slice_get_within, slice_get-get_or, AllBelow}
use Rattle.mat_ticket.proofs.Common.{HasItem, ArePlaced}
use Rattle.mat_sets.proofs.Sums.{AllBelow-at}

slice_get-set : {X : Type 0} (xs : List X) (i j : ℕ) (y z : X) → slice_get (set xs i y) j ≡ Some z
    → ((j ≡ i) × (y ≡ z)) ⊎ (slice_get xs j ≡ Some z)
slice_get-set [] i j y z e = inr e
slice_get-set (x ∷ xs) zero zero y z e = inl (refl, cc)
slice_get-set (x ∷ xs) zero (suc j) y z e = inr e
slice_get-set (x ∷ xs) (suc i) zero y z e = inr e
slice_get-set (x ∷ xs) (suc i) (suc j) y z e = ⊎_elim (λ t. inl (ap suc t.0, t.1)) (λ t. inr t) (slice_get-set xs i j y z e)

slice_get-set_here : {X : Type 0} (xs : List X) (i : ℕ) (y : X) → i < length xs → slice_get (set xs i y) i ≡ Some y
slice_get-set_here [] i y l = absurd (omega arith)
slice_get-set_here (x ∷ xs) zero y l = refl
slice_get-set_here (x ∷ xs) (suc i) y l = slice_get-set_here xs i y (omega arith)

pub slice_get-set_else : {X : Type 0} (xs : List X) (i j : ℕ) (y : X) → (j ≡ i → ⊥) → slice_get (set xs i y) j ≡ slice_get xs j
slice_get-set_else (x ∷ xs) zero zero y n = absurd (n refl)
slice_get-set_else (x ∷ xs) (suc i) (suc j) y n = slice_get-set_else xs i j y (λ e. n (ap suc e))
slice_get-set_else _ i j y n = refl

slice_get-seam : {X : Type 0} (xs ys : List X) (y : X) → slice_get ((xs ++ y ∷ []) ++ ys) (length xs) ≡ Some y
slice_get-seam [] ys y = refl
slice_get-seam (x ∷ xs) ys y = slice_get-seam xs ys y

same_or_not : (i j : ℕ) → (i ≡ j) ⊎ (i ≡ j → ⊥)
same_or_not i j = elim (cases_lt i j) [
  | inl l ↦ inr (λ e. absurd (omega arith))
  | inr g ↦ elim (cases_lt j i) [
    | inl l ↦ inr (λ e. absurd (omega arith))
    | inr h ↦ inl (omega arith)
  ]
]

module _ {X : Type 0} where
  filled-set : (slots : List (Option X)) (t : ℕ) (y : X) (i : ℕ) → t < length slots → HasItem slots i → HasItem (set slots t (Some y)) i
  filled-set slots t y i l f = elim (same_or_not i t) [
    | inl e ↦ record {
      row = y;
      here = subst (λ j. slice_get (set slots t (Some y)) j ≡ Some (Some y)) (sym e)
          (slice_get-set_here slots t (Some y) l);
    }
    | inr n ↦ record { row = f.row; here = slice_get-set_else slots t i (Some y) n ∙ f.here }
  ]

  pub placed-none : (tickets : List ℕ) (rows : List X) (slots : List (Option X)) → length rows ≡ length tickets
      → ArePlaced (length rows) tickets rows slots slots
  placed-none tickets rows slots e = record {
    count = refl;
    origin = λ i row h. inl h;
    filled = λ k t l h. absurd (let w = slice_get_within tickets k t h in omega arith);
    kept = λ i f. f;
  }

  placed-more : (tickets : List ℕ) (all init rest : List X) (y : X) (before slots : List (Option X)) → all ≡ (init ++ y ∷ []) ++ rest
      → length all ≡ length tickets
      → AllBelow (length before) tickets → ArePlaced (length (init ++ y ∷ [])) tickets all before slots
      → ArePlaced (length init) tickets all before (set slots (slice_index tickets (length init)) (Some y))
  placed-more tickets all init rest y before slots e count below p =
      let k = length init in
      let t = slice_index tickets k in
      let long : length all ≡ length ((init ++ y ∷ []) ++ rest) = ap length e in
      let inside : k < length tickets = omega (arith, length-append (init ++ y ∷ []) rest, length-append init (y ∷ [])) in
      let here : slice_get tickets k ≡ Some t = slice_get-get_or tickets k 0 inside in
      let room : t < length slots = (let b = AllBelow-at (length before) tickets k below inside in let c = p.count in omega arith) in
      record {
        count = length-set slots t (Some y) ∙ p.count;
        origin = λ i row h. ⊎_elim
            (λ (x : (i ≡ t) × (Some y ≡ Some row)). inr (record {
              place = k;
              ticket_here = here ∙ ap Some (sym x.0);
              row_here = ap (λ l. slice_get l k) e ∙ slice_get-seam init rest y ∙ x.1;
            }))
            (λ (x : slice_get slots i ≡ Some (Some row)). p.origin i row x)
            (slice_get-set slots t i (Some y) (Some row) h);
        filled = λ j u l h. elim (same_or_not j k) [
          | inl s ↦ (let same : t ≡ u = same_Some _ _ (sym here ∙ ap (slice_get tickets) (sym s) ∙ h) in
              subst (HasItem (set slots t (Some y))) same (record { row = y; here = slice_get-set_here slots t (Some y) room }))
          | inr n ↦ filled-set slots t y u room (p.filled j u (let more : k < j = grind (arith) in omega (arith, length-append init (y ∷ []))) h)
        ];
        kept = λ i f. filled-set slots t y i room (p.kept i f);
      }

  pub placed-next : (tickets : List ℕ) (all rows init rest : List X) (y : X) (before slots after : List (Option X)) (t : ℕ) → all ≡ rows ++ rest
      → rows ≡ init ++ y ∷ []
      → length all ≡ length tickets → AllBelow (length before) tickets → t ≡ slice_index tickets (length init) → after ≡ set slots t (Some y)
      → ArePlaced (length rows) tickets all before slots → ArePlaced (length init) tickets all before after
  placed-next tickets all rows init rest y before slots after t e f count below i s p =
      subst (ArePlaced (length init) tickets all before) (sym (s ∙ ap (λ j. set slots j (Some y)) i))
      (placed-more tickets all init rest y before slots (e ∙ ap (λ l. l ++ rest) f) count below
      (subst (λ l. ArePlaced (length l) tickets all before slots) f p))

pub ticket_below : {X : Type 0} (n : ℕ) (tickets : List ℕ) (all rows init rest : List X) (y : X) → all ≡ rows ++ rest → rows ≡ init ++ y ∷ []
    → length all ≡ length tickets
    → AllBelow n tickets → slice_index tickets (length init) < n
ticket_below n tickets all rows init rest y e f count below =
    AllBelow-at n tickets (length init) below (let a : length all ≡ length (rows ++ rest) = ap length e in
    let b : length rows ≡ length (init ++ y ∷ []) = ap length f in
    omega (arith, length-append rows rest, length-append init (y ∷ [])))

pub more_rest : {X : Type 0} (all rows init rest : List X) (y : X) → all ≡ rows ++ rest → rows ≡ init ++ y ∷ [] → all ≡ init ++ (y ∷ rest)
more_rest all rows init rest y e f = e ∙ ap (λ l. l ++ rest) f ∙ append_assoc init (y ∷ []) rest
