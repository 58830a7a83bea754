-- One ticket more, with its row.
use Rattle.mat_ticket.proofs.Common.{◌≡◌, ◌⊎◌, ℕ, zero, suc, ◌<◌, ◌≤◌, List, [], ◌∷◌, ◌++◌, length, Some, inl, inr, refl, sym, ap, ◌∙◌, subst, ⊎_elim, arith, slice_get, get_or_append_left, get_or_push, length_push, slice_get_within, AllBelow, IsRising, RisesFrom, beyond, AreRowsAt}
use Rattle.std.specs.List.{sum_by}
use Rattle.mat_sets.proofs.Ground.{AllBelow-append}
use Rattle.mat_ticket.proofs.Sums.{sum_by-beyond_none}

RisesFrom-push : (lo : ℕ) (xs : List ℕ) (n : ℕ) → RisesFrom lo xs → lo ≤ n → AllBelow n xs → RisesFrom lo (xs ++ n ∷ [])
RisesFrom-push lo [] n h l b = (l, tt)
RisesFrom-push lo (x ∷ xs) n h l b = (h.0, RisesFrom-push (suc x) xs n h.1 b.0 b.1)

pub IsRising-push : (xs : List ℕ) (n : ℕ) → IsRising xs → AllBelow n xs → IsRising (xs ++ n ∷ [])
IsRising-push xs n h b = record { rises = RisesFrom-push 0 xs n h.rises (omega arith) b }

pub AllBelow-push : (n : ℕ) (xs : List ℕ) (t : ℕ) → AllBelow n xs → t < n → AllBelow n (xs ++ t ∷ [])
AllBelow-push n xs t h l = AllBelow-append n xs (t ∷ []) h (l, tt)

AllBelow-last : (n : ℕ) (xs : List ℕ) (t : ℕ) → AllBelow n (xs ++ t ∷ []) → t < n
AllBelow-last n [] t h = h.0
AllBelow-last n (x ∷ xs) t h = AllBelow-last n xs t h.1

pub slice_get-push : {X : Type 0} (xs : List X) (y x : X) (k : ℕ) → slice_get (xs ++ y ∷ []) k ≡ Some x
    → (slice_get xs k ≡ Some x) ⊎ ((k ≡ length xs) × (y ≡ x))
slice_get-push [] y x zero e = inr (refl, cc)
slice_get-push [] y x (suc k) e = absurd (cc)
slice_get-push (z ∷ xs) y x zero e = inl e
slice_get-push (z ∷ xs) y x (suc k) e = ⊎_elim (λ a. inl a) (λ b. inr (ap suc b.0, b.1)) (slice_get-push xs y x k e)

module _ {X : Type 0} (stands : ℕ → X → Type 0) where
  AreRowsAt-push : (ts : List ℕ) (rows : List X) (t : ℕ) (row : X) → AreRowsAt stands ts rows → stands t row
      → AreRowsAt stands (ts ++ t ∷ []) (rows ++ row ∷ [])
  AreRowsAt-push ts rows t row h s = record {
    count = (let c = h.count in omega (arith, length_push rows row, length_push ts t));
    each = λ k r e. ⊎_elim
        (λ (was : slice_get rows k ≡ Some r). subst (λ n. stands n r)
        (sym (get_or_append_left ts (t ∷ []) 0 k (let w = slice_get_within rows k r was in let c = h.count in omega arith))) (h.each k r was))
        (λ (new : (k ≡ length rows) × (row ≡ r)). subst (λ n. stands n r)
        (sym (get_or_push ts t 0 k (sym h.count ∙ sym new.0))) (subst (stands t) new.1 s))
        (slice_get-push rows row r k e);
  }

  pub AreRowsAt-pushed : (ts ts' : List ℕ) (rows rows' : List X) (t : ℕ) (row : X) → ts' ≡ ts ++ t ∷ [] → rows' ≡ rows ++ row ∷ []
      → AreRowsAt stands ts rows → stands t row → AreRowsAt stands ts' rows'
  AreRowsAt-pushed ts ts' rows rows' t row e f h s =
      subst (λ xs. AreRowsAt stands xs rows') (sym e) (subst (λ ys. AreRowsAt stands (ts ++ t ∷ []) ys) (sym f) (AreRowsAt-push ts rows t row h s))

-- who drew numbers below the count alone may draw once more
pub may_draw : (key count : ℕ) (drawn ts : List ℕ) (t share : ℕ) → key ≡ count → drawn ≡ ts ++ t ∷ [] → AllBelow count ts → t < count → 0 < share
    → sum_by (beyond key) drawn < share
may_draw key count drawn ts t share k e h l s =
    let none = sum_by-beyond_none count (ts ++ t ∷ []) (AllBelow-push count ts t h l) in
    let same : sum_by (beyond key) drawn ≡ sum_by (beyond count) (ts ++ t ∷ [])
    = ap (λ n. sum_by (beyond n) drawn) k ∙ ap (sum_by (beyond count)) e in omega arith

module _ (ts drawn : List ℕ) (t n : ℕ) (all : drawn ≡ ts ++ t ∷ []) where
  -- what is drawn next is above what was drawn last
  pub draws_above : AllBelow n drawn → t < n
  draws_above h = AllBelow-last n ts t (subst (AllBelow n) all h)

  -- the last number is a ticket, and another one is drawn
  pub next_drawn : (ts' drawn' : List ℕ) → ts' ≡ ts ++ t ∷ [] → drawn' ≡ drawn ++ n ∷ [] → drawn' ≡ ts' ++ n ∷ []
  next_drawn ts' drawn' e d = d ∙ ap (λ l. l ++ n ∷ []) (all ∙ sym e)

  pub next_above : (ts' : List ℕ) → ts' ≡ ts ++ t ∷ [] → AllBelow n drawn → AllBelow n ts'
  next_above ts' e h = subst (AllBelow n) (all ∙ sym e) h
