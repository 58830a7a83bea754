-- Rows that stand from a number on: one row more at the end, one list behind another, and, for callers, the row at a place.
use Rattle.std.proofs.Common.{◌≡◌, ℕ, zero, suc, ◌+◌, ◌<◌, List, [], ◌∷◌, ◌++◌, length, get_or, sym, subst, ◌∙◌, arith}
use Rattle.std.proofs.lemmas.List.{get_or_default, same_lists}
use Rattle.mat_work.specs.Rows.{StandFrom}

module _ {X : Type 0} (stands : ℕ → X → Type 0) where
  StandFrom_append : (from : ℕ) (xs ys : List X) → StandFrom stands from xs → StandFrom stands (from + length xs) ys
      → StandFrom stands from (xs ++ ys)
  StandFrom_append from [] ys h k = subst (λ n. StandFrom stands n ys) (omega arith) k
  StandFrom_append from (x ∷ xs) ys h k = (h.0, StandFrom_append (from + 1) xs ys h.1 (subst (λ n. StandFrom stands n ys) (omega arith) k))

  -- the next row of a range
  pub StandFrom_push : (from at : ℕ) (xs : List X) (x : X) → StandFrom stands from xs → from + length xs ≡ at → stands at x
      → StandFrom stands from (xs ++ x ∷ [])
  StandFrom_push from at xs x h e s = StandFrom_append from xs (x ∷ []) h (subst (λ n. stands n x) (sym e) s, tt)

  -- both parts of a range
  pub StandFrom_both : (from low middle : ℕ) (xs ys all : List X) → all ≡ xs ++ ys → from + low ≡ middle
      → (length xs ≡ low) × StandFrom stands from xs → StandFrom stands middle ys → StandFrom stands from all
  StandFrom_both from low middle xs ys all e m h k =
      subst (StandFrom stands from) (sym e) (StandFrom_append from xs ys h.1 (subst (λ n. StandFrom stands n ys) (let l = h.0 in omega arith) k))

  -- the row at a place
  pub StandFrom_at : (from : ℕ) (xs : List X) (k : ℕ) (d : X) → StandFrom stands from xs → k < length xs → stands (from + k) (get_or xs k d)
  StandFrom_at from [] k d h l = absurd (omega arith)
  StandFrom_at from (x ∷ xs) zero d h l = subst (λ n. stands n x) (omega arith) h.0
  StandFrom_at from (x ∷ xs) (suc k) d h l = subst (λ n. stands n (get_or xs k d)) (omega arith) (StandFrom_at (from + 1) xs k d h.1 (omega arith))

-- for callers: rows of which each is the item of a list at its number are this list
pub StandFrom_items : {X : Type 0} (xs ys : List X) (d : X) → length xs ≡ length ys → StandFrom (λ i x. x ≡ get_or ys i d) 0 xs → xs ≡ ys
StandFrom_items xs ys d e h = same_lists xs ys e (λ k d' l.
    let here : get_or xs k d ≡ get_or ys k d
    = subst (λ m. get_or xs k d ≡ get_or ys m d) (omega arith) (StandFrom_at (λ i x. x ≡ get_or ys i d) 0 xs k d h l) in
    get_or_default xs k d' d l ∙ here ∙ get_or_default ys k d d' (subst (λ m. k < m) e l))
