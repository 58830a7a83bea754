-- Reading step by step, which may end at a fault of any kind.
use Rattle.std.specs.Prelude.{ℕ, zero, suc, List, [], ◌∷◌, Result, Ok, Err}

infixl 10 ◌>>=◌
-- what is read goes on to the next step, and a fault ends the reading
abbrev pub ◌>>=◌ : {A B F : Type 0} → Result A F → (A → Result B F) → Result B F
(Ok x) >>= f = f x
(Err fault) >>= f = Err fault

-- so many items, which the reader reads one after the other, each from what the one before left
unfoldable pub repeat_at : {A S F : Type 0} → (S → Result (A × S) F) → ℕ → S → Result (List A × S) F
repeat_at reader zero s = Ok ([], s)
repeat_at reader (suc n) s = do
  first ← reader s
  others ← repeat_at reader n first.1
  Ok (first.0 ∷ others.0, others.1)
