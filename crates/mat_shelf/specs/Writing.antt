-- What a call appends.
use Rattle.std.specs.Prelude.{◌≡◌, ℕ, ◌<◌, List, ◌++◌, length, Option, Some, IfSome}

-- What is told after the call was told before it, and the piece was appended.
abbrev pub Appended : Option (List ℕ) → List ℕ → Option (List ℕ) → Type 0
Appended old piece new = IfSome new (λ v. (w : List ℕ) × (old ≡ Some w) × (v ≡ w ++ piece))

-- a front of the text was appended
abbrev pub AppendedPrefix : Option (List ℕ) → List ℕ → Option (List ℕ) → Type 0
AppendedPrefix old text new =
    (front : List ℕ) × (rest : List ℕ) × (text ≡ front ++ rest) × Appended old front new

-- a front of the text was appended, and something of the text is left
pub record AppendedProperPrefix (old : Option (List ℕ)) (text : List ℕ) (new : Option (List ℕ)) : Type 0 where
  pub front : List ℕ
  pub rest : List ℕ
  pub whole : text ≡ front ++ rest
  pub unwritten : 0 < length rest
  pub appended : Appended old front new
