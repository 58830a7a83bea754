-- The slacks of a reached set, by matroid: in the first they lead from the reached elements to the others, and in the second from the
-- others to the reached (Frank 1981).
use Rattle.std.specs.Prelude.{◌≡◌, ℕ, ◌<◌, true, if◌then◌else◌, List, Option, Some, None, MatchOption}
use Rattle.mat_sets.specs.Sets.{is_member}
use Rattle.mat_sets.specs.Weights.{◌⊖◌, ◌≼◌, is_below}
use Rattle.mat_sets.specs.declared.weight.Weight.{Weight}
use Rattle.mat_laws.specs.TightPaths.{Exchanges, is_heaviest_addable}

-- by how much a heaviest addable element outweighs an addable one in a set
pub record IsAdditionSlack (n : ℕ) (exchanges : Exchanges) (w : ℕ → Weight) (into : List ℕ) (d : Weight) : Type 0 where
  pub top : ℕ
  pub element : ℕ
  pub below : top < n
  pub heaviest : is_heaviest_addable n exchanges w top ≡ true
  pub adds : exchanges.adds element ≡ true
  pub inside : is_member element into ≡ true
  pub value : d ≡ w top ⊖ w element

-- by how much y, where it is in one set, outweighs an element in another that can take its place
pub record IsExchangeSlackAt (y : ℕ) (exchanges : Exchanges) (w : ℕ → Weight) (from into : List ℕ) (d : Weight) : Type 0 where
  pub element : ℕ
  pub trades : exchanges.trades y element ≡ true
  pub leaves : is_member y from ≡ true
  pub inside : is_member element into ≡ true
  pub value : d ≡ w y ⊖ w element

-- the same for some number below n
pub record IsExchangeSlack (n : ℕ) (exchanges : Exchanges) (w : ℕ → Weight) (from into : List ℕ) (d : Weight) : Type 0 where
  pub replaced : ℕ
  pub below : replaced < n
  pub slack : IsExchangeSlackAt replaced exchanges w from into d

-- d has P, and nothing less has
pub record IsLeast (P : Weight → Type 0) (d : Weight) : Type 0 where
  pub has : P d
  pub least : (e : Weight) → P e → d ≼ e

-- that weight, or nothing where no weight has P
abbrev pub IsLeastOrNone : (Weight → Type 0) → Option Weight → Type 0
IsLeastOrNone P least = MatchOption least ((d : Weight) → P d → ⊥) (IsLeast P)

-- the lesser of two weights, where there are any
abbrev pub lesser_of : Option Weight → Option Weight → Option Weight
lesser_of None b = b
lesser_of (Some x) None = Some x
lesser_of (Some x) (Some y) = Some (if is_below y x then y else x)
