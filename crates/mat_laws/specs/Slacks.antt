-- How far the weights of a reached set can change, the first falling and the second rising, until a tight arc, a source outside
-- the set or a sink inside is made (Frank 1981; Schrijver, chapter 41).
use Rattle.std.specs.Prelude.{◌≡◌, ℕ, ◌<◌, true, false, List, Option, MatchOption}
use Rattle.mat_sets.specs.Sets.{is_member}
use Rattle.mat_sets.specs.Weights.{◌⊖◌, ◌≼◌}
use Rattle.mat_sets.specs.declared.weight.Weight.{Weight}
use Rattle.mat_laws.specs.TightPaths.{Exchanges, is_heaviest_addable}

-- d is a slack of the set R, for the exchanges of two matroids at a set I: the difference of two weights. Under the first weight it is by how
-- much a heaviest addable element of the first matroid outweighs an addable one outside R, or a member of I in R outweighs an element outside
-- R that can take its place in the first matroid. Under the second weight it is by how much a member of I outside R outweighs an element of R
-- that can take its place in the second matroid, or a heaviest addable element of the second matroid outweighs an addable one in R
pub data IsSlack (n : ℕ) (first second : Exchanges) (w1 w2 : ℕ → Weight) (R : List ℕ) (d : Weight) : Type 0 where
  first_addition : (top x : ℕ) → top < n → x < n → is_heaviest_addable n first w1 top ≡ true → first.adds x ≡ true
      → is_member x R ≡ false → d ≡ w1 top ⊖ w1 x → IsSlack n first second w1 w2 R d
  first_exchange : (y x : ℕ) → y < n → x < n → first.trades y x ≡ true
      → is_member y R ≡ true → is_member x R ≡ false → d ≡ w1 y ⊖ w1 x → IsSlack n first second w1 w2 R d
  second_exchange : (x y : ℕ) → x < n → y < n → second.trades y x ≡ true
      → is_member x R ≡ true → is_member y R ≡ false → d ≡ w2 y ⊖ w2 x → IsSlack n first second w1 w2 R d
  second_addition : (top x : ℕ) → top < n → x < n → is_heaviest_addable n second w2 top ≡ true → second.adds x ≡ true
      → is_member x R ≡ true → d ≡ w2 top ⊖ w2 x → IsSlack n first second w1 w2 R d

-- d is the least slack of R
pub record IsLeastSlack (n : ℕ) (first second : Exchanges) (w1 w2 : ℕ → Weight) (R : List ℕ) (d : Weight) : Type 0 where
  pub slack : IsSlack n first second w1 w2 R d
  pub least : (e : Weight) → IsSlack n first second w1 w2 R e → d ≼ e

-- the least slack of R, or nothing where R has no slack
abbrev pub IsLeastSlackOrNone : ℕ → Exchanges → Exchanges → (ℕ → Weight) → (ℕ → Weight) → List ℕ → Option Weight → Type 0
IsLeastSlackOrNone n first second w1 w2 R least =
    MatchOption least ((d : Weight) → IsSlack n first second w1 w2 R d → ⊥) (IsLeastSlack n first second w1 w2 R)
