-- One search that only grows: the changes of a split of the weights between the first reached set and the last, as in the Hungarian
-- method (Frank 1981; Schrijver, chapter 41).
use Rattle.std.specs.Prelude.{◌≡◌, ℕ, ◌<◌, ◌+◌, ◌*◌, Bool, true, false, not, ◌&&◌, if◌then◌else◌, List, length, Option, Some}
use Rattle.std.specs.Prelude.{None, MatchOption, ◌⊎◌}
use Rattle.mat_sets.specs.Limits.{largest_weight}
use Rattle.mat_sets.specs.Sets.{is_member}
use Rattle.mat_sets.specs.Weights.{zero_weight, ◌⊕◌, ◌⊖◌, ◌≺◌, ◌≼◌, is_below, weight_at, IsWeightWithin, AreWeightsWithin}
use Rattle.mat_sets.specs.declared.weight.Weight.{Weight}
use Rattle.mat_laws.specs.declared.exchange.Exchange.{Exchange}
use Rattle.mat_laws.specs.Matroids.{IsMatroid}
use Rattle.mat_laws.specs.Exchanges.{rows_of}
use Rattle.mat_laws.specs.Heaviest.{IsHeaviest}
use Rattle.mat_laws.specs.TightPaths.{Exchanges, IsStuckReach}
use Rattle.mat_laws.specs.Slacks.{IsSlack}
use Rattle.mat_exchange.specs.Searching.{IsFound}
use Rattle.mat_exchange.specs.declared.found.Found.{Found}
use Rattle.mat_exchange.specs.declared.found.Found.TheVariants.{Path, Stuck}
use Rattle.mat_exchange.specs.declared.grown.Grown.{Grown}
use Rattle.mat_exchange.specs.declared.steps.NextStep.{NextStep}
use Rattle.mat_exchange.specs.declared.steps.NextStep.TheVariants.{Enter, Sink, Nothing}

-- what can take the place of a member weighs no more than it
pub record NoExchangeGains (exchanges : Exchanges) (w : ℕ → Weight) : Type 0 where
  pub each : (y x : ℕ) → exchanges.trades y x ≡ true → w x ≼ w y

-- a search from here on finds a path, or it is stuck and has no slack
abbrev pub EndsSearch : ℕ → Exchanges → Exchanges → (ℕ → Weight) → (ℕ → Weight) → Type 0
EndsSearch n first second w1 w2 = (S : List ℕ) → IsStuckReach n first second w1 w2 S → (d : Weight) → IsSlack n first second w1 w2 S d → ⊥

-- the sum of two weights
abbrev pub sum_at : (ℕ → Weight) → (ℕ → Weight) → ℕ → Weight
sum_at w1 w2 x = w1 x ⊕ w2 x

-- new halves of the weights w, the second of which was `old` before: no exchange gains; where both numbers of each weight in `old` are from -h to
-- h, those of each new second weight are from -(h + 4 * 10^12 * n) to h + 4 * 10^12 * n; and a search under the new halves finds a path or has no slack
pub record IsGrownSplit (n : ℕ) (first second : Exchanges) (w old w1 w2 : ℕ → Weight) : Type 0 where
  pub first_gains : NoExchangeGains first w1
  pub second_gains : NoExchangeGains second w2
  pub adds : (x : ℕ) → x < n → w1 x ⊕ w2 x ≡ w x
  pub within : (h : ℕ) → ((x : ℕ) → x < n → IsWeightWithin h (old x)) → (x : ℕ) → x < n
      → IsWeightWithin (h + 4 * largest_weight * n) (w2 x)
  pub ends : EndsSearch n first second w1 w2

-- what is found is no stuck search with a slack
abbrev pub HasNoSlack : Found → Type 0
HasNoSlack (Path path) = Unit {0}
HasNoSlack (Stuck reach slack) = slack ≡ None

-- the new halves of the weights w1 and w2, and what a search under them finds
pub record IsGrown (n : ℕ) (first second : Exchanges) (w1 w2 : List Weight) (grown : Grown) : Type 0 where
  pub first_length : length grown.first ≡ n
  pub second_length : length grown.second ≡ n
  pub split : IsGrownSplit n first second (sum_at (weight_at w1) (weight_at w2)) (weight_at w2) (weight_at grown.first) (weight_at grown.second)
  pub bounded : (h : ℕ) → AreWeightsWithin h w2 → AreWeightsWithin (h + 2 * largest_weight * (n + 1) * n) grown.second
  pub found : IsFound n first second (weight_at grown.first) (weight_at grown.second) grown.found
  pub no_slack : HasNoSlack grown.found

-- the set I, which has these rows, stays heaviest of its size: in each two matroids with these rows, it is heaviest under the new halves
-- where it was under the old
abbrev pub StaysHeaviest : ℕ → List Exchange → List Exchange → List ℕ → List Weight → List Weight → Grown → Type 0
StaysHeaviest n first second I w1 w2 grown =
    (p q : List ℕ → Bool) → IsMatroid n p → IsMatroid n q → first ≡ rows_of n p I → second ≡ rows_of n q I
    → IsHeaviest p (weight_at w1) I → IsHeaviest q (weight_at w2) I
    → IsHeaviest p (weight_at grown.first) I × IsHeaviest q (weight_at grown.second) I

-- ---- the fringe

-- x outside R enters R where the weights of R have changed by -g: as a heaviest addable element, as heavy as the root; by an exchange for
-- a member in R; or as a member whose place an element of R can take
pub data IsEntry (first second : Exchanges) (w1 w2 : ℕ → Weight) (root : ℕ) (R : List ℕ) (x : ℕ) (g : Weight) : Type 0 where
  as_source : first.adds x ≡ true → g ≡ w1 x ⊖ w1 root → IsEntry first second w1 w2 root R x g
  from_member : (y : ℕ) → is_member y R ≡ true → first.trades y x ≡ true → g ≡ w1 x ⊖ w1 y → IsEntry first second w1 w2 root R x g
  from_other : (u : ℕ) → is_member u R ≡ true → second.trades x u ≡ true → g ≡ w2 u ⊖ w2 x → IsEntry first second w1 w2 root R x g

-- F holds the elements of O that have an entry, and g the greatest of each
pub record IsFringe (O F : List ℕ) (E : ℕ → Weight → Type 0) (g : ℕ → Weight) : Type 0 where
  pub within : (x : ℕ) → is_member x F ≡ true → is_member x O ≡ true
  pub has : (x : ℕ) → is_member x F ≡ true → E x (g x)
  pub most : (x : ℕ) (e : Weight) → is_member x O ≡ true → E x e → (is_member x F ≡ true) × (e ≼ g x)

-- x is offered f: it is in the set after, and there has the greater of f and what it had
pub record IsMet (f : Weight) (x : ℕ) (F : List ℕ) (g : ℕ → Weight) (F' : List ℕ) (g' : ℕ → Weight) : Type 0 where
  pub inside : is_member x F' ≡ true
  pub own : f ≼ g' x
  pub old : is_member x F ≡ true → g x ≼ g' x
  pub from : (g' x ≡ f) ⊎ ((is_member x F ≡ true) × (g' x ≡ g x))

-- each x that passes is offered f x, and nothing else changes
pub record IsOffered (test : ℕ → Bool) (f : ℕ → Weight) (F : List ℕ) (g : ℕ → Weight) (F' : List ℕ)
    (g' : ℕ → Weight) : Type 0 where
  pub met : (x : ℕ) → test x ≡ true → IsMet (f x) x F g F' g'
  pub kept : (x : ℕ) → test x ≡ false → (is_member x F' ≡ is_member x F) × (g' x ≡ g x)

-- by how much z weighs more than x if `inside`, and x more than z if not
abbrev pub gain_at : Bool → (ℕ → Weight) → ℕ → ℕ → Weight
gain_at inside w x z = if inside then w z ⊖ w x else w x ⊖ w z

-- an exchange that an arc from x to z stands for; where x is a member, not for z that can be added, whose gain by that is at least as great
abbrev pub leads : Exchanges → Exchanges → List ℕ → ℕ → ℕ → Bool
leads first second I x z = if is_member x I then (not (first.adds z) && first.trades x z) else second.trades z x

-- the gain at which z enters by that exchange
abbrev pub entry_gain : (ℕ → Weight) → (ℕ → Weight) → List ℕ → ℕ → ℕ → Weight
entry_gain w1 w2 I x z = if is_member x I then w1 z ⊖ w1 x else w2 x ⊖ w2 z

-- by how much one weight exceeds another, where there are both
abbrev pub excess_of : Option Weight → Option Weight → Option Weight
excess_of None other = None
excess_of (Some weight) None = None
excess_of (Some weight) (Some other) = Some (weight ⊖ other)

-- x passes, and nothing that passes weighs more
pub record IsHeaviestOf (test : ℕ → Bool) (w : ℕ → Weight) (x : ℕ) : Type 0 where
  pub passes : test x ≡ true
  pub most : (y : ℕ) → test y ≡ true → w y ≼ w x

-- such an element, or none where nothing passes
abbrev pub IsHeaviestOrNone : (ℕ → Bool) → (ℕ → Weight) → Option ℕ → Type 0
IsHeaviestOrNone test w found = MatchOption found ((x : ℕ) → test x ≡ false) (IsHeaviestOf test w)

-- of x and the one before, the heavier
abbrev pub heavier_of : (ℕ → Weight) → Option ℕ → ℕ → Option ℕ
heavier_of w None x = Some x
heavier_of w (Some y) x = Some (if is_below (w y) (w x) then x else y)

-- an element of the fringe enters after this change, which is the least of the fringe and below that of a sink; or an element of the
-- reached set is a sink after it, where that is not later than all of the fringe; or there is neither
abbrev pub IsNextStep : List ℕ → (ℕ → Weight) → Option Weight → NextStep → Type 0
IsNextStep F g slack (Enter x step) =
    (is_member x F ≡ true) × (g x ⊕ step ≡ zero_weight) × ((y : ℕ) → is_member y F ≡ true → (g y ⊕ step) ≼ zero_weight)
    × ((earlier : Weight) → slack ≡ Some earlier → step ≺ earlier)
IsNextStep F g slack (Sink step) = (slack ≡ Some step) × ((y : ℕ) → is_member y F ≡ true → (g y ⊕ step) ≼ zero_weight)
IsNextStep F g slack Nothing = (slack ≡ None) × ((y : ℕ) → is_member y F ≡ false)

-- the slack, where it is at most the step, or none
abbrev pub IsBefore : Option Weight → Weight → Option Weight → Type 0
IsBefore slack step (Some earlier) = (slack ≡ Some earlier) × (earlier ≼ step)
IsBefore slack step None = (earlier : Weight) → slack ≡ Some earlier → step ≺ earlier
