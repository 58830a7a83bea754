-- Exchanges of elements at independent sets (Schrijver, chapter 39).
use Rattle.std.specs.Prelude.{◌≡◌, ◌≢◌, ℕ, ◌<◌, Bool, true, false, if◌then◌else◌, Option, None, Some, List, [], length, map, filter, slice_index}
use Rattle.mat_sets.specs.Sets.{is_member, with_one, without_one, all_below}
use Rattle.mat_laws.specs.declared.exchange.Exchange.{Exchange}

-- a member of B outside A for which x can be exchanged at both: A - x + partner and B - partner + x are independent
pub record HasSymmetricPartner (independent : List ℕ → Bool) (A B : List ℕ) (x : ℕ) : Type 0 where
  pub partner : ℕ
  pub inside : is_member partner B ≡ true
  pub outside : is_member partner A ≡ false
  pub first : independent (with_one (without_one A x) partner) ≡ true
  pub second : independent (with_one (without_one B partner) x) ≡ true

-- pairs of a member y of I and an element x outside, all different, of which each x can take the place of its own y
-- and of no later one
pub record IsTriangular (independent : List ℕ → Bool) (I ys xs : List ℕ) : Type 0 where
  pub lengths : length ys ≡ length xs
  pub inside : (i : ℕ) → i < length ys → is_member (slice_index ys i) I ≡ true
  pub outside : (i : ℕ) → i < length ys → is_member (slice_index xs i) I ≡ false
  pub ys_differ : (i j : ℕ) → i < j → j < length ys → slice_index ys i ≢ slice_index ys j
  pub xs_differ : (i j : ℕ) → i < j → j < length ys → slice_index xs i ≢ slice_index xs j
  pub own : (i : ℕ) → i < length ys → independent (with_one (without_one I (slice_index ys i)) (slice_index xs i)) ≡ true
  pub none_later : (i j : ℕ) → i < j → j < length ys → independent (with_one (without_one I (slice_index ys j)) (slice_index xs i)) ≡ false

-- the exchanges of an element at an independent set I: of x outside I, whether I + x is independent, and the y of I, in
-- rising order, with I - y + x independent; a member of I cannot be added and has no exchanges
abbrev pub row_of : (List ℕ → Bool) → List ℕ → ℕ → Exchange
row_of independent I x =
    if is_member x I then record { addable = false; with = [] }
    else record { addable = independent (with_one I x); with = filter (λ y. independent (with_one (without_one I y) x)) I }

-- the exchanges of each element below n, in order
abbrev pub rows_of : ℕ → (List ℕ → Bool) → List ℕ → List Exchange
rows_of n independent I = map (row_of independent I) (all_below n)

-- the members of I that stand in the fundamental circuit of an element outside I, by its exchanges at I: those for which it can be exchanged,
-- the empty list for a loop; None where it can be added (Oxley, Proposition 1.1.6; section 1.2 for a base)
abbrev pub circuit_members : Exchange → Option (List ℕ)
circuit_members e = if e.addable then None else Some e.with
