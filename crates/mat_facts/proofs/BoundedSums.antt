-- A set of whose members at most l have more than the l-th of some terms weighs at most as much as these terms together: as long as there are
-- members, one has at most the last term; it goes with that term. So no order of the members or of the terms is needed.
use Rattle.mat_facts.proofs.Common.{◌≡◌, ◌<◌, ◌≤◌, ℕ, zero, suc, Bool, true, false, cond, List, [], ◌∷◌, length, refl, ap, arith, ints, ◌⊕◌, ◌≼◌, is_below, weight_sum, Weight, pairs, not_below_gives}
use Rattle.std.specs.List.{filter}
use Rattle.mat_facts.proofs.TermSums.{sum_more, sum_none, sum_of_first}

-- how many members of X have more than t
abbrev pub count_above : (ℕ → Weight) → Weight → List ℕ → ℕ
count_above share t X = length (filter (λ x. is_below t (share x)) X)

-- one of the items taken out of a list
record Taken (share : ℕ → Weight) (t : Weight) (X : List ℕ) : Type 0 where
  item : ℕ
  rest : List ℕ
  size : length X ≡ suc (length rest)
  weighs : weight_sum share X ≡ share item ⊕ weight_sum share rest
  low : share item ≼ t
  fewer : (s : Weight) → count_above share s rest ≤ count_above share s X

taken_first : (share : ℕ → Weight) (t : Weight) (x : ℕ) (X : List ℕ) → is_below t (share x) ≡ false → Taken share t (x ∷ X)
taken_first share t x X low = record {
  item = x;
  rest = X;
  size = refl;
  weighs = refl;
  low = not_below_gives t (share x) low;
  fewer = λ s. count (is_below s (share x)) s;
}
  where
    count : (b : Bool) (s : Weight) → count_above share s X ≤ length (cond b (x ∷ filter (λ y. is_below s (share y)) X) (filter (λ y. is_below s (share y)) X))
    count true s = omega arith
    count false s = omega arith

taken_later : (share : ℕ → Weight) (t : Weight) (x : ℕ) (X : List ℕ) → Taken share t X → Taken share t (x ∷ X)
taken_later share t x X h = record {
  item = h.item;
  rest = x ∷ h.rest;
  size = ap suc h.size;
  weighs = (let e = h.weighs in omega (arith, ints, pairs));
  low = h.low;
  fewer = λ s. count (is_below s (share x)) s (h.fewer s);
}
  where
    count : (b : Bool) (s : Weight) → count_above share s h.rest ≤ count_above share s X
        → length (cond b (x ∷ filter (λ y. is_below s (share y)) h.rest) (filter (λ y. is_below s (share y)) h.rest))
        ≤ length (cond b (x ∷ filter (λ y. is_below s (share y)) X) (filter (λ y. is_below s (share y)) X))
    count true s le = omega arith
    count false s le = le

-- where not all items have more than t, one that has not can be taken out
take_low : (share : ℕ → Weight) (t : Weight) (X : List ℕ) → count_above share t X < length X → Taken share t X
take_low share t [] h = absurd (omega arith)
take_low share t (x ∷ X) h = by (is_below t (share x)) refl h (λ l. take_low share t X l)
  where
    by : (b : Bool) → is_below t (share x) ≡ b
        → length (cond b (x ∷ filter (λ y. is_below t (share y)) X) (filter (λ y. is_below t (share y)) X)) < suc (length X)
        → (count_above share t X < length X → Taken share t X) → Taken share t (x ∷ X)
    by true e l later = taken_later share t x X (later (omega arith))
    by false e l later = taken_first share t x X e

pub weighs_at_most : (share term : ℕ → Weight) (m : ℕ) (X : List ℕ) → length X ≡ m
    → ((l : ℕ) → l < m → count_above share (term l) X ≤ l) → weight_sum share X ≼ sum_of_first term m
weighs_at_most share term zero [] e h = let none = sum_none term in omega (arith, ints, pairs)
weighs_at_most share term zero (x ∷ X) e h = absurd (omega arith)
weighs_at_most share term (suc m) X e h =
    let few = h m (omega arith) in
    let taken = take_low share (term m) X (omega arith) in
    let rest = weighs_at_most share term m taken.rest (let s = taken.size in omega arith)
    (λ l less. let all = h l (omega arith) in let fewer = taken.fewer (term l) in omega arith) in
    let low = taken.low in
    let weighs = taken.weighs in
    let sum = sum_more term m in
    omega (arith, ints, pairs)
