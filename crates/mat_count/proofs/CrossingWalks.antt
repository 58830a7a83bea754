-- Sets are looked at in order, and the first that an earlier one crosses is found.
use Rattle.mat_count.proofs.Common.{◌≡◌, ℕ, ◌+◌, ◌<◌, ◌≤◌, false, List, [], length, get_or, take, length-take, inl, inr, sym, ap, ◌∙◌, arith, cases_eq, get_or-take, crosses, IsLaminarFamily, IsFirstCrossing, NoneCrosses, IsFirstPair}

-- no two of the sets before b cross
abbrev pub NestedBefore : List (List ℕ) → ℕ → Type 0
NestedBefore sets b = (i j : ℕ) → i < j → j < b → crosses (get_or sets i []) (get_or sets j []) ≡ false

before : (sets : List (List ℕ)) (b k : ℕ) → k < b → get_or (take b sets) k [] ≡ get_or sets k []
before sets b k l = get_or-take b sets k [] l

pub NestedBefore-none : (sets : List (List ℕ)) → NestedBefore sets 0
NestedBefore-none sets = λ i j l m. absurd (omega arith)

pub NestedBefore-more : (sets : List (List ℕ)) (b : ℕ) → b < length sets → NoneCrosses (take b sets) (get_or sets b [])
    → NestedBefore sets b → NestedBefore sets (b + 1)
NestedBefore-more sets b inside free nested = λ i j l m. elim (cases_eq j b) [
  | inl same ↦ ap (λ k. crosses (get_or sets i []) (get_or sets k [])) same
      ∙ ap (λ S. crosses S (get_or sets b [])) (sym (before sets b i (omega arith))) ∙ free.none i (omega (arith, length-take b sets))
  | inr other ↦ nested i j l (omega arith)
]

pub IsFirstPair-here : (sets : List (List ℕ)) (a b : ℕ) → b < length sets → IsFirstCrossing (take b sets) (get_or sets b []) a
    → NestedBefore sets b → IsFirstPair sets a b
IsFirstPair-here sets a b inside found nested =
    let listed = found.listed in
    let less : a < b = omega (arith, length-take b sets) in
    record {
      before = less;
      listed = inside;
      crossed = ap (λ S. crosses S (get_or sets b [])) (sym (before sets b a less)) ∙ found.crossed;
      least_a = λ k l. ap (λ S. crosses S (get_or sets b [])) (sym (before sets b k (omega arith))) ∙ found.least k l;
      least_b = nested;
    }

pub IsLaminarFamily-from_nested : (sets : List (List ℕ)) (b : ℕ) → length sets ≤ b → NestedBefore sets b → IsLaminarFamily sets
IsLaminarFamily-from_nested sets b all nested = record { nested = λ i j l m. nested i j l (omega arith) }

pub ruleset pairs = (NestedBefore-none, NestedBefore-more, IsFirstPair-here, IsLaminarFamily-from_nested)
