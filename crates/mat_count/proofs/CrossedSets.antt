-- A set is crossed by one of a list exactly where the search finds one. So a family in which no two sets cross grows by the sets that none
-- of it crosses, and by no others.
use Rattle.mat_count.proofs.Common.{◌≡◌, ℕ, zero, suc, ◌<◌, true, false, ◌||◌, List, [], ◌∷◌, ◌++◌, length, get_or, length-append, Option, Some, None, inl, inr, refl, sym, ap, ap₂, ◌∙◌, arith, MatchOption, is_some, cases_eq, both_ways, false_from_ne_true, get_or_append_left, crosses, is_crossed}
use Rattle.mat_count.proofs.Common.{IsLaminarFamily, IsFirstCrossing, NoneCrosses}
use Rattle.std.proofs.Math.Bool.{or-true}
use Rattle.std.proofs.Math.Seq.{get_or-append_seam}

-- no set of the list crosses the next
crossed_none : (sets : List (List ℕ)) (next : List ℕ)
    → ((k : ℕ) → k < length sets → crosses (get_or sets k []) next ≡ false) → is_crossed sets next ≡ false
unfolding is_crossed
crossed_none [] next none = refl
crossed_none (S ∷ sets) next none =
    rw (none 0 (omega arith)) (crossed_none sets next (λ k l. none (suc k) (omega arith)))

-- some set of the list crosses the next
crossed_some : (sets : List (List ℕ)) (next : List ℕ) (a : ℕ) → a < length sets → crosses (get_or sets a []) next ≡ true
    → is_crossed sets next ≡ true
unfolding is_crossed
crossed_some [] next a l h = absurd (omega arith)
crossed_some (S ∷ sets) next zero l h = rw h refl
crossed_some (S ∷ sets) next (suc a) l h = ap (λ b. crosses S next || b) (crossed_some sets next a (omega arith) h) ∙ or-true (crosses S next)

-- what the search for the first set that crosses the next one tells
pub is_crossed-search : (found : Option ℕ) (sets : List (List ℕ)) (next : List ℕ)
    → MatchOption found (NoneCrosses sets next) (λ a. IsFirstCrossing sets next a) → is_crossed sets next ≡ is_some found
is_crossed-search None sets next h = crossed_none sets next h.none
is_crossed-search (Some a) sets next h = crossed_some sets next a h.listed h.crossed

-- ---- families that grow

pub IsLaminarFamily-nil : IsLaminarFamily []
IsLaminarFamily-nil = record { nested = λ i j l m. absurd (omega arith) }

-- a set that none crosses is one more of the family
pub IsLaminarFamily-more : (sets : List (List ℕ)) (next : List ℕ) → IsLaminarFamily sets → is_crossed sets next ≡ false
    → IsLaminarFamily (sets ++ next ∷ [])
IsLaminarFamily-more sets next family free = record { nested = nested }
  where
    nested : (i j : ℕ) → i < j → j < length (sets ++ next ∷ [])
        → crosses (get_or (sets ++ next ∷ []) i []) (get_or (sets ++ next ∷ []) j []) ≡ false
    nested i j l m =
        let long = length-append sets (next ∷ []) in
        elim (cases_eq j (length sets)) [
          | inl last ↦
              let first : get_or (sets ++ next ∷ []) i [] ≡ get_or sets i [] = get_or_append_left sets (next ∷ []) [] i (omega arith) in
              let second : get_or (sets ++ next ∷ []) j [] ≡ next = ap (λ k. get_or (sets ++ next ∷ []) k []) last
              ∙ get_or-append_seam sets next [] [] in
              ap₂ crosses first second ∙ false_from_ne_true _ (λ h. both_ways _ free (crossed_some sets next i (omega arith) h))
          | inr other ↦
              let first : get_or (sets ++ next ∷ []) i [] ≡ get_or sets i [] = get_or_append_left sets (next ∷ []) [] i (omega arith) in
              let second : get_or (sets ++ next ∷ []) j [] ≡ get_or sets j [] = get_or_append_left sets (next ∷ []) [] j (omega arith) in
              ap₂ crosses first second ∙ family.nested i j l (omega arith)
        ]

-- no set of a family is crossed by an earlier one
pub IsLaminarFamily-free : (sets : List (List ℕ)) (next : List ℕ) (others : List (List ℕ)) → IsLaminarFamily (sets ++ next ∷ others)
    → is_crossed sets next ≡ false
IsLaminarFamily-free sets next others family = crossed_none sets next (λ k l.
    let long = length-append sets (next ∷ others) in
    let first : get_or (sets ++ next ∷ others) k [] ≡ get_or sets k [] = get_or_append_left sets (next ∷ others) [] k l in
    let second : get_or (sets ++ next ∷ others) (length sets) [] ≡ next = get_or-append_seam sets next others [] in
    sym (ap₂ crosses first second) ∙ family.nested k (length sets) l (omega arith))
