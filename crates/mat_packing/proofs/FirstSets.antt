-- The loop that takes disjoint independent sets one after the other, each out of the elements that those before it left.
use Rattle.mat_packing.proofs.Common.{◌≡◌, ◌∙◌, ℕ, ◌+◌, ◌<◌, ◌≤◌, Bool, true, false, List, [], ◌∷◌, ◌++◌, length, length-append, inl, inr, refl, sym, ap, subst, arith, both_ways, cases_Bool, cases_eq, false_from_ne_true, false≢true, or_cases, get_or_append_left, family_union, indicator}
use Rattle.mat_packing.proofs.Common.{multiplicity, AreDisjoint, all_below, is_member, minus, union, IsSet, IsSubset, minus_parts, family_union-gives, multiplicity-append, multiplicity-family_union, family_union-from, IsSet-all_below, IsSet-minus, is_member-union, part_at}
use Rattle.std.proofs.Math.Seq.{get_or-append_seam}
use Rattle.mat_sets.proofs.Steps.{family_union-nil, multiplicity-none}

pub record AreFirstSets (n : ℕ) (p : List ℕ → Bool) (count : ℕ) (sets : List (List ℕ)) (rest : List ℕ) : Type 0 where
  pub long : length sets ≡ count
  pub disjoint : AreDisjoint sets
  pub passes : (i : ℕ) → i < length sets → p (part_at sets i) ≡ true
  pub left : (x : ℕ) → is_member x rest ≡ true → is_member x (family_union sets) ≡ false
  pub set : IsSet n rest

pub first_none : (n : ℕ) (p : List ℕ → Bool) (sets : List (List ℕ)) (rest : List ℕ) → sets ≡ [] → rest ≡ all_below n → AreFirstSets n p 0 sets rest
first_none n p sets rest e f = rw (e, f) (record {
  long = refl;
  disjoint = record { once = λ x. (let m = multiplicity-none x in omega arith) };
  passes = λ i l. absurd (omega arith);
  left = λ x h. ap (is_member x) family_union-nil;
  set = IsSet-all_below n;
})

module _ {n : ℕ} {p : List ℕ → Bool} {count : ℕ} {sets : List (List ℕ)} {rest : List ℕ} (f : AreFirstSets n p count sets rest) (base : List ℕ) (ok : p base ≡ true) (inside : IsSubset base (union [] rest)) where
  fresh : (x : ℕ) → is_member x base ≡ true → is_member x (family_union sets) ≡ false
  fresh x m = f.left x (elim (or_cases (is_member x []) (is_member x rest) (sym (is_member-union x [] rest) ∙ inside.inside x m)) [
    | inl none ↦ absurd (false≢true none)
    | inr h ↦ h
  ])

  size : length (sets ++ base ∷ []) ≡ count + 1
  size = let a = length-append sets (base ∷ []) in let b = f.long in omega arith

  at_end : part_at (sets ++ base ∷ []) (length sets) ≡ base
  at_end = get_or-append_seam sets base [] []

  once_more : (x : ℕ) → multiplicity x (sets ++ base ∷ []) ≤ 1
  unfolding multiplicity
  once_more x =
      let sum = multiplicity-append x sets (base ∷ []) in
      let old = multiplicity-family_union x sets (f.disjoint.once x) in
      let less = f.disjoint.once x in
      elim (cases_Bool (is_member x base)) [
        | inl m ↦ (let a : indicator (is_member x base) ≡ 1 = rw m refl in
            let b : indicator (is_member x (family_union sets)) ≡ 0 = rw (fresh x m) refl in
            omega (arith, sum, old, a, b))
        | inr o ↦ (let a : indicator (is_member x base) ≡ 0 = rw o refl in omega (arith, sum, less, a))
      ]

  -- a place in the longer list
  by_place : (P : List ℕ → Type 0) → P base → (i : ℕ) → i < length (sets ++ base ∷ []) → (i < length sets → P (part_at sets i)) → P (part_at (sets ++ base ∷ []) i)
  by_place P own i l before = elim (cases_eq i (length sets)) [
    | inl e ↦ subst (λ k. P (part_at (sets ++ base ∷ []) k)) (sym e) (subst P (sym at_end) own)
    | inr d ↦ (let less : i < length sets = (let a = length-append sets (base ∷ []) in omega arith) in subst P (sym (get_or_append_left sets (base ∷ []) [] i less)) (before less))
  ]

  pub first_more : (sets' : List (List ℕ)) (rest' : List ℕ) → sets' ≡ sets ++ base ∷ [] → rest' ≡ minus rest base → AreFirstSets n p (count + 1) sets' rest'
  first_more sets' rest' e g = rw (e, g) (record {
    long = size;
    disjoint = record { once = once_more };
    passes = λ i l. by_place (λ s. p s ≡ true) ok i l (f.passes i);
    left = λ x h. (let b = minus_parts rest base x h in false_from_ne_true _ (λ k.
        let w = family_union-gives x (sets ++ base ∷ []) k in
        by_place (λ s. is_member x s ≡ true → ⊥) (λ m. both_ways _ b.1 m) w.0 w.1 (λ l m. both_ways _ (f.left x b.0) (family_union-from x sets w.0 l m)) w.2));
    set = IsSet-minus n rest base f.set;
  })
