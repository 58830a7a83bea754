-- Lists of which no two share a member, joined end to end.
use Rattle.mat_sets.proofs.Common.{◌≡◌, ℕ, ◌<◌, true, false, List, [], ◌∷◌, inl, inr, refl, sym, ◌∙◌, arith, cases_Bool, false_from_ne_true, false≢true, or_cases, or_parts, AreDisjoint, indicator, multiplicity, is_member, AreDistinct}
use Rattle.std.specs.List.{concat}
use Rattle.mat_sets.proofs.ListParts.{AreDistinct-apart, AreDistinct-rest}
use Rattle.mat_sets.proofs.Members.{is_member-append}

-- a member of one of the lists counts
multiplicity-concat : (v : ℕ) (lists : List (List ℕ)) → is_member v (concat lists) ≡ true → 0 < multiplicity v lists
unfolding multiplicity
multiplicity-concat v [] m = absurd (false≢true m)
multiplicity-concat v (xs ∷ lists) m = elim (or_cases (is_member v xs) (is_member v (concat lists)) (sym (is_member-append v xs (concat lists)) ∙ m)) [
  | inl here ↦ (let one : indicator (is_member v xs) ≡ 1 = rw here in omega (arith, one))
  | inr later ↦ (let some = multiplicity-concat v lists later in omega (arith, some))
]

multiplicity-none : (v : ℕ) (lists : List (List ℕ)) → is_member v (concat lists) ≡ false → multiplicity v lists ≡ 0
unfolding multiplicity
multiplicity-none v [] m = refl
multiplicity-none v (xs ∷ lists) m =
    let p = or_parts (is_member v xs) (is_member v (concat lists)) (sym (is_member-append v xs (concat lists)) ∙ m) in
    let none : indicator (is_member v xs) ≡ 0 = rw p.0 in
    omega (arith, none, multiplicity-none v lists p.1)

-- what is in the first is in none of the others
pub AreDisjoint-first : (xs : List ℕ) (lists : List (List ℕ)) → AreDisjoint (xs ∷ lists) → (v : ℕ) → is_member v xs ≡ true
    → is_member v (concat lists) ≡ false
unfolding multiplicity
AreDisjoint-first xs lists apart v m = false_from_ne_true _ (λ k.
    let once = apart.once v in
    let one : indicator (is_member v xs) ≡ 1 = rw m in
    let more = multiplicity-concat v lists k in
    absurd (omega (arith, one)))

-- lists without repetition all together
pub AreDisjoint-distinct : (lists : List (List ℕ)) → AreDistinct (concat lists) → AreDisjoint lists
unfolding multiplicity
AreDisjoint-distinct [] d = record { once = λ v. omega arith }
AreDisjoint-distinct (xs ∷ lists) d = record {
  once = λ v. elim (cases_Bool (is_member v xs)) [
    | inl here ↦ (let one : indicator (is_member v xs) ≡ 1 = rw here in
        omega (arith, one, multiplicity-none v lists (AreDistinct-apart xs (concat lists) v d here)))
    | inr not_here ↦ (let none : indicator (is_member v xs) ≡ 0 = rw not_here in
        omega (arith, none, (AreDisjoint-distinct lists (AreDistinct-rest xs (concat lists) d)).once v))
  ];
}
