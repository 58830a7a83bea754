-- The first failure of joined lists of clauses, and of a clause for each element.
use Rattle.mat_check.proofs.Common.{◌≡◌, ℕ, zero, suc, ◌+◌, ◌<◌, ◌⊎◌, true, false, List, [], ◌∷◌, ◌++◌, map, Some, None, inl, inr, refl, sym, subst, ap, ◌∙◌, arith, cases_Bool, cond-true, cond-false, none-some, all_below, map-all_below_more, map-all_below_none, Clause, Failure, first_failure}

pub first_of_holding : (clause : Clause) (clauses : List Clause) → clause.holds ≡ true
    → first_failure (clause ∷ clauses) ≡ first_failure clauses
first_of_holding clause clauses h = cond-true clause.holds (first_failure clauses) (Some clause.failure) h

pub first_of_failing : (clause : Clause) (clauses : List Clause) → clause.holds ≡ false
    → first_failure (clause ∷ clauses) ≡ Some clause.failure
first_of_failing clause clauses h = cond-false clause.holds (first_failure clauses) (Some clause.failure) h

-- ---- joined lists of clauses

pub first_in_back : (front back : List Clause) → first_failure front ≡ None → first_failure (front ++ back) ≡ first_failure back
first_in_back [] back none = refl
first_in_back (clause ∷ front) back none = elim (cases_Bool clause.holds) [
  | inl h ↦ first_of_holding clause (front ++ back) h ∙ first_in_back front back (sym (first_of_holding clause front h) ∙ none)
  | inr h ↦ absurd (none-some clause.failure (sym none ∙ first_of_failing clause front h))
]

pub first_in_front : (front back : List Clause) (failure : Failure) → first_failure front ≡ Some failure
    → first_failure (front ++ back) ≡ Some failure
first_in_front [] back failure found = absurd (none-some failure found)
first_in_front (clause ∷ front) back failure found = elim (cases_Bool clause.holds) [
  | inl h ↦
      first_of_holding clause (front ++ back) h ∙ first_in_front front back failure (sym (first_of_holding clause front h) ∙ found)
  | inr h ↦ first_of_failing clause (front ++ back) h ∙ sym (first_of_failing clause front h) ∙ found
]

lt_or_same : (e n : ℕ) → e < suc n → (e < n) ⊎ (e ≡ n)
lt_or_same e n small = grind (arith, small)

-- ---- a clause for each element below n

module _ (clause_of : ℕ → Clause) where
  one_more : (n : ℕ) → map clause_of (all_below (n + 1)) ≡ map clause_of (all_below n) ++ clause_of n ∷ []
  one_more n = map-all_below_more clause_of n

  one_more_suc : (n : ℕ) → map clause_of (all_below (suc n)) ≡ map clause_of (all_below n) ++ clause_of n ∷ []
  one_more_suc n =
      let next : suc n ≡ n + 1 = omega arith in
      ap (λ m. map clause_of (all_below m)) next ∙ one_more n

  pub none_below_none : first_failure (map clause_of (all_below 0)) ≡ None
  none_below_none = ap first_failure (map-all_below_none clause_of)

  pub none_below : (n : ℕ) → ((e : ℕ) → e < n → (clause_of e).holds ≡ true) → first_failure (map clause_of (all_below n)) ≡ None
  none_below zero all = none_below_none
  none_below (suc n) all =
      ap first_failure (one_more_suc n)
      ∙ first_in_back (map clause_of (all_below n)) (clause_of n ∷ []) (none_below n (λ e l. all e (omega (arith, l))))
      ∙ first_of_holding (clause_of n) [] (all n (omega arith))

  pub none_below_next : (e : ℕ) → first_failure (map clause_of (all_below e)) ≡ None → (clause_of e).holds ≡ true
      → first_failure (map clause_of (all_below (e + 1))) ≡ None
  none_below_next e none h =
      ap first_failure (one_more e) ∙ first_in_back (map clause_of (all_below e)) (clause_of e ∷ []) none
      ∙ first_of_holding (clause_of e) [] h

  pub first_below : (n e : ℕ) → e < n → first_failure (map clause_of (all_below e)) ≡ None → (clause_of e).holds ≡ false
      → first_failure (map clause_of (all_below n)) ≡ Some (clause_of e).failure
  first_below zero e small none h = absurd (omega (arith, small))
  first_below (suc n) e small none h = elim (lt_or_same e n small) [
    | inl before ↦ ap first_failure (one_more_suc n)
        ∙ first_in_front (map clause_of (all_below n)) (clause_of n ∷ []) (clause_of e).failure (first_below n e before none h)
    | inr same ↦
        let here : first_failure (map clause_of (all_below n)) ≡ None
        = subst (λ m. first_failure (map clause_of (all_below m)) ≡ None) same none in
        let fails : (clause_of n).holds ≡ false = subst (λ m. (clause_of m).holds ≡ false) same h in
        ap first_failure (one_more_suc n) ∙ first_in_back (map clause_of (all_below n)) (clause_of n ∷ []) here
        ∙ first_of_failing (clause_of n) [] fails ∙ ap (λ m. Some (clause_of m).failure) (sym same)
  ]
