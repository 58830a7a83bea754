-- The first failure of clauses in three parts, and of clauses that end in one more.
use Rattle.mat_check.proofs.Common.{◌≡◌, true, false, List, [], ◌∷◌, ◌++◌, Some, None, sym, ◌∙◌, Clause, Failure, first_failure}
use Rattle.mat_check.proofs.FailingClauses.{first_in_back, first_in_front, first_of_failing, first_of_holding}

module _ (first second third : List Clause) where
  pub in_first : (failure : Failure) → first_failure first ≡ Some failure → Some failure ≡ first_failure (first ++ second ++ third)
  in_first failure found = sym (first_in_front (first ++ second) third failure (first_in_front first second failure found))

  pub in_second : (failure : Failure) → first_failure first ≡ None → first_failure second ≡ Some failure
      → Some failure ≡ first_failure (first ++ second ++ third)
  in_second failure none found = sym (first_in_front (first ++ second) third failure (first_in_back first second none ∙ found))

  pub in_third : first_failure first ≡ None → first_failure second ≡ None → first_failure third ≡ first_failure (first ++ second ++ third)
  in_third none nothing = sym (first_in_back (first ++ second) third (first_in_back first second none ∙ nothing))

-- the third part begins with a clause that is told
module _ (first second : List Clause) (clause : Clause) (rest : List Clause) (none : first_failure first ≡ None)
    (nothing : first_failure second ≡ None) where
  pub third_fails : clause.holds ≡ false → Some clause.failure ≡ first_failure (first ++ second ++ clause ∷ rest)
  third_fails h = sym (first_of_failing clause rest h) ∙ in_third first second (clause ∷ rest) none nothing

  pub third_begins : clause.holds ≡ true → first_failure rest ≡ first_failure (first ++ second ++ clause ∷ rest)
  third_begins h = sym (first_of_holding clause rest h) ∙ in_third first second (clause ∷ rest) none nothing

-- the last clause is told
module _ (front : List Clause) (end : Clause) (none : first_failure front ≡ None) where
  pub end_fails : end.holds ≡ false → Some end.failure ≡ first_failure (front ++ end ∷ [])
  end_fails h = sym (first_in_back front (end ∷ []) none ∙ first_of_failing end [] h)

  pub end_holds : end.holds ≡ true → None ≡ first_failure (front ++ end ∷ [])
  end_holds h = sym (first_in_back front (end ∷ []) none ∙ first_of_holding end [] h)
