-- No clause fails exactly where all hold, clause by clause and rung by rung.
use Rattle.mat_check.proofs.Common.{◌≡◌, ℕ, zero, suc, ◌+◌, true, List, [], ◌∷◌, ◌++◌, map, Some, None, slice_get, eqb, inl, inr, refl, sym, subst, ◌∙◌, arith, cases_Bool, cond-true, cond-false, eqb-true, or_cases, or_right, none-some, same_Some, is_member, is_member-head, Clause, first_failure}
use Rattle.mat_check.proofs.Common.{numbered_clauses}

-- each clause holds
abbrev pub AllHold : List Clause → Type 0
AllHold [] = Unit {0}
AllHold (clause ∷ clauses) = (clause.holds ≡ true) × AllHold clauses

-- ---- the first that fails

pub all_hold : (clauses : List Clause) → first_failure clauses ≡ None → AllHold clauses
all_hold [] e = tt
all_hold (clause ∷ clauses) e = elim (cases_Bool clause.holds) [
  | inl h ↦ (h, all_hold clauses (sym (cond-true clause.holds (first_failure clauses) (Some clause.failure) h) ∙ e))
  | inr h ↦ absurd (none-some clause.failure (sym e ∙ cond-false clause.holds (first_failure clauses) (Some clause.failure) h))
]

pub none_fails : (clauses : List Clause) → AllHold clauses → first_failure clauses ≡ None
none_fails [] h = refl
none_fails (clause ∷ clauses) h =
    cond-true clause.holds (first_failure clauses) (Some clause.failure) h.0 ∙ none_fails clauses h.1

-- ---- joined lists of clauses

pub AllHold-append : (front back : List Clause) → AllHold front → AllHold back → AllHold (front ++ back)
AllHold-append [] back f b = b
AllHold-append (clause ∷ front) back f b = (f.0, AllHold-append front back f.1 b)

pub AllHold-front : (front back : List Clause) → AllHold (front ++ back) → AllHold front
AllHold-front [] back h = tt
AllHold-front (clause ∷ front) back h = (h.0, AllHold-front front back h.1)

pub AllHold-back : (front back : List Clause) → AllHold (front ++ back) → AllHold back
AllHold-back [] back h = h
AllHold-back (clause ∷ front) back h = AllHold-back front back h.1

-- ---- a clause for each member of a set

pub AllHold-map : (clause_of : ℕ → Clause) (xs : List ℕ) → ((x : ℕ) → is_member x xs ≡ true → (clause_of x).holds ≡ true)
    → AllHold (map clause_of xs)
AllHold-map clause_of [] h = tt
AllHold-map clause_of (x ∷ xs) h =
    (h x (is_member-head x xs), AllHold-map clause_of xs (λ y m. h y (or_right (eqb y x) (is_member y xs) m)))

pub AllHold-at : (clause_of : ℕ → Clause) (xs : List ℕ) → AllHold (map clause_of xs) → (x : ℕ) → is_member x xs ≡ true
    → (clause_of x).holds ≡ true
AllHold-at clause_of [] h x m = absurd (grind arith)
AllHold-at clause_of (y ∷ xs) h x m = elim (or_cases (eqb x y) (is_member x xs) m) [
  | inl e ↦ subst (λ z. (clause_of z).holds ≡ true) (sym (eqb-true x y e)) h.0
  | inr k ↦ AllHold-at clause_of xs h.1 x k
]

-- ---- the clauses of the rungs from rung k on

module _ {R : Type 0} (clauses_of_rung : ℕ → R → List Clause) where
  pub rung_holds : (k : ℕ) (rungs : List R) → AllHold (numbered_clauses clauses_of_rung k rungs)
      → (j : ℕ) (rung : R) → slice_get rungs j ≡ Some rung → AllHold (clauses_of_rung (k + j) rung)
  rung_holds k [] h j rung at = absurd (none-some rung at)
  rung_holds k (first ∷ rungs) h zero rung at =
      let here = AllHold-front (clauses_of_rung k first) (numbered_clauses clauses_of_rung (suc k) rungs) h in
      let same : k ≡ k + 0 = omega arith in
      subst (λ m. AllHold (clauses_of_rung m rung)) same
      (subst (λ r. AllHold (clauses_of_rung k r)) (same_Some first rung at) here)
  rung_holds k (first ∷ rungs) h (suc j) rung at =
      let after = AllHold-back (clauses_of_rung k first) (numbered_clauses clauses_of_rung (suc k) rungs) h in
      let same : suc k + j ≡ k + suc j = omega arith in
      subst (λ m. AllHold (clauses_of_rung m rung)) same (rung_holds (suc k) rungs after j rung at)

  pub rungs_hold : (k : ℕ) (rungs : List R)
      → ((j : ℕ) (rung : R) → slice_get rungs j ≡ Some rung → AllHold (clauses_of_rung (k + j) rung))
      → AllHold (numbered_clauses clauses_of_rung k rungs)
  rungs_hold k [] each = tt
  rungs_hold k (first ∷ rungs) each =
      let start : k + 0 ≡ k = omega arith in
      AllHold-append (clauses_of_rung k first) (numbered_clauses clauses_of_rung (suc k) rungs)
      (subst (λ m. AllHold (clauses_of_rung m first)) start (each 0 first refl))
      (rungs_hold (suc k) rungs (λ j rung at.
      let same : k + suc j ≡ suc k + j = omega arith in
      subst (λ m. AllHold (clauses_of_rung m rung)) same (each (suc j) rung at)))

  -- the same for the rungs from rung 0 on
  pub each_rung_holds : (rungs : List R) → AllHold (numbered_clauses clauses_of_rung 0 rungs)
      → (k : ℕ) (rung : R) → slice_get rungs k ≡ Some rung → AllHold (clauses_of_rung k rung)
  each_rung_holds rungs h k rung at =
      let same : 0 + k ≡ k = omega arith in
      subst (λ m. AllHold (clauses_of_rung m rung)) same (rung_holds 0 rungs h k rung at)

  pub all_rungs_hold : (rungs : List R) → ((k : ℕ) (rung : R) → slice_get rungs k ≡ Some rung → AllHold (clauses_of_rung k rung))
      → AllHold (numbered_clauses clauses_of_rung 0 rungs)
  all_rungs_hold rungs each =
      rungs_hold 0 rungs (λ k rung at.
      let same : k ≡ 0 + k = omega arith in
      subst (λ m. AllHold (clauses_of_rung m rung)) same (each k rung at))
