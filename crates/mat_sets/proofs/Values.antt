-- The values of the numbers below a bound that pass a test, put into a set one number after the other.
use Rattle.mat_sets.proofs.Common.{◌≡◌, ℕ, ◌+◌, Bool, true, false, ◌&&◌, ◌||◌, eqb, List, [], sym, ap, ◌∙◌, some_below, is_member, with_one}
use Rattle.mat_sets.proofs.Members.{is_member-with_one}
use Rattle.mat_sets.proofs.Search.{some_below-more, some_below-zero}

module _ (test : ℕ → Bool) (value : ℕ → ℕ) where
  -- the members are the values of the numbers below n that pass
  pub record AreValuesBelow (n : ℕ) (set : List ℕ) : Type 0 where
    pub members : (x : ℕ) → is_member x set ≡ some_below n (λ k. test k && eqb x (value k))

  -- number n adds its value where it passes
  value_more : (n x : ℕ) (b : Bool) → test n ≡ b
      → ((b && eqb x (value n)) || some_below n (λ k. test k && eqb x (value k))) ≡ some_below (n + 1) (λ k. test k && eqb x (value k))
  value_more n x b is = ap (λ a. (a && eqb x (value n)) || some_below n (λ k. test k && eqb x (value k))) (sym is)
      ∙ sym (some_below-more n (λ k. test k && eqb x (value k)))

  pub AreValuesBelow-start : AreValuesBelow 0 []
  AreValuesBelow-start = record { members = λ x. sym (some_below-zero (λ k. test k && eqb x (value k))) }

  pub AreValuesBelow-put : (n : ℕ) (set new : List ℕ) → AreValuesBelow n set → new ≡ with_one set (value n) → test n ≡ true
      → AreValuesBelow (n + 1) new
  AreValuesBelow-put n set new before put passes = record {
    members = λ x. ap (is_member x) put ∙ is_member-with_one x (value n) set ∙ ap (λ b. eqb x (value n) || b) (before.members x)
        ∙ value_more n x true passes;
  }

  pub AreValuesBelow-skip : (n : ℕ) (set new : List ℕ) → AreValuesBelow n set → new ≡ set → test n ≡ false → AreValuesBelow (n + 1) new
  AreValuesBelow-skip n set new before same fails = record {
    members = λ x. ap (is_member x) same ∙ before.members x ∙ value_more n x false fails;
  }
