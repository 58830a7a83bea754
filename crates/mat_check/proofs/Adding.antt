-- Looking for an element that can be added: the elements are tried in their order, and the set is unchanged until one is found.
use Rattle.mat_check.proofs.Common.{◌≡◌, ℕ, ◌+◌, ◌<◌, Bool, true, false, not, ◌&&◌, List, if◌then◌else◌, sym, ◌∙◌, ap, is_member, with_one, some_below, some_below_from, some_below-next, some_below-zero, has_addable}

-- whether e can be added
abbrev pub can_add : (List ℕ → Bool) → List ℕ → ℕ → Bool
can_add p X e = not (is_member e X) && p (with_one X e)

-- the set is unchanged, and no element below e can be added
pub record IsTrying (p : List ℕ → Bool) (X larger : List ℕ) (e : ℕ) : Type 0 where
  pub same : larger ≡ X
  pub none : some_below e (can_add p X) ≡ false

pub IsTrying-start : (p : List ℕ → Bool) (X larger : List ℕ) → larger ≡ X → IsTrying p X larger 0
IsTrying-start p X larger same = record { same = same; none = some_below-zero (can_add p X) }

module _ (p : List ℕ → Bool) (X larger : List ℕ) (e : ℕ) (trying : IsTrying p X larger e) where
  pub IsTrying-found : (n : ℕ) (added : Bool) → e < n → added ≡ can_add p larger e → added ≡ true → true ≡ has_addable n p X
  IsTrying-found n added small told h =
      let can : can_add p X e ≡ true = ap (λ Y. can_add p Y e) (sym trying.same) ∙ sym told ∙ h in
      sym (some_below_from n e (can_add p X) small can)

  pub IsTrying-next : (next : List ℕ) (added : Bool) → added ≡ can_add p larger e
      → next ≡ (if added then with_one larger e else larger) → added ≡ false → IsTrying p X next (e + 1)
  IsTrying-next next added told set h =
      let can : can_add p X e ≡ false = ap (λ Y. can_add p Y e) (sym trying.same) ∙ sym told ∙ h in
      record {
        same = set ∙ ap (λ b. if b then with_one larger e else larger) h ∙ trying.same;
        none = some_below-next e (can_add p X) can trying.none;
      }
