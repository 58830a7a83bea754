-- The members of a set with one element more: that element, and those from before.
use Rattle.mat_exchange.proofs.Common.{◌≡◌, ◌≢◌, ℕ, true, ◌||◌, eqb, List, ◌⊎◌, inl, inr, sym, ap, ◌∙◌, or_cases, or_left, or_right, eqb-true, eq-eqb, ne_eqb, is_member, with_one, is_member-with_one}

pub kept_member : (x v : ℕ) (R : List ℕ) → is_member v R ≡ true → is_member v (with_one R x) ≡ true
kept_member x v R m = is_member-with_one v x R ∙ or_right (eqb v x) (is_member v R) m

pub new_member : (x v : ℕ) (R : List ℕ) → v ≡ x → is_member v (with_one R x) ≡ true
new_member x v R e = is_member-with_one v x R ∙ or_left (eqb v x) (is_member v R) (eq-eqb v x e)

pub other_member : (x v : ℕ) (R : List ℕ) → v ≢ x → is_member v (with_one R x) ≡ is_member v R
other_member x v R d = is_member-with_one v x R ∙ ap (λ b. b || is_member v R) (ne_eqb v x d)

pub new_or_kept : (x v : ℕ) (R : List ℕ) → is_member v (with_one R x) ≡ true → (v ≡ x) ⊎ (is_member v R ≡ true)
new_or_kept x v R m = elim (or_cases (eqb v x) (is_member v R) (sym (is_member-with_one v x R) ∙ m)) [
  | inl e ↦ inl (eqb-true v x e)
  | inr k ↦ inr k
]
