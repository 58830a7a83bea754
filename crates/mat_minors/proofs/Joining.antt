-- Sets that lie in what a restriction keeps, or share no member with what a contraction contracts: only these can be independent.
use Rattle.mat_minors.proofs.Common.{◌≡◌, ℕ, Bool, false, ◌&&◌, List, [], sym, ap, ◌∙◌, and_parts, false_from_ne_true, IsRising, IsSubset, intersection, inside_test, inside_test_from, and_all, is_contracted, is_restricted, contraction-gives}

-- a set of elements that are kept is independent in the restriction where it is so in the matroid
pub restricted_inside : (p : List ℕ → Bool) (kept X : List ℕ) → IsSubset X kept → p X ≡ is_restricted kept p X
restricted_inside p kept X inside = sym (ap (λ b. p X && b) (inside_test_from X kept inside) ∙ and_all (p X))

-- and one with another element is not
pub dependent_outside : (p : List ℕ → Bool) (kept X : List ℕ) → (IsSubset X kept → ⊥) → is_restricted kept p X ≡ false
dependent_outside p kept X leaves = false_from_ne_true _ (λ h. leaves (inside_test X kept (and_parts (p X) _ h).1))

-- a set that is not disjoint from the contracted elements is not independent in the contraction
pub dependent_where_met : (n : ℕ) (p : List ℕ → Bool) (away X : List ℕ) → IsRising away → (intersection X away ≡ [] → ⊥)
    → is_contracted n away p X ≡ false
dependent_where_met n p away X r met = false_from_ne_true _ (λ h. met (contraction-gives n p away X r h).disjoint)
