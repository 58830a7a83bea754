-- A greedy run, element after element: what is left of the order leads from the set so far to the set in the end.
use Rattle.mat_laws.proofs.Common.{◌≡◌, ℕ, ◌+◌, ◌<◌, ◌≤◌, Bool, true, false, not, ◌&&◌, if◌then◌else◌, List, [], ◌∷◌, length, get_or, drop, refl, sym, ap, ◌∙◌, and_parts, drop_all, drop_more, is_member, with_one, grown_along}

-- the set has come from the empty set over the first i elements of the order
pub record IsRunning (p : List ℕ → Bool) (order : List ℕ) (i : ℕ) (set : List ℕ) : Type 0 where
  pub passes : p set ≡ true
  pub rest : grown_along p set (drop i order) ≡ grown_along p [] order

pub IsRunning-start : (p : List ℕ → Bool) (order set : List ℕ) → p [] ≡ true → set ≡ [] → IsRunning p order 0 set
IsRunning-start p order set ok same = rw same (record { passes = ok; rest = refl })

stays : (p : List ℕ → Bool) (set : List ℕ) (x : ℕ) → p set ≡ true → (b : Bool) → b ≡ (not (is_member x set) && p (with_one set x))
    → p (if b then with_one set x else set) ≡ true
stays p set x ok true e = (and_parts (not (is_member x set)) (p (with_one set x)) (sym e)).1
stays p set x ok false e = ok

-- one turn of the loop
pub IsRunning-next : (p : List ℕ → Bool) (order set : List ℕ) (i x : ℕ) → i < length order → x ≡ get_or order i 0
    → IsRunning p order i set
    → (added : Bool) (set' : List ℕ) → added ≡ (not (is_member x set) && p (with_one set x))
    → set' ≡ (if added then with_one set x else set) → IsRunning p order (i + 1) set'
IsRunning-next p order set i x l at r added set' told is = rw is (record {
  passes = stays p set x r.passes added told;
  rest = ap (λ b. grown_along p (if b then with_one set x else set) (drop (i + 1) order)) told
      ∙ ap (λ xs. grown_along p set xs) (ap (λ y. y ∷ drop (i + 1) order) at ∙ sym (drop_more order i 0 l)) ∙ r.rest;
})

pub IsRunning-end : (p : List ℕ → Bool) (order set : List ℕ) (i : ℕ) → length order ≤ i → IsRunning p order i set
    → set ≡ grown_along p [] order
IsRunning-end p order set i l r = ap (grown_along p set) (sym (drop_all i order l)) ∙ r.rest
