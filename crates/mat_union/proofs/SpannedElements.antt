-- Elements come among the spanned ones, and a loop takes them out of the unspanned ones.
use Rattle.mat_union.proofs.Common.{◌≡◌, ℕ, ◌+◌, ◌<◌, ◌≤◌, arith, Bool, true, false, not, ◌||◌, ◌&&◌, eqb, List, [], ◌∷◌, length, get_or, take, refl, sym, ap, ◌∙◌, false≢true, is_member, minus, union, with_one, without_one, IsRising, IsSubset, is_member-minus, is_member-union, is_member-with_one}
use Rattle.mat_union.proofs.Common.{is_member-without_one, same_members, IsRising-minus, is_member-take_more, and_neither, or_none}

pub unspanned_none : (b : Bool) (v : ℕ) (xs : List ℕ) → b ≡ (b && not (is_member v (take 0 xs)))
unspanned_none true v xs = refl
unspanned_none false v xs = refl

pub spanned_with : (spanned elements more all : List ℕ) → more ≡ union elements [] → all ≡ union spanned more
    → (v : ℕ) → is_member v all ≡ (is_member v spanned || is_member v elements)
spanned_with spanned elements more all m a v =
    ap (is_member v) a ∙ is_member-union v spanned more
    ∙ ap (λ b. is_member v spanned || b) (ap (is_member v) m ∙ is_member-union v elements [] ∙ or_none (is_member v elements))

only_item : (xs : List ℕ) → 1 ≤ length xs → length xs < 2 → xs ≡ get_or xs 0 0 ∷ []
only_item [] some few = absurd (omega arith)
only_item (x ∷ []) some few = refl
only_item (x ∷ y ∷ xs) some few = absurd (omega arith)

-- one element alone
pub spanned_with_one : (spanned all elements : List ℕ) → 1 ≤ length elements → length elements < 2 → all ≡ with_one spanned (get_or elements 0 0)
    → (v : ℕ) → is_member v all ≡ (is_member v spanned || is_member v elements)
spanned_with_one spanned all elements some few a v =
    let x = get_or elements 0 0 in
    ap (is_member v) a ∙ is_member-with_one v x spanned ∙ swapped (eqb v x) (is_member v spanned)
    ∙ ap (λ s. is_member v spanned || is_member v s) (sym (only_item elements some few))
  where
    swapped : (a b : Bool) → (a || b) ≡ (b || (a || false))
    swapped true true = refl
    swapped true false = refl
    swapped false true = refl
    swapped false false = refl

pub unspanned_without_one : (unspanned left elements : List ℕ) → 1 ≤ length elements → length elements < 2
    → left ≡ without_one unspanned (get_or elements 0 0)
    → (v : ℕ) → is_member v left ≡ (is_member v unspanned && not (is_member v elements))
unspanned_without_one unspanned left elements some few l v =
    let x = get_or elements 0 0 in
    ap (is_member v) l ∙ is_member-without_one v x unspanned ∙ ap (λ b. is_member v unspanned && not b) (alone (eqb v x))
    ∙ ap (λ s. is_member v unspanned && not (is_member v s)) (sym (only_item elements some few))
  where
    alone : (a : Bool) → a ≡ (a || false)
    alone true = refl
    alone false = refl

pub unspanned_more : (set set' xs : List ℕ) (i : ℕ) (start : List ℕ) → i < length xs → set' ≡ without_one set (get_or xs i 0)
    → ((v : ℕ) → is_member v set ≡ (is_member v start && not (is_member v (take i xs)))) → (v : ℕ) → is_member v set' ≡ (is_member v start && not (is_member v (take (i + 1) xs)))
unspanned_more set set' xs i start l e before v = ap (is_member v) e ∙ is_member-without_one v (get_or xs i 0) set ∙ ap (λ b. b && not (eqb v (get_or xs i 0))) (before v)
    ∙ and_neither (is_member v start) (is_member v (take i xs)) (eqb v (get_or xs i 0)) ∙ ap (λ b. is_member v start && not b) (sym (is_member-take_more xs i v l))

-- a set and the elements of the parts have the same members outside the spanned ones, where each member of the set is in a part or spanned
pub same_outside : (F S spanned : List ℕ) → IsRising F → IsRising S → IsSubset S F → ((v : ℕ) → is_member v F ≡ true → (is_member v S || is_member v spanned) ≡ true)
    → minus F spanned ≡ minus S spanned
same_outside F S spanned rf rs inside all = same_members _ _ (IsRising-minus F spanned rf) (IsRising-minus S spanned rs) (λ v. is_member-minus v F spanned
    ∙ outside (is_member v F) (is_member v S) (is_member v spanned) (inside.inside v) (all v) ∙ sym (is_member-minus v S spanned))
  where
    outside : (f s e : Bool) → (s ≡ true → f ≡ true) → (f ≡ true → (s || e) ≡ true) → (f && not e) ≡ (s && not e)
    outside true true e a b = refl
    outside true false true a b = refl
    outside true false false a b = absurd (false≢true (b refl))
    outside false true e a b = absurd (false≢true (a refl))
    outside false false e a b = refl
