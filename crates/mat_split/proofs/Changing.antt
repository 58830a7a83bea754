-- The set along a path: after each vertex it is the one that is exchanged along the part of the path so far.
use Rattle.mat_split.proofs.Common.{◌≡◌, ℕ, ◌+◌, ◌<◌, Bool, true, false, ◌||◌, ◌&&◌, not, eqb, List, [], length, get_or, take, refl, sym, subst, arith, eqb-true, is_member, minus, with_one, without_one, IsRising, exchanged_along, is_member-exchanged_along}
use Rattle.std.proofs.lemmas.Bool.{both_ways}
use Rattle.mat_sets.proofs.Members.{same_members, is_member-with_one, is_member-without_one, IsRising-with_one, IsRising-without_one, IsRising-union, IsRising-minus}
use Rattle.mat_sets.proofs.Steps.{is_member-take_more}

pub IsRising-exchanged_along : (I path : List ℕ) → IsRising I → IsRising (exchanged_along I path)
IsRising-exchanged_along I path r = IsRising-union (minus path I) (minus I path) (IsRising-minus I path r)

-- whether an element is in the set, by whether it stood on the path so far, is a member, and is the next vertex
taken : (so_far member here : Bool) → (here ≡ true → member ≡ true)
    → (((so_far && not member) || (member && not so_far)) && not here)
    ≡ (((so_far || here) && not member) || (member && not (so_far || here)))
taken true true true h = refl
taken true true false h = refl
taken true false true h = absurd (both_ways _ refl (h refl))
taken true false false h = refl
taken false true true h = refl
taken false true false h = refl
taken false false true h = absurd (both_ways _ refl (h refl))
taken false false false h = refl

added : (so_far member here : Bool) → (here ≡ true → member ≡ false)
    → (here || ((so_far && not member) || (member && not so_far)))
    ≡ (((so_far || here) && not member) || (member && not (so_far || here)))
added true true true h = absurd (both_ways _ (h refl) refl)
added true true false h = refl
added true false true h = refl
added true false false h = refl
added false true true h = absurd (both_ways _ (h refl) refl)
added false true false h = refl
added false false true h = refl
added false false false h = refl

-- along no path nothing is exchanged
pub exchanged_along_none : (I : List ℕ) → IsRising I → I ≡ exchanged_along I []
exchanged_along_none I r = same_members I (exchanged_along I []) r (IsRising-exchanged_along I [] r)
    (λ z. (let a = is_member-exchanged_along z I [] in grind arith))

module _ (I path : List ℕ) (i x : ℕ) (r : IsRising I) (l : i < length path) (at : x ≡ get_or path i 0) where
  abbrev pub next : List ℕ
  next = exchanged_along I (take (i + 1) path)

  on_path : (z : ℕ) → is_member z (take (i + 1) path) ≡ (is_member z (take i path) || eqb z x)
  on_path z = rw at (is_member-take_more path i z l)

  abbrev before : List ℕ
  before = exchanged_along I (take i path)

  rising : IsRising before
  rising = IsRising-exchanged_along I (take i path) r

  is_next : (set : List ℕ) → IsRising set
      → ((z : ℕ) → is_member z set
      ≡ (((is_member z (take i path) || eqb z x) && not (is_member z I)) || (is_member z I && not (is_member z (take i path) || eqb z x))))
      → set ≡ next
  is_next set rises agree = same_members set next rises (IsRising-exchanged_along I (take (i + 1) path) r)
      (λ z. rw (is_member-exchanged_along z I (take (i + 1) path), on_path z) (agree z))

  -- a vertex that is a member is taken out
  pub exchanged_along_member : is_member x I ≡ true → without_one before x ≡ next
  exchanged_along_member inside = is_next (without_one before x) (IsRising-without_one before x rising)
      (λ z. rw (is_member-without_one z x before, is_member-exchanged_along z I (take i path))
      (taken (is_member z (take i path)) (is_member z I) (eqb z x) (λ e. subst (λ v. is_member v I ≡ true) (sym (eqb-true z x e)) inside)))

  -- and each other one is added
  pub exchanged_along_other : is_member x I ≡ false → with_one before x ≡ next
  exchanged_along_other outside = is_next (with_one before x) (IsRising-with_one before x rising)
      (λ z. rw (is_member-with_one z x before, is_member-exchanged_along z I (take i path))
      (added (is_member z (take i path)) (is_member z I) (eqb z x) (λ e. subst (λ v. is_member v I ≡ false) (sym (eqb-true z x e)) outside)))
