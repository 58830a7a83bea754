-- A set that grows to one that holds it, by the other members of that one after the other; and what two sets have in common.
use Rattle.mat_linked.proofs.Common.{◌≡◌, ℕ, ◌+◌, ◌<◌, ◌≤◌, true, false, List, length, get_or, take, sym, ap, ◌∙◌, arith, or_from, take_all, intersection, is_member, minus, union, with_one, IsRising, IsSubset, minus_parts, is_member-get_or, is_member-union, same_members, set_members}
use Rattle.mat_linked.proofs.Common.{IsRising-intersection, IsRising-minus, IsRising-union, is_member-take_next, union-more, union-none, IsRising-take, union-IsSubset, with_one-IsSubset}
use Rattle.mat_sets.proofs.Equalities.{union-minus}
use Rattle.mat_linked.proofs.MatchableSets.{take_inside}

pub minus-minus : (a b : List ℕ) → IsRising a → minus a (minus a b) ≡ intersection a b
minus-minus a b r = same_members _ _ (IsRising-minus a (minus a b) r) (IsRising-intersection a b r) (λ k. grind (arith, set_members))

-- what is new beside the common members
pub new_beside_common : (a b : List ℕ) → IsRising b → minus b a ≡ minus b (intersection a b)
new_beside_common a b r =
    same_members _ _ (IsRising-minus b a r) (IsRising-minus b (intersection a b) r) (λ k. grind (arith, set_members))

module _ (base next more : List ℕ) (holds : IsSubset base next) (rises : IsRising base) (rises_next : IsRising next) (is : more ≡ minus next base) where
  rises_more : IsRising more
  rises_more = rw is (IsRising-minus next base rises_next)

  pub none_more : base ≡ union base (take 0 more)
  none_more = sym (union-none base rises)

  pub all_more : (i : ℕ) → length more ≤ i → union base (take i more) ≡ next
  all_more i past = ap (union base) (take_all i more past ∙ is) ∙ union-minus next base rises_next rises holds

  module _ (i x : ℕ) (inside : i < length more) (at : x ≡ get_or more i 0) where
    abbrev so_far : List ℕ
    so_far = union base (take i more)

    is_new_of_next : (k : ℕ) → is_member k more ≡ true → (is_member k next ≡ true) × (is_member k base ≡ false)
    is_new_of_next k m = minus_parts next base k (sym (ap (is_member k) is) ∙ m)

    is_more : is_member x more ≡ true
    is_more = is_member-get_or more i x inside (sym at)

    pub in_next : is_member x next ≡ true
    in_next = (is_new_of_next x is_more).0

    pub rises_so_far : IsRising so_far
    rises_so_far = IsRising-union base (take i more) (IsRising-take more i rises_more)

    pub so_far_in_next : IsSubset so_far next
    so_far_in_next =
        union-IsSubset base (take i more) next holds (record { inside = λ k m. (is_new_of_next k (take_inside more i k m)).0 })

    pub one_more_in_next : IsSubset (with_one so_far x) next
    one_more_in_next = with_one-IsSubset so_far next x so_far_in_next in_next

    pub is_new : is_member x so_far ≡ false
    is_new =
        is_member-union x base (take i more)
        ∙ or_from (is_member x base) (is_member x (take i more)) (is_new_of_next x is_more).1
        (ap (λ k. is_member k (take i more)) at ∙ is_member-take_next more i rises_more inside)

    pub one_more : with_one so_far x ≡ union base (take (i + 1) more)
    one_more = ap (with_one so_far) at ∙ sym (union-more base more i rises rises_more inside)
