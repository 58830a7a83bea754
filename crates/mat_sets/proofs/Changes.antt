-- Sets after one member more or less, in any order.
use Rattle.mat_sets.proofs.Common.{◌≡◌, ℕ, ◌<◌, true, false, eqb, List, arith, is_member, IsRising, IsSubset, AllBelow, with_one, without_one}
use Rattle.mat_sets.proofs.Members.{set_members, same_members, IsRising-with_one, IsRising-without_one}
use Rattle.mat_sets.proofs.Ground.{AllBelow-member, AllBelow-from_members}

-- two members more, in either order
pub with_one-swapped : (a : List ℕ) (x y : ℕ) → IsRising a → with_one (with_one a y) x ≡ with_one (with_one a x) y
with_one-swapped a x y r =
    same_members _ _ (IsRising-with_one _ x (IsRising-with_one a y r)) (IsRising-with_one _ y (IsRising-with_one a x r)) (λ k. grind (arith, set_members))

-- taken out and put back
pub with_one-returned : (a : List ℕ) (x : ℕ) → IsRising a → is_member x a ≡ true → with_one (without_one a x) x ≡ a
with_one-returned a x r m = same_members _ _ (IsRising-with_one _ x (IsRising-without_one a x r)) r (λ k. grind (arith, set_members))

-- put in and taken out
pub without_one-added : (a : List ℕ) (x : ℕ) → IsRising a → is_member x a ≡ false → without_one (with_one a x) x ≡ a
without_one-added a x r m = same_members _ _ (IsRising-without_one _ x (IsRising-with_one a x r)) r (λ k. grind (arith, set_members))

-- a - y is a - x - y + x
pub without_one-two : (a : List ℕ) (x y : ℕ) → IsRising a → is_member x a ≡ true → eqb y x ≡ false
    → without_one a y ≡ with_one (without_one (without_one a x) y) x
without_one-two a x y r m differ =
    same_members _ _ (IsRising-without_one a y r) (IsRising-with_one _ x (IsRising-without_one _ y (IsRising-without_one a x r))) (λ k. grind (arith, set_members))

pub without_one-with_one : (a : List ℕ) (x y : ℕ) → IsRising a → eqb x y ≡ false
    → without_one (with_one a x) y ≡ with_one (without_one a y) x
without_one-with_one a x y r differ =
    same_members _ _ (IsRising-without_one _ y (IsRising-with_one a x r)) (IsRising-with_one _ x (IsRising-without_one a y r)) (λ k. grind (arith, set_members))

-- one more member on both sides of an inclusion
pub with_one-both : (a b : List ℕ) (x : ℕ) → IsSubset a b → IsSubset (with_one a x) (with_one b x)
with_one-both a b x s = record { inside = λ k m. grind (arith, set_members, s.inside k) }

pub AllBelow-with_one : (n : ℕ) (a : List ℕ) (x : ℕ) → AllBelow n a → x < n → AllBelow n (with_one a x)
AllBelow-with_one n a x b l = AllBelow-from_members n _ (λ k m. at k m)
  where
    at : (k : ℕ) → is_member k (with_one a x) ≡ true → k < n
    at k m = let h = AllBelow-member n a k b in grind (arith, set_members)

-- for `using(mat_sets::proofs::Changes::set_changes)`
pub ruleset set_changes = (without_one-added, with_one-returned, AllBelow-with_one)
