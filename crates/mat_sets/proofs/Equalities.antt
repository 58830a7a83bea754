-- Equations of two or three sets, each by its members. Those of one set and single elements stand in Changes.
use Rattle.mat_sets.proofs.Common.{List, arith, ℕ, ◌≡◌, IsRising, IsSubset, intersection, minus, union, with_one}
use Rattle.mat_sets.proofs.Members.{IsRising-intersection, IsRising-minus, IsRising-union, IsRising-with_one, same_members, set_members}

-- ---- two sets

pub union-commute : (a b : List ℕ) → IsRising a → IsRising b → union a b ≡ union b a
union-commute a b r s = same_members _ _ (IsRising-union a b s) (IsRising-union b a r) (λ k. grind (arith, set_members))

pub intersection-commute : (a b : List ℕ) → IsRising a → IsRising b → intersection a b ≡ intersection b a
intersection-commute a b r s = same_members _ _ (IsRising-intersection a b r) (IsRising-intersection b a s) (λ k. grind (arith, set_members))

pub union-with_one : (a b : List ℕ) (x : ℕ) → IsRising b → union a (with_one b x) ≡ with_one (union a b) x
union-with_one a b x s = same_members _ _ (IsRising-union a _ (IsRising-with_one b x s)) (IsRising-with_one _ x (IsRising-union a b s)) (λ k. grind (arith, set_members))

-- ---- subsets

pub intersection-subset : (a b : List ℕ) → IsRising a → IsSubset a b → intersection a b ≡ a
intersection-subset a b r h = same_members _ _ (IsRising-intersection a b r) r (λ k. grind (arith, set_members, h.inside k))

pub union-minus : (a b : List ℕ) → IsRising a → IsRising b → IsSubset b a → union b (minus a b) ≡ a
union-minus a b r s h = same_members _ _ (IsRising-union b _ (IsRising-minus a b r)) r (λ k. grind (arith, set_members, h.inside k))
