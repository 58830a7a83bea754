-- Weights as single numbers: where the ties of two weights differ by less than the unit, the order of their values is theirs.
-- Idea: a main that is larger by 1 makes the value larger by the unit, which the ties cannot make up for.
use mir.Syntax.{w128}
use Rattle.mat_arbor.proofs.Common.{◌≡◌, ℕ, zero, suc, ◌+◌, ◌%◌, ◌^◌, ◌<◌, List, ◌∷◌, [], ◌++◌, length, get_or, map, take, ℤ, pos, neg_ℤ, ◌+ℤ◌, ◌*ℤ◌, ◌<ℤ◌, ◌≤ℤ◌, sym, ap, ◌∙◌, arith, to_z, of_z, ints, by_lt_z, map_more, div-add-mod', largest_weight, IsWithin, ◌≼◌, Weight, value, weight_of}
use Rattle.std.proofs.Math.IntN.{*ℤ-one, suc_ℤ-*ℤ, zero-*ℤ}

-- ---- products

times_suc : (u : ℕ) (a : ℤ) → pos (suc u) *ℤ a ≡ pos u *ℤ a +ℤ a
times_suc u a = suc_ℤ-*ℤ (pos u) a

pub times_plus : (u : ℕ) (a b : ℤ) → pos u *ℤ (a +ℤ b) ≡ pos u *ℤ a +ℤ pos u *ℤ b
times_plus zero a b = omega (arith, ints, zero-*ℤ (a +ℤ b), zero-*ℤ a, zero-*ℤ b)
times_plus (suc u) a b = omega (arith, ints, times_suc u (a +ℤ b), times_suc u a, times_suc u b, times_plus u a b)

pub times_negated : (u : ℕ) (a : ℤ) → pos u *ℤ neg_ℤ a ≡ neg_ℤ (pos u *ℤ a)
times_negated zero a = omega (arith, ints, zero-*ℤ (neg_ℤ a), zero-*ℤ a)
times_negated (suc u) a = omega (arith, ints, times_suc u (neg_ℤ a), times_suc u a, times_negated u a)

pub times_le : (u : ℕ) (a b : ℤ) → a ≤ℤ b → (pos u *ℤ a) ≤ℤ (pos u *ℤ b)
times_le zero a b l = omega (arith, ints, zero-*ℤ a, zero-*ℤ b)
times_le (suc u) a b l = omega (arith, ints, times_suc u a, times_suc u b, times_le u a b l)

-- the product of the unit and a main, as it is computed, and its bounds
pub product_is : (u : ℕ) (main : ℤ) → u < 2 ^ 64 → IsWithin largest_weight main → (to_z w128 u *ℤ to_z w128 (of_z w128 main) ≡ pos u *ℤ main)
    × ((neg_ℤ (pos u *ℤ pos largest_weight)) ≤ℤ (pos u *ℤ main)) × ((pos u *ℤ main) ≤ℤ (pos u *ℤ pos largest_weight))
product_is u main most small =
    let unit_is : to_z w128 u ≡ pos u = omega (arith, ints) in
    let main_is : to_z w128 (of_z w128 main) ≡ main = omega (arith, ints) in
    let low = times_le u (neg_ℤ (pos largest_weight)) main small.0 in (
      ap (λ z. z *ℤ to_z w128 (of_z w128 main)) unit_is ∙ ap (λ z. pos u *ℤ z) main_is,
      omega (arith, ints, times_negated u (pos largest_weight)),
      times_le u main (pos largest_weight) small.1,
    )

-- ---- the order of values

pub value_order : (u : ℕ) (a b : Weight) → value u a ≤ℤ value u b → b.tie <ℤ (a.tie +ℤ pos u) → a ≼ b
value_order u a b le near = (by_lt_z b.main a.main over (λ l. l), λ same. let e = ap (λ z. pos u *ℤ z) same in omega (arith, ints))
  where
    over : b.main <ℤ a.main → a.main ≤ℤ b.main
    over l =
        let most = times_le u (b.main +ℤ pos 1) a.main (omega (arith, ints)) in
        absurd (omega (arith, ints, times_plus u b.main (pos 1), *ℤ-one (pos u)))

-- ---- the weight with a value

module _ (u s x : ℕ) where
  pub weight_of-value : value u (weight_of u s x) ≡ pos x
  weight_of-value = omega (arith, ints)

  pub weight_of-tie : (weight_of u s x).tie +ℤ pos s ≡ pos ((x + s) % u)
  weight_of-tie = omega (arith, ints, div-add-mod' (x + s) u)

-- ---- a list that is made item by item

pub mapped_more : {X Y : Type 0} (f : X → Y) (xs : List X) (all new : List Y) (i : ℕ) (d : X) → i < length xs
    → new ≡ all ++ f (get_or xs i d) ∷ [] → all ≡ map f (take i xs) → new ≡ map f (take (i + 1) xs)
mapped_more f xs all new i d l pushed before = pushed ∙ ap (λ ys. ys ++ f (get_or xs i d) ∷ []) before ∙ sym (map_more f xs i d l)
