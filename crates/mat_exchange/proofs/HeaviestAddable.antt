-- The greatest weight of the elements that can be added tells which of them are heaviest.
use Rattle.mat_exchange.proofs.Common.{◌≡◌, ℕ, ◌<◌, Bool, true, false, ◌&&◌, List, [], length, inl, inr, refl, sym, ap, subst, and_from, and_parts, cases_lt, both_ways, get_or_past, ◌≼◌, is_same, Weight, same_gives, same_from, at_most_both, at_most_same, at_most_trans, Exchange, Exchanges}
use Rattle.mat_exchange.proofs.Common.{exchanges_in, is_heaviest_addable, heaviest_addable_gives, heaviest_addable_from, IsHeaviestOf, IsHeaviestWeight}
use Rattle.std.specs.Cmp.{both_ways as both_tests}

-- only elements that have a row can be added
pub addable_below : (rows : List Exchange) (x : ℕ) → (exchanges_in rows).adds x ≡ true → x < length rows
addable_below rows x a = elim (cases_lt x (length rows)) [
  | inl l ↦ l
  | inr g ↦ absurd (both_ways _ (ap (λ (r : Exchange). r.addable) (get_or_past rows x (record { addable = false; with = [] }) g)) a)
]

-- a heaviest element has the greatest weight
pub heaviest_weight : {test : ℕ → Bool} {w : ℕ → Weight} {x : ℕ} → IsHeaviestOf test w x → IsHeaviestWeight test w (w x)
heaviest_weight {test} {w} {x} h = record { element = x; passes = h.passes; weighs = refl; most = h.most }

-- an element that can be added is a heaviest one exactly where it has the greatest weight
pub is_heaviest_addable-by_weight : (n : ℕ) (rows : List Exchange) (w : ℕ → Weight) (t : Weight) (x : ℕ) → length rows ≡ n
    → IsHeaviestWeight (exchanges_in rows).adds w t
    → is_heaviest_addable n (exchanges_in rows) w x ≡ ((exchanges_in rows).adds x && is_same t (w x))
is_heaviest_addable-by_weight n rows w t x count h =
    let a : Exchanges = exchanges_in rows in
    let inside : h.element < n = subst (λ m. h.element < m) count (addable_below rows h.element h.passes) in
    both_tests (is_heaviest_addable n a w x) (a.adds x && is_same t (w x))
    (λ top. (let s = heaviest_addable_gives n a w x top in
    let high = at_most_trans t (w h.element) (w x) (at_most_same t (w h.element) (sym h.weighs)) (s.most h.element inside h.passes) in
    and_from (a.adds x) (is_same t (w x)) s.adds (same_from t (w x) (at_most_both t (w x) high (h.most x s.adds)))))
    (λ both. (let s = and_parts (a.adds x) (is_same t (w x)) both in
    let same = same_gives t (w x) s.1 in
    heaviest_addable_from n a w x s.0 (λ e l k. subst (λ z. w e ≼ z) same (h.most e k))))
