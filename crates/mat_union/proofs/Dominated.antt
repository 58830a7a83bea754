-- A set that has, for each weight of a member of another set of its size, at least as many members of at least this weight, is as heavy: take
-- a heaviest member out of both.
use Rattle.mat_union.proofs.Common.{◌≡◌, ℕ, suc, zero, ◌≤◌, Bool, true, false, not, ◌&&◌, eqb, List, [], ◌∷◌, length, inl, inr, refl, sym, ap, ◌∙◌, subst, arith, and_from, and_parts, both_ways, cases_Bool, eq-eqb, eqb-true, false_from_ne_true, not-true, not_from_false, or_cases, or_left, or_right}
use Rattle.mat_union.proofs.Common.{ints, is_member, IsRising, without_one, is_below, negated, weight_sum, ◌≼◌, Weight, length-without_one, filter_whole, IsRising-filter, is_member-filter, is_member-without_one, same_members, IsRising-without_one}
use Rattle.std.specs.List.{filter}
use Rattle.mat_sets.proofs.WeightOrder.{at_most_same, at_most_trans, by_below, not_below_from, not_below_gives, pairs}
use Rattle.mat_sets.proofs.WeightSums.{weight_sum-without_one}

-- whether z weighs at least t
abbrev pub weighs : (ℕ → Weight) → Weight → ℕ → Bool
weighs w t z = not (is_below (w z) t)

pub weighs_gives : (w : ℕ → Weight) (t : Weight) (z : ℕ) → weighs w t z ≡ true → t ≼ w z
weighs_gives w t z h = not_below_gives (w z) t (not-true (is_below (w z) t) h)

pub weighs_from : (w : ℕ → Weight) (t : Weight) (z : ℕ) → t ≼ w z → weighs w t z ≡ true
weighs_from w t z h = not_from_false (is_below (w z) t) (not_below_from (w z) t h)

-- a heaviest member
heaviest_of : (w : ℕ → Weight) (x : ℕ) (X : List ℕ) → (y : ℕ) × (is_member y (x ∷ X) ≡ true) × ((z : ℕ) → is_member z (x ∷ X) ≡ true → w z ≼ w y)
heaviest_of w x [] = (x, or_left (eqb x x) false (eq-eqb x x refl), λ z h. at_most_same (w z) (w x) (elim (or_cases (eqb z x) false h) [ inl a ↦ ap w (eqb-true z x a) | inr b ↦ absurd (both_ways _ refl b) ]))
heaviest_of w x (x' ∷ X) =
    let t = heaviest_of w x' X in
    by_below (w t.0) (w x)
    (λ less. (
      x,
      or_left (eqb x x) (is_member x (x' ∷ X)) (eq-eqb x x refl),
      λ z h. elim (or_cases (eqb z x) (is_member z (x' ∷ X)) h) [
        | inl e ↦ at_most_same (w z) (w x) (ap w (eqb-true z x e))
        | inr k ↦ at_most_trans (w z) (w t.0) (w x) (t.2 z k) (omega (arith, ints))
      ],
    ))
    (λ most. (
      t.0,
      or_right (eqb t.0 x) (is_member t.0 (x' ∷ X)) t.1,
      λ z h. elim (or_cases (eqb z x) (is_member z (x' ∷ X)) h) [
        | inl e ↦ subst (λ v. v ≼ w t.0) (sym (ap w (eqb-true z x e))) most
        | inr k ↦ t.2 z k
      ],
    ))

-- without a member that passes
filter_without : (f : ℕ → Bool) (x : ℕ) (X : List ℕ) → IsRising X → is_member x X ≡ true → f x ≡ true → suc (length (filter f (without_one X x))) ≡ length (filter f X)
filter_without f x X r h fx =
    let rf = IsRising-filter f X r in
    let same : filter f (without_one X x) ≡ without_one (filter f X) x = same_members _ _ (IsRising-filter f _ (IsRising-without_one X x r)) (IsRising-without_one (filter f X) x rf)
    (λ z. is_member-filter f z (without_one X x) ∙ ap (λ b. b && f z) (is_member-without_one z x X) ∙ turn (is_member z X) (eqb z x) (f z)
    ∙ ap (λ b. b && not (eqb z x)) (sym (is_member-filter f z X)) ∙ sym (is_member-without_one z x (filter f X))) in
    ap suc (ap length same) ∙ length-without_one (filter f X) x rf (is_member-filter f x X ∙ and_from (is_member x X) (f x) h fx)
  where
    turn : (a b c : Bool) → ((a && not b) && c) ≡ ((a && c) && not b)
    turn a b c = grind arith

none_pass : (f : ℕ → Bool) (X : List ℕ) → ((z : ℕ) → is_member z X ≡ true → f z ≡ false) → length (filter f X) ≡ 0
none_pass f [] h = refl
none_pass f (x ∷ X) h = rw (h x (or_left (eqb x x) (is_member x X) (eq-eqb x x refl))) (none_pass f X (λ z k. h z (or_right (eqb z x) (is_member z X) k)))

pub dominated : (d : ℕ) (w : ℕ → Weight) (X Y : List ℕ) → IsRising X → IsRising Y → length X ≡ d → length Y ≡ d
    → ((y : ℕ) → is_member y Y ≡ true → length (filter (weighs w (w y)) Y) ≤ length (filter (weighs w (w y)) X)) → weight_sum w Y ≼ weight_sum w X
dominated zero w [] [] rx ry lx ly h = omega (arith, ints)
dominated zero w (x ∷ X) Y rx ry lx ly h = absurd (omega arith)
dominated zero w [] (y ∷ Y) rx ry lx ly h = absurd (omega arith)
dominated (suc d) w [] Y rx ry lx ly h = absurd (omega arith)
dominated (suc d) w (x ∷ X) [] rx ry lx ly h = absurd (omega arith)
dominated (suc d) w (x0 ∷ X0) (y0 ∷ Y0) rx ry lx ly h =
    let X : List ℕ = x0 ∷ X0 in
    let Y : List ℕ = y0 ∷ Y0 in
    let a = heaviest_of w x0 X0 in
    let b = heaviest_of w y0 Y0 in
    let x = a.0 in
    let y = b.0 in
    let cx = length-without_one X x rx a.1 in
    let cy = length-without_one Y y ry b.1 in
    let yn = filter_without (weighs w (w y)) y Y ry b.1 (weighs_from w (w y) y (at_most_same (w y) (w y) refl)) in
    let hy = h y b.1 in
    let top : w y ≼ w x = elim (cases_Bool (weighs w (w y) x)) [
      | inl e ↦ weighs_gives w (w y) x e
      | inr e ↦ absurd (let k = none_pass (weighs w (w y)) X (λ z q. lighter z x (w y) (a.2 z q) e) in omega arith)
    ] in
    let rest : (v : ℕ) → is_member v (without_one Y y) ≡ true → length (filter (weighs w (w v)) (without_one Y y)) ≤ length (filter (weighs w (w v)) (without_one X x)) = λ v q.
    (let m = and_parts (is_member v Y) (not (eqb v y)) (sym (is_member-without_one v y Y) ∙ q) in
    let hv = h v m.0 in
    let le = b.2 v m.0 in
    let ky = filter_without (weighs w (w v)) y Y ry b.1 (weighs_from w (w v) y le) in
    let kx = filter_without (weighs w (w v)) x X rx a.1 (weighs_from w (w v) x (at_most_trans (w v) (w y) (w x) le top)) in
    omega arith) in
    let ih = dominated d w (without_one X x) (without_one Y y) (IsRising-without_one X x rx) (IsRising-without_one Y y ry) (omega arith) (omega arith) rest in
    let sx = weight_sum-without_one w X x rx a.1 in
    let sy = weight_sum-without_one w Y y ry b.1 in
    omega (arith, ints, pairs)
  where
    lighter : (z x : ℕ) (t : Weight) → w z ≼ w x → weighs w t x ≡ false → weighs w t z ≡ false
    lighter z x t l f = false_from_ne_true _ (λ k. both_ways _ f (weighs_from w t x (at_most_trans t (w z) (w x) (weighs_gives w t z k) l)))

-- what holds of 0 and of the size of a set that all weigh at least as much as some member holds of the size of each set
pub lightest_of : (w : ℕ → Weight) (X : List ℕ) (P : ℕ → Type 0) → P 0 → ((y : ℕ) → is_member y X ≡ true → filter (weighs w (w y)) X ≡ X → P (length X)) → P (length X)
lightest_of w [] P none some = none
lightest_of w (x ∷ X) P none some =
    let t = heaviest_of (λ z. negated (w z)) x X in
    some t.0 t.1 (filter_whole (weighs w (w t.0)) (x ∷ X) (λ z h. weighs_from w (w t.0) z (let a = t.2 z h in turned (w z) (w t.0) a)))
  where
    turned : (a b : Weight) → negated a ≼ negated b → b ≼ a
    turned a b h = omega (arith, ints)
