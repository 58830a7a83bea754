-- The union of two sets by one walk along both. What has been put together, followed by the union of what is to come, is the union: the
-- lower one of the two next items comes next, and where they are equal they come once.
use Rattle.mat_sets.proofs.Common.{◌≡◌, ℕ, suc, zero, ◌+◌, ◌-◌, ◌<◌, ◌≤◌, List, [], ◌∷◌, ◌++◌, length, get_or, take, drop, refl, sym, subst, ap, ◌∙◌, append-nil, append_assoc, arith, length-drop, take_all, eq-eqb, le-ltb, lt-ltb, drop_all, drop_more, IsRising, RisesFrom, rising_insert, union}
use Rattle.mat_sets.proofs.Equalities.{union-commute}
use Rattle.mat_sets.proofs.Members.{RisesFrom-rising_insert, RisesFrom-weaken}
use Rattle.mat_sets.proofs.Steps.{union-none}

-- ---- the union of two lists, by their first items

above : (lo : ℕ) (a b : List ℕ) → RisesFrom lo a → RisesFrom lo b → RisesFrom lo (union a b)
unfolding union
above lo [] b r s = s
above lo (x ∷ a) b r s = RisesFrom-rising_insert x lo (union a b) r.0 (above lo a b (RisesFrom-weaken lo (suc x) a (omega (arith, r.0)) r.1) s)

rising : (lo : ℕ) (a : List ℕ) → RisesFrom lo a → IsRising a
rising lo a r = record { rises = RisesFrom-weaken 0 lo a (omega arith) r }

inserted_first : (x : ℕ) (t : List ℕ) → RisesFrom (suc x) t → rising_insert x t ≡ x ∷ t
inserted_first x [] r = refl
inserted_first x (y ∷ t) r = rw (lt-ltb x y (omega (arith, r.0))) refl

inserted_again : (x : ℕ) (t : List ℕ) → rising_insert x (x ∷ t) ≡ x ∷ t
inserted_again x t = rw (le-ltb x x (omega arith), eq-eqb x x refl) refl

union-first : (x : ℕ) (a b : List ℕ) → RisesFrom (suc x) a → RisesFrom (suc x) b → union (x ∷ a) b ≡ x ∷ union a b
unfolding union
union-first x a b r s = inserted_first x (union a b) (above (suc x) a b r s)

union-second : (y : ℕ) (a b : List ℕ) → RisesFrom (suc y) a → RisesFrom (suc y) b → union a (y ∷ b) ≡ y ∷ union a b
union-second y a b r s =
    union-commute a (y ∷ b) (rising (suc y) a r) (rising y (y ∷ b) (omega arith, s))
    ∙ union-first y b a s r ∙ ap (λ t. y ∷ t) (union-commute b a (rising (suc y) b s) (rising (suc y) a r))

union-both : (x : ℕ) (a b : List ℕ) → RisesFrom (suc x) a → RisesFrom (suc x) b → union (x ∷ a) (x ∷ b) ≡ x ∷ union a b
unfolding union
union-both x a b r s = ap (rising_insert x) (union-second x a b r s) ∙ inserted_again x (union a b)

-- ---- what is to come of a rising list

pub RisesFrom-drop : (lo : ℕ) (xs : List ℕ) (i : ℕ) → RisesFrom lo xs → i < length xs → RisesFrom (get_or xs i 0) (drop i xs)
RisesFrom-drop lo [] i r l = absurd (omega arith)
RisesFrom-drop lo (x ∷ xs) zero r l = (omega arith, r.1)
RisesFrom-drop lo (x ∷ xs) (suc i) r l = RisesFrom-drop (suc x) xs i r.1 (omega arith)

-- and of what stands after a place
pub RisesFrom-drop_more : (xs : List ℕ) (i : ℕ) → IsRising xs → i < length xs → RisesFrom (suc (get_or xs i 0)) (drop (i + 1) xs)
RisesFrom-drop_more xs i r l = (subst (RisesFrom (get_or xs i 0)) (drop_more xs i 0 l) (RisesFrom-drop 0 xs i r.rises l)).1

-- where the next item is above x, so are all to come
all_above : (x : ℕ) (xs : List ℕ) (i : ℕ) → IsRising xs → i < length xs → x < get_or xs i 0 → RisesFrom (suc x) (drop i xs)
all_above x xs i r l above = RisesFrom-weaken (suc x) (get_or xs i 0) (drop i xs) above (RisesFrom-drop 0 xs i r.rises l)

-- ---- the walk

pub record IsMerging (a b : List ℕ) (i j : ℕ) (all : List ℕ) : Type 0 where
  pub rest : all ++ union (drop i a) (drop j b) ≡ union a b

pub IsMerging-start : (a b all : List ℕ) → all ≡ [] → IsMerging a b 0 0 all
IsMerging-start a b all none = rw none (record { rest = refl })

module _ (a b : List ℕ) (rises : IsRising a) (others_rise : IsRising b) (i j : ℕ) (all : List ℕ) (more : i < length a) (others : j < length b)
    (so_far : IsMerging a b i j all) where
  abbrev x : ℕ
  x = get_or a i 0

  abbrev y : ℕ
  y = get_or b j 0

  next : (z : ℕ) (s t : List ℕ) → union (drop i a) (drop j b) ≡ z ∷ union s t → (all ++ z ∷ []) ++ union s t ≡ union a b
  next z s t e = append_assoc all (z ∷ []) (union s t) ∙ ap (λ u. all ++ u) (sym e) ∙ so_far.rest

  -- the next item of a is the lower one
  pub IsMerging-first : x < y → IsMerging a b (i + 1) j (all ++ x ∷ [])
  IsMerging-first low = record {
    rest = next x (drop (i + 1) a) (drop j b) (ap (λ s. union s (drop j b)) (drop_more a i 0 more)
        ∙ union-first x (drop (i + 1) a) (drop j b) (RisesFrom-drop_more a i rises more) (all_above x b j others_rise others low));
  }

  -- that of b is the lower one
  pub IsMerging-second : y < x → IsMerging a b i (j + 1) (all ++ y ∷ [])
  IsMerging-second low = record {
    rest = next y (drop i a) (drop (j + 1) b) (ap (union (drop i a)) (drop_more b j 0 others)
        ∙ union-second y (drop i a) (drop (j + 1) b) (all_above y a i rises more low) (RisesFrom-drop_more b j others_rise others));
  }

  -- they are equal
  pub IsMerging-both : x ≡ y → IsMerging a b (i + 1) (j + 1) (all ++ x ∷ [])
  IsMerging-both same = record {
    rest = next x (drop (i + 1) a) (drop (j + 1) b) (ap (λ s. union s (drop j b)) (drop_more a i 0 more)
        ∙ ap (union (x ∷ drop (i + 1) a)) (drop_more b j 0 others ∙ ap (λ z. z ∷ drop (j + 1) b) (sym same))
        ∙ union-both x (drop (i + 1) a) (drop (j + 1) b) (RisesFrom-drop_more a i rises more)
        (subst (λ z. RisesFrom (suc z) (drop (j + 1) b)) (sym same) (RisesFrom-drop_more b j others_rise others)));
  }

-- where one list has ended, the rest of the other comes as it is
pub IsMerging-end_first : (a b : List ℕ) (i j : ℕ) (all : List ℕ) → length a ≤ i → IsMerging a b i j all
    → (all ++ drop i a) ++ drop j b ≡ union a b
unfolding union
IsMerging-end_first a b i j all ended m =
    let none = drop_all i a ended in
    ap (λ s. (all ++ s) ++ drop j b) none ∙ ap (λ s. s ++ drop j b) (append-nil all)
    ∙ ap (λ s. all ++ union s (drop j b)) (sym none) ∙ m.rest

pub IsMerging-end_second : (a b : List ℕ) (i j : ℕ) (all : List ℕ) → IsRising a → i < length a → length b ≤ j → IsMerging a b i j all
    → (all ++ drop i a) ++ drop j b ≡ union a b
IsMerging-end_second a b i j all rises more ended m =
    let none = drop_all j b ended in
    let rest = rising (get_or a i 0) (drop i a) (RisesFrom-drop 0 a i rises.rises more) in
    ap (λ s. (all ++ drop i a) ++ s) none ∙ append-nil (all ++ drop i a)
    ∙ ap (λ s. all ++ s) (sym (union-none (drop i a) rest)) ∙ ap (λ s. all ++ union (drop i a) s) (sym none) ∙ m.rest

-- a slice from a place to the end is what is to come
whole_rest : (xs : List ℕ) (i : ℕ) → take (length xs - i) (drop i xs) ≡ drop i xs
whole_rest xs i = take_all (length xs - i) (drop i xs) (omega (arith, length-drop i xs))

pub both_rests : (a b : List ℕ) (i j : ℕ) (all more most : List ℕ) → more ≡ all ++ take (length a - i) (drop i a)
    → most ≡ more ++ take (length b - j) (drop j b) → most ≡ (all ++ drop i a) ++ drop j b
both_rests a b i j all more most first second =
    second ∙ ap (λ s. more ++ s) (whole_rest b j) ∙ ap (λ s. s ++ drop j b) (first ∙ ap (λ s. all ++ s) (whole_rest a i))
