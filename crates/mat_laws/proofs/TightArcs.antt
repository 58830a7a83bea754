-- What the exchanges of a matroid at a set, the heaviest elements that can be added, and tight arcs say of one or two elements.
use Rattle.mat_laws.proofs.Common.{◌≡◌, ℕ, ◌<◌, Bool, true, false, not, ◌&&◌, List, ◌⊎◌, inl, inr, ap, arith, and_parts, and_from, or_cases, or_left, or_right, not-true, false_from_ne_true, both_ways, ints, is_member, with_one, without_one, some_below_gives, some_below_from, ◌≺◌, ◌≼◌, is_below}
use Rattle.mat_laws.proofs.Common.{is_same, Weight, pairs, same_gives, same_from, at_most_or_below, below_gives, not_below_gives, Exchanges, exchanges_at, is_heaviest_addable, is_tight}
use Rattle.mat_sets.specs.Search.{some_below}

-- ---- exchanges at a set

-- x can be added to I
pub record IsAddable (p : List ℕ → Bool) (I : List ℕ) (x : ℕ) : Type 0 where
  pub outside : is_member x I ≡ false
  pub passes : p (with_one I x) ≡ true

pub addable_gives : (p : List ℕ → Bool) (I : List ℕ) (x : ℕ) → (exchanges_at p I).adds x ≡ true → IsAddable p I x
addable_gives p I x h =
    let a = and_parts (not (is_member x I)) (p (with_one I x)) h in
    record { outside = not-true (is_member x I) a.0; passes = a.1 }

pub addable_from : (p : List ℕ → Bool) (I : List ℕ) (x : ℕ) → is_member x I ≡ false → p (with_one I x) ≡ true
    → (exchanges_at p I).adds x ≡ true
addable_from p I x o h = and_from (not (is_member x I)) (p (with_one I x)) (ap not o) h

-- x can be exchanged for y
pub record IsExchangeable (p : List ℕ → Bool) (I : List ℕ) (y x : ℕ) : Type 0 where
  pub inside : is_member y I ≡ true
  pub outside : is_member x I ≡ false
  pub passes : p (with_one (without_one I y) x) ≡ true

pub exchangeable_gives : (p : List ℕ → Bool) (I : List ℕ) (y x : ℕ) → (exchanges_at p I).trades y x ≡ true → IsExchangeable p I y x
exchangeable_gives p I y x h =
    let a = and_parts (is_member y I) (not (is_member x I) && p (with_one (without_one I y) x)) h in
    let b = and_parts (not (is_member x I)) (p (with_one (without_one I y) x)) a.1 in
    record { inside = a.0; outside = not-true (is_member x I) b.0; passes = b.1 }

pub exchangeable_from : (p : List ℕ → Bool) (I : List ℕ) (y x : ℕ) → is_member y I ≡ true → is_member x I ≡ false
    → p (with_one (without_one I y) x) ≡ true → (exchanges_at p I).trades y x ≡ true
exchangeable_from p I y x i o h =
    and_from (is_member y I) (not (is_member x I) && p (with_one (without_one I y) x)) i
    (and_from (not (is_member x I)) (p (with_one (without_one I y) x)) (ap not o) h)

-- ---- heaviest elements that can be added

-- x can be added, and nothing heavier can
pub record IsHeaviestAddable (n : ℕ) (a : Exchanges) (w : ℕ → Weight) (x : ℕ) : Type 0 where
  pub adds : a.adds x ≡ true
  pub most : (e : ℕ) → e < n → a.adds e ≡ true → w e ≼ w x

pub heaviest_addable_gives : (n : ℕ) (a : Exchanges) (w : ℕ → Weight) (x : ℕ) → is_heaviest_addable n a w x ≡ true → IsHeaviestAddable n a w x
heaviest_addable_gives n a w x h =
    let heavier : ℕ → Bool = λ e. a.adds e && is_below (w x) (w e) in
    let s = and_parts (a.adds x) (not (some_below n heavier)) h in
    record {
      adds = s.0;
      most = λ e lt k. not_below_gives (w x) (w e) (false_from_ne_true _ (λ more.
          both_ways _ (not-true _ s.1) (some_below_from n e heavier lt (and_from (a.adds e) (is_below (w x) (w e)) k more))));
    }

pub heaviest_addable_from : (n : ℕ) (a : Exchanges) (w : ℕ → Weight) (x : ℕ) → a.adds x ≡ true
    → ((e : ℕ) → e < n → a.adds e ≡ true → w e ≼ w x) → is_heaviest_addable n a w x ≡ true
heaviest_addable_from n a w x k most =
    let heavier : ℕ → Bool = λ e. a.adds e && is_below (w x) (w e) in
    and_from (a.adds x) (not (some_below n heavier)) k (ap not (false_from_ne_true _ (λ s.
    let q = some_below_gives n heavier s in
    let t = and_parts (a.adds q.0) (is_below (w x) (w q.0)) q.2 in
    let more = below_gives (w x) (w q.0) t.1 in
    let less = most q.0 q.1 t.0 in
    let r : ⊥ = absurd (omega (arith, ints, pairs)) in r)))

-- what can be added and is none of the heaviest is lighter than one of them
pub lighter_addable : (n : ℕ) (a : Exchanges) (w : ℕ → Weight) (x top : ℕ) → a.adds x ≡ true → is_heaviest_addable n a w x ≡ false
    → IsHeaviestAddable n a w top → w x ≺ w top
lighter_addable n a w x top k fails t = elim (at_most_or_below (w top) (w x)) [
  | inl le ↦ absurd (both_ways _ fails (heaviest_addable_from n a w x k (λ e lt h. (let b = t.most e lt h in omega (arith, ints, pairs)))))
  | inr lt ↦ lt
]

-- ---- tight arcs

module _ (p q : List ℕ → Bool) (w1 w2 : ℕ → Weight) (I : List ℕ) where
  -- a tight arc is an exchange in the first matroid, or the other way in the second
  pub tight_gives : (u v : ℕ) → is_tight (exchanges_at p I) (exchanges_at q I) w1 w2 u v ≡ true
      → (IsExchangeable p I u v × (w1 u ≡ w1 v)) ⊎ (IsExchangeable q I v u × (w2 u ≡ w2 v))
  tight_gives u v h =
      let first = (exchanges_at p I).trades u v in
      let second = (exchanges_at q I).trades v u in
      elim (or_cases (first && is_same (w1 u) (w1 v)) (second && is_same (w2 u) (w2 v)) h) [
        | inl a ↦ (let s = and_parts first (is_same (w1 u) (w1 v)) a in inl (exchangeable_gives p I u v s.0, same_gives (w1 u) (w1 v) s.1))
        | inr a ↦ (let s = and_parts second (is_same (w2 u) (w2 v)) a in inr (exchangeable_gives q I v u s.0, same_gives (w2 u) (w2 v) s.1))
      ]

  pub tight_first : (y x : ℕ) → is_member y I ≡ true → is_member x I ≡ false → p (with_one (without_one I y) x) ≡ true → w1 y ≡ w1 x
      → is_tight (exchanges_at p I) (exchanges_at q I) w1 w2 y x ≡ true
  tight_first y x i o k e =
      or_left ((exchanges_at p I).trades y x && is_same (w1 y) (w1 x)) _
      (and_from ((exchanges_at p I).trades y x) (is_same (w1 y) (w1 x)) (exchangeable_from p I y x i o k) (same_from (w1 y) (w1 x) e))

  pub tight_second : (x y : ℕ) → is_member y I ≡ true → is_member x I ≡ false → q (with_one (without_one I y) x) ≡ true → w2 x ≡ w2 y
      → is_tight (exchanges_at p I) (exchanges_at q I) w1 w2 x y ≡ true
  tight_second x y i o k e =
      or_right ((exchanges_at p I).trades x y && is_same (w1 x) (w1 y)) _
      (and_from ((exchanges_at q I).trades y x) (is_same (w2 x) (w2 y)) (exchangeable_from q I y x i o k) (same_from (w2 x) (w2 y) e))

  -- from an element outside I a tight arc is an exchange in the second matroid
  pub tight_from_outside : (u v : ℕ) → is_member u I ≡ false → is_tight (exchanges_at p I) (exchanges_at q I) w1 w2 u v ≡ true
      → IsExchangeable q I v u × (w2 u ≡ w2 v)
  tight_from_outside u v o h = elim (tight_gives u v h) [ inl a ↦ absurd (both_ways _ o a.0.inside) | inr a ↦ a ]

  -- and from a member one in the first
  pub tight_from_inside : (u v : ℕ) → is_member u I ≡ true → is_tight (exchanges_at p I) (exchanges_at q I) w1 w2 u v ≡ true
      → IsExchangeable p I u v × (w1 u ≡ w1 v)
  tight_from_inside u v i h = elim (tight_gives u v h) [ inl a ↦ a | inr a ↦ absurd (both_ways _ a.0.outside i) ]
