-- Leaves of forests: vertices that are an end of one edge. A forest that is not empty has one, as its edges touch more vertices than there
-- are edges, and the degrees add up to twice the number of the edges.
use Rattle.mat_witness.proofs.Common.{◌≡◌, ◌≢◌, ℕ, zero, suc, ◌+◌, ◌*◌, ◌<◌, ◌≤◌, true, cond, eqb, ltb, List, [], ◌∷◌, length, inl, inr, refl, sym, ap, ◌∙◌, subst, arith, cases_Bool, cases_eq, cases_lt, eqb-true, eq-eqb, ne_eqb, lt-ltb, le-ltb, and_from, or_cases, or_right, false≢true, those_below}
use Rattle.mat_witness.proofs.Common.{is_member, IsRising, RisesFrom, without_one, is_member-head, missing_below, without_one-missing, RisesFrom-weaken, some_from_member, IsSet-those_below, is_member-those_below, IsForest, in_tail, AreEndsBelow, at_ends, end_sum}
use Rattle.mat_sets.proofs.Counting.{IsCounted, IsCounted-start, IsCounted-put, IsCounted-skip}
use Rattle.mat_graphic.proofs.ForestSizes.{AreEndsIn, length-forest_inside}

abbrev pub one : ℕ → ℕ
one e = 1

-- ---- sums over the vertices

abbrev total : (ℕ → ℕ) → ℕ → ℕ
total g zero = 0
total g (suc n) = g n + total g n

total-add : (f g : ℕ → ℕ) (n : ℕ) → total (λ v. f v + g v) n ≡ total f n + total g n
total-add f g zero = refl
total-add f g (suc n) = omega (arith, total-add f g n)

total-none : (n : ℕ) → total (λ v. 0) n ≡ 0
total-none zero = refl
total-none (suc n) = omega (arith, total-none n)

total-past : (a n : ℕ) → n ≤ a → total (λ v. cond (eqb a v) 1 0) n ≡ 0
total-past a zero l = refl
total-past a (suc n) l = omega (arith, ap {B = ℕ} (λ b. cond b 1 0) (ne_eqb a n (λ e. absurd (omega arith))), total-past a n (omega arith))

total-one : (a n : ℕ) → a < n → total (λ v. cond (eqb a v) 1 0) n ≡ 1
total-one a zero l = absurd (omega arith)
total-one a (suc n) l = elim (cases_eq a n) [
  | inl e ↦ omega (arith, ap {B = ℕ} (λ b. cond b 1 0) (eq-eqb a n e), total-past a n (omega arith))
  | inr d ↦ omega (arith, ap {B = ℕ} (λ b. cond b 1 0) (ne_eqb a n d), total-one a n (omega arith))
]

-- twice as many as there are numbers of at least two
total-most : (g : ℕ → ℕ) (n : ℕ) → ((v : ℕ) → v < n → g v ≢ 1) → 2 * length (those_below n (λ v. ltb 0 (g v))) ≤ total g n
total-most g n h =
    let c = counted n h in
    let low : 2 * c.0 ≤ total g n = c.1 in
    let many : c.0 ≡ length (those_below n (λ v. ltb 0 (g v))) = c.2.many in
    omega arith
  where
    counted : (n : ℕ) → ((v : ℕ) → v < n → g v ≢ 1) → (k : ℕ) × (2 * k ≤ total g n) × IsCounted (λ v. ltb 0 (g v)) n k
    counted zero h = (0, omega arith, IsCounted-start (λ v. ltb 0 (g v)))
    counted (suc n) h =
        let rest = counted n (λ v l. h v (omega arith)) in
        elim (cases_lt 0 (g n)) [
          | inl l ↦ (
            rest.0 + 1,
            omega (arith, h n (omega arith), rest.1),
            subst (λ m. IsCounted (λ v. ltb 0 (g v)) m (rest.0 + 1)) (omega arith)
                (IsCounted-put (λ v. ltb 0 (g v)) n rest.0 (lt-ltb 0 (g n) l) rest.2),
          )
          | inr l ↦ (rest.0, omega (arith, rest.1), subst (λ m. IsCounted (λ v. ltb 0 (g v)) m rest.0) (omega arith) (IsCounted-skip (λ v. ltb 0 (g v)) n rest.0 (le-ltb 0 (g n) l) rest.2))
        ]

-- ---- what one edge adds

no_end : (pair : ℕ × ℕ) (amount v : ℕ) → at_ends pair 1 v ≡ 0 → at_ends pair amount v ≡ 0
no_end pair amount v h = elim (cases_Bool (eqb pair.0 v)) [
  | inl a ↦ absurd (omega (arith, ap {B = ℕ} (λ b. cond b 1 0) a))
  | inr a ↦ elim (cases_Bool (eqb pair.1 v)) [
    | inl b ↦ absurd (omega (arith, ap {B = ℕ} (λ b. cond b 1 0) b))
    | inr b ↦ omega (arith, ap {B = ℕ} (λ b. cond b amount 0) a, ap {B = ℕ} (λ b. cond b amount 0) b)
  ]
]

one_end : (pair : ℕ × ℕ) (amount v : ℕ) → at_ends pair 1 v ≡ 1 → at_ends pair amount v ≡ amount
one_end pair amount v h = elim (cases_Bool (eqb pair.0 v)) [
  | inl a ↦ elim (cases_Bool (eqb pair.1 v)) [
    | inl b ↦ absurd (omega (arith, ap {B = ℕ} (λ b. cond b 1 0) a, ap {B = ℕ} (λ b. cond b 1 0) b))
    | inr b ↦ omega (arith, ap {B = ℕ} (λ b. cond b amount 0) a, ap {B = ℕ} (λ b. cond b amount 0) b)
  ]
  | inr a ↦ elim (cases_Bool (eqb pair.1 v)) [
    | inl b ↦ omega (arith, ap {B = ℕ} (λ b. cond b amount 0) a, ap {B = ℕ} (λ b. cond b amount 0) b)
    | inr b ↦ absurd (omega (arith, ap {B = ℕ} (λ b. cond b 1 0) a, ap {B = ℕ} (λ b. cond b 1 0) b))
  ]
]

first_end : (pair : ℕ × ℕ) → 0 < at_ends pair 1 pair.0
first_end pair = omega (arith, ap {B = ℕ} (λ b. cond b 1 0) (eq-eqb pair.0 pair.0 refl))

second_end : (pair : ℕ × ℕ) → 0 < at_ends pair 1 pair.1
second_end pair = omega (arith, ap {B = ℕ} (λ b. cond b 1 0) (eq-eqb pair.1 pair.1 refl))

module _ (ends : ℕ → ℕ × ℕ) where
  -- ---- what each edge adds

  -- each member adds its part
  pub end_sum-member : (f : ℕ → ℕ) (X : List ℕ) (v e : ℕ) → is_member e X ≡ true → at_ends (ends e) (f e) v ≤ end_sum f ends X v
  unfolding end_sum
  end_sum-member f [] v e m = absurd (false≢true m)
  end_sum-member f (x ∷ X) v e m = elim (or_cases (eqb e x) (is_member e X) m) [
    | inl k ↦ subst (λ z. at_ends (ends z) (f z) v ≤ at_ends (ends x) (f x) v + end_sum f ends X v) (sym (eqb-true e x k)) (omega arith)
    | inr k ↦ omega (arith, end_sum-member f X v e k)
  ]

  without_head : (e : ℕ) (X : List ℕ) → RisesFrom (suc e) X → without_one (e ∷ X) e ≡ X
  unfolding without_one
  without_head e X r = rw (eq-eqb e e refl) (without_one-missing X e (record { rises = RisesFrom-weaken 0 (suc e) X (omega arith) r })
      (missing_below e (suc e) X (omega arith) r))

  without_tail : (x e : ℕ) (X : List ℕ) → x ≢ e → without_one (x ∷ X) e ≡ x ∷ without_one X e
  unfolding without_one
  without_tail x e X d = rw (ne_eqb x e d) refl

  without_from : (f : ℕ → ℕ) (lo : ℕ) (X : List ℕ) (v e : ℕ) → RisesFrom lo X → is_member e X ≡ true
      → end_sum f ends X v ≡ at_ends (ends e) (f e) v + end_sum f ends (without_one X e) v
  unfolding end_sum
  without_from f lo [] v e r m = absurd (false≢true m)
  without_from f lo (x ∷ X) v e r m = elim (cases_eq x e) [
    | inl same ↦ subst (λ z. at_ends (ends x) (f x) v + end_sum f ends X v ≡ at_ends (ends z) (f z) v + end_sum f ends (without_one (x ∷ X) z) v)
        same (ap (λ Y. at_ends (ends x) (f x) v + end_sum f ends Y v) (sym (without_head x X r.1)))
    | inr d ↦ (let rest = without_from f (suc x) X v e r.1 (in_tail e x X m (ne_eqb e x (λ q. d (sym q)))) in
        let now = ap (λ Y. end_sum f ends Y v) (without_tail x e X d) in
        omega arith)
  ]

  -- without a member its part is gone
  pub end_sum-without : (f : ℕ → ℕ) (X : List ℕ) (v e : ℕ) → IsRising X → is_member e X ≡ true
      → end_sum f ends X v ≡ at_ends (ends e) (f e) v + end_sum f ends (without_one X e) v
  end_sum-without f X v e r m = without_from f 0 X v e r.rises m

  -- ---- a leaf

  -- where v is an end of no edge, nothing is added
  end_sum-none : (f : ℕ → ℕ) (X : List ℕ) (v : ℕ) → end_sum one ends X v ≡ 0 → end_sum f ends X v ≡ 0
  unfolding end_sum
  end_sum-none f [] v h = refl
  end_sum-none f (e ∷ X) v h =
      let rest = end_sum-none f X v (omega arith) in
      omega (arith, no_end (ends e) (f e) v (omega arith))

  -- the one edge at a leaf
  pub record IsLeaf (X : List ℕ) (v e : ℕ) : Type 0 where
    pub member : is_member e X ≡ true
    pub single : at_ends (ends e) 1 v ≡ 1
    pub others : end_sum one ends (without_one X e) v ≡ 0

  leaf_edge : (X : List ℕ) (v : ℕ) → end_sum one ends X v ≡ 1 → (e : ℕ) × (is_member e X ≡ true) × (at_ends (ends e) 1 v ≡ 1)
  unfolding end_sum
  leaf_edge [] v h = absurd (omega arith)
  leaf_edge (e ∷ X) v h = elim (cases_eq (at_ends (ends e) 1 v) 0) [
    | inl none ↦ (let rest = leaf_edge X v (omega arith) in (rest.0, or_right (eqb rest.0 e) (is_member rest.0 X) rest.1, rest.2))
    | inr some ↦ (e, is_member-head e X, (let here : at_ends (ends e) 1 v + end_sum one ends X v ≡ 1 = h in omega arith))
  ]

  -- there is one, and its number is the sum of the numbers there
  pub leaf_of : (X : List ℕ) (v : ℕ) → IsRising X → end_sum one ends X v ≡ 1 → IsLeaf X v (end_sum (λ e. e) ends X v)
  leaf_of X v r h =
      let found = leaf_edge X v h in
      let e = found.0 in
      let others : end_sum one ends (without_one X e) v ≡ 0 = (let all = end_sum-without one X v e r found.1 in let single : at_ends (ends e) 1 v ≡ 1 = found.2 in omega arith) in
      let number : end_sum (λ e. e) ends X v ≡ e = end_sum-without (λ e. e) X v e r found.1
      ∙ (let rest = end_sum-none (λ e. e) (without_one X e) v others in let single = one_end (ends e) e v found.2 in omega arith) in
      subst (IsLeaf X v) (sym number) (record { member = found.1; single = found.2; others = others })

  -- ---- the degrees add up to twice the number of edges

  degrees : (n : ℕ) (X : List ℕ) → AreEndsBelow ends n X → total (end_sum one ends X) n ≡ 2 * length X
  unfolding end_sum
  degrees n [] below = total-none n
  degrees n (e ∷ X) below =
      let rest = degrees n X (λ g m. below g (or_right (eqb g e) (is_member g X) m)) in
      let own = below e (is_member-head e X) in
      let first = total-one (ends e).0 n own.0 in
      let second = total-one (ends e).1 n own.1 in
      let both = total-add (λ v. cond (eqb (ends e).0 v) 1 0) (λ v. cond (eqb (ends e).1 v) 1 0) n in
      let all : total (end_sum one ends (e ∷ X)) n ≡ total (at_ends (ends e) 1) n + total (end_sum one ends X) n
      = total-add (at_ends (ends e) 1) (end_sum one ends X) n in
      let pair : total (at_ends (ends e) 1) n ≡ total (λ v. cond (eqb (ends e).0 v) 1 0) n + total (λ v. cond (eqb (ends e).1 v) 1 0) n = both in
      omega (arith, rest, first, second, pair, all)

  -- a forest without a leaf is empty
  pub no_leaf : (n : ℕ) (X : List ℕ) → IsRising X → IsForest ends X → AreEndsBelow ends n X
      → ((v : ℕ) → v < n → end_sum one ends X v ≢ 1) → X ≡ []
  no_leaf n [] r forest below none = refl
  no_leaf n (e ∷ X) r forest below none =
      let U = those_below n (λ v. ltb 0 (end_sum one ends (e ∷ X) v)) in
      let touched : (g v : ℕ) → is_member g (e ∷ X) ≡ true → v < n → 0 < at_ends (ends g) 1 v → is_member v U ≡ true =
      λ g v m l some. is_member-those_below v n (λ v. ltb 0 (end_sum one ends (e ∷ X) v))
      ∙ and_from (ltb v n) _ (lt-ltb v n l) (lt-ltb 0 (end_sum one ends (e ∷ X) v)
      (let part : at_ends (ends g) 1 v ≤ end_sum one ends (e ∷ X) v = end_sum-member one (e ∷ X) v g m in omega arith)) in
      let inside : AreEndsIn ends U (e ∷ X) = λ g m.
      (touched g (ends g).0 m (below g m).0 (first_end (ends g)), touched g (ends g).1 m (below g m).1 (second_end (ends g))) in
      let fewer = length-forest_inside ends (e ∷ X) U r forest (IsSet-those_below n (λ v. ltb 0 (end_sum one ends (e ∷ X) v))).rising inside
      (some_from_member (ends e).0 U (inside e (is_member-head e X)).0) in
      absurd (omega (arith, fewer, degrees n (e ∷ X) below, total-most (end_sum one ends (e ∷ X)) n none))
