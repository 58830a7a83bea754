-- The least vertex of a component, by merging: it is the same at both ends of each edge, and so along each walk; and two vertices where it is
-- the same are joined by a walk along different edges.
use Rattle.std.proofs.Common.{◌≡◌, ℕ, suc, ◌<◌, ◌≤◌, ◌≢◌, min, true, false, eqb, List, [], ◌∷◌, ◌++◌, ◌⊎◌, inl, inr, refl, sym, ap, ◌∙◌, subst, arith}
use Rattle.std.proofs.lemmas.Bool.{cases_eq, cases_lt, eqb-true, eq-eqb, ne_eqb, or_cases, or_left, or_right, or_parts, false≢true, both_ways, false_from_ne_true}
use Rattle.std.proofs.lemmas.Bool.Decides.{nat_tests}
use Rattle.mat_sets.specs.Sets.{is_member, IsRising, RisesFrom, AreDistinct}
use Rattle.mat_sets.specs.Graphs.{Joins, Walk}
use Rattle.mat_sets.proofs.Members.{is_member-append, is_member-head, missing_below}
use Rattle.mat_sets.proofs.Truths.{eqb-turned}
use Rattle.mat_graphic.specs.TrailSearches.{Trail}
use Rattle.mat_graphic.specs.Mergings.{merged, least_merged}

-- ---- two components become one

min_cases : (p q : ℕ) → ((p ≤ q) × (min p q ≡ p)) ⊎ ((q < p) × (min p q ≡ q))
min_cases p q = elim (cases_lt q p) [ inl l ↦ inr (l, omega arith) | inr l ↦ inl (l, omega arith) ]

-- r is one of the two, or stays
pub merged_cases : (p q r : ℕ) → (((r ≡ p) ⊎ (r ≡ q)) × (merged p q r ≡ min p q)) ⊎ ((r ≢ p) × (r ≢ q) × (merged p q r ≡ r))
merged_cases p q r = elim (cases_eq r p) [
  | inl e ↦ inl (inl e, rw (eq-eqb r p e) refl)
  | inr d ↦ elim (cases_eq r q) [
    | inl e ↦ inl (inr e, rw (ne_eqb r p d, eq-eqb r q e) refl)
    | inr o ↦ inr (d, o, rw (ne_eqb r p d, ne_eqb r q o) refl)
  ]
]

pub merged-first : (p q : ℕ) → merged p q p ≡ min p q
merged-first p q = rw (eq-eqb p p refl) refl

pub merged-second : (p q : ℕ) → merged p q q ≡ min p q
merged-second p q = elim (merged_cases p q q) [ inl c ↦ c.1 | inr c ↦ absurd (c.1 refl) ]

pub merged-le : (p q r : ℕ) → merged p q r ≤ r
merged-le p q r = elim (merged_cases p q r) [
  | inl c ↦ elim c.0 [ inl e ↦ omega (arith, c.1) | inr e ↦ omega (arith, c.1) ]
  | inr c ↦ omega (arith, c.2)
]

pub merged-same : (p r : ℕ) → merged p p r ≡ r
merged-same p r = elim (merged_cases p p r) [
  | inl c ↦ elim c.0 [ inl e ↦ omega (arith, c.1) | inr e ↦ omega (arith, c.1) ]
  | inr c ↦ c.2
]

-- what becomes one was the same, or was the one and the other
merged_equal : (p q r s : ℕ) → merged p q r ≡ merged p q s → (r ≡ s) ⊎ (((r ≡ p) × (s ≡ q)) ⊎ ((r ≡ q) × (s ≡ p)))
merged_equal p q r s h = elim (merged_cases p q r) [
  | inl c ↦ elim (merged_cases p q s) [
    | inl d ↦ both c.0 d.0
    | inr d ↦ absurd (stays p q s d.0 d.1 (sym c.1 ∙ h ∙ d.2))
  ]
  | inr c ↦ elim (merged_cases p q s) [
    | inl d ↦ absurd (stays p q r c.0 c.1 (sym d.1 ∙ sym h ∙ c.2))
    | inr d ↦ inl (sym c.2 ∙ h ∙ d.2)
  ]
]
  where
    both : (r ≡ p) ⊎ (r ≡ q) → (s ≡ p) ⊎ (s ≡ q) → (r ≡ s) ⊎ (((r ≡ p) × (s ≡ q)) ⊎ ((r ≡ q) × (s ≡ p)))
    both a b = elim a [
      | inl e ↦ elim b [ inl f ↦ inl (e ∙ sym f) | inr f ↦ inr (inl (e, f)) ]
      | inr e ↦ elim b [ inl f ↦ inr (inr (e, f)) | inr f ↦ inl (e ∙ sym f) ]
    ]

    stays : (p q z : ℕ) → z ≢ p → z ≢ q → min p q ≡ z → ⊥
    stays p q z d o e = elim (min_cases p q) [ inl c ↦ d (sym e ∙ c.1) | inr c ↦ o (sym e ∙ c.1) ]

-- f gives the least vertices before: each is its own, and so after
pub merged-fixed : (f : ℕ → ℕ) (a b v : ℕ) → f (f a) ≡ f a → f (f b) ≡ f b → f (f v) ≡ f v
    → merged (f a) (f b) (f (merged (f a) (f b) (f v))) ≡ merged (f a) (f b) (f v)
merged-fixed f a b v ha hb hv = elim (merged_cases (f a) (f b) (f v)) [
  | inl c ↦ elim (min_cases (f a) (f b)) [
    | inl d ↦ (let e : merged (f a) (f b) (f v) ≡ f a = c.1 ∙ d.1 in ap (λ z. merged (f a) (f b) (f z)) e ∙ ap (merged (f a) (f b)) ha
        ∙ merged-first (f a) (f b) ∙ sym c.1)
    | inr d ↦ (let e : merged (f a) (f b) (f v) ≡ f b = c.1 ∙ d.1 in ap (λ z. merged (f a) (f b) (f z)) e ∙ ap (merged (f a) (f b)) hb
        ∙ merged-second (f a) (f b) ∙ sym c.1)
  ]
  | inr c ↦ ap (λ z. merged (f a) (f b) (f z)) c.2 ∙ ap (merged (f a) (f b)) hv
]

-- ---- lists of different edges

pub in_tail : (e f : ℕ) (edges : List ℕ) → is_member e (f ∷ edges) ≡ true → eqb e f ≡ false → is_member e edges ≡ true
in_tail e f edges a b = grind (arith, nat_tests)

missing_joined : (x e : ℕ) (P Q : List ℕ) → is_member x P ≡ false → is_member x Q ≡ false → eqb x e ≡ false
    → is_member x (P ++ e ∷ Q) ≡ false
missing_joined x e P Q a b c = let h = is_member-append x P (e ∷ Q) in grind (arith, nat_tests)

AreDistinct-joined : (e : ℕ) (P Q : List ℕ) → AreDistinct P → AreDistinct Q → is_member e P ≡ false → is_member e Q ≡ false
    → ((f : ℕ) → is_member f P ≡ true → is_member f Q ≡ false) → AreDistinct (P ++ e ∷ Q)
AreDistinct-joined e [] Q p q a b c = (b, q)
AreDistinct-joined e (x ∷ P) Q p q a b c =
    let h = or_parts (eqb e x) (is_member e P) a in (
      missing_joined x e P Q p.0 (c x (is_member-head x P)) (eqb-turned x e ∙ h.0),
      AreDistinct-joined e P Q p.1 q h.1 b (λ f m. c f (or_right (eqb f x) (is_member f P) m)),
    )

module _ (ends : ℕ → ℕ × ℕ) where
  -- ---- the least vertex of a component, by merging

  pub least_merged-le : (X : List ℕ) (v : ℕ) → least_merged ends X v ≤ v
  unfolding least_merged
  least_merged-le [] v = omega arith
  least_merged-le (e ∷ X) v = omega (
    arith,
    least_merged-le X v,
    merged-le (least_merged ends X (ends e).0) (least_merged ends X (ends e).1)
        (least_merged ends X v),
  )

  pub least_merged-fixed : (X : List ℕ) (v : ℕ) → least_merged ends X (least_merged ends X v) ≡ least_merged ends X v
  unfolding least_merged
  least_merged-fixed [] v = refl
  least_merged-fixed (e ∷ X) v =
      merged-fixed (least_merged ends X) (ends e).0 (ends e).1 v (least_merged-fixed X (ends e).0) (least_merged-fixed X (ends e).1)
      (least_merged-fixed X v)

  -- edge e lies within a component of X: the least vertex is the same at both of its ends
  abbrev pub IsWithin : List ℕ → ℕ → Type 0
  IsWithin X e = least_merged ends X (ends e).0 ≡ least_merged ends X (ends e).1

  -- such an edge merges nothing
  pub least_merged-within : (X : List ℕ) (e v : ℕ) → IsWithin X e → least_merged ends (e ∷ X) v ≡ least_merged ends X v
  unfolding least_merged
  least_merged-within X e v same = ap (λ q. merged (least_merged ends X (ends e).0) q (least_merged ends X v)) (sym same)
      ∙ merged-same (least_merged ends X (ends e).0) (least_merged ends X v)

  pub member_within : (X : List ℕ) (e : ℕ) → is_member e X ≡ true → IsWithin X e
  unfolding least_merged
  member_within [] e h = absurd (false≢true h)
  member_within (x ∷ X) e h = elim (or_cases (eqb e x) (is_member e X) h) [
    | inl k ↦ (let p = least_merged ends X (ends x).0 in
        let q = least_merged ends X (ends x).1 in
        let same : e ≡ x = eqb-true e x k in
        ap (λ z. merged p q (least_merged ends X (ends z).0)) same ∙ merged-first p q
        ∙ sym (ap (λ z. merged p q (least_merged ends X (ends z).1)) same ∙ merged-second p q))
    | inr k ↦ ap (merged (least_merged ends X (ends x).0) (least_merged ends X (ends x).1)) (member_within X e k)
  ]

  pub joins_same : (X : List ℕ) (e v u : ℕ) → IsWithin X e → Joins ends e v u → least_merged ends X v ≡ least_merged ends X u
  joins_same X e v u h j = elim j [
    | inl k ↦ ap (least_merged ends X) (sym k.0) ∙ h ∙ ap (least_merged ends X) k.1
    | inr k ↦ ap (least_merged ends X) (sym k.1) ∙ sym h ∙ ap (least_merged ends X) k.0
  ]

  -- ---- along walks

  pub walk_same : (X edges : List ℕ) (v w : ℕ) → ((e : ℕ) → is_member e edges ≡ true → IsWithin X e) → Walk ends edges v w
      → least_merged ends X v ≡ least_merged ends X w
  walk_same X [] v w h k = ap (least_merged ends X) k
  walk_same X (e ∷ edges) v w h k =
      joins_same X e v k.0 (h e (is_member-head e edges)) k.1
      ∙ walk_same X edges k.0 w (λ f m. h f (or_right (eqb f e) (is_member f edges) m)) k.2

  -- so at the ends of each edge of a walk it is what it is at the start
  walk_edge : (X edges : List ℕ) (v w f : ℕ) → ((e : ℕ) → is_member e edges ≡ true → IsWithin X e) → Walk ends edges v w
      → is_member f edges ≡ true
      → least_merged ends X (ends f).0 ≡ least_merged ends X v
  walk_edge X [] v w f h k m = absurd (false≢true m)
  walk_edge X (e ∷ edges) v w f h k m =
      let here = h e (is_member-head e edges) in
      elim (or_cases (eqb f e) (is_member f edges) m) [
        | inl q ↦ ap (λ z. least_merged ends X (ends z).0) (eqb-true f e q)
            ∙ elim k.1 [ inl j ↦ ap (least_merged ends X) j.0 | inr j ↦ here ∙ ap (least_merged ends X) j.1 ]
        | inr q ↦ walk_edge X edges k.0 w f (λ g n. h g (or_right (eqb g e) (is_member g edges) n)) k.2 q ∙ sym (joins_same X e v k.0 here k.1)
      ]

  pub walk_append : (edges others : List ℕ) (v u w : ℕ) → Walk ends edges v u → Walk ends others u w → Walk ends (edges ++ others) v w
  walk_append [] others v u w a b = subst (λ x. Walk ends others x w) (sym a) b
  walk_append (e ∷ edges) others v u w a b = (a.0, a.1, walk_append edges others a.0 u w a.2 b)

  -- ---- trails between vertices where it is the same

  abbrev trail_in_more : (e : ℕ) (X : List ℕ) (v w : ℕ) → Trail ends X v w → Trail ends (e ∷ X) v w
  trail_in_more e X v w P =
      record {
        edges = P.edges;
        distinct = P.distinct;
        inside = record {
          inside = λ z k. or_right (eqb z e) (is_member z X)
              (P.inside.inside z k);
        };
        walk = P.walk;
      }

  -- two trails in different components and an edge between them
  joined_trail : (e : ℕ) (X : List ℕ) (v a b w : ℕ) → is_member e X ≡ false → least_merged ends X v ≢ least_merged ends X w
      → Joins ends e a b → Trail ends X v a → Trail ends X b w → Trail ends (e ∷ X) v w
  joined_trail e X v a b w out d j P Q =
      let first : (g : ℕ) → is_member g P.edges ≡ true → IsWithin X g = λ g k. member_within X g (P.inside.inside g k) in
      let second : (g : ℕ) → is_member g Q.edges ≡ true → IsWithin X g = λ g k. member_within X g (Q.inside.inside g k) in
      record {
        edges = P.edges ++ e ∷ Q.edges;
        distinct = AreDistinct-joined e P.edges Q.edges P.distinct Q.distinct
            (false_from_ne_true _ (λ h. both_ways _ out (P.inside.inside e h))) (false_from_ne_true _ (λ h. both_ways _ out (Q.inside.inside e h)))
            (λ f m. false_from_ne_true _ (λ n. d (sym (walk_edge X P.edges v a f first P.walk m)
            ∙ walk_edge X Q.edges b w f second Q.walk n ∙ walk_same X Q.edges b w second Q.walk)));
        inside = record {
          inside = λ z m. elim (or_cases (is_member z P.edges) (is_member z (e ∷ Q.edges))
              (sym (is_member-append z P.edges (e ∷ Q.edges)) ∙ m)) [
                | inl h ↦ or_right (eqb z e) (is_member z X) (P.inside.inside z h)
                | inr h ↦ elim (or_cases (eqb z e) (is_member z Q.edges) h)
                    [ inl k ↦ or_left (eqb z e) (is_member z X) k | inr k ↦ or_right (eqb z e) (is_member z X) (Q.inside.inside z k) ]
              ];
        };
        walk = walk_append P.edges (e ∷ Q.edges) v a w P.walk (b, j, Q.walk);
      }

  trail_from : (lo : ℕ) (X : List ℕ) (v w : ℕ) → RisesFrom lo X → least_merged ends X v ≡ least_merged ends X w → Trail ends X v w
  unfolding least_merged
  trail_from lo [] v w r h = record { edges = []; distinct = tt; inside = record { inside = λ z k. k }; walk = h }
  trail_from lo (e ∷ X) v w r h =
      let out : is_member e X ≡ false = missing_below e (suc e) X (omega arith) r.1 in
      elim (cases_eq (least_merged ends X v) (least_merged ends X w)) [
        | inl same ↦ trail_in_more e X v w (trail_from (suc e) X v w r.1 same)
        | inr d ↦ elim (merged_equal (least_merged ends X (ends e).0) (least_merged ends X (ends e).1) (least_merged ends X v)
            (least_merged ends X w) h) [
              | inl same ↦ absurd (d same)
              | inr k ↦ elim k [
                | inl c ↦ joined_trail e X v (ends e).0 (ends e).1 w out d (inl (refl, refl))
                    (trail_from (suc e) X v (ends e).0 r.1 c.0) (trail_from (suc e) X (ends e).1 w r.1 (sym c.1))
                | inr c ↦ joined_trail e X v (ends e).1 (ends e).0 w out d (inr (refl, refl))
                    (trail_from (suc e) X v (ends e).1 r.1 c.0) (trail_from (suc e) X (ends e).0 w r.1 (sym c.1))
              ]
            ]
      ]

  -- vertices where it is the same are joined by a trail
  pub trail_of_same : (X : List ℕ) (v w : ℕ) → IsRising X → least_merged ends X v ≡ least_merged ends X w → Trail ends X v w
  trail_of_same X v w r h = trail_from 0 X v w r.rises h

  -- what is the same at both ends of each member is so where the least vertex is
  pub constant_on_components : (f : ℕ → ℕ) (X : List ℕ) → ((e : ℕ) → is_member e X ≡ true → f (ends e).0 ≡ f (ends e).1)
      → (v w : ℕ) → least_merged ends X v ≡ least_merged ends X w → f v ≡ f w
  unfolding least_merged
  constant_on_components f [] h v w same = ap f same
  constant_on_components f (e ∷ X) h v w same =
      let rest = constant_on_components f X (λ g m. h g (or_right (eqb g e) (is_member g X) m)) in
      let here : f (ends e).0 ≡ f (ends e).1 = h e (is_member-head e X) in
      elim (merged_equal (least_merged ends X (ends e).0) (least_merged ends X (ends e).1) (least_merged ends X v) (least_merged ends X w) same) [
        | inl own ↦ rest v w own
        | inr c ↦ elim c [
          | inl k ↦ rest v (ends e).0 k.0 ∙ here ∙ sym (rest w (ends e).1 k.1)
          | inr k ↦ rest v (ends e).1 k.0 ∙ sym here ∙ sym (rest w (ends e).0 k.1)
        ]
      ]

  -- so the components are those of the members, in whatever order they are merged
  pub least_merged-same : (X Y : List ℕ) → ((z : ℕ) → is_member z X ≡ is_member z Y) → (v : ℕ)
      → least_merged ends X v ≡ least_merged ends Y v
  least_merged-same X Y same v =
      let there : least_merged ends Y (least_merged ends X v) ≡ least_merged ends Y v =
      constant_on_components (least_merged ends Y) X (λ e m. member_within Y e (sym (same e) ∙ m)) _ v (least_merged-fixed X v) in
      let back : least_merged ends X (least_merged ends Y v) ≡ least_merged ends X v =
      constant_on_components (least_merged ends X) Y (λ e m. member_within X e (same e ∙ m)) _ v (least_merged-fixed Y v) in
      omega (arith, least_merged-le Y (least_merged ends X v), least_merged-le X (least_merged ends Y v))
