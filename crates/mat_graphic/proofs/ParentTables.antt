-- Tables of parents: what each loop and each change of an entry keeps, for whatever components the table is of.
use Rattle.mat_graphic.proofs.Common.{◌≡◌, ℕ, ◌+◌, ◌<◌, ◌≤◌, ◌≢◌, min, max, List, [], ◌∷◌, ◌++◌, length, get_or, set, ◌⊎◌, inl, inr, refl, sym, ap, ◌∙◌, subst, arith, get_or-set_other, get_or-set_same, length-set, length-append, set-get_or, get_or_append_left, cases_eq, cases_lt, merged}
use Rattle.mat_graphic.proofs.Common.{merged_cases, merged-first, merged-second, merged-fixed, merged-same, IsDescending, IsParentTable}
use Rattle.std.proofs.Math.Seq.{get_or-append_seam}

-- an entry after a change at i
at_set : (xs : List ℕ) (i u k : ℕ) → i < length xs
    → ((k ≡ i) × (get_or (set xs i u) k 0 ≡ u)) ⊎ ((k ≢ i) × (get_or (set xs i u) k 0 ≡ get_or xs k 0))
at_set xs i u k l = elim (cases_eq k i) [
  | inl e ↦ inl (e, ap (λ j. get_or (set xs i u) j 0) e ∙ rw get_or-set_same refl)
  | inr d ↦ inr (d, rw get_or-set_other refl)
]

pub IsDescending-set : (parent : List ℕ) (v u : ℕ) → v < length parent → u ≤ v → IsDescending parent → IsDescending (set parent v u)
IsDescending-set parent v u l h d = record {
  at = λ k small. let inside : k < length parent = omega (arith, length-set parent v u) in elim (at_set parent v u k l) [
    | inl a ↦ omega (arith, a.0, a.1)
    | inr a ↦ omega (arith, a.1, d.at k inside)
  ];
}

-- the parent of v may be replaced by its own parent
IsParentTable-halved : (least : ℕ → ℕ) (parent : List ℕ) (v : ℕ) → v < length parent → get_or parent v 0 ≢ v → IsDescending parent
    → IsParentTable least parent → IsParentTable least (set parent v (get_or parent (get_or parent v 0) 0))
IsParentTable-halved least parent v l other d t =
    let p = get_or parent v 0 in
    let first = d.at v l in
    let second = d.at p (omega arith) in
    let up : least (get_or parent p 0) ≡ least v = t.same p (omega arith) ∙ t.same v l in
    let long = length-set parent v (get_or parent p 0) in
    record {
      same = λ k small. elim (at_set parent v (get_or parent p 0) k l) [
        | inl a ↦ ap least a.1 ∙ up ∙ ap least (sym a.0)
        | inr a ↦ ap least a.1 ∙ t.same k (omega arith)
      ];
      root = λ k small own. elim (at_set parent v (get_or parent p 0) k l) [
        | inl a ↦ absurd (other (omega (arith, a.0, a.1)))
        | inr a ↦ t.root k (omega arith) (sym a.1 ∙ own)
      ];
      fixed = t.fixed;
    }

-- ---- two components become one

merged-min : (p q : ℕ) → merged p q (min p q) ≡ min p q
merged-min p q = elim (merged_cases p q (min p q)) [ inl c ↦ c.1 | inr c ↦ c.2 ]

merged-max : (p q : ℕ) → merged p q (max p q) ≡ min p q
merged-max p q = elim (cases_lt p q) [
  | inl l ↦ (let e : max p q ≡ q = omega arith in ap (merged p q) e ∙ merged-second p q)
  | inr l ↦ (let e : max p q ≡ p = omega arith in ap (merged p q) e ∙ merged-first p q)
]

merged-root : (p q r : ℕ) → r ≢ max p q → merged p q r ≡ r
merged-root p q r other = elim (merged_cases p q r) [
  | inr c ↦ c.2
  | inl c ↦ c.1 ∙ elim c.0 [
    | inl e ↦ elim (cases_lt p q) [ inl l ↦ omega arith | inr l ↦ absurd (other (omega arith)) ]
    | inr e ↦ elim (cases_lt p q) [ inl l ↦ absurd (other (omega arith)) | inr l ↦ omega arith ]
  ]
]

module _ (least : ℕ → ℕ) where
  either_fixed : (p q : ℕ) → least p ≡ p → least q ≡ q → (least (max p q) ≡ max p q) × (least (min p q) ≡ min p q)
  either_fixed p q hp hq = elim (cases_lt p q) [
    | inl l ↦ (let high : max p q ≡ q = omega arith in let low : min p q ≡ p = omega arith in
        (ap least high ∙ hq ∙ sym high, ap least low ∙ hp ∙ sym low))
    | inr l ↦ (let high : max p q ≡ p = omega arith in let low : min p q ≡ q = omega arith in
        (ap least high ∙ hp ∙ sym high, ap least low ∙ hq ∙ sym low))
  ]

  -- the higher of two least vertices gets the lower one as its parent
  joined : (parent : List ℕ) (p q : ℕ) → max p q < length parent → p ≢ q → least p ≡ p → least q ≡ q → IsParentTable least parent
      → IsParentTable (λ v. merged p q (least v)) (set parent (max p q) (min p q))
  joined parent p q l differ hp hq t =
      let high = max p q in
      let low = min p q in
      let own = either_fixed p q hp hq in
      let long = length-set parent high low in
      record {
        same = λ k small. elim (at_set parent high low k l) [
          | inl a ↦ ap (λ v. merged p q (least v)) a.1 ∙ ap (merged p q) own.1 ∙ merged-min p q ∙ sym (merged-max p q) ∙ sym
              (ap (merged p q) (ap least a.0 ∙ own.0))
          | inr a ↦ ap (λ v. merged p q (least v)) a.1 ∙ ap (merged p q) (t.same k (omega arith))
        ];
        root = λ k small e. elim (at_set parent high low k l) [
          | inl a ↦ absurd (differ (omega (arith, a.0, a.1)))
          | inr a ↦ ap (merged p q) (t.root k (omega arith) (sym a.1 ∙ e)) ∙ merged-root p q k a.0
        ];
        fixed = λ v. subst (λ x. merged x q (least (merged x q (least v))) ≡ merged x q (least v)) hp
            (subst (λ y. merged (least p) y (least (merged (least p) y (least v))) ≡ merged (least p) y (least v)) hq
            (merged-fixed least p q v (t.fixed p) (t.fixed q) (t.fixed v)));
      }

  -- the same with p and q found as the least vertices of the components of a and b
  pub IsParentTable-joined : (parent : List ℕ) (p q a b : ℕ) → max p q < length parent → p ≢ q → p ≡ least a → q ≡ least b
      → IsParentTable least parent
      → IsParentTable (λ v. merged (least a) (least b) (least v)) (set parent (max p q) (min p q))
  IsParentTable-joined parent p q a b l differ pa qb t =
      let now : ℕ → ℕ → Type 0 = λ x y. IsParentTable (λ v. merged x y (least v)) (set parent (max p q) (min p q)) in
      subst (λ x. now x (least b)) pa (subst (now p) qb (joined parent p q l differ (ap least pa ∙ t.fixed a ∙ sym pa)
      (ap least qb ∙ t.fixed b ∙ sym qb) t))

  pub IsParentTable-equal : (other : ℕ → ℕ) (parent : List ℕ) → ((v : ℕ) → other v ≡ least v) → IsParentTable least parent
      → IsParentTable other parent
  IsParentTable-equal other parent h t = record {
    same = λ k l. h (get_or parent k 0) ∙ t.same k l ∙ sym (h k);
    root = λ k l e. h k ∙ t.root k l e;
    fixed = λ v. h (other v) ∙ ap least (h v) ∙ t.fixed v ∙ sym (h v);
  }

  -- where a and b are in one component nothing changes
  pub IsParentTable-within : (parent : List ℕ) (a b : ℕ) → least a ≡ least b → IsParentTable least parent
      → IsParentTable (λ v. merged (least a) (least b) (least v)) parent
  IsParentTable-within parent a b e t =
      IsParentTable-equal (λ v. merged (least a) (least b) (least v)) parent
      (λ v. ap (λ x. merged (least a) x (least v)) (sym e) ∙ merged-same (least a) (least v)) t

-- ---- the search for the least vertex

-- v is in the component of the start, and the table is of the same components
pub record IsFinding (old : List ℕ) (start : ℕ) (parent : List ℕ) (v : ℕ) : Type 0 where
  pub descending : IsDescending parent
  pub long : length parent ≡ length old
  pub low : v ≤ start
  pub table : (least : ℕ → ℕ) → IsParentTable least old → IsParentTable least parent × (least v ≡ least start)

pub IsFinding-start : (old : List ℕ) (start : ℕ) → IsDescending old → IsFinding old start old start
IsFinding-start old start d = record { descending = d; long = refl; low = omega arith; table = λ least t. (t, refl) }

pub IsFinding-next : (old : List ℕ) (start : ℕ) (parent : List ℕ) (v : ℕ) → start < length old → get_or parent v 0 ≢ v
    → IsFinding old start parent v
    → IsFinding old start (set parent v (get_or parent (get_or parent v 0) 0)) (get_or parent (get_or parent v 0) 0)
IsFinding-next old start parent v l other f =
    let long = f.long in
    let low = f.low in
    let inside : v < length parent = omega arith in
    let p = get_or parent v 0 in
    let first = f.descending.at v inside in
    let second = f.descending.at p (omega arith) in
    record {
      descending = IsDescending-set parent v (get_or parent p 0) inside (omega arith) f.descending;
      long = length-set parent v (get_or parent p 0) ∙ long;
      low = omega arith;
      table = λ least t. (let w = f.table least t in (
        IsParentTable-halved least parent v inside other f.descending w.0,
        w.0.same p (omega arith)
            ∙ w.0.same v inside ∙ w.1,
      ));
    }

pub IsFinding-end : (old : List ℕ) (start : ℕ) (parent : List ℕ) (v : ℕ) → start < length old → get_or parent v 0 ≡ v
    → IsFinding old start parent v
    → (least : ℕ → ℕ) → IsParentTable least old → IsParentTable least parent × (v ≡ least start)
IsFinding-end old start parent v l own f least t =
    let w = f.table least t in
    (w.0, sym (w.0.root v (omega (arith, f.long, f.low)) own) ∙ w.1)

-- ---- each vertex a component of its own

pub record IsSingletons (parent : List ℕ) (n : ℕ) : Type 0 where
  pub long : length parent ≡ n
  pub own : (k : ℕ) → k < n → get_or parent k 0 ≡ k

pub IsSingletons-more : (parent : List ℕ) (n : ℕ) → IsSingletons parent n → IsSingletons (parent ++ n ∷ []) (n + 1)
IsSingletons-more parent n a = record {
  long = omega (arith, a.long, length-append parent (n ∷ []));
  own = λ k l. let long = a.long in elim (cases_lt k n) [
    | inl less ↦ get_or_append_left parent (n ∷ []) 0 k (omega arith) ∙ a.own k less
    | inr le ↦ (let e : k ≡ length parent = omega arith in ap (λ j. get_or (parent ++ n ∷ []) j 0) e ∙ get_or-append_seam parent n [] 0
        ∙ sym long ∙ sym e)
  ];
}

pub IsSingletons-table : (parent : List ℕ) (n : ℕ) → IsSingletons parent n → IsParentTable (λ v. v) parent
IsSingletons-table parent n a = record { same = λ v l. a.own v (omega (arith, a.long)); root = λ v l e. refl; fixed = λ v. refl }

pub IsSingletons-descending : (parent : List ℕ) (n : ℕ) → IsSingletons parent n → IsDescending parent
IsSingletons-descending parent n a = record { at = λ v l. omega (arith, a.own v (omega (arith, a.long))) }

pub ruleset singletons = (IsSingletons-more, IsSingletons-table, IsSingletons-descending)

-- ---- each parent becomes the least vertex

-- the first i parents are the least vertices
pub record IsSettling (old : List ℕ) (i : ℕ) (parent : List ℕ) : Type 0 where
  pub descending : IsDescending parent
  pub long : length parent ≡ length old
  pub table : (least : ℕ → ℕ) → IsParentTable least old
      → IsParentTable least parent × ((k : ℕ) → k < i → get_or parent k 0 ≡ least k)

settled_table : (least : ℕ → ℕ) (parent : List ℕ) (i : ℕ) → i < length parent → IsDescending parent → IsParentTable least parent
    → IsParentTable least (set parent i (get_or parent (get_or parent i 0) 0))
settled_table least parent i l d t = elim (cases_eq (get_or parent i 0) i) [
  | inl own ↦ (let same : set parent i (get_or parent (get_or parent i 0) 0) ≡ parent = ap (λ k. set parent i (get_or parent k 0)) own
      ∙ set-get_or parent i 0 in
      subst (IsParentTable least) (sym same) t)
  | inr other ↦ IsParentTable-halved least parent i l other d t
]

pub IsSettling-next : (old : List ℕ) (i : ℕ) (parent : List ℕ) → i < length parent → IsSettling old i parent
    → IsSettling old (i + 1) (set parent i (get_or parent (get_or parent i 0) 0))
IsSettling-next old i parent l s =
    let p = get_or parent i 0 in
    let first = s.descending.at i l in
    let second = s.descending.at p (omega arith) in
    record {
      descending = IsDescending-set parent i (get_or parent p 0) l (omega arith) s.descending;
      long = length-set parent i (get_or parent p 0) ∙ s.long;
      table = λ least t. (let w = s.table least t in
          let here : get_or parent p 0 ≡ least i = elim (cases_eq p i) [
            | inl own ↦ ap (λ k. get_or parent k 0) own ∙ own ∙ sym (w.0.root i l own)
            | inr other ↦ w.1 p (omega arith) ∙ w.0.same i l
          ] in (
            settled_table least parent i l s.descending w.0,
            λ k small. elim (at_set parent i (get_or parent p 0) k l) [
              | inl a ↦ a.1 ∙ here ∙ ap least (sym a.0)
              | inr a ↦ a.1 ∙ w.1 k (let other = a.0 in omega arith)
            ],
          ));
    }
