-- A rooted forest gets one edge more. Outside the tree of its second end all vertices stay as they are, as two of them are in one component afterwards
-- only if they were before; the tree itself is read from the second end on, first up to its root and then down.
use Rattle.mat_graphic.proofs.Common.{◌≡◌, ◌≢◌, ℕ, zero, suc, ◌+◌, ◌-◌, ◌<◌, ◌≤◌, min, Bool, true, false, ◌||◌, eqb, List, [], ◌∷◌, ◌++◌, length, get_or, ◌⊎◌, inl, inr, refl, sym, ap, ◌∙◌, subst, arith, both_ways, cases_Bool, cases_eq, cases_lt, eqb-true, eq-eqb, or_cases, or_left, or_right, Joins}
use Rattle.mat_graphic.proofs.Common.{is_member, is_member-get_or, place_of_member, same_truth, least_merged-same, merged_cases, AreFlags, IsCopied, IsHung, IsNewEdge, IsTurned, StayApart, least_merged, merged, IsRootedForest, IsFindable, IsFront, IsOrder, IsTree}
use Rattle.mat_graphic.specs.declared.rooted_forest.RootedForest.{RootedForest}
use Rattle.mat_graphic.proofs.Roots.{component_at, roots-differ, same-before}
use Rattle.mat_graphic.proofs.TrailScans.{IsFront-member, IsFront-trans}

-- ---- components

min_is : (p q : ℕ) → (min p q ≡ p) ⊎ (min p q ≡ q)
min_is p q = elim (cases_lt p q) [ inl l ↦ inl (omega arith) | inr l ↦ inr (omega arith) ]

-- components other than the second one stay apart when it is merged with the first one
merged_apart : (p q r s : ℕ) → r ≢ q → s ≢ q → merged p q r ≡ merged p q s → r ≡ s
merged_apart p q r s other another same = elim (merged_cases p q r) [
  | inl c ↦ elim (merged_cases p q s) [
    | inl d ↦ is_first r other c.0 ∙ sym (is_first s another d.0)
    | inr d ↦ absurd (not_least s d.0 d.1 (sym d.2 ∙ sym same ∙ c.1))
  ]
  | inr c ↦ elim (merged_cases p q s) [
    | inl d ↦ absurd (not_least r c.0 c.1 (sym c.2 ∙ same ∙ d.1))
    | inr d ↦ sym c.2 ∙ same ∙ d.2
  ]
]
  where
    is_first : (x : ℕ) → x ≢ q → (x ≡ p) ⊎ (x ≡ q) → x ≡ p
    is_first x n (inl e) = e
    is_first x n (inr e) = absurd (n e)

    not_least : (x : ℕ) → x ≢ p → x ≢ q → x ≡ min p q → ⊥
    not_least x n m e = elim (min_is p q) [ inl f ↦ n (e ∙ f) | inr f ↦ m (e ∙ f) ]

-- ---- the flags of a tree

-- the flags of the first places
pub record AreFirstFlags (before : List ℕ) (root at : ℕ) (inside : List Bool) : Type 0 where
  pub long : length inside ≡ at
  pub root_is : (k : ℕ) → k < at → get_or before k 0 ≡ k → get_or inside k false ≡ eqb k root
  pub same : (k : ℕ) → k < at → get_or before k 0 < k → get_or inside k false ≡ get_or inside (get_or before k 0) false

-- the flags tell the tree of the root
pub flags_tell : (ends : ℕ → ℕ × ℕ) (X : List ℕ) (forest : RootedForest) (root : ℕ) (inside : List Bool)
    → IsOrder forest.place.items forest.order.items forest.through.items forest.before.items
    → AreFlags forest.before.items root inside → IsTree ends X forest.order.items forest.through.items forest.before.items
    → root < length forest.order.items → get_or forest.before.items root 0 ≡ root → (n k : ℕ) → k < n → k < length forest.order.items
    → get_or inside k false ≡ eqb (component_at ends X forest.order.items k) (component_at ends X forest.order.items root)
flags_tell ends X forest root inside o f t small top zero k l m = absurd (omega arith)
flags_tell ends X forest root inside o f t small top (suc n) k l m =
    let low = o.earlier k m in
    let long : k < length forest.before.items = (let same = o.before_long in omega arith) in
    elim (cases_eq (get_or forest.before.items k 0) k) [
      | inl own ↦ f.root_is k long own
          ∙ roots-differ ends X forest.order.items forest.through.items forest.before.items t k root m small own top
      | inr other ↦
          let down : get_or forest.before.items k 0 < k = omega arith in
          f.same k long down
          ∙ flags_tell ends X forest root inside o f t small top n (get_or forest.before.items k 0) (omega arith) (omega arith)
          ∙ ap (λ r. eqb r (component_at ends X forest.order.items root))
          (same-before ends X forest.order.items forest.through.items forest.before.items t k m down)
    ]

-- vertices outside the tree stay apart
pub outside_apart : (ends : ℕ → ℕ × ℕ) (edge first second : ℕ) (X Y : List ℕ) (forest : RootedForest) (root : ℕ) (inside : List Bool)
    → IsOrder forest.place.items forest.order.items forest.through.items forest.before.items
    → AreFlags forest.before.items root inside → IsTree ends X forest.order.items forest.through.items forest.before.items
    → root < length forest.order.items → get_or forest.before.items root 0 ≡ root
    → component_at ends X forest.order.items root ≡ least_merged ends X second → IsNewEdge ends edge first second X Y
    → StayApart ends X Y forest.order.items inside
unfolding least_merged
outside_apart ends edge first second X Y forest root inside o f t small top same n = record {
  more = λ z m. n.members z ∙ or_right (eqb z edge) (is_member z X) m;
  apart = λ j k l m a b e. merged_apart (least_merged ends X (ends edge).0) (least_merged ends X (ends edge).1) (component_at ends X forest.order.items j)
      (component_at ends X forest.order.items k) (outside j l a) (outside k m b)
      (sym (after (get_or forest.order.items j 0)) ∙ e ∙ after (get_or forest.order.items k 0));
}
  where
    after : (v : ℕ) → least_merged ends Y v
        ≡ merged (least_merged ends X (ends edge).0) (least_merged ends X (ends edge).1) (least_merged ends X v)
    after v = least_merged-same ends Y (edge ∷ X) n.members v

    outside : (k : ℕ) → k < length forest.order.items → get_or inside k false ≡ false
        → component_at ends X forest.order.items k ≢ least_merged ends X (ends edge).1
    outside k l off e = both_ways (get_or inside k false)
        off (flags_tell ends X forest root inside o f t small top (suc k) k (omega arith) l
        ∙ eq-eqb _ _ (e ∙ ap (λ p. least_merged ends X p.1) n.ends_are ∙ sym same))

-- ---- vertices outside the tree

pub IsCopied-passed : (forest new : RootedForest) (inside : List Bool) (at : ℕ) → get_or inside at false ≡ true → IsCopied forest inside at new
    → IsCopied forest inside (at + 1) new
IsCopied-passed forest new inside at on h = record {
  long = h.long;
  ordered = h.ordered;
  come = λ v m. (let q = h.come v m in (q.0, omega arith, q.2, q.3));
  found = λ k l off. elim (cases_eq k at) [
    | inl same ↦ absurd (both_ways (get_or inside k false) off (ap (λ i. get_or inside i false) same ∙ on))
    | inr other ↦ h.found k (omega arith) off
  ];
  tree = h.tree;
}

module _ (forest old new : RootedForest) (inside : List Bool) (at vertex edge place : ℕ) (h : IsCopied forest inside at old)
    (off : get_or inside at false ≡ false) (here : vertex ≡ get_or forest.order.items at 0) where
  pub IsCopied-visited : length new.place.items ≡ length old.place.items
      → IsOrder new.place.items new.order.items new.through.items new.before.items → is_member vertex new.order.items ≡ true
      → ((v : ℕ) → is_member v new.order.items ≡ true → (eqb v vertex || is_member v old.order.items) ≡ true) → IsFront old.order.items new.order.items
      → ((ends : ℕ → ℕ × ℕ) (Y : List ℕ) → IsFindable ends Y old.order.items vertex edge place
      → IsTree ends Y old.order.items old.through.items old.before.items → IsTree ends Y new.order.items new.through.items new.before.items)
      → ((ends : ℕ → ℕ × ℕ) (X Y : List ℕ) → IsTree ends X forest.order.items forest.through.items forest.before.items
      → StayApart ends X Y forest.order.items inside → IsFindable ends Y old.order.items vertex edge place)
      → IsCopied forest inside (at + 1) new
  IsCopied-visited long o found only front tree findable = record {
    long = long ∙ h.long;
    ordered = o;
    come = λ v m. elim (or_cases (eqb v vertex) (is_member v old.order.items) (only v m)) [
      | inl same ↦ (at, omega arith, off, sym here ∙ sym (eqb-true v vertex same))
      | inr before ↦ (let q = h.come v before in (q.0, omega arith, q.2, q.3))
    ];
    found = λ k l out. elim (cases_eq k at) [
      | inl same ↦ ap (λ v. is_member v new.order.items) (ap (λ i. get_or forest.order.items i 0) same ∙ sym here) ∙ found
      | inr other ↦ IsFront-member _ _ _ front (h.found k (omega arith) out)
    ];
    tree = λ ends X Y t s. tree ends Y (findable ends X Y t s) (h.tree ends X Y t s);
  }

  -- a root is found as a root
  pub root_findable : place ≡ length old.order.items → at < length forest.order.items → get_or forest.before.items at 0 ≡ at
      → (ends : ℕ → ℕ × ℕ) (X Y : List ℕ) → IsTree ends X forest.order.items forest.through.items forest.before.items
      → StayApart ends X Y forest.order.items inside → IsFindable ends Y old.order.items vertex edge place
  root_findable last small own ends X Y t s = record {
    member = λ l. absurd (omega arith);
    joined = λ l. absurd (omega arith);
    apart = λ e fresh j l same.
        let q = h.come (get_or old.order.items j 0) (is_member-get_or old.order.items j _ l refl) in
        t.apart at small own q.0 q.1 (s.apart q.0 at (omega arith) small q.2 off (ap (least_merged ends Y) q.3 ∙ same ∙ ap (least_merged ends Y) here));
  }

  -- any other vertex from the one before it
  pub child_findable : at < length forest.order.items → get_or forest.before.items at 0 < at → edge ≡ get_or forest.through.items at 0
      → place < length old.order.items → get_or old.order.items place 0 ≡ get_or forest.order.items (get_or forest.before.items at 0) 0
      → (ends : ℕ → ℕ × ℕ) (X Y : List ℕ) → IsTree ends X forest.order.items forest.through.items forest.before.items
      → StayApart ends X Y forest.order.items inside → IsFindable ends Y old.order.items vertex edge place
  child_findable small down through_is inner there ends X Y t s = record {
    member = λ l. ap (λ e. is_member e Y) through_is ∙ s.more (get_or forest.through.items at 0) (t.member at small down);
    joined = λ l. rw (through_is, here, there) (t.joined at small down);
    apart = λ e. absurd (omega arith);
  }

-- ---- the way up to the root

-- from the vertex at this place the way goes on: an edge joins it to one that was found
pub record IsTurning (forest : RootedForest) (edge first second : ℕ) (old : RootedForest) (at through below : ℕ) (new : RootedForest) : Type 0 where
  pub long : length new.place.items ≡ length old.place.items
  pub ordered : IsOrder new.place.items new.order.items new.through.items new.before.items
  pub front : IsFront old.order.items new.order.items
  pub inside : at < length forest.order.items
  pub below_found : is_member below new.order.items ≡ true
  pub tree : (ends : ℕ → ℕ × ℕ) (X Y : List ℕ) → IsTree ends X forest.order.items forest.through.items forest.before.items
      → ((z : ℕ) → is_member z X ≡ true → is_member z Y ≡ true) → is_member edge Y ≡ true → Joins ends edge second first
      → IsTree ends Y old.order.items old.through.items old.before.items
      → IsTree ends Y new.order.items new.through.items new.before.items × (is_member through Y ≡ true)
      × Joins ends through (get_or forest.order.items at 0) below

joins_back : (ends : ℕ → ℕ × ℕ) (e v u : ℕ) → Joins ends e v u → Joins ends e u v
joins_back ends e v u (inl p) = inr p
joins_back ends e v u (inr p) = inl p

module _ (forest : RootedForest) (edge first second : ℕ) (old : RootedForest) (at through below : ℕ) (now new : RootedForest)
    (h : IsTurning forest edge first second old at through below now) (vertex place : ℕ) (here : vertex ≡ get_or forest.order.items at 0)
    (inner : place < length now.order.items) (there : get_or now.order.items place 0 ≡ below) (long : length new.place.items ≡ length now.place.items)
    (o : IsOrder new.place.items new.order.items new.through.items new.before.items) (found : is_member vertex new.order.items ≡ true)
    (front : IsFront now.order.items new.order.items)
    (tree : (ends : ℕ → ℕ × ℕ) (Y : List ℕ) → IsFindable ends Y now.order.items vertex through place
    → IsTree ends Y now.order.items now.through.items now.before.items → IsTree ends Y new.order.items new.through.items new.before.items) where
  tree_on : (ends : ℕ → ℕ × ℕ) (X Y : List ℕ) → IsTree ends X forest.order.items forest.through.items forest.before.items
      → ((z : ℕ) → is_member z X ≡ true → is_member z Y ≡ true) → is_member edge Y ≡ true → Joins ends edge second first
      → IsTree ends Y old.order.items old.through.items old.before.items → IsTree ends Y new.order.items new.through.items new.before.items
  tree_on ends X Y t m e j before =
      let q = h.tree ends X Y t m e j before in
      tree ends Y (record {
        member = λ l. q.1;
        joined = λ l. rw (here, there) q.2;
        apart = λ last. absurd (omega arith);
      }) q.0

  pub IsTurning-more : get_or forest.before.items at 0 < at
      → IsTurning forest edge first second old (get_or forest.before.items at 0) (get_or forest.through.items at 0) vertex new
  IsTurning-more down = record {
    long = long ∙ h.long;
    ordered = o;
    front = IsFront-trans _ _ _ h.front front;
    inside = (let small = h.inside in omega arith);
    below_found = found;
    tree = λ ends X Y t m e j before. (
      tree_on ends X Y t m e j before,
      m (get_or forest.through.items at 0) (t.member at h.inside down),
      subst (λ v. Joins ends (get_or forest.through.items at 0) (get_or forest.order.items (get_or forest.before.items at 0) 0) v) (sym here)
          (joins_back ends _ _ _ (t.joined at h.inside down)),
    );
  }

  pub IsTurned-end : (root : ℕ) → IsTurned forest root edge first second old (eqb at root) new
  IsTurned-end root = record {
    long = long ∙ h.long;
    ordered = o;
    front = IsFront-trans _ _ _ h.front front;
    root_found = λ e. ap (λ v. is_member v new.order.items) (ap (λ i. get_or forest.order.items i 0) (sym (eqb-true at root e)) ∙ sym here) ∙ found;
    tree = tree_on;
  }

-- ---- the others

pub IsHung-passed : (forest old new : RootedForest) (at : ℕ) → is_member (get_or forest.order.items at 0) old.order.items ≡ true
    → IsHung forest old at new → IsHung forest old (at + 1) new
IsHung-passed forest old new at here h = record {
  long = h.long;
  ordered = h.ordered;
  front = h.front;
  found = λ k l. elim (cases_eq k at) [
    | inl same ↦ ap (λ i. is_member (get_or forest.order.items i 0) new.order.items) same ∙ IsFront-member _ _ _ h.front here
    | inr other ↦ h.found k (omega arith)
  ];
  tree = h.tree;
}

pub IsHung-visited : (forest old now new : RootedForest) (at vertex edge place : ℕ) → IsHung forest old at now → vertex ≡ get_or forest.order.items at 0
    → edge ≡ get_or forest.through.items at 0 → at < length forest.order.items → get_or forest.before.items at 0 < at
    → place < length now.order.items → get_or now.order.items place 0 ≡ get_or forest.order.items (get_or forest.before.items at 0) 0
    → length new.place.items ≡ length now.place.items
    → IsOrder new.place.items new.order.items new.through.items new.before.items → is_member vertex new.order.items ≡ true
    → IsFront now.order.items new.order.items
    → ((ends : ℕ → ℕ × ℕ) (Y : List ℕ) → IsFindable ends Y now.order.items vertex edge place
    → IsTree ends Y now.order.items now.through.items now.before.items → IsTree ends Y new.order.items new.through.items new.before.items)
    → IsHung forest old (at + 1) new
IsHung-visited forest old now new at vertex edge place h here through_is small down inner there long o found front tree = record {
  long = long ∙ h.long;
  ordered = o;
  front = IsFront-trans _ _ _ h.front front;
  found = λ k l. elim (cases_eq k at) [
    | inl same ↦ ap (λ v. is_member v new.order.items) (ap (λ i. get_or forest.order.items i 0) same ∙ sym here) ∙ found
    | inr other ↦ IsFront-member _ _ _ front (h.found k (omega arith))
  ];
  tree = λ ends X Y t m before. tree ends Y (record {
    member = λ l. ap (λ e. is_member e Y) through_is ∙ m (get_or forest.through.items at 0) (t.member at small down);
    joined = λ l. rw (through_is, here, there) (t.joined at small down);
    apart = λ last. absurd (omega arith);
  }) (h.tree ends X Y t m before);
}

-- ---- all together

-- each root is found when the vertices outside the tree and the way up to its root are
pub roots_found : (forest copied turned : RootedForest) (root edge first second : ℕ) (inside : List Bool)
    → IsOrder forest.place.items forest.order.items forest.through.items forest.before.items → AreFlags forest.before.items root inside
    → IsCopied forest inside (length forest.order.items) copied → IsTurned forest root edge first second copied true turned
    → (k : ℕ) → k < length forest.order.items → get_or forest.before.items k 0 ≡ k
    → is_member (get_or forest.order.items k 0) turned.order.items ≡ true
roots_found forest copied turned root edge first second inside o f c t k l own = elim (cases_Bool (get_or inside k false)) [
  | inl on ↦
      let long : k < length forest.before.items = (let same = o.before_long in omega arith) in
      let is = eqb-true k root (sym (f.root_is k long own) ∙ on) in
      ap (λ i. is_member (get_or forest.order.items i 0) turned.order.items) is ∙ t.root_found refl
  | inr off ↦ IsFront-member _ _ _ t.front (c.found k l off)
]

pub hung_is_rooted : (vertices : ℕ) (forest copied turned new : RootedForest) (root edge first second : ℕ) (inside : List Bool)
    → IsOrder forest.place.items forest.order.items forest.through.items forest.before.items → AreFlags forest.before.items root inside
    → root < length forest.order.items → get_or forest.before.items root 0 ≡ root
    → IsCopied forest inside (length forest.order.items) copied → IsTurned forest root edge first second copied true turned
    → IsHung forest turned (length forest.order.items) new
    → (ends : ℕ → ℕ × ℕ) (X Y : List ℕ) → component_at ends X forest.order.items root ≡ least_merged ends X second
    → IsNewEdge ends edge first second X Y → IsRootedForest vertices ends X forest → IsRootedForest vertices ends Y new
hung_is_rooted vertices forest copied turned new root edge first second inside o f small top c t h ends X Y same n k = record {
  long = h.long ∙ t.long ∙ c.long ∙ k.long;
  found = λ v l.
      let w = place_of_member v forest.order.items (k.found v l) in
      subst (λ u. is_member u new.order.items ≡ true) w.2 (h.found w.0 w.1);
  ordered = h.ordered;
  tree =
      let apart = outside_apart ends edge first second X Y forest root inside o f k.tree small top same n in
      h.tree ends X Y k.tree apart.more
      (t.tree ends X Y k.tree apart.more (n.members edge ∙ or_left (eqb edge edge) (is_member edge X) (eq-eqb edge edge refl))
      (inr (ap (λ p. p.0) n.ends_are, ap (λ p. p.1) n.ends_are)) (c.tree ends X Y k.tree apart));
}

-- ---- the new member

-- of two lists the second has one item more, and else they have the same in order: so it has one member more
pub new_member_is : (base next : List ℕ) (at : ℕ) → length next ≡ length base + 1 → at ≤ length base
    → ((k : ℕ) → k < at → get_or base k 0 ≡ get_or next k 0)
    → ((k : ℕ) → at ≤ k → k < length base → get_or base k 0 ≡ get_or next (k + 1) 0)
    → (z : ℕ) → is_member z next ≡ (eqb z (get_or next at 0) || is_member z base)
new_member_is base next at long within front back z = same_truth (is_member z next) (eqb z (get_or next at 0) || is_member z base) there here
  where
    there : is_member z next ≡ true → (eqb z (get_or next at 0) || is_member z base) ≡ true
    there m =
        let w = place_of_member z next m in
        let inner = w.1 in
        elim (cases_lt w.0 at) [
          | inl l ↦ or_right (eqb z (get_or next at 0)) (is_member z base) (is_member-get_or base w.0 z (omega arith) (front w.0 l ∙ w.2))
          | inr l ↦ elim (cases_eq w.0 at) [
            | inl same ↦ or_left (eqb z (get_or next at 0)) (is_member z base) (eq-eqb z _ (sym w.2 ∙ ap (λ i. get_or next i 0) same))
            | inr later ↦
                let k : ℕ = w.0 - 1 in
                let back_at : k + 1 ≡ w.0 = omega arith in
                or_right (eqb z (get_or next at 0)) (is_member z base)
                (is_member-get_or base k z (omega arith) (back k (omega arith) (omega arith) ∙ ap (λ i. get_or next i 0) back_at ∙ w.2))
          ]
        ]

    here : (eqb z (get_or next at 0) || is_member z base) ≡ true → is_member z next ≡ true
    here m = elim (or_cases (eqb z (get_or next at 0)) (is_member z base) m) [
      | inl same ↦ is_member-get_or next at z (omega arith) (sym (eqb-true z _ same))
      | inr old ↦ (let w = place_of_member z base old in
          let inner = w.1 in
          elim (cases_lt w.0 at) [
            | inl l ↦ is_member-get_or next w.0 z (omega arith) (sym (front w.0 l) ∙ w.2)
            | inr l ↦ is_member-get_or next (w.0 + 1) z (omega arith) (sym (back w.0 (omega arith) inner) ∙ w.2)
          ])
    ]
