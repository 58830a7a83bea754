-- The search that roots the trees of a forest: going through the places of a vertex, and asking each found vertex once for its edges. What was
-- found when all were asked holds both ends of an edge or none, so the next root is in another component.
use Rattle.mat_graphic.proofs.Common.{◌≡◌, ℕ, suc, ◌+◌, ◌-◌, ◌<◌, ◌≤◌, ◌≢◌, true, false, eqb, ltb, List, [], ◌∷◌, length, get_or, Option, Some, None, is_some, inl, inr, refl, sym, ap, ◌∙◌, subst, arith, cases_lt, eqb-true, ltb-true, and_parts, or_right, both_ways, get_or_default, is_member}
use Rattle.mat_graphic.proofs.Common.{AllBelow, IsRising, IsNextFrom, Joins, Walk, is_member-get_or, is_member-head, members_by_place, place_of_member, AllBelow-from_members, length-distinct_below, AllBelow-at, AreDistinct-index, same_truth, least_merged, trail_of_same, AreJoined, stands_at}
use Rattle.mat_graphic.proofs.Common.{AreEnds, IsExploring, IsFindable, IsFront, IsOrder, IsTree}

-- an item that was read
pub item_of : (xs : List ℕ) (i x : ℕ) → i < length xs → x ≡ get_or xs i x → get_or xs i 0 ≡ x
item_of xs i x l read = get_or_default xs i 0 x l ∙ sym read

-- ---- fronts

pub IsFront-refl : (xs : List ℕ) → IsFront xs xs
IsFront-refl xs = record { longer = omega arith; same = λ k l. refl }

pub IsFront-trans : (xs ys zs : List ℕ) → IsFront xs ys → IsFront ys zs → IsFront xs zs
IsFront-trans xs ys zs f g = record {
  longer = omega (arith, f.longer, g.longer);
  same = λ k l. g.same k (omega (arith, f.longer)) ∙ f.same k l;
}

pub IsFront-member : (xs ys : List ℕ) (v : ℕ) → IsFront xs ys → is_member v xs ≡ true → is_member v ys ≡ true
IsFront-member xs ys v f m =
    let w = place_of_member v xs m in
    let l = w.1 in
    is_member-get_or ys w.0 v (omega (arith, f.longer)) (f.same w.0 l ∙ w.2)

-- ---- going through the places of a vertex

-- the heads at the places of v before `from` are found, and `next` is the next place
pub record IsScanning (tails heads set old_order old_through old_before : List ℕ) (v n : ℕ) (next : Option ℕ) (place : List (Option ℕ))
    (order through before : List ℕ) : Type 0 where
  pub from : ℕ
  pub next_is : IsNextFrom (stands_at tails v) from next
  pub long : length place ≡ n
  pub is_order : IsOrder place order through before
  pub found : (i : ℕ) → i < from → stands_at tails v i ≡ true → is_member (get_or heads i 0) order ≡ true
  pub front : IsFront old_order order
  pub tree : (ends : ℕ → ℕ × ℕ) (X : List ℕ) → AreJoined ends X tails heads set
      → IsTree ends X old_order old_through old_before → IsTree ends X order through before

-- how many places are left at most
abbrev pub places_left : ℕ → Option ℕ → ℕ
places_left m None = 0
places_left m (Some i) = m - i

pub IsScanning-start : (tails heads set order through before : List ℕ) (v n : ℕ) (next : Option ℕ) (place : List (Option ℕ))
    → IsNextFrom (stands_at tails v) 0 next → length place ≡ n → IsOrder place order through before
    → IsScanning tails heads set order through before v n next place order through before
IsScanning-start tails heads set order through before v n next place first long o = record {
  from = 0;
  next_is = first;
  long = long;
  is_order = o;
  found = λ i l h. absurd (omega arith);
  front = IsFront-refl order;
  tree = λ ends X joined t. t;
}

pub stands_parts : (tails : List ℕ) (v i : ℕ) → stands_at tails v i ≡ true → (i < length tails) × (get_or tails i 0 ≡ v)
stands_parts tails v i h = let parts = and_parts (ltb i (length tails)) (eqb (get_or tails i 0) v) h in
    (ltb-true i (length tails) parts.0, eqb-true (get_or tails i 0) v parts.1)

module _ (tails heads set old_order old_through old_before : List ℕ) (v n i : ℕ) (place : List (Option ℕ)) (order through before : List ℕ)
    (s : IsScanning tails heads set old_order old_through old_before v n (Some i) place order through before) where
  pub scanned_at : (i < length tails) × (get_or tails i 0 ≡ v)
  scanned_at = stands_parts tails v i s.next_is.passes

  pub IsScanning-next : (at : ℕ) (next : Option ℕ) (place' : List (Option ℕ)) (order' through' before' : List ℕ) → at < length old_order
      → v ≡ get_or old_order at 0
      → IsNextFrom (stands_at tails (get_or tails i 0)) (suc i) next → length place' ≡ length place → IsOrder place' order' through' before'
      → is_member (get_or heads i 0) order' ≡ true → IsFront order order'
      → ((ends : ℕ → ℕ × ℕ) (X : List ℕ) → IsFindable ends X order (get_or heads i 0) (get_or set i 0) at
      → IsTree ends X order through before → IsTree ends X order' through' before')
      → IsScanning tails heads set old_order old_through old_before v n next place' order' through' before'
  IsScanning-next at next place' order' through' before' inside vertex after long' o' visited front' tree' = record {
    from = suc i;
    next_is = subst (λ z. IsNextFrom (stands_at tails z) (suc i) next) scanned_at.1 after;
    long = long' ∙ s.long;
    is_order = o';
    found = λ j l h. elim (cases_lt j s.from) [
      | inl less ↦ IsFront-member order order' (get_or heads j 0) front' (s.found j less h)
      | inr past ↦ elim (cases_lt j i) [
        | inl less ↦ absurd (both_ways _ (s.next_is.none_before j past less) h)
        | inr le ↦ (let same : j ≡ i = omega arith in ap (λ z. is_member (get_or heads z 0) order') same ∙ visited)
      ]
    ];
    front = IsFront-trans old_order order order' s.front front';
    tree = λ ends X joined t.
        (let at_i = scanned_at in
        let here : get_or tails i 0 ≡ get_or order at 0 = at_i.1 ∙ vertex ∙ sym (s.front.same at inside) in
        tree' ends X (record {
          member = λ l. joined.0 i at_i.0;
          joined = λ l. subst (Joins ends (get_or set i 0) (get_or heads i 0)) here (joined.1 i at_i.0);
          apart = λ last. absurd (let longer = s.front.longer in omega arith);
        }) (s.tree ends X joined t));
  }

-- ---- each found vertex is asked once

abbrev number_of : Option ℕ → ℕ
number_of None = 0
number_of (Some k) = k

-- vertices at different places differ
pub order-differ : (place : List (Option ℕ)) (order through before : List ℕ) → IsOrder place order through before → (i j : ℕ)
    → i < length order → j < length order
    → get_or order i 0 ≡ get_or order j 0 → i ≡ j
order-differ place order through before o i j il jl e = ap number_of (sym (o.placed i il) ∙ ap (λ v. get_or place v None) e ∙ o.placed j jl)

pub length-order : (place : List (Option ℕ)) (order through before : List ℕ) → IsOrder place order through before
    → length order ≤ length place
length-order place order through before o =
    length-distinct_below (length place) order (AreDistinct-index order
    (λ i j l m e. (let same = order-differ place order through before o i j (omega arith) m e in absurd (omega arith)))) o.below

-- ---- where a vertex is not found, no walk leads to it

AllBelow-index : (n : ℕ) (xs : List ℕ) → ((i : ℕ) → i < length xs → get_or xs i 0 < n) → AllBelow n xs
AllBelow-index n xs h = AllBelow-from_members n xs (members_by_place (λ x. x < n) xs h)

walk_found : (ends : ℕ → ℕ × ℕ) (order edges : List ℕ) (v w : ℕ)
    → ((e : ℕ) → is_member e edges ≡ true → is_member (ends e).0 order ≡ is_member (ends e).1 order)
    → is_member v order ≡ true → Walk ends edges v w → is_member w order ≡ true
walk_found ends order [] v w closed m k = ap (λ x. is_member x order) (sym k) ∙ m
walk_found ends order (e ∷ edges) v w closed m k =
    let here = closed e (is_member-head e edges) in
    walk_found ends order edges k.0 w (λ f n. closed f (or_right (eqb f e) (is_member f edges) n)) (elim k.1 [
      | inl j ↦ ap (λ x. is_member x order) (sym j.1) ∙ sym here ∙ ap (λ x. is_member x order) j.0 ∙ m
      | inr j ↦ ap (λ x. is_member x order) (sym j.0) ∙ here ∙ ap (λ x. is_member x order) j.1 ∙ m
    ]) k.2

module _ (ends : ℕ → ℕ × ℕ) (X firsts seconds : List ℕ) (a : AreEnds ends X firsts seconds) where
  pub ends_joined : AreJoined ends X firsts seconds X
  ends_joined = (
    λ i l. is_member-get_or X i (get_or X i 0) (let long = a.firsts_long in omega arith) refl,
    λ i l. (let small : i < length X = (let long = a.firsts_long in omega arith) in inr (sym (a.first i small), sym (a.second i small))),
  )

  pub ends_joined_back : AreJoined ends X seconds firsts X
  ends_joined_back = (
    λ i l. is_member-get_or X i (get_or X i 0) (let long = a.seconds_long in omega arith) refl,
    λ i l. (let small : i < length X = (let long = a.seconds_long in omega arith) in inl (sym (a.first i small), sym (a.second i small))),
  )

  pub ends_below : (n m : ℕ) → AllBelow m X → ((e : ℕ) → e < m → ((ends e).0 < n) × ((ends e).1 < n))
      → AllBelow n firsts × AllBelow n seconds
  ends_below n m below graph = (
    AllBelow-index n firsts (λ i l. (let small : i < length X = (let long = a.firsts_long in omega arith) in let e = a.first i small in let h =
        (graph (get_or X i 0) (member_below i small)).0 in omega arith)),
    AllBelow-index n seconds (λ i l. (let small : i < length X = (let long = a.seconds_long in omega arith) in let e = a.second i small in let h =
        (graph (get_or X i 0) (member_below i small)).1 in omega arith)),
  )
    where
      member_below : (i : ℕ) → i < length X → get_or X i 0 < m
      member_below i l = AllBelow-at m X i below l

  -- what is found, with each edge of X whole or not at all, is in another component than what is not found
  pub not_joined : (order : List ℕ) (start v : ℕ) → IsRising X
      → ((i : ℕ) → i < length firsts → is_member (get_or firsts i 0) order ≡ is_member (get_or seconds i 0) order)
      → is_member start order ≡ true → is_member v order ≡ false → least_merged ends X start ≢ least_merged ends X v
  not_joined order start v r closed first out same =
      let P = trail_of_same ends X start v r same in
      both_ways _ out (walk_found ends order P.edges start v (λ e m. (let w = place_of_member e X (P.inside.inside e m) in
      let small = w.1 in
      let here = closed w.0 (let long = a.firsts_long in omega arith) in
      ap (λ z. is_member (ends z).0 order) (sym w.2) ∙ ap (λ z. is_member z order) (sym (a.first w.0 small)) ∙ here
      ∙ ap (λ z. is_member z order) (a.second w.0 small) ∙ ap (λ z. is_member (ends z).1 order) w.2)) first P.walk)

-- ---- exploring the component of a vertex

closed_more : (tails heads order middle order' : List ℕ) (at : ℕ) → at < length order → IsFront order middle → IsFront middle order'
    → ((k i : ℕ) → k < at → i < length tails → get_or tails i 0 ≡ get_or order k 0 → is_member (get_or heads i 0) order ≡ true)
    → ((i : ℕ) → i < length tails → get_or tails i 0 ≡ get_or order at 0 → is_member (get_or heads i 0) middle ≡ true)
    → (k i : ℕ) → k < at + 1 → i < length tails → get_or tails i 0 ≡ get_or order' k 0 → is_member (get_or heads i 0) order' ≡ true
closed_more tails heads order middle order' at inside f g closed now k i l small e =
    let front = IsFront-trans order middle order' f g in
    elim (cases_lt k at) [
      | inl less ↦ IsFront-member order order' (get_or heads i 0) front (closed k i less small (e ∙ front.same k (omega arith)))
      | inr le ↦ (let same : k ≡ at = omega arith in
          IsFront-member middle order' (get_or heads i 0) g (now i small (e ∙ ap (λ z. get_or order' z 0) same ∙ front.same at inside)))
    ]

pub IsExploring-next : (firsts seconds set : List ℕ) (n at : ℕ) (place place1 place2 : List (Option ℕ))
    (order through before order1 through1 before1 order2 through2 before2 : List ℕ)
    → at < length order → IsExploring firsts seconds set n at place order through before
    → length place2 ≡ n → IsOrder place2 order2 through2 before2 → IsFront order order1 → IsFront order1 order2
    → ((i : ℕ) → i < length firsts → get_or firsts i 0 ≡ get_or order at 0 → is_member (get_or seconds i 0) order1 ≡ true)
    → ((i : ℕ) → i < length seconds → get_or seconds i 0 ≡ get_or order1 at 0 → is_member (get_or firsts i 0) order2 ≡ true)
    → ((ends : ℕ → ℕ × ℕ) (X : List ℕ) → AreJoined ends X firsts seconds set → IsTree ends X order through before
    → IsTree ends X order1 through1 before1)
    → ((ends : ℕ → ℕ × ℕ) (X : List ℕ) → AreJoined ends X seconds firsts set → IsTree ends X order1 through1 before1
    → IsTree ends X order2 through2 before2)
    → IsExploring firsts seconds set n (at + 1) place2 order2 through2 before2
IsExploring-next firsts seconds set n at place place1 place2 order through before order1 through1 before1 order2 through2 before2 inside x
    long2 o2 f g first second tree1 tree2 = record {
      long = long2;
      ordered = o2;
      within = omega (arith, f.longer, g.longer);
      forth = closed_more firsts seconds order order1 order2 at inside f g x.forth first;
      back = closed_more seconds firsts order order2 order2 at inside (IsFront-trans order order1 order2 f g) (IsFront-refl order2) x.back
          (λ i l e. second i l (e ∙ sym (f.same at inside)));
      tree = λ ends rising a. tree2 ends set (ends_joined_back ends set firsts seconds a)
          (tree1 ends set (ends_joined ends set firsts seconds a) (x.tree ends rising a));
    }

-- what is found holds both ends of an edge or none
pub IsExploring-end : (firsts seconds set : List ℕ) (n at : ℕ) (place : List (Option ℕ)) (order through before : List ℕ)
    → length order ≤ at → length firsts ≡ length seconds
    → IsExploring firsts seconds set n at place order through before
    → (i : ℕ) → i < length firsts → is_member (get_or firsts i 0) order ≡ is_member (get_or seconds i 0) order
IsExploring-end firsts seconds set n at place order through before past same x i l = same_truth (is_member (get_or firsts i 0) order)
    (is_member (get_or seconds i 0) order)
    (λ m. let w = place_of_member (get_or firsts i 0) order m in let k = w.1 in x.forth w.0 i (omega arith) l (sym w.2))
    (λ m. let w = place_of_member (get_or seconds i 0) order m in let k = w.1 in x.back w.0 i (omega arith) (omega arith) (sym w.2))

pub IsExploring-none : (firsts seconds set : List ℕ) (n at : ℕ) (place : List (Option ℕ)) (order through before : List ℕ)
    → length place ≡ n → ((v : ℕ) → v < length place → get_or place v None ≡ None) → at ≡ 0 → order ≡ []
    → through ≡ [] → before ≡ []
    → IsExploring firsts seconds set n at place order through before
IsExploring-none firsts seconds set n at place order through before long none zero e f g = rw (e, f, g) (record {
  long = long;
  ordered = record {
    below = tt;
    placed = λ k l. absurd (omega arith);
    known = λ v k l h. absurd (both_ways (is_some (get_or place v None)) (ap is_some (none v l)) (ap is_some h));
    through_long = refl;
    before_long = refl;
    earlier = λ k l. absurd (omega arith);
  };
  within = omega arith;
  forth = λ k i l. absurd (omega arith);
  back = λ k i l. absurd (omega arith);
  tree = λ ends rising a. record {
    member = λ k l. absurd (omega arith);
    joined = λ k l. absurd (omega arith);
    apart = λ k l. absurd (omega arith);
  };
})

-- a vertex that is not yet found is a root
pub IsExploring-root : (firsts seconds set : List ℕ) (n vertex at : ℕ) (place place' : List (Option ℕ))
    (order through before order' through' before' : List ℕ) → at ≡ length order → length firsts ≡ length seconds
    → IsExploring firsts seconds set n (length order) place order through before
    → length place' ≡ n → IsOrder place' order' through' before' → IsFront order order'
    → ((ends : ℕ → ℕ × ℕ) (X : List ℕ) → IsFindable ends X order vertex 0 at → IsTree ends X order through before
    → IsTree ends X order' through' before')
    → IsExploring firsts seconds set n at place' order' through' before'
IsExploring-root firsts seconds set n vertex at place place' order through before order' through' before' last same x long o f tree = record {
  long = long;
  ordered = o;
  within = omega (arith, f.longer);
  forth = λ k i less l e. IsFront-member order order' (get_or seconds i 0) f (x.forth k i (omega arith) l (e ∙ f.same k (omega arith)));
  back = λ k i less l e. IsFront-member order order' (get_or firsts i 0) f (x.back k i (omega arith) l (e ∙ f.same k (omega arith)));
  tree = λ ends rising a. tree ends set (record {
    member = λ l. absurd (omega arith);
    joined = λ l. absurd (omega arith);
    apart = λ e out j l. not_joined ends set firsts seconds a order (get_or order j 0) vertex rising
        (IsExploring-end firsts seconds set n (length order) place order through before (omega arith) same x)
        (is_member-get_or order j (get_or order j 0) l refl) out;
  }) (x.tree ends rising a);
}
