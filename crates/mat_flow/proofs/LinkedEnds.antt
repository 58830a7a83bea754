-- The ends of a table's paths change along a walk of the residual graph: a vertex becomes an end beside the others, or in the place of one of
-- them. Where no such walk leads to it, the reached vertices that are before no reached vertex, but for the end that gives way, meet each
-- path to the changed ends, and they are fewer.
use Rattle.mat_flow.proofs.Common.{◌≡◌, ℕ, suc, ◌+◌, ◌<◌, ◌≤◌, ◌≢◌, Bool, true, false, not, ◌&&◌, eqb, List, [], ◌∷◌, length, get_or, map, Option, Some, None, ◌⊎◌, inl, inr, refl, sym, ap, ◌∙◌, subst, arith, and_from, both_ways, cases_Bool, eq-eqb, eqb-true, false_from_ne_true, false≢true, ne_eqb}
use Rattle.mat_flow.proofs.Common.{or_cases, or_left, or_right, length-map, take_all, ends_of, is_member, with_one, without_one, IsRising, IsSet, IsShortestWalk, IsWalk, length-exchange_one, length-with_one, length-without_one, AllBelow-from_members, AreDistinct-rising, IsSet-nil, below_member}
use Rattle.mat_flow.proofs.Common.{length-distinct, length-distinct_subset, IsRising-nil, IsRising-union, IsRising-with_one, IsRising-without_one, is_member-head, is_member-with_one, is_member-without_one, walk_differs, entry_at, is_before, leads_to, one_if_none, residual_arc, starts_among}
use Rattle.mat_flow.proofs.Common.{starts_in, HasEnds, IsShifted, first_of, has_arc, last_of, HasPathsToEach, IsPath, IsSeparator}
use Rattle.mat_flow.proofs.PathFamilyLaws.{AreDistinct-ends, ends_of as all_ends, is_member-ends_of}
use Rattle.mat_flow.proofs.PathLaws.{at_most_a_separator}
use Rattle.mat_flow.proofs.SimplePathLaws.{ArePathsApart-disjoint}
use Rattle.mat_flow.proofs.Augmenting.{gone_free, starts_in-shifted, stays_free, IsComing, IsLinkTable-shifted}
use Rattle.mat_flow.proofs.Frontiers.{is_before_gives, IsCutting, cut_so_far}
use Rattle.mat_flow.proofs.LinkTables.{none_is_not_some, some_is_one, AreOwn, IsLinkTable-own}
use Rattle.mat_flow.proofs.PathsOfTables.{paths_to_ends, shifted_table, starts_at_most}
use Rattle.mat_flow.proofs.Rows.{head_below}

-- ---- how ends change

-- v becomes an end in the place of `leaving`, where that is an end, and beside the others where it is none
pub record IsReplaced (ends : List ℕ) (leaving : Option ℕ) (v : ℕ) (targets : List ℕ) : Type 0 where
  pub rises : IsRising targets
  pub size : length targets ≡ length ends + one_if_none leaving
  pub new : is_member v ends ≡ false
  pub was : (e : ℕ) → leaving ≡ Some e → is_member e ends ≡ true
  pub gained : is_member v targets ≡ true
  pub kept : (u : ℕ) → is_member u ends ≡ true → leaving ≢ Some u → is_member u targets ≡ true
  pub only : (u : ℕ) → is_member u targets ≡ true → (u ≡ v) ⊎ ((is_member u ends ≡ true) × (leaving ≢ Some u))

pub IsReplaced-more : (ends : List ℕ) (v : ℕ) → IsRising ends → is_member v ends ≡ false → IsReplaced ends None v (with_one ends v)
IsReplaced-more ends v rises new = record {
  rises = IsRising-with_one ends v rises;
  size = (let more = length-with_one ends v rises new in omega arith);
  new = new;
  was = λ e n. absurd (none_is_not_some e n);
  gained = is_member-with_one v v ends ∙ or_left (eqb v v) (is_member v ends) (eq-eqb v v refl);
  kept = λ u m other. is_member-with_one u v ends ∙ or_right (eqb u v) (is_member u ends) m;
  only = λ u m. elim (or_cases (eqb u v) (is_member u ends) (sym (is_member-with_one u v ends) ∙ m)) [
    | inl same ↦ inl (eqb-true u v same)
    | inr old ↦ inr (old, none_is_not_some u)
  ];
}

stays_in : (u e : ℕ) (ends : List ℕ) → is_member u ends ≡ true → Some e ≢ Some u → is_member u (without_one ends e) ≡ true
stays_in u e ends m other =
    is_member-without_one u e ends ∙ and_from (is_member u ends) (not (eqb u e)) m (ap not (ne_eqb u e (λ same. other (ap Some (sym same)))))

stayed_in : (u e : ℕ) (ends : List ℕ) → is_member u (without_one ends e) ≡ true → (is_member u ends ≡ true) × (Some e ≢ Some u)
stayed_in u e ends m =
    let both = sym (is_member-without_one u e ends) ∙ m in
    (parts (is_member u ends) (eqb u e) both, λ same. gone (is_member u ends) (eqb u e) both (eq-eqb u e (some_is_one u e (sym same))))
  where
    parts : (a b : Bool) → (a && not b) ≡ true → a ≡ true
    parts a b h = grind arith

    gone : (a b : Bool) → (a && not b) ≡ true → b ≡ true → ⊥
    gone a b h k = grind arith

pub IsReplaced-exchange : (ends : List ℕ) (e v : ℕ) → IsRising ends → is_member e ends ≡ true → is_member v ends ≡ false
    → IsReplaced ends (Some e) v (with_one (without_one ends e) v)
IsReplaced-exchange ends e v rises old new = record {
  rises = IsRising-with_one (without_one ends e) v (IsRising-without_one ends e rises);
  size = (let same = length-exchange_one ends v e rises old new in omega arith);
  new = new;
  was = λ f s. ap (λ x. is_member x ends) (some_is_one f e (sym s)) ∙ old;
  gained = is_member-with_one v v (without_one ends e) ∙ or_left (eqb v v) _ (eq-eqb v v refl);
  kept = λ u m other. is_member-with_one u v (without_one ends e) ∙ or_right (eqb u v) _ (stays_in u e ends m other);
  only = λ u m. elim (or_cases (eqb u v) (is_member u (without_one ends e)) (sym (is_member-with_one u v (without_one ends e)) ∙ m)) [
    | inl same ↦ inl (eqb-true u v same)
    | inr rest ↦ inr (stayed_in u e ends rest)
  ];
}

-- ---- where a walk leads there

module _ (vertices : ℕ) (arcs : List (ℕ × ℕ)) (sources ends : List ℕ) (before : List (Option ℕ)) (h : HasEnds vertices arcs sources ends before)
    (leaving : Option ℕ) (v : ℕ) (targets : List ℕ) (c : IsReplaced ends leaving v targets) where
  pub HasEnds-shifted : (start goal : ℕ → Bool) (new : List (Option ℕ)) (walk : List ℕ)
      → (w : IsWalk vertices (residual_arc arcs before) start goal walk)
      → ((i j : ℕ) → i < j → j < length walk → get_or walk i 0 ≢ get_or walk j 0) → IsShifted leaving walk before new
      → IsComing vertices arcs sources before leaving (get_or walk 0 0) → entry_at before (get_or walk w.arcs 0) ≡ Some v
      → HasEnds vertices arcs sources targets new
  HasEnds-shifted start goal new walk w differ s coming going = record {
    set = record {
      rising = c.rises;
      below = AllBelow-from_members vertices targets (λ u m. elim (c.only u m) [
        | inl same ↦ subst (λ y. y < vertices) (sym same) (h.table.below _ v going)
        | inr old ↦ below_member h.set old.0
      ]);
    };
    table = IsLinkTable-shifted vertices arcs sources ends targets leaving start goal before new walk h.table w differ s coming v going c.gained c.kept;
    free = λ u x m. elim (c.only u m) [
      | inl same ↦ subst (λ y. entry_at new x ≢ Some y) (sym same)
          (gone_free vertices arcs sources ends targets leaving start goal before new walk h.table w differ s coming v going x)
      | inr old ↦
          stays_free vertices arcs sources ends targets leaving start goal before new walk h.table w differ s coming v going u (λ y. h.free u y old.0)
          old.1 x
    ];
    count = (let more = starts_in-shifted vertices arcs sources ends targets leaving start goal before new walk h.table w differ s coming v going in
        let count = h.count in let size = c.size in omega arith);
  }

  pub paths_by_walk : (start goal : ℕ → Bool) (walk : List ℕ) → (w : IsShortestWalk vertices (residual_arc arcs before) start goal walk)
      → IsComing vertices arcs sources before leaving (get_or walk 0 0) → entry_at before (get_or walk w.walk.arcs 0) ≡ Some v
      → HasPathsToEach arcs sources targets
  paths_by_walk start goal walk w coming going =
      let differ = walk_differs vertices (residual_arc arcs before) start goal walk walk refl w in
      let p = shifted_table leaving walk before (λ i l. (let long = h.table.long in let small = w.walk.below i l in omega arith)) differ in
      paths_to_ends vertices arcs sources targets p.0 (HasEnds-shifted start goal p.0 walk w.walk differ p.1 coming going)

-- ---- where none leads there

-- a path from a reached vertex to a target meets a set, where each reached vertex is in it, or is no target and all arcs from it lead to reached ones
met_along : (arcs : List (ℕ × ℕ)) (targets reached separator : List ℕ)
    → ((x : ℕ) → is_member x reached ≡ true → (is_member x separator ≡ true)
    ⊎ ((is_member x targets ≡ false) × ((y : ℕ) → has_arc arcs x y ≡ true → is_member y reached ≡ true)))
    → (path : List ℕ) → IsPath arcs path → is_member (first_of path) reached ≡ true → is_member (last_of path) targets ≡ true
    → (v : ℕ) × (is_member v path ≡ true) × (is_member v separator ≡ true)
met_along arcs targets reached separator cases [] p m t = absurd p
met_along arcs targets reached separator cases (x ∷ []) p m t = elim (cases x m) [
  | inl met ↦ (x, is_member-head x [], met)
  | inr other ↦ absurd (both_ways (is_member x targets) other.0 t)
]
met_along arcs targets reached separator cases (x ∷ y ∷ rest) p m t = elim (cases x m) [
  | inl met ↦ (x, is_member-head x (y ∷ rest), met)
  | inr other ↦ (let found = met_along arcs targets reached separator cases (y ∷ rest) p.1 (other.1 y p.0) t in
      (found.0, or_right (eqb found.0 x) (is_member found.0 (y ∷ rest)) found.1, found.2))
]

-- the separator without the vertex that leaves
abbrev barrier : Option ℕ → List ℕ → List ℕ
barrier None rest = rest
barrier (Some e) rest = without_one rest e

module _ (vertices : ℕ) (arcs : List (ℕ × ℕ)) (sources ends : List ℕ) (before : List (Option ℕ)) (h : HasEnds vertices arcs sources ends before)
    (leaving : Option ℕ) (v : ℕ) (targets : List ℕ) (c : IsReplaced ends leaving v targets)
    (heads : (e : ℕ) → e < length arcs → (ends_of arcs e).1 < vertices) (reached : List ℕ) (set : IsSet vertices reached)
    (sources_in : (w : ℕ) → is_member w sources ≡ true → is_member w reached ≡ true)
    (heads_in : (w : ℕ) → w < vertices → leads_to arcs leaving w ≡ true → is_member w reached ≡ true)
    (closed : (w y : ℕ) → is_member w reached ≡ true → y < vertices → leads_to arcs (entry_at before w) y ≡ true → is_member y reached ≡ true)
    (missed : (w : ℕ) → is_member w reached ≡ true → entry_at before w ≢ Some v) where
  goes_back : (w u : ℕ) → is_member w reached ≡ true → entry_at before w ≡ Some u → is_member u reached ≡ true
  goes_back w u m e = closed w u m (h.table.below w u e) (ap (λ x. leads_to arcs x u) e ∙ or_left (eqb u u) (has_arc arcs u u) (eq-eqb u u refl))

  cut : (rest : List ℕ) × IsCutting before reached (length reached) rest
  cut = cut_so_far before reached set.rising h.table.once goes_back (length reached) (omega arith)

  rest_member : (x : ℕ) → is_member x cut.0 ≡ (is_member x reached && not (is_before before reached x))
  rest_member x =
      cut.1.members x ∙ ap (λ vs. is_member x reached && not (is_before before vs x)) (take_all (length reached) reached (omega arith))

  small : length cut.0 ≤ length ends
  small =
      let size = cut.1.size in
      let all = ap (starts_among before) (take_all (length reached) reached (omega arith)) in
      let few = starts_at_most vertices arcs sources ends before h.table h.set.rising reached set.rising set.below in
      omega arith

  -- what is before a reached vertex is no target, and the arcs from it lead to reached vertices
  passed : (x : ℕ) → is_before before reached x ≡ true
      → (is_member x targets ≡ false) × ((y : ℕ) → has_arc arcs x y ≡ true → is_member y reached ≡ true)
  passed x met =
      let w = is_before_gives before reached x met in (
        false_from_ne_true (is_member x targets) (λ t. elim (c.only x t) [
          | inl same ↦ missed w.0 w.1 (w.2 ∙ ap Some same)
          | inr old ↦ h.free x w.0 old.0 w.2
        ]),
        λ y a. closed w.0 y w.1 (head_below vertices arcs x y heads a)
            (ap (λ e. leads_to arcs e y) w.2 ∙ or_right (eqb y x) (has_arc arcs x y) a),
      )

  -- so is the end that leaves
  leaves : (e : ℕ) → leaving ≡ Some e
      → (is_member e targets ≡ false) × ((y : ℕ) → has_arc arcs e y ≡ true → is_member y reached ≡ true)
  leaves e is = (
    false_from_ne_true (is_member e targets) (λ t. elim (c.only e t) [
      | inl same ↦ both_ways (is_member e ends) (ap (λ x. is_member x ends) same ∙ c.new) (c.was e is)
      | inr old ↦ old.1 is
    ]),
    λ y a. heads_in y (head_below vertices arcs e y heads a) (ap (λ x. leads_to arcs x y) is ∙ or_right (eqb y e) (has_arc arcs e y) a),
  )

  barrier_cases : (x : ℕ) → is_member x reached ≡ true → (l : Option ℕ) → leaving ≡ l → (is_member x (barrier l cut.0) ≡ true)
      ⊎ ((is_member x targets ≡ false) × ((y : ℕ) → has_arc arcs x y ≡ true → is_member y reached ≡ true))
  barrier_cases x m l is = elim (cases_Bool (is_before before reached x)) [
    | inl met ↦ inr (passed x met)
    | inr none ↦ (let inside = rest_member x ∙ and_from (is_member x reached) (not (is_before before reached x)) m (ap not none) in of l is inside)
  ]
    where
      of : (l : Option ℕ) → leaving ≡ l → is_member x cut.0 ≡ true → (is_member x (barrier l cut.0) ≡ true)
          ⊎ ((is_member x targets ≡ false) × ((y : ℕ) → has_arc arcs x y ≡ true → is_member y reached ≡ true))
      of None is inside = inl inside
      of (Some e) is inside = elim (cases_Bool (eqb x e)) [
        | inl same ↦ inr (leaves x (is ∙ ap Some (sym (eqb-true x e same))))
        | inr other ↦ inl (is_member-without_one x e cut.0 ∙ and_from (is_member x cut.0) (not (eqb x e)) inside (ap not other))
      ]

  barrier_small : (l : Option ℕ) → leaving ≡ l → length (barrier l cut.0) < length ends + one_if_none l
  barrier_small None is = let few = small in omega arith
  barrier_small (Some e) is =
      let old = c.was e is in
      let inside : is_member e reached ≡ true = heads_in e (below_member h.set old)
      (ap (λ x. leads_to arcs x e) is ∙ or_left (eqb e e) (has_arc arcs e e) (eq-eqb e e refl)) in
      let free : is_before before reached e ≡ false = false_from_ne_true (is_before before reached e)
      (λ met. let w = is_before_gives before reached e met in h.free e w.0 old w.2) in
      let less = length-without_one cut.0 e cut.1.rises
      (rest_member e ∙ and_from (is_member e reached) (not (is_before before reached e)) inside (ap not free)) in
      let few = small in
      omega arith

  barrier_rises : (l : Option ℕ) → IsRising (barrier l cut.0)
  barrier_rises None = cut.1.rises
  barrier_rises (Some e) = IsRising-without_one cut.0 e cut.1.rises

  reached_many : (p : HasPathsToEach arcs sources targets) → length targets ≤ length p.paths
  reached_many p =
      let distinct = AreDistinct-ends arcs sources targets p.paths p.disjoint in
      let size = length-distinct (map last_of p.paths) distinct in
      let few = length-distinct_subset targets (all_ends p.paths) (AreDistinct-rising targets c.rises) (IsRising-union (map last_of p.paths) [] IsRising-nil)
      (record { inside = λ x m. is_member-ends_of x p.paths ∙ p.reached x m }) in
      omega (arith, few, size, length-map p.paths last_of)

  pub no_paths : HasPathsToEach arcs sources targets → ⊥
  no_paths p =
      let separates : IsSeparator arcs sources targets (barrier leaving cut.0) = record {
        rises = barrier_rises leaving;
        meets = λ path q. met_along arcs targets reached (barrier leaving cut.0) (λ x m. barrier_cases x m leaving refl) path q.joined
            (sources_in (first_of path) q.starts) q.ends;
      } in
      let few = at_most_a_separator arcs sources targets (barrier leaving cut.0) p.paths separates
      (ArePathsApart-disjoint arcs sources targets p.paths p.disjoint) in
      let less = barrier_small leaving refl in
      let many = reached_many p in
      let size = c.size in
      omega arith

-- the table without paths has no ends
pub HasEnds-own : (n : ℕ) (arcs : List (ℕ × ℕ)) (sources : List ℕ) (table : List (Option ℕ)) → AreOwn n table
    → HasEnds n arcs sources [] table
HasEnds-own n arcs sources table a = record {
  set = IsSet-nil n;
  table = IsLinkTable-own n arcs sources [] table a;
  free = λ u v m. absurd (false≢true m);
  count = none_start table (λ v l. (v, a.own v (let long = a.long in omega arith)));
}
  where
    none_start : (table : List (Option ℕ)) → ((v : ℕ) → v < length table → (u : ℕ) × (entry_at table v ≡ Some u)) → starts_in table ≡ 0
    none_start [] some = refl
    none_start (None ∷ table) some = absurd (let s = some 0 (omega arith) in none_is_not_some s.0 s.1)
    none_start (Some u ∷ table) some = let rest = none_start table (λ v l. some (suc v) (omega arith)) in omega arith
