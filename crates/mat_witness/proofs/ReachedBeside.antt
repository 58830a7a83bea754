-- What the sources reach by arcs from outside a separator. Those of the reached vertices that are in the separator close the others off from
-- the ends: a walk to an end outside the separator would be a path that misses it. And the separator is no larger than a maximal independent
-- subset, as there are as many disjoint paths as it has vertices.
use Rattle.mat_witness.proofs.Common.{◌≡◌, ℕ, suc, ◌<◌, ◌≤◌, Bool, true, false, not, ◌&&◌, eqb, List, [], ◌∷◌, length, map, get_or, inl, inr, refl, sym, ap, ◌∙◌, arith, and_from, and_parts, and_right, both_ways, cases_Bool, cases_lt, eq-eqb, eqb-true, false_from_ne_true, not-true, not_from_false}
use Rattle.mat_witness.proofs.Common.{or_left, or_right, length-map, IsGraph, row_at, intersection, is_member, minus, union, AllBelow, IsSet, IsSubset, minus_from, minus_parts, length-items, IsRising-filter, below_member, AllBelow-member, IsSet-minus, IsSet-subset, length-distinct_subset}
use Rattle.mat_witness.proofs.Common.{is_member-filter, is_member-intersection, is_member-union, place_of_member, IsRising-intersection, IsRising-nil, IsRising-union, intersection-left, intersection-right, length-subset, IsMaximal, has_arc, last_of, IsLinking, IsPathBetween, IsSeparator}
use Rattle.mat_witness.proofs.Common.{ends_are_targets, head_below, last_of-index, gammoid_laws, is_gammoid-from, is_gammoid, vertices_of, IsGammoid, linked_by, member_vertex, vertex_member, is_path-gives, length-vertices_of, are_closed_off, is_in_either, is_open_arc, AreArcRows}
use Rattle.std.specs.List.{filter, list_all}
use Rattle.mat_sets.specs.Walks.{IsReachedSet, IsWalk}
use Rattle.mat_laws.proofs.Maximal.{IsMaximal-largest}
use Rattle.mat_flow.proofs.PathFamilyLaws.{AreDistinct-ends}
use Rattle.mat_flow.proofs.DisjointPaths.{first_of_is}
use Rattle.mat_witness.proofs.ListedMembers.{list_all-from}
use Rattle.mat_witness.proofs.PathParts.{stays_in_either}
use Rattle.mat_witness.proofs.SourcePaths.{is_path-steps}

all_stay : (arcs : List (ℕ × ℕ)) (reached closing : List ℕ)
    → ((u v : ℕ) → is_member u reached ≡ true → has_arc arcs u v ≡ true → is_in_either reached closing v ≡ true)
    → list_all (stays_in_either reached closing) arcs ≡ true
all_stay [] reached closing each = refl
all_stay (arc ∷ arcs) reached closing each =
    and_from (stays_in_either reached closing arc) (list_all (stays_in_either reached closing) arcs)
    (elim (cases_Bool (is_member arc.0 reached)) [
      | inl m ↦ or_right (not (is_member arc.0 reached)) (is_in_either reached closing arc.1)
          (each arc.0 arc.1 m (or_left (eqb arc.0 arc.0 && eqb arc.1 arc.1) (has_arc arcs arc.0 arc.1)
          (and_from (eqb arc.0 arc.0) (eqb arc.1 arc.1) (eq-eqb arc.0 arc.0 refl) (eq-eqb arc.1 arc.1 refl))))
      | inr out ↦ or_left (not (is_member arc.0 reached)) (is_in_either reached closing arc.1) (not_from_false (is_member arc.0 reached) out)
    ])
    (all_stay arcs reached closing (λ u v m a. each u v m (or_right (eqb arc.0 u && eqb arc.1 v) (has_arc arcs u v) a)))

-- ---- the sets

module _ (vertices : ℕ) (arcs : List (ℕ × ℕ)) (sources ends closed reached : List ℕ) (rows : List (List ℕ)) (graph : IsGraph vertices arcs)
    (inside : AllBelow vertices sources) (r : AreArcRows vertices arcs rows)
    (reach : IsReachedSet vertices (is_open_arc rows closed) (λ v. is_member v sources) reached)
    (separates : IsSeparator arcs sources ends closed) where
  abbrev beside : List ℕ
  beside = minus reached closed

  abbrev gate : List ℕ
  gate = intersection reached closed

  in_either : (v : ℕ) → is_member v reached ≡ true → is_in_either beside gate v ≡ true
  in_either v m = elim (cases_Bool (is_member v closed)) [
    | inl in_closed ↦ or_right (is_member v beside) (is_member v gate)
        (is_member-intersection v reached closed ∙ and_from (is_member v reached) (is_member v closed) m in_closed)
    | inr out ↦ or_left (is_member v beside) (is_member v gate) (minus_from reached closed v m out)
  ]

  head_reached : (u v : ℕ) → is_member u beside ≡ true → has_arc arcs u v ≡ true → is_in_either beside gate v ≡ true
  head_reached u v m arc =
      let p = minus_parts reached closed u m in
      in_either v (reach.closed u v p.0 (head_below vertices arcs u v graph.second arc)
      (and_from (not (is_member u closed)) (is_member v (row_at rows u)) (not_from_false (is_member u closed) p.1)
      (r.members u v (below_member reach.set p.0) ∙ arc)))

  -- a walk by open arcs to v
  abbrev IsOpenWalk : ℕ → List ℕ → Type 0
  IsOpenWalk v walk = IsWalk vertices (is_open_arc rows closed) (λ u. is_member u sources) (λ u. eqb u v) walk

  -- its steps are arcs from vertices outside the separator
  open_step : (v : ℕ) (walk : List ℕ) → IsOpenWalk v walk → (k : ℕ) → suc k < length walk
      → (is_member (get_or walk k 0) closed ≡ false) × (has_arc arcs (get_or walk k 0) (get_or walk (suc k) 0) ≡ true)
  open_step v walk w k l =
      let a = and_parts (not (is_member (get_or walk k 0) closed)) (is_member (get_or walk (suc k) 0) (row_at rows (get_or walk k 0))) (w.steps k l) in (
        not-true (is_member (get_or walk k 0) closed) a.0,
        sym (r.members (get_or walk k 0) (get_or walk (suc k) 0) (w.below k (omega arith))) ∙ a.1,
      )

  -- it is a path to v
  walk_is_path : (v : ℕ) (walk : List ℕ) → is_member v ends ≡ true → IsOpenWalk v walk → IsPathBetween arcs sources ends walk
  walk_is_path v walk end w = record {
    joined = is_path-gives arcs walk (is_path-steps arcs walk (let l = w.long in omega arith) (λ k l. (open_step v walk w k l).1));
    starts = ap (λ u. is_member u sources) (first_of_is walk) ∙ w.first;
    ends = ap (λ u. is_member u ends) (last_of-index walk w.arcs w.long ∙ eqb-true (get_or walk w.arcs 0) v w.last) ∙ end;
  }

  -- and misses the separator, where v is none of its vertices
  walk_outside : (v : ℕ) (walk : List ℕ) → is_member v closed ≡ false → IsOpenWalk v walk → (i : ℕ) → i < length walk
      → is_member (get_or walk i 0) closed ≡ false
  walk_outside v walk out w i inside = elim (cases_lt (suc i) (length walk)) [
    | inl further ↦ (open_step v walk w i further).0
    | inr past ↦ (let at : i ≡ w.arcs = (let l = w.long in omega arith) in
        ap (λ k. is_member (get_or walk k 0) closed) at ∙ ap (λ u. is_member u closed) (eqb-true (get_or walk w.arcs 0) v w.last) ∙ out)
  ]

  member_outside : (v : ℕ) (walk : List ℕ) → is_member v closed ≡ false → IsOpenWalk v walk → (x : ℕ) → is_member x walk ≡ true
      → is_member x closed ≡ false
  member_outside v walk out w x m =
      let place = place_of_member x walk m in
      ap (λ u. is_member u closed) (sym place.2) ∙ walk_outside v walk out w place.0 place.1

  -- so no walk leads to an end outside the separator
  ends_missed : (v : ℕ) → is_member v ends ≡ true → is_member v beside ≡ false
  ends_missed v end = false_from_ne_true (is_member v beside) (λ m.
      let p = minus_parts reached closed v m in
      let w = reach.walks v p.0 in
      let met = separates.meets w.0 (walk_is_path v w.0 end w.1) in
      both_ways (is_member met.0 closed) (member_outside v w.0 p.1 w.1 met.0 met.1) met.2)

  pub closes_off : are_closed_off arcs sources ends beside gate ≡ true
  closes_off =
      and_from (list_all (λ v. not (is_member v gate)) beside) _
      (list_all-from (λ v. not (is_member v gate)) beside (λ v m. not_from_false (is_member v gate) (apart v (minus_parts reached closed v m).1)))
      (and_from (list_all (is_in_either beside gate) sources) _
      (list_all-from (is_in_either beside gate) sources (λ v m. in_either v (reach.starts v (AllBelow-member vertices sources v inside m) m)))
      (and_from (list_all (stays_in_either beside gate) arcs) (list_all (λ v. not (is_member v beside)) ends)
      (all_stay arcs beside gate head_reached)
      (list_all-from (λ v. not (is_member v beside)) ends (λ v m. not_from_false (is_member v beside) (ends_missed v m)))))
    where
      apart : (v : ℕ) → is_member v closed ≡ false → is_member v gate ≡ false
      apart v out = is_member-intersection v reached closed ∙ and_right (is_member v reached) (is_member v closed) out

  pub IsSet-beside : IsSet vertices beside
  IsSet-beside = IsSet-minus vertices reached closed reach.set

  pub IsSet-gate : IsSet vertices gate
  IsSet-gate =
      IsSet-subset vertices gate reached (IsRising-intersection reached closed reach.set.rising) (intersection-left reached closed) reach.set

  pub length-gate : length gate ≤ length closed
  length-gate =
      length-subset gate closed (IsRising-intersection reached closed reach.set.rising) separates.rises (intersection-right reached closed)

-- ---- the size of the separator

module _ (vertices : ℕ) (arcs : List (ℕ × ℕ)) (sources targets : List ℕ) (given : IsGammoid vertices arcs sources targets)
    (F largest : List ℕ) (set : IsSet (length targets) F) (maximal : IsMaximal (is_gammoid vertices arcs sources targets) F largest)
    (ends : List ℕ) (members : (v : ℕ) → is_member v ends ≡ is_member v (vertices_of targets F))
    (paths : List (List ℕ)) (separator : List ℕ) (linking : IsLinking arcs sources ends paths separator) where
  abbrev is_ended : ℕ → Bool
  is_ended e = is_member (get_or targets e 0) (map last_of paths)

  -- the members to whose vertices the paths lead
  abbrev ended : List ℕ
  ended = filter is_ended F

  ended_parts : (e : ℕ) → is_member e ended ≡ true → (is_member e F ≡ true) × (is_ended e ≡ true)
  ended_parts e m = and_parts (is_member e F) (is_ended e) (sym (is_member-filter is_ended e F) ∙ m)

  ended_inside : IsSubset ended F
  ended_inside = record { inside = λ e m. (ended_parts e m).0 }

  ended_independent : is_gammoid vertices arcs sources targets ended ≡ true
  ended_independent =
      is_gammoid-from vertices arcs sources targets given ended
      (linked_by arcs sources targets given.distinct ended ends paths
      (IsSet-subset (length targets) ended F (IsRising-filter is_ended F set.rising) ended_inside set)
      linking.disjoint
      (λ v m. (let w = vertex_member targets ended v m in
      ap (λ z. is_member z (map last_of paths)) (sym w.2) ∙ (ended_parts w.0 w.1).1)))

  last_is_vertex : (v : ℕ) → is_member v (map last_of paths) ≡ true → is_member v (union (vertices_of targets ended) []) ≡ true
  last_is_vertex v m =
      let w = vertex_member targets F v (sym (members v) ∙ ends_are_targets arcs sources ends paths linking.disjoint.each v m) in
      let e : is_member w.0 ended ≡ true = is_member-filter is_ended w.0 F
      ∙ and_from (is_member w.0 F) (is_ended w.0) w.1 (ap (λ z. is_member z (map last_of paths)) w.2 ∙ m) in
      is_member-union v (vertices_of targets ended) [] ∙ or_left (is_member v (vertices_of targets ended)) false
      (ap (λ z. is_member z (vertices_of targets ended)) (sym w.2) ∙ member_vertex targets ended w.0 e)

  pub length-separator : length separator ≤ length largest
  length-separator =
      let few = length-distinct_subset (map last_of paths) (union (vertices_of targets ended) [])
      (AreDistinct-ends arcs sources ends paths linking.disjoint) (IsRising-union (vertices_of targets ended) [] IsRising-nil)
      (record { inside = last_is_vertex }) in
      let most = IsMaximal-largest (gammoid_laws vertices arcs sources targets given) F largest maximal ended ended_independent ended_inside in
      omega (arith, few, most, linking.as_many, length-map paths last_of, length-items (vertices_of targets ended), length-vertices_of targets ended)

-- ---- both sets

-- what the two sets are for: they close the reached vertices off, and the closing one is no larger than a maximal independent subset
pub record AreClosingSets (vertices : ℕ) (arcs : List (ℕ × ℕ)) (sources targets F beside closing : List ℕ) : Type 0 where
  pub beside_set : IsSet vertices beside
  pub closing_set : IsSet vertices closing
  pub closed : are_closed_off arcs sources (vertices_of targets F) beside closing ≡ true
  pub few : (largest : List ℕ) → IsMaximal (is_gammoid vertices arcs sources targets) F largest → length closing ≤ length largest

-- a separator for other targets with the same members
IsSeparator-members : (arcs : List (ℕ × ℕ)) (sources ends others separator : List ℕ) → ((v : ℕ) → is_member v ends ≡ is_member v others)
    → IsSeparator arcs sources ends separator → IsSeparator arcs sources others separator
IsSeparator-members arcs sources ends others separator members s = record {
  rises = s.rises;
  meets = λ path p. s.meets path (record { joined = p.joined; starts = p.starts; ends = members (last_of path) ∙ p.ends });
}

pub AreClosingSets-reached : {vertices : ℕ} {arcs : List (ℕ × ℕ)} {sources targets F ends separator reached beside closing : List ℕ}
    {paths rows : List (List ℕ)} → IsGammoid vertices arcs sources targets → IsSet (length targets) F
    → ((v : ℕ) → is_member v ends ≡ is_member v (vertices_of targets F)) → IsLinking arcs sources ends paths separator
    → AreArcRows vertices arcs rows → IsReachedSet vertices (is_open_arc rows separator) (λ v. is_member v sources) reached
    → beside ≡ minus reached separator → closing ≡ intersection reached separator
    → AreClosingSets vertices arcs sources targets F beside closing
AreClosingSets-reached {vertices} {arcs} {sources} {targets} {F} {ends} {separator} {reached} {beside} {closing} {paths} {rows}
    given set members linking r reach is_beside is_closing =
    let vs = vertices_of targets F in
    let separates = IsSeparator-members arcs sources ends vs separator members linking.separates in
    let inside = given.sources_inside.below in
    rw (is_beside, is_closing) (record {
      beside_set = IsSet-beside vertices arcs sources vs separator reached rows given.graph inside r reach separates;
      closing_set = IsSet-gate vertices arcs sources vs separator reached rows given.graph inside r reach separates;
      closed = closes_off vertices arcs sources vs separator reached rows given.graph inside r reach separates;
      few = λ largest maximal. (let gate = length-gate vertices arcs sources vs separator reached rows given.graph inside r reach separates in
          let most = length-separator vertices arcs sources targets given F largest set maximal ends members paths separator linking in
          omega (arith, gate, most));
    })
