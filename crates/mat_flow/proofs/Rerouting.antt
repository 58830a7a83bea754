-- The entries that can be pushed on to a vertex v: v itself, and each u that leads to the place of one of them. Where the place of such an entry
-- is a source, there is one path more, to v; where none is, an end can give way to v exactly where it is such an entry. For a walk that
-- pushes entries on to v is a walk of the residual graph, read from its goal; each of the four ways is one induction along walks.
use Rattle.mat_flow.proofs.Common.{◌≡◌, ℕ, ◌<◌, ◌≢◌, Bool, true, false, not, ◌||◌, ◌&&◌, eqb, List, [], ◌∷◌, length, get_or, Option, Some, None, inl, inr, refl, sym, ap, ◌∙◌, subst, arith, and_from, and_parts, both_ways, eq-eqb, eqb-true, false_from_ne_true, false≢true, ne_eqb, or_cases, or_left}
use Rattle.mat_flow.proofs.Common.{or_right, not-true, cases_Bool, get_or-map, length-map, ends_of, IsGraph, is_member, with_one, without_one, AllBelow, IsReachedSet, AllBelow-member, below_member, is_member-with_one, same_members, IsRising-nil, IsRising-with_one, finite_reach, reached_by_induction}
use Rattle.mat_flow.proofs.Common.{reached_set_exists, eqb-turned, entry_at, is_member_there, is_there, leads_to, residual_arc, residual_goal, HasEnds, has_arc, HasPathsToEach, reversed_arcs, DirectedGraph, IsTurned, AreReroutes, GiveWay, Reroutes, IsReversed}
use Rattle.mat_flow.proofs.Augmenting.{IsComing}
use Rattle.mat_flow.proofs.LinkedEnds.{no_paths, paths_by_walk, IsReplaced-exchange, IsReplaced-more}
use Rattle.mat_flow.proofs.LinkTables.{entry_inside, none_is_not_some, some_is_one, none_from}
use Rattle.mat_flow.proofs.Frontiers.{there_is}

-- a member that is there
pub there : (entry : Option ℕ) (set : List ℕ) → is_member_there entry set ≡ true → (u : ℕ) × (entry ≡ Some u) × (is_member u set ≡ true)
there None set h = absurd (false≢true h)
there (Some u) set h = (u, refl, h)

-- where one leads from
pub led : (arcs : List (ℕ × ℕ)) (entry : Option ℕ) (w : ℕ) → leads_to arcs entry w ≡ true → (u : ℕ) × (entry ≡ Some u) × (leads_to arcs (Some u) w ≡ true)
led arcs None w h = absurd (false≢true h)
led arcs (Some u) w h = (u, refl, h)

is_there_from : (v : ℕ) (entry : Option ℕ) → entry ≡ Some v → is_there v entry ≡ true
is_there_from v entry e = ap (is_there v) e ∙ eq-eqb v v refl

pub only_one : (u v : ℕ) → is_member u (with_one [] v) ≡ true → eqb u v ≡ true
only_one u v m = elim (or_cases (eqb u v) false (sym (is_member-with_one u v []) ∙ m)) [ inl same ↦ same | inr none ↦ absurd (false≢true none) ]

-- a vertex stands in its place
pub placed : (before after : List (Option ℕ)) → IsReversed before after
    → ((v w u : ℕ) → entry_at before v ≡ Some u → entry_at before w ≡ Some u → v ≡ w) → (w u : ℕ) → u < length before
    → entry_at before w ≡ Some u → entry_at after u ≡ Some w
placed before after r once w u l e = by_cases (entry_at after u) refl
  where
    by_cases : (entry : Option ℕ) → entry_at after u ≡ entry → entry_at after u ≡ Some w
    by_cases None none = absurd (r.none u w (let long = r.long in omega arith) none e)
    by_cases (Some x) some = some ∙ ap Some (once x w u (r.turned u x some) e)

module _ (vertices : ℕ) (arcs back : List (ℕ × ℕ)) (sources ends : List ℕ) (before after : List (Option ℕ))
    (opposite : (u w : ℕ) → leads_to back (Some w) u ≡ leads_to arcs (Some u) w) (turned : IsReversed before after)
    (h : HasEnds vertices arcs sources ends before) (v : ℕ) where
  pub in_place : (w u : ℕ) → entry_at before w ≡ Some u → entry_at after u ≡ Some w
  in_place w u e = placed before after turned h.table.once w u (let long = h.table.long in let small = h.table.below w u e in omega arith) e

  place_below : (u w : ℕ) → entry_at after u ≡ Some w → w < vertices
  place_below u w e = let inside = entry_inside before w u (turned.turned u w e) in let long = h.table.long in omega arith

  -- an entry is pushed to the place of x
  pushed : (x u w : ℕ) → entry_at after x ≡ Some w → leads_to arcs (Some u) w ≡ true → residual_arc back after x u ≡ true
  pushed x u w e l = ap (λ p. leads_to back p u) e ∙ opposite u w ∙ l

  -- ---- where v is not reached, nothing that is pushed on to v stands in a reached place

  module _ (start : ℕ → Bool) (reached pushes : List ℕ) (reach : IsReachedSet vertices (residual_arc arcs before) start reached)
      (missed : (w : ℕ) → is_member w reached ≡ true → is_there v (entry_at before w) ≡ false)
      (push : IsReachedSet vertices (residual_arc back after) (λ u. is_member u (with_one [] v)) pushes)
      (hot : ℕ → Bool) (not_v : hot v ≡ false)
      (heads : (u w : ℕ) → hot u ≡ true → w < vertices → leads_to arcs (Some u) w ≡ true → is_member w reached ≡ true) where
    abbrev cold : ℕ → Bool
    cold u = not (is_member_there (entry_at after u) reached) && not (hot u)

    cold_from : (u : ℕ) → (is_member_there (entry_at after u) reached ≡ true → ⊥) → (hot u ≡ true → ⊥) → cold u ≡ true
    cold_from u a b =
        and_from (not (is_member_there (entry_at after u) reached)) (not (hot u)) (ap not (false_from_ne_true _ a)) (ap not (false_from_ne_true _ b))

    cold_start : (u : ℕ) → u < vertices → is_member u (with_one [] v) ≡ true → cold u ≡ true
    cold_start u l m = let e = only_one u v m in cold_from u
        (λ t. let w = there (entry_at after u) reached t in
        both_ways _ (missed w.0 w.2) (is_there_from v (entry_at before w.0) (turned.turned u w.0 w.1 ∙ ap Some (eqb-true u v e))))
        (λ k. both_ways (hot v) not_v (ap hot (sym (eqb-true u v e)) ∙ k))

    cold_step : (x u : ℕ) → is_member x pushes ≡ true → u < vertices → cold x ≡ true → residual_arc back after x u ≡ true → cold u ≡ true
    cold_step x u m l c a =
        let p = led back (entry_at after x) u a in
        let outside : is_member p.0 reached ≡ false = sym (ap (λ q. is_member_there q reached) p.1)
        ∙ not-true _ (and_parts (not (is_member_there (entry_at after x) reached)) (not (hot x)) c).0 in
        let small = place_below x p.0 p.1 in
        let leads : leads_to arcs (Some u) p.0 ≡ true = sym (opposite u p.0) ∙ p.2 in
        cold_from u
        (λ t. let w = there (entry_at after u) reached t in
        both_ways (is_member p.0 reached) outside
        (reach.closed w.0 p.0 w.2 small (ap (λ e. leads_to arcs e p.0) (turned.turned u w.0 w.1) ∙ leads)))
        (λ k. both_ways (is_member p.0 reached) outside (heads u p.0 k small leads))

    stays_cold : (u : ℕ) → is_member u pushes ≡ true → (is_member_there (entry_at after u) reached ≡ false) × (hot u ≡ false)
    stays_cold u m =
        let c = and_parts (not (is_member_there (entry_at after u) reached)) (not (hot u))
        (reached_by_induction pushes cold push cold_start cold_step u m) in
        (not-true _ c.0, not-true _ c.1)

  -- ---- where nothing that starts is pushed on to v, v is not reached

  module _ (start : ℕ → Bool) (reached pushes : List ℕ) (reach : IsReachedSet vertices (residual_arc arcs before) start reached)
      (push : IsReachedSet vertices (residual_arc back after) (λ u. is_member u (with_one [] v)) pushes)
      (apart : (w u : ℕ) → w < vertices → start w ≡ true → entry_at before w ≡ Some u → is_member u pushes ≡ true → ⊥) where
    abbrev free : ℕ → Bool
    free w = not (is_member_there (entry_at before w) pushes)

    free_from : (w : ℕ) → ((u : ℕ) → entry_at before w ≡ Some u → is_member u pushes ≡ true → ⊥) → free w ≡ true
    free_from w none =
        ap not (false_from_ne_true _ (λ t. let u = there (entry_at before w) pushes t in none u.0 u.1 u.2))

    free_step : (w y : ℕ) → is_member w reached ≡ true → y < vertices → free w ≡ true → residual_arc arcs before w y ≡ true → free y ≡ true
    free_step w y m l f a = free_from y (λ x e k.
        let u = led arcs (entry_at before w) y a in
        both_ways (is_member u.0 pushes) (sym (ap (λ q. is_member_there q pushes) u.1) ∙ not-true _ f)
        (push.closed x u.0 k (h.table.below w u.0 u.1) (pushed x u.0 y (in_place y x e) u.2)))

    stays_missed : (w : ℕ) → is_member w reached ≡ true → entry_at before w ≢ Some v
    stays_missed w m e =
        both_ways (is_member v pushes) (sym (ap (λ q. is_member_there q pushes) e)
        ∙ not-true _ (reached_by_induction reached free reach (λ y l s. free_from y (λ u. apart y u l s)) free_step w m))
        (push.starts v (h.table.below w v e) (is_member-with_one v v [] ∙ or_left (eqb v v) false (eq-eqb v v refl)))

  -- ---- no path more

  module _ (new : is_member v ends ≡ false) (below : AllBelow vertices sources) where
    module _ (heads : (e : ℕ) → e < length arcs → (ends_of arcs e).1 < vertices) (pushes : List ℕ)
        (push : IsReachedSet vertices (residual_arc back after) (λ u. is_member u (with_one [] v)) pushes)
        (missed : (u : ℕ) → is_member u pushes ≡ true → residual_goal sources after u ≡ false) where
      -- no place of what is pushed on to v is a source
      no_source : (w u : ℕ) → is_member w sources ≡ true → entry_at before w ≡ Some u → is_member u pushes ≡ true → ⊥
      no_source w u s e m = both_ways (is_member w sources) (sym (ap (λ p. is_member_there p sources) (in_place w u e)) ∙ missed u m) s

      pub none_more : HasPathsToEach arcs sources (with_one ends v) → ⊥
      none_more =
          let start : ℕ → Bool = λ w. is_member w sources in
          let r = reached_set_exists vertices (residual_arc arcs before) start in
          no_paths vertices arcs sources ends before h None v (with_one ends v) (IsReplaced-more ends v h.set.rising new) heads r.0 r.1.set
          (λ w m. r.1.starts w (AllBelow-member vertices sources w below m) m) (λ w l none. absurd (false≢true none)) r.1.closed
          (stays_missed start r.0 pushes r.1 push (λ w u l. no_source w u))

      -- ---- one end gives way

      module _ (e : ℕ) (old : is_member e ends ≡ true) where
        end_comes : (w : ℕ) → leads_to arcs (Some e) w ≡ true → IsComing vertices arcs sources before (Some e) w
        end_comes w l = record {
          source = λ n. absurd (none_is_not_some e (sym n));
          below = λ u s. subst (λ y. y < vertices) (some_is_one e u s) (below_member h.set old);
          joined = λ u s. subst (λ y. leads_to arcs (Some y) w ≡ true) (some_is_one e u s) l;
          free = λ u s x. subst (λ y. entry_at before x ≢ Some y) (some_is_one e u s) (h.free e x old);
        }

        pub gives_way : is_member e pushes ≡ true → HasPathsToEach arcs sources (with_one (without_one ends e) v)
        gives_way m =
            let start : ℕ → Bool = λ w. leads_to arcs (Some e) w in
            let goal : ℕ → Bool = λ w. is_there v (entry_at before w) in
            elim (finite_reach vertices (residual_arc arcs before) start goal) [
              | inl q ↦ paths_by_walk vertices arcs sources ends before h (Some e) v (with_one (without_one ends e) v)
                  (IsReplaced-exchange ends e v h.set.rising old new) start goal q.0 q.1 (end_comes (get_or q.0 0 0) q.1.walk.first)
                  (there_is v (entry_at before (get_or q.0 q.1.walk.arcs 0)) q.1.walk.last)
              | inr q ↦
                  absurd (both_ways (eqb e e) (stays_cold start q.0 pushes q.1 q.2 push (λ u. eqb u e)
                  (ne_eqb v e (λ same. both_ways (is_member v ends) new (ap (λ y. is_member y ends) same ∙ old)))
                  (λ u w k l leads. q.1.starts w l (subst (λ y. leads_to arcs (Some y) w ≡ true) (eqb-true u e k) leads)) e m).1 (eq-eqb e e refl))
            ]

        pub holds_out : is_member e pushes ≡ false → HasPathsToEach arcs sources (with_one (without_one ends e) v) → ⊥
        holds_out out =
            let start : ℕ → Bool = λ w. is_member w sources || leads_to arcs (Some e) w in
            let r = reached_set_exists vertices (residual_arc arcs before) start in
            no_paths vertices arcs sources ends before h (Some e) v (with_one (without_one ends e) v)
            (IsReplaced-exchange ends e v h.set.rising old new) heads r.0 r.1.set
            (λ w m. r.1.starts w (AllBelow-member vertices sources w below m) (or_left (is_member w sources) _ m))
            (λ w l m. r.1.starts w l (or_right (is_member w sources) _ m)) r.1.closed
            (stays_missed start r.0 pushes r.1 push (λ w u l s at m. elim (or_cases (is_member w sources) (leads_to arcs (Some e) w) s) [
              | inl source ↦ no_source w u source at m
              | inr leads ↦ both_ways (is_member e pushes) out (push.closed u e m (below_member h.set old) (pushed u e w (in_place w u at) leads))
            ]))

-- ---- the arcs, turned round

pub IsGraph-reversed : (vertices : ℕ) (arcs : List (ℕ × ℕ)) → IsGraph vertices arcs → IsGraph vertices (reversed_arcs arcs)
IsGraph-reversed vertices arcs g =
    let long : length (reversed_arcs arcs) ≡ length arcs = length-map arcs (λ arc. (arc.1, arc.0)) in
    let at : (e : ℕ) → e < length arcs → ends_of (reversed_arcs arcs) e ≡ ((ends_of arcs e).1, (ends_of arcs e).0) =
    λ e l. get_or-map (λ arc. (arc.1, arc.0)) arcs e (0, 0) (0, 0) l in
    record {
      first = λ e l. let m : e < length arcs = omega arith in subst (λ p. p.0 < vertices) (sym (at e m)) (g.second e m);
      second = λ e l. let m : e < length arcs = omega arith in subst (λ p. p.1 < vertices) (sym (at e m)) (g.first e m);
      few = (let few = g.few in omega arith);
    }

has_arc-reversed : (arcs : List (ℕ × ℕ)) (u w : ℕ) → has_arc (reversed_arcs arcs) w u ≡ has_arc arcs u w
has_arc-reversed [] u w = refl
has_arc-reversed (arc ∷ arcs) u w =
    swapped (eqb arc.1 w) (eqb arc.0 u) (has_arc (reversed_arcs arcs) w u) (has_arc arcs u w) (has_arc-reversed arcs u w)
  where
    swapped : (a b c d : Bool) → c ≡ d → ((a && b) || c) ≡ ((b && a) || d)
    swapped a b c d e = grind arith

-- from w one leads back to u exactly where from u one leads to w
pub opposite_ways : (arcs : List (ℕ × ℕ)) (u w : ℕ) → leads_to (reversed_arcs arcs) (Some w) u ≡ leads_to arcs (Some u) w
opposite_ways arcs u w = same_either (eqb u w) (eqb w u) _ _ (eqb-turned u w) (has_arc-reversed arcs u w)
  where
    same_either : (a b c d : Bool) → a ≡ b → c ≡ d → (a || c) ≡ (b || d)
    same_either a b c d e f = grind arith

-- ---- what the code reads

module _ (vertices : ℕ) (arcs : List (ℕ × ℕ)) (sources ends : List ℕ) (kept : Reroutes) (k : AreReroutes vertices arcs sources ends kept)
    (back : DirectedGraph) (is : IsTurned vertices arcs back) where
  -- the search is allowed
  pub searchable : (read : List (Option ℕ)) → read ≡ kept.after.items
      → (length read ≡ back.vertices) × ((x w : ℕ) → entry_at read x ≡ Some w → w < back.vertices)
  searchable read same = rw same (
    (let a = k.turned.long in let b = k.table.table.long in let c = is.same in omega arith),
    λ x w e. (let inside = entry_inside k.before w x (k.turned.turned x w e) in let b = k.table.table.long in let c = is.same in omega arith),
  )

  module _ (v : ℕ) (starts : List ℕ) (only : starts ≡ with_one [] v) (read : List (Option ℕ)) (same : read ≡ kept.after.items) where
    read_so : (P : ℕ → List (ℕ × ℕ) → List (Option ℕ) → List ℕ → Type 0) → P back.vertices back.arcs read starts
        → P vertices (reversed_arcs arcs) kept.after.items (with_one [] v)
    read_so P h =
        subst (λ s. P vertices (reversed_arcs arcs) kept.after.items s) only
        (subst (λ r. P vertices (reversed_arcs arcs) r starts) same
        (subst (λ b. P vertices b read starts) is.arcs_are (subst (λ n. P n back.arcs read starts) is.same h)))

    -- ---- where v is an end, it has no place, and so nothing more is reached

    module _ (old : is_member v ends ≡ true) where
      no_place : (x : ℕ) → x ≡ v → entry_at kept.after.items x ≡ None
      no_place x e =
          ap (entry_at kept.after.items) e
          ∙ none_from (entry_at kept.after.items v) (λ w at. k.table.free v w old (k.turned.turned v w at))

      nowhere : (x w : ℕ) → x ≡ v → residual_arc (reversed_arcs arcs) kept.after.items x w ≡ true → ⊥
      nowhere x w e a = false≢true (sym (ap (λ p. leads_to (reversed_arcs arcs) p w) (no_place x e)) ∙ a)

      pub only_the_end : (reached : List ℕ) → IsReachedSet back.vertices (residual_arc back.arcs read) (λ w. is_member w starts) reached
          → reached ≡ with_one [] v
      only_the_end reached reach =
          let push = read_so (λ n b r s. IsReachedSet n (residual_arc b r) (λ w. is_member w s) reached) reach in
          let all : (x : ℕ) → is_member x reached ≡ true → eqb x v ≡ true =
          reached_by_induction reached (λ u. eqb u v) push (λ u l m. only_one u v m) (λ x u m l is a. absurd (nowhere x u (eqb-true x v is) a)) in
          same_members reached (with_one [] v) push.set.rising (IsRising-with_one [] v IsRising-nil) (λ x. elim (cases_Bool (is_member x reached)) [
            | inl m ↦ m ∙ sym (is_member-with_one x v [] ∙ or_left (eqb x v) false (all x m))
            | inr out ↦ out ∙ sym (false_from_ne_true _ (λ m. both_ways (is_member x reached) out
                (push.starts x (subst (λ u. u < vertices) (sym (eqb-true x v (only_one x v m))) (below_member k.table.set old)) m)))
          ])

    module _ (new : is_member v ends ≡ false) where
      pub reached_tells : (reached : List ℕ) → IsReachedSet back.vertices (residual_arc back.arcs read) (λ w. is_member w starts) reached
          → ((x : ℕ) → is_member x reached ≡ true → residual_goal sources read x ≡ false) → GiveWay arcs sources ends v reached
      reached_tells reached reach missed =
          let push = read_so (λ n b r s. IsReachedSet n (residual_arc b r) (λ w. is_member w s) reached) reach in
          let none : (x : ℕ) → is_member x reached ≡ true → residual_goal sources kept.after.items x ≡ false =
          λ x m. sym (ap (λ r. residual_goal sources r x) same) ∙ missed x m in
          let opposite = reversed_arcs arcs in
          let after = kept.after.items in
          record {
            none_more = none_more vertices arcs opposite sources ends k.before after (opposite_ways arcs) k.turned k.table v new k.inside k.graph.second reached
                push none;
            give_way = λ e old. (
              gives_way vertices arcs opposite sources ends k.before after (opposite_ways arcs) k.turned k.table v new k.inside k.graph.second reached push none
                  e old,
              λ p. by_cases e old p (is_member e reached) refl
                  (holds_out vertices arcs opposite sources ends k.before after (opposite_ways arcs) k.turned k.table v new k.inside k.graph.second reached push
                  none e old),
            );
          }
        where
          by_cases : (e : ℕ) → is_member e ends ≡ true → HasPathsToEach arcs sources (with_one (without_one ends e) v) → (b : Bool)
              → is_member e reached ≡ b
              → (is_member e reached ≡ false → HasPathsToEach arcs sources (with_one (without_one ends e) v) → ⊥) → is_member e reached ≡ true
          by_cases e old p true is out = is
          by_cases e old p false is out = absurd (out is p)
