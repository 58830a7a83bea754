-- A walk that pushes entries back to a source, read from its end, is a walk of the residual graph: along it v becomes an end, and the table of
-- the vertex after each vertex moves on along the walk itself. No later walk comes again to what was reached in vain, as the arcs from there
-- depend on the entries there alone.
use Rattle.mat_flow.proofs.Common.{◌≡◌, ◌≢◌, ℕ, zero, suc, ◌-◌, ◌<◌, ◌≤◌, true, false, ◌&&◌, ◌↔◌, eqb, List, [], ◌∷◌, length, get_or, is_some, Option, Some, None, inl, inr, refl, sym, ap, ◌∙◌, subst, arith, and_from, and_parts, or_left, both_ways, cases_Bool, cases_lt, eq-eqb, eqb-true}
use Rattle.mat_flow.proofs.Common.{false_from_ne_true, false≢true, get_or_past, ends_of, IsFirstFrom, all_below, is_member, with_one, AllBelow, IsWalk, is_member-get_or, is_member-with_one, place_of_member, reached_set_exists, entry_at, is_member_there, leads_to, residual_arc, residual_goal}
use Rattle.mat_flow.proofs.Common.{HasEnds, IsShifted, HasPathsToEach, reversed_arcs, DirectedGraph, IsTurned, AreReroutes, IsFreeWalk, IsShut, IsSought, IsSpent, Reroutes, IsReversed}
use Rattle.std.specs.Global.{Vec}
use Rattle.mat_flow.proofs.Augmenting.{gone_free, source_comes, stays_free}
use Rattle.mat_flow.proofs.FirstGoals.{shut_misses, IsShut-all, IsShut-moved, IsShut-spent}
use Rattle.mat_flow.proofs.LinkedEnds.{HasEnds-shifted, IsReplaced-more}
use Rattle.mat_flow.proofs.LinkTables.{entry_inside, none_from, none_is_not_some, some_is_one}
use Rattle.mat_flow.proofs.PathsOfTables.{paths_to_ends, shifted_table}
use Rattle.mat_flow.proofs.Rerouting.{led, none_more, only_one, opposite_ways, placed, there}

-- ---- a list read downwards

downs : (ℕ → ℕ) → ℕ → List ℕ
downs f zero = f 0 ∷ []
downs f (suc k) = f (suc k) ∷ downs f k

length-downs : (f : ℕ → ℕ) (k : ℕ) → length (downs f k) ≡ suc k
unfolding downs
length-downs f zero = refl
length-downs f (suc k) = ap suc (length-downs f k)

get_or-downs : (f : ℕ → ℕ) (k i : ℕ) → i ≤ k → get_or (downs f k) i 0 ≡ f (k - i)
unfolding downs
get_or-downs f zero i l = (let e : i ≡ 0 = omega arith in rw e refl)
get_or-downs f (suc k) zero l = ap f (let e : suc k ≡ suc k - 0 = omega arith in e)
get_or-downs f (suc k) (suc i) l = get_or-downs f k i (omega arith) ∙ ap f (let e : k - i ≡ suc k - suc i = omega arith in e)

-- the vertex that an entry has
value_of : Option ℕ → ℕ
value_of None = 0
value_of (Some u) = u

value_is : (entry : Option ℕ) (u : ℕ) → entry ≡ Some u → entry ≡ Some (value_of entry)
unfolding value_of
value_is None u e = absurd (none_is_not_some u e)
value_is (Some w) u e = refl

module _ (vertices : ℕ) (arcs : List (ℕ × ℕ)) (sources ends : List ℕ) (before after : List (Option ℕ))
    (turned : IsReversed before after) (h : HasEnds vertices arcs sources ends before) (v : ℕ) (walk : List ℕ)
    (w : IsWalk vertices (residual_arc (reversed_arcs arcs) after) (λ u. is_member u (with_one [] v)) (residual_goal sources after) walk)
    (differ : (i j : ℕ) → i < j → j < length walk → get_or walk i 0 ≢ get_or walk j 0) where
  -- the vertex after a vertex of the walk
  place : ℕ → ℕ
  place j = value_of (entry_at after (get_or walk j 0))

  has_place : (j : ℕ) → j < length walk → entry_at after (get_or walk j 0) ≡ Some (place j)
  unfolding place
  has_place j l = elim (cases_lt (suc j) (length walk)) [
    | inl more ↦ (let p = led (reversed_arcs arcs) (entry_at after (get_or walk j 0)) (get_or walk (suc j) 0) (w.steps j more) in
        value_is (entry_at after (get_or walk j 0)) p.0 p.1)
    | inr past ↦ (let long = w.long in
        let e : w.arcs ≡ j = omega arith in
        let p = there (entry_at after (get_or walk j 0)) sources (subst (λ i. residual_goal sources after (get_or walk i 0) ≡ true) e w.last) in
        value_is (entry_at after (get_or walk j 0)) p.0 p.1)
  ]

  at_place : (j : ℕ) → j < length walk → entry_at before (place j) ≡ Some (get_or walk j 0)
  at_place j l = turned.turned (get_or walk j 0) (place j) (has_place j l)

  starts_at : get_or walk 0 0 ≡ v
  starts_at = eqb-true (get_or walk 0 0) v (only_one (get_or walk 0 0) v w.first)

  -- v is no end yet
  pub pushed_to_no_end : is_member v ends ≡ false
  pushed_to_no_end = false_from_ne_true (is_member v ends) (λ old.
      h.free v (place 0) old (at_place 0 (let long = w.long in omega arith) ∙ ap Some starts_at))

  abbrev forward : List ℕ
  forward = downs place w.arcs

  long_forward : length forward ≡ suc w.arcs
  long_forward = length-downs place w.arcs

  forward_is : (i : ℕ) → i < length forward → get_or forward i 0 ≡ place (w.arcs - i)
  forward_is i l = get_or-downs place w.arcs i (let long = long_forward in omega arith)

  on_walk : (i : ℕ) → w.arcs - i < length walk
  on_walk i = (let long = w.long in omega arith)

  at_forward : (i : ℕ) → i < length forward → entry_at before (get_or forward i 0) ≡ Some (get_or walk (w.arcs - i) 0)
  at_forward i l = ap (entry_at before) (forward_is i l) ∙ at_place (w.arcs - i) (on_walk i)

  inside : (i : ℕ) → i < length forward → get_or forward i 0 < length before
  inside i l = entry_inside before (get_or forward i 0) (get_or walk (w.arcs - i) 0) (at_forward i l)

  -- one step of the walk, read the other way
  back_step : (j : ℕ) → suc j < length walk → leads_to arcs (Some (get_or walk (suc j) 0)) (place j) ≡ true
  back_step j l =
      sym (opposite_ways arcs (get_or walk (suc j) 0) (place j))
      ∙ sym (ap (λ e. leads_to (reversed_arcs arcs) e (get_or walk (suc j) 0)) (has_place j (omega arith))) ∙ w.steps j l

  forward_walk : IsWalk vertices (residual_arc arcs before) (λ u. is_member u sources) (λ u. true) forward
  forward_walk = record {
    arcs = w.arcs;
    long = long_forward;
    below = λ i l. (let a = inside i l in let long = h.table.long in omega arith);
    first = ap (λ u. is_member u sources) (forward_is 0 (let long = long_forward in omega arith)) ∙ source_first;
    last = refl;
    steps = λ i l. (let long = long_forward in
        let m : i < length forward = omega arith in
        let e : suc (w.arcs - suc i) ≡ w.arcs - i = omega arith in
        ap (λ u. leads_to arcs u (get_or forward (suc i) 0)) (at_forward i m)
        ∙ ap (leads_to arcs (Some (get_or walk (w.arcs - i) 0))) (forward_is (suc i) l)
        ∙ subst (λ k. leads_to arcs (Some (get_or walk k 0)) (place (w.arcs - suc i)) ≡ true) e
        (back_step (w.arcs - suc i) (let all = w.long in omega arith)));
  }
    where
      source_first : is_member (place (w.arcs - 0)) sources ≡ true
      source_first =
          let all = w.long in
          let e : w.arcs ≡ w.arcs - 0 = omega arith in
          let p = there (entry_at after (get_or walk w.arcs 0)) sources w.last in
          subst (λ k. is_member (place k) sources ≡ true) e
          (ap (λ u. is_member u sources) (some_is_one (place w.arcs) p.0 (sym (has_place w.arcs (omega arith)) ∙ p.1)) ∙ p.2)

  forward_differ : (i j : ℕ) → i < j → j < length forward → get_or forward i 0 ≢ get_or forward j 0
  forward_differ i j l m e =
      let long = long_forward in
      let all = w.long in
      differ (w.arcs - j) (w.arcs - i) (omega arith) (omega arith)
      (some_is_one _ _ (sym (at_forward j m) ∙ ap (entry_at before) (sym e) ∙ at_forward i (omega arith)))

  moved_before : (new : List (Option ℕ)) × IsShifted None forward before new
  moved_before = shifted_table None forward before inside forward_differ

  abbrev now : List (Option ℕ)
  now = moved_before.0

  s : IsShifted None forward before now
  s = moved_before.1

  going : entry_at before (get_or forward w.arcs 0) ≡ Some v
  going =
      let long = long_forward in
      let e : w.arcs - w.arcs ≡ 0 = omega arith in
      at_forward w.arcs (omega arith) ∙ ap Some (ap (λ k. get_or walk k 0) e ∙ starts_at)

  pushed_ends : HasEnds vertices arcs sources (with_one ends v) now
  unfolding forward_walk
  pushed_ends =
      HasEnds-shifted vertices arcs sources ends before h None v (with_one ends v) (IsReplaced-more ends v h.set.rising pushed_to_no_end)
      (λ u. is_member u sources) (λ u. true) now forward forward_walk forward_differ s
      (source_comes vertices arcs sources before (get_or forward 0 0) forward_walk.first) going

  -- so there are paths to v and to all ends
  pub pushed_paths : HasPathsToEach arcs sources (with_one ends v)
  pushed_paths = paths_to_ends vertices arcs sources (with_one ends v) now pushed_ends

  -- ---- the table of the vertex after each

  module _ (later : List (Option ℕ)) (t : IsShifted None walk after later) where
    -- what moved on from place j of the walk stands before the next one
    moved_on : (j : ℕ) → suc j < length walk → entry_at now (place j) ≡ Some (get_or walk (suc j) 0)
    moved_on j l =
        let long = long_forward in
        let all = w.long in
        let i : ℕ = w.arcs - suc j in
        let m : suc i < length forward = omega arith in
        let a : w.arcs - suc i ≡ j = omega arith in
        let b : w.arcs - i ≡ suc j = omega arith in
        ap (entry_at now) (sym (forward_is (suc i) m ∙ ap place a)) ∙ s.moved (suc i) m ∙ at_forward i (omega arith)
        ∙ ap (λ k. Some (get_or walk k 0)) b

    off_forward : (u x : ℕ) → is_member u walk ≡ false → entry_at before x ≡ Some u → is_member x forward ≡ false
    off_forward u x off e = false_from_ne_true (is_member x forward) (λ on.
        let p = place_of_member x forward on in
        let same = some_is_one _ _ (sym (at_forward p.0 p.1) ∙ ap (entry_at before) p.2 ∙ e) in
        both_ways (is_member u walk) off (is_member-get_or walk (w.arcs - p.0) u (on_walk p.0) same))

    turned_on : (u x k : ℕ) → k < length walk → get_or walk k 0 ≡ u → entry_at later u ≡ Some x → entry_at now x ≡ Some u
    turned_on u x zero l at e = absurd (none_is_not_some x (sym (t.moved 0 l) ∙ ap (entry_at later) at ∙ e))
    turned_on u x (suc j) l at e =
        let is = some_is_one (place j) x (sym (has_place j (omega arith)) ∙ sym (t.moved (suc j) l) ∙ ap (entry_at later) at ∙ e) in
        ap (entry_at now) (sym is) ∙ moved_on j l ∙ ap Some at

    none_on : (u x k : ℕ) → k < length walk → get_or walk k 0 ≡ u → entry_at later u ≡ None → entry_at now x ≢ Some u
    unfolding forward_walk
    none_on u x zero l at e f =
        gone_free vertices arcs sources ends (with_one ends v) None (λ y. is_member y sources) (λ y. true) before now forward h.table forward_walk
        forward_differ s (source_comes vertices arcs sources before (get_or forward 0 0) forward_walk.first) v going x
        (f ∙ ap Some (sym at ∙ starts_at))
    none_on u x (suc j) l at e f =
        none_is_not_some (place j) (sym e ∙ ap (entry_at later) (sym at) ∙ t.moved (suc j) l ∙ has_place j (omega arith))

    pushed_turned : IsReversed now later
    unfolding forward_walk
    pushed_turned = record {
      long = t.long ∙ turned.long ∙ sym s.long;
      turned = λ u x e. elim (cases_Bool (is_member u walk)) [
        | inl on ↦ (let p = place_of_member u walk on in turned_on u x p.0 p.1 p.2 e)
        | inr off ↦ (let was = turned.turned u x (sym (t.kept u off) ∙ e) in s.kept x (off_forward u x off was) ∙ was)
      ];
      none = λ u x l e. elim (cases_Bool (is_member u walk)) [
        | inl on ↦ (let p = place_of_member u walk on in none_on u x p.0 p.1 p.2 e)
        | inr off ↦ stays_free vertices arcs sources ends (with_one ends v) None (λ y. is_member y sources) (λ y. true) before now forward h.table
            forward_walk forward_differ s (source_comes vertices arcs sources before (get_or forward 0 0) forward_walk.first) v going u
            (λ y. turned.none u y (let long = t.long in omega arith) (sym (t.kept u off) ∙ e)) (none_is_not_some u) x
      ];
    }

  -- v is an end then, beside the others, and the vertex before each is turned round in the table that has moved on
  pub pushed : (later : List (Option ℕ)) → IsShifted None walk after later
      → (moved : List (Option ℕ)) × HasEnds vertices arcs sources (with_one ends v) moved × IsReversed moved later
  pushed later t = (now, pushed_ends, pushed_turned later t)

-- ---- a search in vain

module _ (vertices : ℕ) (arcs : List (ℕ × ℕ)) (sources ends : List ℕ) (before after : List (Option ℕ))
    (turned : IsReversed before after) (h : HasEnds vertices arcs sources ends before) (v : ℕ) (new : is_member v ends ≡ false)
    (below : AllBelow vertices sources) (heads : (e : ℕ) → e < length arcs → (ends_of arcs e).1 < vertices) where
  not_pushed : (rest : List ℕ) → IsShut vertices (residual_arc (reversed_arcs arcs) after) (residual_goal sources after) rest
      → ((u : ℕ) → is_member u (with_one [] v) ≡ true → is_member u rest ≡ false) → HasPathsToEach arcs sources (with_one ends v) → ⊥
  not_pushed rest shut outside =
      let r = reached_set_exists vertices (residual_arc (reversed_arcs arcs) after) (λ u. is_member u (with_one [] v)) in
      none_more vertices arcs (reversed_arcs arcs) sources ends before after (opposite_ways arcs) turned h v new below heads r.0 r.1
      (shut_misses vertices _ _ rest (λ u. is_member u (with_one [] v)) r.0 shut (λ u l m. outside u m) r.1)

-- ---- a table turned round twice

same_entries : (xs ys : List (Option ℕ)) → length xs ≡ length ys → ((v : ℕ) → entry_at xs v ≡ entry_at ys v) → xs ≡ ys
same_entries [] [] l e = refl
same_entries [] (y ∷ ys) l e = absurd (omega arith)
same_entries (x ∷ xs) [] l e = absurd (omega arith)
same_entries (x ∷ xs) (y ∷ ys) l e = rw (e 0) (ap (λ zs. y ∷ zs) (same_entries xs ys (omega arith) (λ v. e (suc v))))

twice_turned : (before after again : List (Option ℕ)) → IsReversed before after
    → ((v w u : ℕ) → entry_at before v ≡ Some u → entry_at before w ≡ Some u → v ≡ w)
    → ((v u : ℕ) → entry_at before v ≡ Some u → u < length before)
    → IsReversed after again → before ≡ again
twice_turned before after again r once below t = same_entries before again (sym (t.long ∙ r.long)) same
  where
    by_entry : (v : ℕ) → v < length again → (entry : Option ℕ) → entry_at again v ≡ entry → entry_at before v ≡ entry
    by_entry v l None e = none_from (entry_at before v) (λ u some.
        t.none v u l e (placed before after r once v u (below v u some) some))
    by_entry v l (Some u) e = r.turned u v (t.turned v u e)

    same : (v : ℕ) → entry_at before v ≡ entry_at again v
    same v = elim (cases_lt v (length again)) [
      | inl l ↦ by_entry v l (entry_at again v) refl
      | inr past ↦ get_or_past before v None (let a = t.long in let b = r.long in omega arith) ∙ sym (get_or_past again v None past)
    ]

pub after_below : (n : ℕ) (before after : List (Option ℕ)) → length before ≡ n → IsReversed before after → (v u : ℕ)
    → entry_at after v ≡ Some u → u < n
after_below n before after long r v u e = (let l = entry_inside before u v (r.turned v u e) in omega arith)

pub rerouted_table : (vertices : ℕ) (arcs : List (ℕ × ℕ)) (sources ends : List ℕ) (kept : Reroutes) → AreReroutes vertices arcs sources ends kept
    → (again : List (Option ℕ)) → IsReversed kept.after.items again → HasEnds vertices arcs sources ends again
rerouted_table vertices arcs sources ends kept k again t =
    subst (HasEnds vertices arcs sources ends)
    (twice_turned k.before kept.after.items again k.turned k.table.table.once (λ v u e. let l = k.table.table.below v u e in let long = k.table.table.long in omega arith) t)
    k.table

-- ---- the searches of a linker

module _ (vertices : ℕ) (arcs : List (ℕ × ℕ)) (sources : List ℕ) (after read : List (Option ℕ)) (same : read ≡ after)
    (back : DirectedGraph) (is : IsTurned vertices arcs back) (v : ℕ) (live : List ℕ)
    (shut : IsShut vertices (residual_arc (reversed_arcs arcs) after) (residual_goal sources after) live) where
  read_as : (P : ℕ → List (ℕ × ℕ) → List (Option ℕ) → Type 0) → P back.vertices back.arcs read → P vertices (reversed_arcs arcs) after
  read_as P h =
      subst (λ r. P vertices (reversed_arcs arcs) r) same
      (subst (λ b. P vertices b read) is.arcs_are (subst (λ n. P n back.arcs read) is.same h))

  module _ (walk : List ℕ)
      (found : IsFreeWalk back.vertices (residual_arc back.arcs read) (λ u. is_member u (with_one [] v)) (residual_goal sources read) live walk) where
    pub free_walk : IsFreeWalk vertices (residual_arc (reversed_arcs arcs) after) (λ u. is_member u (with_one [] v)) (residual_goal sources after) live walk
    free_walk = read_as (λ n b r. IsFreeWalk n (residual_arc b r) (λ u. is_member u (with_one [] v)) (residual_goal sources r) live walk) found

    pub shut_pushed : (lent : List ℕ) (later : List (Option ℕ)) → lent ≡ walk → IsShifted None lent after later → (rest : List ℕ)
        → ((u : ℕ) → is_member u rest ≡ is_member u live)
        → IsShut vertices (residual_arc (reversed_arcs arcs) later) (residual_goal sources later) rest
    shut_pushed lent later e s rest b =
        let moved = subst (λ w. IsShifted None w after later) e s in
        IsShut-moved vertices _ _ live _ _ rest shut
        (λ u out. let stays = moved.kept u (false_from_ne_true (is_member u walk) (λ on. both_ways _ out (free_walk.inside u on))) in
        (ap (λ x. is_member_there x sources) stays, λ w. ap (λ x. leads_to (reversed_arcs arcs) x w) stays)) b

  module _ (rest : List ℕ)
      (spent : IsSpent back.vertices (residual_arc back.arcs read) (λ u. is_member u (with_one [] v)) (residual_goal sources read) live rest) where
    spent_push : IsSpent vertices (residual_arc (reversed_arcs arcs) after) (λ u. is_member u (with_one [] v)) (residual_goal sources after) live rest
    spent_push = read_as (λ n b r. IsSpent n (residual_arc b r) (λ u. is_member u (with_one [] v)) (residual_goal sources r) live rest) spent

    pub shut_spent : IsShut vertices (residual_arc (reversed_arcs arcs) after) (residual_goal sources after) rest
    shut_spent = IsShut-spent vertices _ _ live (λ u. is_member u (with_one [] v)) rest shut spent_push

-- what a search tells: it finds a walk exactly where v is no end and there are paths to v and to all ends
module _ (vertices : ℕ) (arcs : List (ℕ × ℕ)) (sources ends : List ℕ) (before after : List (Option ℕ)) (turned : IsReversed before after)
    (h : HasEnds vertices arcs sources ends before) (below : AllBelow vertices sources)
    (heads : (e : ℕ) → e < length arcs → (ends_of arcs e).1 < vertices) (read : List (Option ℕ)) (same : read ≡ after) (back : DirectedGraph)
    (is : IsTurned vertices arcs back) (v : ℕ) (live : List ℕ)
    (shut : IsShut vertices (residual_arc (reversed_arcs arcs) after) (residual_goal sources after) live) where
  pub search_tells : (rest found : List ℕ) (end : Option (Vec ℕ))
      → IsSought back.vertices (residual_arc back.arcs read) (λ u. is_member u (with_one [] v)) (residual_goal sources read) live rest found end
      → (is_some end ≡ true) ↔ ((is_member v ends ≡ false) × HasPathsToEach arcs sources (with_one ends v))
  search_tells rest found None s = (
    λ e. absurd (false≢true e),
    λ p. absurd (not_pushed vertices arcs sources ends before after turned h v p.0 below heads rest
        (shut_spent vertices arcs sources after read same back is v live shut rest s.0)
        (spent_push vertices arcs sources after read same back is v live shut rest s.0).starts p.1),
  )
  search_tells rest found (Some walk) s =
      let free = free_walk vertices arcs sources after read same back is v live shut walk.items s.0 in (
        λ e. (
          pushed_to_no_end vertices arcs sources ends before after turned h v walk.items free.walk free.differ,
          pushed_paths vertices arcs sources ends before after turned h v walk.items free.walk free.differ,
        ),
        λ p. refl,
      )

-- the same of the first search at what is kept of the paths
pub first_search_tells : (vertices : ℕ) (arcs : List (ℕ × ℕ)) (sources ends : List ℕ) (kept : Reroutes) → AreReroutes vertices arcs sources ends kept
    → (read : List (Option ℕ)) → read ≡ kept.after.items → (back : DirectedGraph) → IsTurned vertices arcs back → (v : ℕ) (live : List ℕ)
    → live ≡ all_below back.vertices → (rest found : List ℕ) (end : Option (Vec ℕ))
    → IsSought back.vertices (residual_arc back.arcs read) (λ u. is_member u (with_one [] v)) (residual_goal sources read) live rest found end
    → (is_some end ≡ true) ↔ ((is_member v ends ≡ false) × HasPathsToEach arcs sources (with_one ends v))
first_search_tells vertices arcs sources ends kept k read same back is v live all =
    search_tells vertices arcs sources ends k.before kept.after.items k.turned k.table k.inside k.graph.second read same back is v live
    (IsShut-all vertices _ _ live (all ∙ ap all_below is.same))

-- ---- the only start

pub first_start : (among : List ℕ) (from v : ℕ) → from ≤ v → is_member v among ≡ true
    → IsFirstFrom (λ x. is_member x among && is_member x (with_one [] v)) from v
first_start among from v l m = record {
  reaches = l;
  passes = and_from (is_member v among) (is_member v (with_one [] v)) m (is_member-with_one v v [] ∙ or_left (eqb v v) false (eq-eqb v v refl));
  none_before = λ x a b. false_from_ne_true _ (λ t.
      let e = eqb-true x v (only_one x v (and_parts (is_member x among) (is_member x (with_one [] v)) t).1) in absurd (omega arith));
}

pub no_start : (among : List ℕ) (from v : ℕ) → v < from → (x : ℕ) → from ≤ x → (is_member x among && is_member x (with_one [] v)) ≡ false
no_start among from v l x a = false_from_ne_true _ (λ t.
    let e = eqb-true x v (only_one x v (and_parts (is_member x among) (is_member x (with_one [] v)) t).1) in absurd (omega arith))

pub no_start_live : (among : List ℕ) (from v : ℕ) → is_member v among ≡ false → (x : ℕ) → from ≤ x
    → (is_member x among && is_member x (with_one [] v)) ≡ false
no_start_live among from v o x a = false_from_ne_true _ (λ t.
    let p = and_parts (is_member x among) (is_member x (with_one [] v)) t in
    both_ways (is_member v among) o (ap (λ y. is_member y among) (sym (eqb-true x v (only_one x v p.1))) ∙ p.0))
