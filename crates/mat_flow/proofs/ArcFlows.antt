-- What the loops of the search for paths that share no arc keep.
use Rattle.mat_flow.proofs.Common.{◌≡◌, ℕ, zero, suc, ◌+◌, ◌<◌, Bool, true, false, not, ◌&&◌, ◌||◌, eqb, ltb, List, [], ◌∷◌, length, get_or, replicate, set, take, Option, Some, None, inl, inr, refl, sym, ap, ◌∙◌, subst, arith, length-set, cases_eq, lt-ltb, ltb-true, get_or-replicate}
use Rattle.mat_flow.proofs.Common.{length-replicate, ends_of, IsGraph, all_below, is_member, with_one, without_one, AllBelow, IsRising, IsSet, IsReachedSet, AreArcPaths, IsArcCut, is_member-all_below, IsRising-all_below, IsSet-without_one, is_member-without_one, IsRising-nil, is_member-take_more}
use Rattle.mat_flow.proofs.Common.{row_at, arcs_from, arcs_to, is_head_there, is_passed, line_arcs, AreLeaving, IsLeftOut, entry_at, is_member_there, leads_to, residual_arc, residual_goal, starts_in, IsLinkTable, AreTrails, IsReversed, is_member-inserted, or_none, or_assoc}
use Rattle.std.proofs.Math.Numerals.{add-one}
use Rattle.mat_flow.proofs.DisjointPaths.{AreDisjointPaths-trails}
use Rattle.mat_flow.proofs.LineGraphs.{has_arc-line, is_member-arcs_from, is_member-arcs_to, starts_among-le, AreArcPaths-line, IsArcCut-reached}
use Rattle.mat_flow.proofs.PathsOfTables.{starts_of_all}
use Rattle.mat_flow.proofs.LinkTables.{none_is_not_some, AreOwn, IsLinkTable-own}

-- ---- the rows of live arcs

pub AreLeaving-none : (n : ℕ) (ends : ℕ → ℕ × ℕ) (rows : List (List ℕ)) → rows ≡ replicate n [] → AreLeaving n ends [] rows
AreLeaving-none n ends rows e = record {
  count = ap length e ∙ length-replicate n [];
  members = λ v a l. ap (λ r. is_member a (row_at r v)) e ∙ ap (is_member a) (get_or-replicate n v [] [] l);
}

pub AreLeaving-more : (n : ℕ) (ends : ℕ → ℕ × ℕ) (live : List ℕ) (i : ℕ) (rows : List (List ℕ)) → i < length live
    → (ends (get_or live i 0)).0 < n → AreLeaving n ends (take i live) rows
    → AreLeaving n ends (take (i + 1) live)
    (set rows (ends (get_or live i 0)).0 (with_one (row_at rows (ends (get_or live i 0)).0) (get_or live i 0)))
AreLeaving-more n ends live i rows l inside r =
    let b = get_or live i 0 in
    let tail = (ends b).0 in
    record {
      count = length-set rows tail (with_one (row_at rows tail) b) ∙ r.count;
      members = λ v a m. is_member-inserted rows tail b v a (subst (λ c. tail < c) (sym r.count) inside)
          ∙ ap (λ x. x || (eqb tail v && eqb b a)) (r.members v a m)
          ∙ put a b v (is_member a (take i live)) ∙ ap (λ x. x && eqb (ends a).0 v) (sym (is_member-take_more live i a l));
    }
  where
    put : (a b v : ℕ) (old : Bool) → ((old && eqb (ends a).0 v) || (eqb (ends b).0 v && eqb b a)) ≡ ((old || eqb a b) && eqb (ends a).0 v)
    put a b v old = elim (cases_eq a b) [
      | inl same ↦ (let e : (ends a).0 ≡ (ends b).0 = ap (λ z. (ends z).0) same in grind arith)
      | inr d ↦ grind arith
    ]

-- ---- the vertices that are left out

is_passed-more : (ends : ℕ → ℕ × ℕ) (before : List (Option ℕ)) (vs : List ℕ) (i x : ℕ) → i < length vs
    → is_passed ends before (take (i + 1) vs) x ≡ (is_passed ends before (take i vs) x || is_head_there ends x (entry_at before (get_or vs i 0)))
is_passed-more ends before [] i x l = absurd (omega arith)
is_passed-more ends before (v ∷ vs) zero x l = or_none (is_head_there ends x (entry_at before v))
is_passed-more ends before (v ∷ vs) (suc i) x l =
    rw (add-one (suc i)) (rest (rw (add-one i) at (is_passed-more ends before vs i x (omega arith))))
  where
    rest : is_passed ends before (take (suc i) vs) x ≡ (is_passed ends before (take i vs) x || is_head_there ends x (entry_at before (get_or vs i 0)))
        → (is_head_there ends x (entry_at before v) || is_passed ends before (take (suc i) vs) x)
        ≡ ((is_head_there ends x (entry_at before v) || is_passed ends before (take i vs) x) || is_head_there ends x (entry_at before (get_or vs i 0)))
    rest e = rw e (or_assoc (is_head_there ends x (entry_at before v)) (is_passed ends before (take i vs) x) (is_head_there ends x (entry_at before (get_or vs i 0))))

-- the loop has passed the first i reached arcs
pub record IsLeaving (vertices : ℕ) (ends : ℕ → ℕ × ℕ) (from : ℕ) (before : List (Option ℕ)) (reached : List ℕ) (i : ℕ) (cut : List ℕ) : Type 0 where
  pub set : IsSet vertices cut
  pub out : IsLeftOut vertices ends from before (take i reached) cut

module _ (vertices : ℕ) (ends : ℕ → ℕ × ℕ) (from : ℕ) (before : List (Option ℕ)) (reached : List ℕ) where
  pub IsLeaving-start : (all : List ℕ) → all ≡ all_below vertices → IsSet vertices all → IsLeaving vertices ends from before reached 0 (without_one all from)
  IsLeaving-start all e s = record {
    set = IsSet-without_one vertices all from s;
    out = record {
      members = λ x. is_member-without_one x from all ∙ ap (λ l. is_member x l && not (eqb x from)) e
          ∙ ap (λ b. b && not (eqb x from)) (is_member-all_below x vertices) ∙ ap (λ b. ltb x vertices && not b) (none (eqb x from));
    };
  }
    where
      none : (b : Bool) → b ≡ (b || false)
      none true = refl
      none false = refl

  pub IsLeaving-skip : (i : ℕ) (cut : List ℕ) → i < length reached → entry_at before (get_or reached i 0) ≡ None
      → IsLeaving vertices ends from before reached i cut → IsLeaving vertices ends from before reached (i + 1) cut
  IsLeaving-skip i cut l e s = record {
    set = s.set;
    out = record {
      members = λ x. s.out.members x ∙ ap (λ b. ltb x vertices && not (eqb x from || b))
          (same (is_passed ends before (take i reached) x) (is_head_there ends x (entry_at before (get_or reached i 0))) (ap (is_head_there ends x) e)
          ∙ sym (is_passed-more ends before reached i x l));
    };
  }
    where
      same : (a b : Bool) → b ≡ false → a ≡ (a || b)
      same true b e = refl
      same false b e = sym e

  pub IsLeaving-cut : (i u : ℕ) (cut : List ℕ) → i < length reached → entry_at before (get_or reached i 0) ≡ Some u
      → IsLeaving vertices ends from before reached i cut → IsLeaving vertices ends from before reached (i + 1) (without_one cut (ends u).1)
  IsLeaving-cut i u cut l e s = record {
    set = IsSet-without_one vertices cut (ends u).1 s.set;
    out = record {
      members = λ x. is_member-without_one x (ends u).1 cut ∙ ap (λ b. b && not (eqb x (ends u).1)) (s.out.members x)
          ∙ moved (ltb x vertices) (eqb x from) (is_passed ends before (take i reached) x) (eqb x (ends u).1)
          ∙ ap (λ b. ltb x vertices && not (eqb x from || b))
          (ap (λ f. is_passed ends before (take i reached) x || is_head_there ends x f) (sym e) ∙ sym (is_passed-more ends before reached i x l));
    };
  }
    where
      moved : (a b c d : Bool) → ((a && not (b || c)) && not d) ≡ (a && not (b || (c || d)))
      moved true b c d = grind arith
      moved false b c d = refl

-- ---- the whole search

-- a table of so many paths
pub record HoldsPaths (count : ℕ) (ends : ℕ → ℕ × ℕ) (live : List ℕ) (from to : ℕ) (before : List (Option ℕ)) (n : ℕ) : Type 0 where
  pub table : IsLinkTable count (line_arcs ends count live) (arcs_from ends live from) (arcs_to ends count to) before
  pub many : starts_in before ≡ n

pub HoldsPaths-own : (count : ℕ) (ends : ℕ → ℕ × ℕ) (live : List ℕ) (from to : ℕ) (before : List (Option ℕ)) → AreOwn count before
    → HoldsPaths count ends live from to before 0
HoldsPaths-own count ends live from to before own = record {
  table = IsLinkTable-own count (line_arcs ends count live) (arcs_from ends live from) (arcs_to ends count to) before own;
  many = (let none = starts_among-le before (all_below (length before)) [] (IsRising-all_below (length before)) IsRising-nil (λ x m e.
      absurd (none_is_not_some x (sym e ∙ own.own x (subst (λ n. x < n) own.long (ltb-true x (length before) (sym (is_member-all_below x (length before)) ∙ m)))))) in
      omega (arith, none, starts_of_all before (length before) refl));
}

-- ---- what the relation answers

-- the live arcs that leave a vertex are those of its row
pub row_is_arcs_from : (vertices : ℕ) (ends : ℕ → ℕ × ℕ) (live : List ℕ) (rows : List (List ℕ)) (v a : ℕ) → v < vertices
    → AreLeaving vertices ends live rows → is_member a (row_at rows v) ≡ is_member a (arcs_from ends live v)
row_is_arcs_from vertices ends live rows v a l r = r.members v a l ∙ sym (is_member-arcs_from ends live v a)

-- an arc before another one, with the end of the paths for its head
pub is_goal_there : (ends : ℕ → ℕ × ℕ) (count to : ℕ) (before : List (Option ℕ)) (a u : ℕ) → entry_at before a ≡ Some u → u < count
    → eqb (ends u).1 to ≡ residual_goal (arcs_to ends count to) before a
is_goal_there ends count to before a u e l =
    ap (λ b. b && eqb (ends u).1 to) (sym (lt-ltb u count l)) ∙ sym (is_member-arcs_to ends [] count to u)
    ∙ sym (ap (λ f. is_member_there f (arcs_to ends count to)) e)

-- the next arc in the residual graph
pub next_there : (vertices count : ℕ) (ends : ℕ → ℕ × ℕ) (live : List ℕ) (rows : List (List ℕ)) (before : List (Option ℕ)) (a u h : ℕ)
    → entry_at before a ≡ Some u → u < count → (ends u).1 < vertices → h ≡ (ends u).1 → AreLeaving vertices ends live rows
    → (b : ℕ) → (eqb b u || is_member b (row_at rows h)) ≡ residual_arc (line_arcs ends count live) before a b
next_there vertices count ends live rows before a u h e l inside same r b =
    ap (λ x. eqb b u || x) (ap (λ v. is_member b (row_at rows v)) same ∙ r.members (ends u).1 b inside
    ∙ ap (λ x. x && (is_member b live && eqb (ends b).0 (ends u).1)) (sym (lt-ltb u count l)) ∙ sym (has_arc-line ends live count u b))
    ∙ sym (ap (λ f. leads_to (line_arcs ends count live) f b) e)

-- ---- the cut that is found

pub cut_found : (vertices vertices' : ℕ) (arcs arcs' : List (ℕ × ℕ)) (live : List ℕ) (from to want n : ℕ) (before read lent : List (Option ℕ))
    (reached reached' cut : List ℕ) → vertices' ≡ vertices → arcs' ≡ arcs → read ≡ before → lent ≡ before → reached' ≡ reached
    → IsGraph vertices arcs → IsRising live → AllBelow (length arcs) live → HoldsPaths (length arcs) (ends_of arcs) live from to before n
    → n < want → from < vertices → to < vertices → (from ≡ to → ⊥)
    → IsReachedSet (length arcs) (residual_arc (line_arcs (ends_of arcs) (length arcs) live) read) (λ a. is_member a (arcs_from (ends_of arcs) live from)) reached
    → ((a : ℕ) → is_member a reached ≡ true → residual_goal (arcs_to (ends_of arcs) (length arcs) to) read a ≡ false)
    → IsSet vertices' cut → IsLeftOut vertices' (ends_of arcs') from lent reached' cut → IsArcCut vertices (ends_of arcs) live from to want cut
cut_found vertices vertices' arcs arcs' live from to want n before read lent reached reached' cut ev ea er el es graph rises below holds less f t differ reach missed set out =
    let ends = ends_of arcs in
    let count = length arcs in
    let reach2 : IsReachedSet count (residual_arc (line_arcs ends count live) before) (λ a. is_member a (arcs_from ends live from)) reached =
    subst (λ b. IsReachedSet count (residual_arc (line_arcs ends count live) b) (λ a. is_member a (arcs_from ends live from)) reached) er reach in
    let missed2 : (a : ℕ) → is_member a reached ≡ true → residual_goal (arcs_to ends count to) before a ≡ false =
    subst (λ b. (a : ℕ) → is_member a reached ≡ true → residual_goal (arcs_to ends count to) b a ≡ false) er missed in
    let out2 : IsLeftOut vertices ends from before reached cut =
    subst (λ v. IsLeftOut v ends from before reached cut) ev (subst (λ l. IsLeftOut vertices' (ends_of l) from before reached cut) ea
    (subst (λ b. IsLeftOut vertices' (ends_of arcs') from b reached cut) el (subst (λ s. IsLeftOut vertices' (ends_of arcs') from lent s cut) es out))) in
    IsArcCut-reached vertices count ends live from to before reached (record { rising = rises; below = below }) graph.first holds.table reach2 missed2
    want cut f t differ (subst (λ v. IsSet v cut) ev set) out2 (let many = holds.many in omega arith)

-- the paths that are found
pub paths_found : (arcs : List (ℕ × ℕ)) (live : List ℕ) (from to want n : ℕ) (before read lent after lent_after : List (Option ℕ)) (slice : List ℕ)
    (paths : List (List ℕ)) → read ≡ before → lent ≡ before → lent_after ≡ after → slice ≡ all_below (length arcs)
    → HoldsPaths (length arcs) (ends_of arcs) live from to before n → n ≡ want → IsReversed read after → AreTrails lent lent_after slice paths
    → AreArcPaths (ends_of arcs) live from to want paths
paths_found arcs live from to want n before read lent after lent_after slice paths er el ea es holds full reversed trails =
    let count = length arcs in
    let ends = ends_of arcs in
    let reversed2 = subst (λ b. IsReversed b after) er reversed in
    let trails2 : AreTrails before after (all_below count) paths =
    subst (λ s. AreTrails before after s paths) es (subst (λ a. AreTrails before a slice paths) ea (subst (λ b. AreTrails b lent_after slice paths) el trails)) in
    let disjoint = AreDisjointPaths-trails count (line_arcs ends count live) (arcs_from ends live from) (arcs_to ends count to) before after holds.table reversed2
    (all_below count) paths (λ v m. ltb-true v count (sym (is_member-all_below v count) ∙ m)) trails2 in
    let all = starts_of_all before count holds.table.long in
    AreArcPaths-line ends live count from to want paths disjoint (trails2.count ∙ all ∙ holds.many ∙ full)
