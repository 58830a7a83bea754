-- The second phase: a tree grows from the root, by the arc with the earliest time among those that leave the reached vertices. It enters each
-- listed set once: an arc that enters a listed set of which a vertex is reached already has a later time than those arcs by which the
-- set was joined, so one of these would have been taken. So the cost of the tree is always the weight of the listed sets that it has met.
use Rattle.mat_cuts.proofs.Common.{◌≡◌, ℕ, suc, ◌+◌, ◌<◌, ◌≤◌, Bool, true, false, not, ◌&&◌, ◌||◌, eqb, List, [], ◌∷◌, length, inl, inr, refl, sym, ap, ◌∙◌, subst, arith, ℤ, pos, ◌+ℤ◌, and_from, and_parts, both_ways, cases_Bool, cases_lt, eqb-true, eq-eqb, false_from_ne_true, false≢true, lt-ltb}
use Rattle.mat_cuts.proofs.Common.{ltb-true, or_cases, or_left, or_right, ints, never, ends_of, enters, IsGraph, IsSpanningArborescence, those_below, is_member, with_one, IsSet, cost_at, cost_of, length-with_one, sum_of-with_one, below_member, IsSet-nil, IsSet-with_one, is_member-head}
use Rattle.mat_cuts.proofs.Common.{is_member-with_one, member_from_some, IsSubset-with_one, eqb-turned, all_weight, weight_on, weight_where, IsWeightedCut, is_timed, leaves, IsEarliest, at, AreNested, IsNested, IsRaised, Leads, CutWeight}
use Rattle.std.specs.List.{AllByRecursion}
use Rattle.mat_cuts.proofs.Reached.{all_reached, one_unreached, reached_spans, root_alone, IsReached, IsReached-more, IsReached-start, IsReached-wider}
use Rattle.mat_cuts.proofs.Loops.{stays, those-is, those-passes, those-set}

-- ---- the listed sets that are met

pub meets : List ℕ → List ℕ → Bool
meets [] reached = false
meets (x ∷ part) reached = is_member x reached || meets part reached

meets-gives : (part reached : List ℕ) → meets part reached ≡ true → (x : ℕ) × (is_member x part ≡ true) × (is_member x reached ≡ true)
unfolding meets
meets-gives [] reached h = absurd (false≢true h)
meets-gives (x ∷ part) reached h = elim (or_cases (is_member x reached) (meets part reached) h) [
  | inl m ↦ (x, is_member-head x part, m)
  | inr m ↦ (let w = meets-gives part reached m in (w.0, (let k = w.1 in grind arith), w.2))
]

meets-from : (part reached : List ℕ) (x : ℕ) → is_member x part ≡ true → is_member x reached ≡ true → meets part reached ≡ true
unfolding meets
meets-from [] reached x m r = absurd (false≢true m)
meets-from (y ∷ part) reached x m r = elim (or_cases (eqb x y) (is_member x part) m) [
  | inl e ↦ or_left (is_member y reached) (meets part reached) (subst (λ z. is_member z reached ≡ true) (eqb-true x y e) r)
  | inr k ↦ or_right (is_member y reached) (meets part reached) (meets-from part reached x k r)
]

-- the weights of the sets that are met, added
pub met_weight : List CutWeight → List ℕ → ℤ
met_weight [] reached = pos 0
met_weight (c ∷ cuts) reached = weight_where (meets c.set reached) c.weight +ℤ met_weight cuts reached

-- none is met at the root
met_weight-start : (vertices root : ℕ) (cuts : List CutWeight) → AllByRecursion (IsWeightedCut vertices root) cuts
    → met_weight cuts (root ∷ []) ≡ pos 0
unfolding met_weight
met_weight-start vertices root [] each = refl
met_weight-start vertices root (c ∷ cuts) each =
    let none : meets c.set (root ∷ []) ≡ false = false_from_ne_true _ (λ h. let w = meets-gives c.set (root ∷ []) h in
    elim (or_cases (eqb w.0 root) false w.2) [
      | inl e ↦ both_ways _ each.0.root_free.free (subst (λ z. is_member z c.set ≡ true) (eqb-true w.0 root e) w.1)
      | inr n ↦ false≢true n
    ]) in
    let zero_here : weight_where (meets c.set (root ∷ [])) c.weight ≡ pos 0 = rw none in
    omega (arith, ints, met_weight-start vertices root cuts each.1)

-- all are met where all vertices are reached
met_weight-end : (vertices root : ℕ) (cuts : List CutWeight) (reached : List ℕ) → AllByRecursion (IsWeightedCut vertices root) cuts
    → ((v : ℕ) → v < vertices → is_member v reached ≡ true) → met_weight cuts reached ≡ all_weight cuts
unfolding met_weight
met_weight-end vertices root [] reached each all = refl
met_weight-end vertices root (c ∷ cuts) reached each all =
    let x = member_from_some c.set each.0.root_free.some in
    let met : meets c.set reached ≡ true = meets-from c.set reached x.0 x.1 (all x.0 (below_member each.0.root_free.set x.1)) in
    let here : weight_where (meets c.set reached) c.weight ≡ c.weight = rw met in
    omega (arith, ints, met_weight-end vertices root cuts reached each.1 all)

-- an arc with the earliest time among the arcs that leave the reached vertices
pub record LeavesFirst (count : ℕ) (ends : ℕ → ℕ × ℕ) (since reached : List ℕ) (a : ℕ) : Type 0 where
  pub below : a < count
  pub timed : at since a < never
  pub tail : is_member (ends a).0 reached ≡ true
  pub head : is_member (ends a).1 reached ≡ false
  pub first : (b : ℕ) → b < count → is_member (ends b).0 reached ≡ true → is_member (ends b).1 reached ≡ false → at since a ≤ at since b

-- the timed arcs, by what was read
pub timed-is : (count : ℕ) (since read timed those : List ℕ) → those ≡ timed → timed ≡ those_below (length read) (is_timed read) → read ≡ since
    → length since ≡ count → those ≡ those_below count (is_timed since)
timed-is count since read timed those e t same long =
    e ∙ t ∙ ap (λ s. those_below (length s) (is_timed s)) same ∙ ap (λ n. those_below n (is_timed since)) long

-- the earliest of the timed arcs
LeavesFirst-earliest : (count : ℕ) (ends : ℕ → ℕ × ℕ) (since reached timed : List ℕ) (a : ℕ) → timed ≡ those_below count (is_timed since)
    → IsEarliest ends since timed reached a → LeavesFirst count ends since reached a
LeavesFirst-earliest count ends since reached timed a those e =
    let parts = and_parts (is_member (ends a).0 reached) (not (is_member (ends a).1 reached)) e.leaving in
    let early = ltb-true (at since a) never (those-passes count (is_timed since) timed those a e.member) in
    record {
      below = below_member (those-set count (is_timed since) timed those) e.member;
      timed = early;
      tail = parts.0;
      head = false_from_ne_true _ (λ inside. both_ways _ (ap not inside) parts.1);
      first = λ b l tail head. elim (cases_lt (at since b) never) [
        | inl has ↦ e.first b (those-is count (is_timed since) timed those b l ∙ lt-ltb (at since b) never has) (and_from _ _ tail (ap not head))
        | inr never ↦ omega arith
      ];
    }

module _ (count : ℕ) (ends : ℕ → ℕ × ℕ) (since reached : List ℕ) (a : ℕ) (e : LeavesFirst count ends since reached a) where
  -- an earliest arc enters no listed set that is met already
  enters_unmet : (i : ℕ) (part : List ℕ) → IsNested count ends since i part → enters ends part a ≡ true → meets part reached ≡ false
  enters_unmet i part n comes = false_from_ne_true _ (λ met.
      let w = meets-gives part reached met in
      let p = and_parts (is_member (ends a).1 part) (not (is_member (ends a).0 part)) comes in
      let late = n.late a e.below comes in
      both_ways _ e.head ((n.joined w.0 (ends a).1 w.1 p.0).to (λ v. is_member v reached) (λ b lb early tail. elim (cases_Bool (is_member (ends b).1 reached)) [
        | inl inside ↦ inside
        | inr out ↦ (let first = e.first b lb tail out in absurd (omega arith))
      ]) w.2))

  meets-with : (part : List ℕ) (h : ℕ) → meets part (with_one reached h) ≡ (is_member h part || meets part reached)
  unfolding meets
  meets-with [] h = refl
  meets-with (x ∷ part) h = ap (λ b. b || meets part (with_one reached h)) (is_member-with_one x h reached)
      ∙ ap (λ b. (eqb x h || is_member x reached) || b) (meets-with part h)
      ∙ ap (λ b. (b || is_member x reached) || (is_member h part || meets part reached)) (eqb-turned x h)
      ∙ swap (eqb h x) (is_member x reached) (is_member h part) (meets part reached)
    where
      swap : (p q r s : Bool) → ((p || q) || (r || s)) ≡ ((p || r) || (q || s))
      swap true q r s = refl
      swap false true true s = refl
      swap false true false s = refl
      swap false false r s = refl

  more : (part : List ℕ) (w : ℤ) (i : ℕ) → IsNested count ends since i part
      → weight_where (meets part (with_one reached (ends a).1)) w ≡ weight_where (meets part reached) w +ℤ weight_where (enters ends part a) w
  more part w i n = subst (λ b. weight_where b w ≡ weight_where (meets part reached) w +ℤ weight_where (enters ends part a) w) (sym (meets-with part (ends a).1))
      (sides (is_member (ends a).1 part) (is_member (ends a).0 part) (meets part reached) (enters_unmet i part n) (λ m. meets-from part reached (ends a).0 m e.tail))
    where
      sides : (h t m : Bool) → ((h && not t) ≡ true → m ≡ false) → (t ≡ true → m ≡ true)
          → weight_where (h || m) w ≡ weight_where m w +ℤ weight_where (h && not t) w
      sides true true m f g = rw (g refl) (omega (arith, ints))
      sides true false m f g = rw (f refl) (omega (arith, ints))
      sides false t true f g = omega (arith, ints)
      sides false t false f g = omega (arith, ints)

  met_weight-more : (i : ℕ) (cuts : List CutWeight) → AreNested count ends since i cuts
      → met_weight cuts (with_one reached (ends a).1) ≡ met_weight cuts reached +ℤ weight_on ends cuts a
  unfolding met_weight
  met_weight-more i [] n = omega (arith, ints)
  met_weight-more i (c ∷ cuts) n = omega (arith, ints, more c.set c.weight i n.0, met_weight-more (suc i) cuts n.1)

-- ---- the tree

module _ (vertices : ℕ) (arcs : List (ℕ × ℕ)) (costs : List ℤ) (root : ℕ) (cuts : List CutWeight) where
  -- a part of an arborescence that costs as much as the sets that it meets weigh
  pub record IsGrowing (reached tree : List ℕ) : Type 0 where
    pub tree_set : IsSet (length arcs) tree
    pub reaching : IsReached vertices (ends_of arcs) root tree reached
    pub size : suc (length tree) ≡ length reached
    pub heads : (a : ℕ) → is_member a tree ≡ true → is_member (ends_of arcs a).1 reached ≡ true
    pub cost : cost_of costs tree ≡ met_weight cuts reached

  pub IsGrowing-start : root < vertices → AllByRecursion (IsWeightedCut vertices root) cuts → IsGrowing (root ∷ []) []
  IsGrowing-start below each = record {
    tree_set = IsSet-nil (length arcs);
    reaching = IsReached-start vertices (ends_of arcs) root [] below;
    size = refl;
    heads = λ a m. absurd (false≢true m);
    cost = sym (met_weight-start vertices root cuts each);
  }

  pub IsGrowing-take : (reduced : List ℤ) (since reached tree : List ℕ) (a : ℕ) → IsRaised vertices arcs costs root reduced since cuts
      → (ends_of arcs a).1 < vertices → LeavesFirst (length arcs) (ends_of arcs) since reached a → IsGrowing reached tree
      → IsGrowing (with_one reached (ends_of arcs a).1) (with_one tree a)
  IsGrowing-take reduced since reached tree a r below e g =
      let ends = ends_of arcs in
      let head = (ends a).1 in
      let fresh : is_member a tree ≡ false = false_from_ne_true _ (λ m. both_ways _ e.head (g.heads a m)) in
      let spent = r.spent a e.below e.timed in
      record {
        tree_set = IsSet-with_one (length arcs) tree a g.tree_set e.below;
        reaching = IsReached-more vertices ends root (with_one tree a) reached a
            (IsReached-wider vertices ends root tree (with_one tree a) reached (IsSubset-with_one tree a) g.reaching) below
            (record { member = is_member-with_one a a tree ∙ or_left (eqb a a) _ (eq-eqb a a refl); leaving = and_from _ _ e.tail (ap not e.head) });
        size = ap suc (length-with_one tree a g.tree_set.rising fresh) ∙ ap suc g.size ∙ sym (length-with_one reached head g.reaching.set.rising e.head);
        heads = λ b m. is_member-with_one (ends b).1 head reached ∙ elim (or_cases (eqb b a) (is_member b tree) (sym (is_member-with_one b a tree) ∙ m)) [
          | inl same ↦ or_left (eqb (ends b).1 head) _ (eq-eqb (ends b).1 head (ap (λ z. (ends z).1) (eqb-true b a same)))
          | inr old ↦ or_right (eqb (ends b).1 head) _ (g.heads b old)
        ];
        cost = omega (
          arith,
          ints,
          sum_of-with_one (cost_at costs) tree a g.tree_set.rising fresh,
          g.cost,
          r.paid a e.below,
          spent,
          met_weight-more (length arcs) ends since reached a e 0 cuts r.nested,
        );
      }

  -- while a vertex is not reached, some arc with a time leaves the reached ones
  pub some_leaves : (since timed reached tree : List ℕ) (now : ℕ) → now < never → timed ≡ those_below (length arcs) (is_timed since)
      → ((v : ℕ) → v < vertices → Leads (length arcs) (ends_of arcs) since now root v) → IsGrowing reached tree
      → suc (length tree) < vertices
      → ((b : ℕ) → is_member b timed ≡ true → leaves (ends_of arcs) reached b ≡ false) → ⊥
  some_leaves since timed reached tree now small those leads g short closed =
      let out = one_unreached vertices (ends_of arcs) root tree reached g.reaching (let size = g.size in omega arith) in
      both_ways _ out.2 ((leads out.0 out.1).to (λ v. is_member v reached)
      (λ b lb early. stays (is_member (ends_of arcs b).0 reached) (is_member (ends_of arcs b).1 reached)
      (closed b (those-is (length arcs) (is_timed since) timed those b lb ∙ lt-ltb (at since b) never (omega arith)))) g.reaching.start)

  pub IsGrowing-spans : (reached tree : List ℕ) → IsGrowing reached tree → suc (length tree) ≡ vertices
      → IsSpanningArborescence vertices (length arcs) (ends_of arcs) root tree
  IsGrowing-spans reached tree g long =
      reached_spans vertices (ends_of arcs) root tree (length arcs) reached g.reaching (sym g.size ∙ long) g.tree_set long

  pub IsGrowing-cost : (reached tree : List ℕ) → AllByRecursion (IsWeightedCut vertices root) cuts → IsGrowing reached tree
      → suc (length tree) ≡ vertices
      → all_weight cuts ≡ cost_of costs tree
  IsGrowing-cost reached tree each g long = sym (g.cost ∙ met_weight-end vertices root cuts reached each
      (all_reached vertices (ends_of arcs) root tree reached g.reaching (sym g.size ∙ long)))

  -- ---- the loop

  pub IsGrowing-first : (none reached tree : List ℕ) → none ≡ [] → reached ≡ with_one none root → tree ≡ [] → root < vertices
      → AllByRecursion (IsWeightedCut vertices root) cuts → IsGrowing reached tree
  IsGrowing-first none reached tree en er et below each =
      let alone = root_alone root none reached en er in
      subst (λ t. IsGrowing reached t) (sym et) (subst (λ r. IsGrowing r []) (sym alone) (IsGrowing-start below each))

  pub IsGrowing-next : (reduced : List ℤ) (since lent timed reached tree more longer : List ℕ) (a : ℕ) → lent ≡ since
      → timed ≡ those_below (length arcs) (is_timed since)
      → IsRaised vertices arcs costs root reduced since cuts → IsGraph vertices arcs → IsEarliest (ends_of arcs) lent timed reached a
      → IsGrowing reached tree → more ≡ with_one reached (ends_of arcs a).1 → longer ≡ with_one tree a
      → IsGrowing more longer × (length longer ≡ length tree + 1)
  IsGrowing-next reduced since lent timed reached tree more longer a el those r graph e g em et =
      let early = LeavesFirst-earliest (length arcs) (ends_of arcs) since reached timed a those
      (subst (λ l. IsEarliest (ends_of arcs) l timed reached a) el e) in
      let next = IsGrowing-take reduced since reached tree a r (graph.second a early.below) early g in
      let fresh : is_member a tree ≡ false = false_from_ne_true _ (λ m. both_ways _ early.head (g.heads a m)) in (
        subst (λ t. IsGrowing more t) (sym et) (subst (λ m. IsGrowing m (with_one tree a)) (sym em) next),
        ap length et ∙ length-with_one tree a g.tree_set.rising fresh ∙ omega arith,
      )
