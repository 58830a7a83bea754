-- One arborescence grows arc by arc: what is kept while it grows, how it begins, what a takable arc adds, and that it spans when all vertices
-- are reached.
use Rattle.mat_branch.proofs.Common.{◌≡◌, ℕ, zero, suc, ◌+◌, ◌<◌, ◌≤◌, Bool, true, false, not, ◌&&◌, ◌||◌, eqb, List, [], ◌∷◌, length, inl, inr, refl, sym, ap, ◌∙◌, subst, arith, and_left, eq-eqb, eqb-true, false_from_ne_true, false≢true, lt-ltb, ltb-true, or_cases, or_left, or_parts, or_right}
use Rattle.mat_branch.proofs.Common.{indicator, Reaches, IsSpanningArborescence, all_below, is_member, with_one, without_one, IsSet, length-with_one, below_member, is_member-all_below, length-all_below, IsRising-all_below, IsSet-nil, IsSet-with_one, IsSet-without_one, IsSubset-all_below}
use Rattle.mat_branch.proofs.Common.{is_member-with_one, is_member-without_one, only_member, larger_has, same_size_subset, IsSubset-with_one, Reaches-arc, Reaches-itself, Reaches-subset, Reaches-trans, entering-same, AreEntered, Grows, IsGrown, IsTakable}
use Rattle.mat_branch.proofs.Choosing.{some_takable}

module _ (vertices arcs root : ℕ) (ends : ℕ → ℕ × ℕ) where
  pub Grows-start : (live : List ℕ) (m : ℕ) → IsSet arcs live → root < vertices → AreEntered vertices root ends live (suc m)
      → Grows vertices arcs root ends live m live (root ∷ []) []
  Grows-start live m set below e = record {
    live_set = set;
    tree_set = IsSet-nil arcs;
    reached_set = record { rising = record { rises = (omega arith, tt) }; below = (below, tt) };
    start = or_left (eqb root root) false (eq-eqb root root refl);
    size = refl;
    reaches = λ v h. subst (Reaches ends [] root) (sym (only_member v root h)) (Reaches-itself ends [] root);
    parts = λ a. omega arith;
    entered = record { each = λ cut free. let h = e.each cut free in omega arith };
    outside = record { each = λ cut free none. e.each cut free };
  }

  pub Grows-take : (first : List ℕ) (m : ℕ) (live reached tree : List ℕ) (a : ℕ) → Grows vertices arcs root ends first m live reached tree
      → IsTakable vertices root ends live reached m a
      → Grows vertices arcs root ends first m (without_one live a) (with_one reached (ends a).1) (with_one tree a)
  Grows-take first m live reached tree a g t =
      let head = (ends a).1 in
      let fresh : is_member a tree ≡ false = false_from_ne_true _ (λ h.
      let both = g.parts a in
      let one : indicator (is_member a tree) ≡ 1 = rw h in
      let other : indicator (is_member a live) ≡ 1 = rw t.live_arc in
      absurd (omega (arith, bit (is_member a first)))) in
      let wider = IsSubset-with_one tree a in
      let along : Reaches ends (with_one tree a) root head = Reaches-trans ends (with_one tree a) root (ends a).0 head
      (Reaches-subset ends tree (with_one tree a) root (ends a).0 wider (g.reaches (ends a).0 t.tail))
      (Reaches-arc ends (with_one tree a) a (is_member-with_one a a tree ∙ or_left (eqb a a) _ (eq-eqb a a refl))) in
      record {
        live_set = IsSet-without_one arcs live a g.live_set;
        tree_set = IsSet-with_one arcs tree a g.tree_set (below_member g.live_set t.live_arc);
        reached_set = IsSet-with_one vertices reached head g.reached_set t.below;
        start = is_member-with_one root head reached ∙ or_right (eqb root head) _ g.start;
        size = ap suc (length-with_one tree a g.tree_set.rising fresh) ∙ ap suc g.size ∙ sym (length-with_one reached head g.reached_set.rising t.head);
        reaches = λ v h. elim (or_cases (eqb v head) (is_member v reached) (sym (is_member-with_one v head reached) ∙ h)) [
          | inl same ↦ subst (Reaches ends (with_one tree a) root) (sym (eqb-true v head same)) along
          | inr old ↦ Reaches-subset ends tree (with_one tree a) root v wider (g.reaches v old)
        ];
        parts = λ b. moved (eqb b a) (is_member b tree) (is_member b live) (is_member b first) (is_member b (with_one tree a))
            (is_member b (without_one live a)) (is_member-with_one b a tree) (is_member-without_one b a live) (λ e. ap (λ z. is_member z live) (eqb-true b a e) ∙ t.live_arc) (g.parts b);
        entered = t.spare;
        outside = record {
          each = λ cut free none.
              let no_head : is_member head cut ≡ false = false_from_ne_true _ (λ h. false≢true (sym (none head h) ∙ (is_member-with_one head head reached ∙ or_left (eqb head head) _ (eq-eqb head head refl)))) in
              omega (
                arith,
                entering-same ends live cut a g.live_set.rising (and_left _ _ no_head),
                g.outside.each cut free (λ v h. (or_parts (eqb v head) (is_member v reached) (sym (is_member-with_one v head reached) ∙ none v h)).1),
              );
        };
      }
    where
      bit : (b : Bool) → indicator b ≤ 1
      bit true = omega arith
      bit false = omega arith

      moved : (e x y z x' y' : Bool) → x' ≡ (e || x) → y' ≡ (y && not e) → (e ≡ true → y ≡ true)
          → indicator x + indicator y ≤ indicator z → indicator x' + indicator y' ≤ indicator z
      moved true x y z x' y' p q f h = let k = f refl in rw (p, q, k) (one x z (rw k at h))
        where
          one : (x z : Bool) → indicator x + indicator true ≤ indicator z → indicator (true || x) + indicator (true && not true) ≤ indicator z
          one true z h = absurd (omega (arith, bit z))
          one false z h = omega arith
      moved false x y z x' y' p q f h = rw (p, q) (same y h)
        where
          same : (y : Bool) → indicator x + indicator y ≤ indicator z → indicator (false || x) + indicator (y && not false) ≤ indicator z
          same true h = h
          same false h = h

  -- a tree that is short misses a vertex
  pub Grows-missing : (first : List ℕ) (m : ℕ) (live reached tree : List ℕ) → Grows vertices arcs root ends first m live reached tree → suc (length tree) < vertices
      → (x : ℕ) × (x < vertices) × (is_member x reached ≡ false)
  Grows-missing first m live reached tree g short =
      let w = larger_has reached (all_below vertices) g.reached_set.rising (IsRising-all_below vertices) (omega (arith, length-all_below vertices, g.size)) in
      (w.0, ltb-true w.0 vertices (sym (is_member-all_below w.0 vertices) ∙ w.1), w.2)

  pub Grows-takable : (first : List ℕ) (m : ℕ) (live reached tree : List ℕ) → ((a : ℕ) → a < arcs → (ends a).0 < vertices)
      → Grows vertices arcs root ends first m live reached tree → suc (length tree) < vertices → (a : ℕ) × IsTakable vertices root ends live reached m a
  Grows-takable first m live reached tree tails g short =
      let w = Grows-missing first m live reached tree g short in
      some_takable vertices root ends live reached m g.live_set.rising (λ a h. tails a (below_member g.live_set h)) g.entered g.outside g.start w.0 w.1 w.2

  -- a tree with enough arcs spans
  pub Grows-spans : (first : List ℕ) (m : ℕ) (live reached tree : List ℕ) → Grows vertices arcs root ends first m live reached tree → suc (length tree) ≡ vertices
      → IsSpanningArborescence vertices arcs ends root tree
  Grows-spans first m live reached tree g full =
      let all = same_size_subset reached (all_below vertices) g.reached_set.rising (IsRising-all_below vertices)
      (IsSubset-all_below vertices reached g.reached_set.below) (omega (arith, length-all_below vertices, g.size)) in
      record {
        set = g.tree_set;
        size = full;
        reached = λ v l. g.reaches v (ap (is_member v) all ∙ is_member-all_below v vertices ∙ lt-ltb v vertices l);
      }

  -- ---- a whole tree

  -- an arborescence with the arcs that it leaves live
  pub record Grown (first : List ℕ) (m : ℕ) : Type 0 where
    pub live : List ℕ
    pub tree : List ℕ
    pub grown : IsGrown vertices arcs root ends first m live tree

  pub Grows-grown : (first : List ℕ) (m : ℕ) (live reached tree : List ℕ) → Grows vertices arcs root ends first m live reached tree
      → suc (length tree) ≡ vertices → IsGrown vertices arcs root ends first m live tree
  Grows-grown first m live reached tree g l = record {
    live_set = g.live_set;
    spans = Grows-spans first m live reached tree g l;
    parts = g.parts;
    entered = g.entered;
  }

  pub grow : (left : ℕ) (first : List ℕ) (m : ℕ) (live reached tree : List ℕ) → ((a : ℕ) → a < arcs → (ends a).0 < vertices)
      → Grows vertices arcs root ends first m live reached tree → left + suc (length tree) ≡ vertices → Grown first m
  grow zero first m live reached tree tails g l =
      record { live = live; tree = tree; grown = Grows-grown first m live reached tree g (omega arith) }
  grow (suc left) first m live reached tree tails g l =
      let t = Grows-takable first m live reached tree tails g (omega arith) in
      let next = Grows-take first m live reached tree t.0 g t.1 in
      grow left first m (without_one live t.0) (with_one reached (ends t.0).1) (with_one tree t.0) tails next
      (omega (arith, next.size, g.size, length-with_one reached (ends t.0).1 g.reached_set.rising t.1.head))
