-- What arcs of a tree reach from the root: it grows by an arc that leaves it; where no arc leaves it, the tree reaches nothing else.
use Rattle.mat_cuts.proofs.Common.{◌≡◌, ℕ, suc, ◌+◌, ◌<◌, true, false, not, List, [], ◌∷◌, length, get_or, take, None, inl, inr, refl, sym, ap, ◌∙◌, subst, arith, eqb, and_parts, both_ways, eqb-true, eq-eqb, lt-ltb, ltb-true, or_cases, or_left, or_right, not-true, DirectedWalk}
use Rattle.mat_cuts.proofs.Common.{IsSpanningArborescence, Reaches, all_below, is_member, with_one, IsSet, IsSubset, length-with_one, is_member-all_below, length-all_below, IsRising-all_below, IsSet-with_one, IsSubset-all_below, is_member-head, is_member-with_one, only_member, larger_has}
use Rattle.mat_cuts.proofs.Common.{same_size_subset, leaves, IsLeaving, TellsLeaving}
use Rattle.mat_sets.proofs.Walking.{Reaches-arc, Reaches-itself, Reaches-subset, Reaches-trans}
use Rattle.mat_cuts.proofs.Loops.{members_next, stays}

-- the root put into no set
pub root_alone : (root : ℕ) (none reached : List ℕ) → none ≡ [] → reached ≡ with_one none root → reached ≡ root ∷ []
unfolding with_one
root_alone root none reached en er = er ∙ ap (λ s. with_one s root) en

module _ (vertices : ℕ) (ends : ℕ → ℕ × ℕ) (root : ℕ) (tree : List ℕ) where
  -- vertices to which arcs of the tree lead from the root
  pub record IsReached (reached : List ℕ) : Type 0 where
    pub set : IsSet vertices reached
    pub start : is_member root reached ≡ true
    pub reaches : (v : ℕ) → is_member v reached ≡ true → Reaches ends tree root v

  pub IsReached-start : root < vertices → IsReached (root ∷ [])
  IsReached-start below = record {
    set = record { rising = record { rises = (omega arith, tt) }; below = (below, tt) };
    start = or_left (eqb root root) false (eq-eqb root root refl);
    reaches = λ v m. subst (Reaches ends tree root) (sym (only_member v root m)) (Reaches-itself ends tree root);
  }

  -- the root alone
  pub IsReached-first : (none reached : List ℕ) → none ≡ [] → reached ≡ with_one none root → root < vertices
      → IsReached reached × (length reached ≡ 1)
  IsReached-first none reached en er below =
      let alone = root_alone root none reached en er in
      (subst IsReached (sym alone) (IsReached-start below), ap length alone)

  pub IsReached-more : (reached : List ℕ) (a : ℕ) → IsReached reached → (ends a).1 < vertices → IsLeaving ends tree reached a
      → IsReached (with_one reached (ends a).1)
  IsReached-more reached a r below l =
      let head = (ends a).1 in
      let tail_in = (and_parts (is_member (ends a).0 reached) (not (is_member head reached)) l.leaving).0 in
      let along = Reaches-trans ends tree root (ends a).0 head (r.reaches (ends a).0 tail_in) (Reaches-arc ends tree a l.member) in
      record {
        set = IsSet-with_one vertices reached head r.set below;
        start = is_member-with_one root head reached ∙ or_right (eqb root head) _ r.start;
        reaches = λ v m. elim (or_cases (eqb v head) (is_member v reached) (sym (is_member-with_one v head reached) ∙ m)) [
          | inl same ↦ subst (Reaches ends tree root) (sym (eqb-true v head same)) along
          | inr old ↦ r.reaches v old
        ];
      }

  pub IsReached-next : (reached more : List ℕ) (a : ℕ) → IsReached reached → (ends a).1 < vertices → IsLeaving ends tree reached a
      → more ≡ with_one reached (ends a).1 → IsReached more × (length more ≡ length reached + 1)
  IsReached-next reached more a r below l e =
      let head_out = not-true (is_member (ends a).1 reached) (and_parts (is_member (ends a).0 reached) (not (is_member (ends a).1 reached)) l.leaving).1 in (
        subst IsReached (sym e) (IsReached-more reached a r below l),
        ap length e ∙ length-with_one reached (ends a).1 r.set.rising head_out ∙ omega arith,
      )

  -- as many reached vertices as there are vertices are all of them
  pub all_reached : (reached : List ℕ) → IsReached reached → length reached ≡ vertices → (v : ℕ) → v < vertices → is_member v reached ≡ true
  all_reached reached r full v l =
      let all = same_size_subset reached (all_below vertices) r.set.rising (IsRising-all_below vertices)
      (IsSubset-all_below vertices reached r.set.below) (omega (arith, length-all_below vertices)) in
      ap (is_member v) all ∙ is_member-all_below v vertices ∙ lt-ltb v vertices l

  pub reached_spans : (count : ℕ) (reached : List ℕ) → IsReached reached → length reached ≡ vertices → IsSet count tree
      → suc (length tree) ≡ vertices → IsSpanningArborescence vertices count ends root tree
  reached_spans count reached r full set size =
      record { set = set; size = size; reached = λ v l. r.reaches v (all_reached reached r full v l) }

  -- fewer reached vertices leave one out
  pub one_unreached : (reached : List ℕ) → IsReached reached → length reached < vertices
      → (v : ℕ) × (v < vertices) × (is_member v reached ≡ false)
  one_unreached reached r few =
      let w = larger_has reached (all_below vertices) r.set.rising (IsRising-all_below vertices) (omega (arith, length-all_below vertices)) in
      (w.0, ltb-true w.0 vertices (sym (is_member-all_below w.0 vertices) ∙ w.1), w.2)

  -- a walk along arcs of which none leaves a set stays inside it
  stays_inside : (reached along : List ℕ) (v w : ℕ)
      → ((a : ℕ) → is_member a along ≡ true → is_member (ends a).0 reached ≡ true → is_member (ends a).1 reached ≡ true)
      → DirectedWalk ends along v w → is_member v reached ≡ true → is_member w reached ≡ true
  stays_inside reached [] v w closed walk inside = ap (λ u. is_member u reached) (sym walk) ∙ inside
  stays_inside reached (a ∷ along) v w closed walk inside =
      stays_inside reached along (ends a).1 w (λ b m. closed b (or_right (eqb b a) (is_member b along) m)) walk.1
      (closed a (is_member-head a along) (ap (λ u. is_member u reached) walk.0 ∙ inside))

  -- where no arc of the tree leaves the reached vertices, and they leave one out, the tree does not span
  pub stuck : (count : ℕ) (reached : List ℕ) → IsReached reached → length reached < vertices
      → ((a : ℕ) → is_member a tree ≡ true → leaves ends reached a ≡ false) → IsSpanningArborescence vertices count ends root tree → ⊥
  stuck count reached r few closed s =
      let out = one_unreached reached r few in
      let to = s.reached out.0 out.1 in
      both_ways _ out.2 (stays_inside reached to.along root out.0
      (λ a m. stays (is_member (ends a).0 reached) (is_member (ends a).1 reached) (closed a (to.inside.inside a m))) to.walk r.start)

-- a larger tree reaches as much
pub IsReached-wider : (vertices : ℕ) (ends : ℕ → ℕ × ℕ) (root : ℕ) (tree larger reached : List ℕ) → IsSubset tree larger
    → IsReached vertices ends root tree reached → IsReached vertices ends root larger reached
IsReached-wider vertices ends root tree larger reached inside r = record {
  set = r.set;
  start = r.start;
  reaches = λ v m. Reaches-subset ends tree larger root v inside (r.reaches v m);
}

-- ---- the search for an arc that leaves

pub TellsLeaving-skip : (ends : ℕ → ℕ × ℕ) (tree reached : List ℕ) (i : ℕ) → i < length tree → leaves ends reached (get_or tree i 0) ≡ false
    → TellsLeaving ends (take i tree) reached None → TellsLeaving ends (take (i + 1) tree) reached None
TellsLeaving-skip ends tree reached i l stays before = members_next (λ a. leaves ends reached a ≡ false) tree i l before stays
