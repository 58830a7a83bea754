-- The paths from those of some vertices that have none before them, one after the other, and that they are disjoint paths from sources to
-- targets.
use Rattle.mat_flow.proofs.Common.{◌≡◌, ℕ, zero, suc, ◌+◌, ◌<◌, ◌≢◌, Bool, true, false, ◌||◌, eqb, List, [], ◌∷◌, ◌++◌, length, get_or, take, Option, Some, None, is_some, inl, inr, refl, sym, ap, ◌∙◌, subst, arith, append_assoc, append-nil, both_ways, eqb-true, false_from_ne_true, or_cases, or_left}
use Rattle.mat_flow.proofs.Common.{length_push, All-head, All-push, All-tail, All-weaker, is_member, AreDistinct, IsRising, AreDistinct-append, AreDistinct-index, is_member-append, is_member-take_more, is_member-take_next, entry_at, leads_to, one_if_none, starts_among, IsLinkTable, first_of}
use Rattle.mat_flow.proofs.Common.{has_arc, last_of, AreDisjointPaths, IsPath, IsPathBetween, AreTrails, IsReversed, IsTrail, IsTrailAmong}
use Rattle.std.proofs.Math.Numerals.{add-one}
use Rattle.std.specs.List.{All, concat}
use Rattle.mat_flow.proofs.LinkTables.{entry_inside}
use Rattle.mat_flow.proofs.TrailReading.{trail_differs, trails_meet}

-- ---- lists joined end to end

concat-push : (lists : List (List ℕ)) (xs : List ℕ) → concat (lists ++ xs ∷ []) ≡ concat lists ++ xs
concat-push [] xs = append-nil xs
concat-push (ys ∷ lists) xs = ap (λ t. ys ++ t) (concat-push lists xs) ∙ sym (append_assoc ys (concat lists) xs)

-- ---- how many of some vertices have none before them

pub starts_among-more : (before : List (Option ℕ)) (vs : List ℕ) (i : ℕ) → i < length vs
    → starts_among before (take (i + 1) vs) ≡ starts_among before (take i vs) + one_if_none (entry_at before (get_or vs i 0))
starts_among-more before [] i l = absurd (omega arith)
starts_among-more before (v ∷ vs) zero l = omega arith
starts_among-more before (v ∷ vs) (suc i) l =
    rw (add-one (suc i)) (let rest = rw (add-one i) at (starts_among-more before vs i (omega arith)) in omega arith)

-- ---- the paths, one after the other

pub none_of : (entry : Option ℕ) → is_some entry ≡ false → entry ≡ None
none_of None h = refl
none_of (Some u) h = absurd (both_ways true h refl)

IsTrailAmong-more : (before after : List (Option ℕ)) (among more path : List ℕ)
    → ((x : ℕ) → is_member x among ≡ true → is_member x more ≡ true)
    → IsTrailAmong before after among path → IsTrailAmong before after more path
IsTrailAmong-more before after among more path inside t = record {
  start = t.start;
  member = inside t.start t.member;
  none_before = t.none_before;
  trail = t.trail;
}

take_inside : (vs : List ℕ) (i : ℕ) → i < length vs → (x : ℕ) → is_member x (take i vs) ≡ true
    → is_member x (take (i + 1) vs) ≡ true
take_inside vs i l x m = is_member-take_more vs i x l ∙ or_left (is_member x (take i vs)) (eqb x (get_or vs i 0)) m

pub AreTrails-skip : (before after : List (Option ℕ)) (vs : List ℕ) (i : ℕ) (paths : List (List ℕ)) → i < length vs
    → is_some (entry_at before (get_or vs i 0)) ≡ true → AreTrails before after (take i vs) paths
    → AreTrails before after (take (i + 1) vs) paths
AreTrails-skip before after vs i paths l some t = record {
  each = All-weaker (IsTrailAmong before after (take i vs)) (IsTrailAmong before after (take (i + 1) vs))
      (λ path. IsTrailAmong-more before after (take i vs) (take (i + 1) vs) path (take_inside vs i l)) paths t.each;
  distinct = t.distinct;
  count = (let more = starts_among-more before vs i l in let none = counted (entry_at before (get_or vs i 0)) some in
      let count = t.count in omega arith);
}
  where
    counted : (entry : Option ℕ) → is_some entry ≡ true → one_if_none entry ≡ 0
    counted None h = absurd (both_ways false refl h)
    counted (Some u) h = refl

-- a vertex of one of the paths comes from a start among the vertices
meets_no_other : (before after : List (Option ℕ)) (among : List ℕ) (paths : List (List ℕ)) (s : ℕ) (path : List ℕ)
    → IsReversed before after
    → entry_at before s ≡ None → is_member s among ≡ false → IsTrail after s path → All (IsTrailAmong before after among) paths
    → (x : ℕ) → is_member x (concat paths) ≡ true → is_member x path ≡ false
meets_no_other before after among [] s path r none fresh t all x m = absurd (both_ways false refl m)
meets_no_other before after among (other ∷ paths) s path r none fresh t all x m =
    elim (or_cases (is_member x other) (is_member x (concat paths)) (sym (is_member-append x other (concat paths)) ∙ m)) [
      | inr later ↦
          meets_no_other before after among paths s path r none fresh t (All-tail (IsTrailAmong before after among) other paths all) x later
      | inl here ↦ false_from_ne_true (is_member x path) (λ both.
          let o = All-head (IsTrailAmong before after among) other paths all in
          let same = trails_meet before after o.start s other path x r o.none_before none o.trail t here both in
          both_ways (is_member s among) fresh (subst (λ v. is_member v among ≡ true) same o.member))
    ]

pub AreTrails-push : (before after : List (Option ℕ)) (vs : List ℕ) (i : ℕ) (paths : List (List ℕ)) (path : List ℕ)
    → IsReversed before after
    → IsRising vs → i < length vs → entry_at before (get_or vs i 0) ≡ None → IsTrail after (get_or vs i 0) path
    → AreTrails before after (take i vs) paths → AreTrails before after (take (i + 1) vs) (paths ++ path ∷ [])
AreTrails-push before after vs i paths path r rises l none trail t =
    let s = get_or vs i 0 in
    let own : is_member s (take (i + 1) vs) ≡ true = is_member-take_more vs i s l ∙ last (is_member s (take i vs)) s in
    record {
      each = All-push (IsTrailAmong before after (take (i + 1) vs)) paths path
          (All-weaker (IsTrailAmong before after (take i vs)) (IsTrailAmong before after (take (i + 1) vs))
          (λ p. IsTrailAmong-more before after (take i vs) (take (i + 1) vs) p (take_inside vs i l)) paths t.each)
          (record { start = s; member = own; none_before = none; trail = trail });
      distinct = subst AreDistinct (sym (concat-push paths path)) (AreDistinct-append (concat paths) path t.distinct
          (AreDistinct-index path (trail_differs before after s path r none trail))
          (meets_no_other before after (take i vs) paths s path r none (is_member-take_next vs i rises l) trail t.each));
      count = (let more = starts_among-more before vs i l in
          let one : one_if_none (entry_at before s) ≡ 1 = ap one_if_none none in
          let long = length_push paths path in
          let count = t.count in
          omega arith);
    }
  where
    last : (b : Bool) (s : ℕ) → (b || eqb s s) ≡ true
    last b s = grind arith

-- ---- they are disjoint paths from sources to targets

path_by_index : (arcs : List (ℕ × ℕ)) (path : List ℕ) → 0 < length path
    → ((i : ℕ) → suc i < length path → has_arc arcs (get_or path i 0) (get_or path (suc i) 0) ≡ true) → IsPath arcs path
path_by_index arcs [] some steps = absurd (omega arith)
path_by_index arcs (v ∷ []) some steps = tt
path_by_index arcs (v ∷ w ∷ rest) some steps =
    (steps 0 (omega arith), path_by_index arcs (w ∷ rest) (omega arith) (λ i l. steps (suc i) (omega arith)))

pub first_of_is : (path : List ℕ) → first_of path ≡ get_or path 0 0
first_of_is [] = refl
first_of_is (v ∷ rest) = refl

last_of_is : (path : List ℕ) (i : ℕ) → suc i ≡ length path → last_of path ≡ get_or path i 0
last_of_is (v ∷ []) zero e = refl
last_of_is (v ∷ w ∷ rest) (suc i) e = last_of_is (w ∷ rest) i (omega arith)
last_of_is _ i e = absurd (omega arith)

arc_to_other : (arcs : List (ℕ × ℕ)) (u v : ℕ) → u ≢ v → leads_to arcs (Some u) v ≡ true → has_arc arcs u v ≡ true
arc_to_other arcs u v differ h = elim (or_cases (eqb v u) (has_arc arcs u v) h) [
  | inl same ↦ absurd (differ (sym (eqb-true v u same)))
  | inr arc ↦ arc
]

module _ (vertices : ℕ) (arcs : List (ℕ × ℕ)) (sources targets : List ℕ) (before after : List (Option ℕ))
    (t : IsLinkTable vertices arcs sources targets before) (r : IsReversed before after) where
  trail_below : (s : ℕ) (path : List ℕ) → s < vertices → IsTrail after s path → (i : ℕ) → i < length path → get_or path i 0 < vertices
  trail_below s path l p zero m = subst (λ v. v < vertices) (sym p.first) l
  trail_below s path l p (suc i) m =
      let turned = r.turned (get_or path i 0) (get_or path (suc i) 0) (p.steps i m) in
      let inside = entry_inside before (get_or path (suc i) 0) (get_or path i 0) turned in
      subst (λ n. get_or path (suc i) 0 < n) t.long inside

  pub trail_between : (s : ℕ) (path : List ℕ) → s < vertices → entry_at before s ≡ None → IsTrail after s path
      → IsPathBetween arcs sources targets path
  trail_between s path l none p = record {
    joined = path_by_index arcs path p.some (λ i m. arc_to_other arcs (get_or path i 0) (get_or path (suc i) 0)
        (trail_differs before after s path r none p i (suc i) (omega arith) m)
        (t.joined (get_or path (suc i) 0) (get_or path i 0) (r.turned (get_or path i 0) (get_or path (suc i) 0) (p.steps i m))));
    starts = subst (λ v. is_member v sources ≡ true) (sym (first_of_is path ∙ p.first)) (t.starts s l none);
    ends = at_end (length path) refl;
  }
    where
      at_end : (n : ℕ) → length path ≡ n → is_member (last_of path) targets ≡ true
      at_end zero e = let some = p.some in absurd (omega arith)
      at_end (suc i) e =
          let u = get_or path i 0 in
          let below = trail_below s path l p i (omega arith) in
          let inside : u < length after = (let long = r.long in let all = t.long in omega arith) in
          subst (λ v. is_member v targets ≡ true) (sym (last_of_is path i (sym e)))
          (t.ends u below (λ v. r.none u v inside (p.last i (sym e))))

  pub AreDisjointPaths-trails : (among : List ℕ) (paths : List (List ℕ)) → ((v : ℕ) → is_member v among ≡ true → v < vertices)
      → AreTrails before after among paths → AreDisjointPaths arcs sources targets paths
  AreDisjointPaths-trails among paths below a = record {
    each = All-weaker (IsTrailAmong before after among) (IsPathBetween arcs sources targets)
        (λ path p. trail_between p.start path (below p.start p.member) p.none_before p.trail) paths a.each;
    distinct = a.distinct;
  }
