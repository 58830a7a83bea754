-- The whole search: the path and the listed sets together, from the start to the end.
use Rattle.mat_cuts.proofs.Common.{◌≡◌, ◌≢◌, ℕ, suc, ◌+◌, ◌*◌, ◌<◌, ◌≤◌, ◌⊎◌, true, false, not, ◌&&◌, eqb, ltb, List, [], ◌∷◌, ◌++◌, length, inl, inr, refl, sym, ap, ◌∙◌, subst, arith, ℤ, pos, ◌+ℤ◌, ◌≤ℤ◌, ◌<ℤ◌, length-append, All, Option, Some, and_from, and_parts, both_ways, cases_Bool, cases_eq}
use Rattle.mat_cuts.proofs.Common.{cases_lt, eq-eqb, eqb-true, false_from_ne_true, lt-ltb, ltb-true, ne_eqb, ints, All-get_or, never, vertex_bound, ends_of, enters, IsGraph, IsRootFree, IsUnentered, those_below, all_below, is_member, without_one, IsSet, cost_at, IsWideCost, length-without_one}
use Rattle.mat_cuts.proofs.Common.{is_member-all_below, length-all_below, IsRising-all_below, IsSet-all_below, IsSet-without_one, is_member-without_one, some_from_member, is_member-those_below, IsSet-those_below, weight_where, IsBegun, IsFollowed, IsPaid, TellsSpent, Raised, at, comes, falls}
use Rattle.mat_cuts.proofs.Common.{IsFirstTime, IsLeast, IsLowered, IsPath, IsRaised, Leads, CutWeight}
use Rattle.mat_cuts.specs.declared.joining.Path.{Path}
use Rattle.mat_cuts.proofs.Loops.{comes-parts}
use Rattle.mat_cuts.proofs.Paths.{Leads-arc, Leads-itself, Leads-trans, IsPath-join, IsPath-later, IsPath-push}
use Rattle.mat_cuts.proofs.Raises.{soon-later, IsLater-raise, IsRaised-raise}

-- the vertices at the last place
pub last_set : ℕ → List ℕ → ℕ → List ℕ
last_set vertices place last = those_below vertices (λ v. eqb (at place v) last)

pub last_set-is : (vertices : ℕ) (place : List ℕ) (last : ℕ)
    → last_set vertices place last ≡ those_below vertices (λ v. eqb (at place v) last)
unfolding last_set
last_set-is vertices place last = refl

pub last_set-from : (vertices : ℕ) (place : List ℕ) (last v : ℕ) → v < vertices → at place v ≡ last
    → is_member v (last_set vertices place last) ≡ true
unfolding last_set
last_set-from vertices place last v l e = is_member-those_below v vertices (λ v. eqb (at place v) last) ∙ and_from _ _ (lt-ltb v vertices l) (eq-eqb _ _ e)

pub last_set-gives : (vertices : ℕ) (place : List ℕ) (last v : ℕ) → is_member v (last_set vertices place last) ≡ true
    → (v < vertices) × (at place v ≡ last)
unfolding last_set
last_set-gives vertices place last v m =
    let p = and_parts (ltb v vertices) (eqb (at place v) last) (sym (is_member-those_below v vertices (λ v. eqb (at place v) last)) ∙ m) in
    (ltb-true v vertices p.0, eqb-true _ _ p.1)

last_set-not : (vertices : ℕ) (place : List ℕ) (last v : ℕ) → (at place v ≡ last → ⊥) → is_member v (last_set vertices place last) ≡ false
last_set-not vertices place last v n = false_from_ne_true _ (λ m. n (last_set-gives vertices place last v m).1)

-- the path and the listed sets, and how many more can be listed
pub record IsSearching (vertices : ℕ) (arcs : List (ℕ × ℕ)) (costs : List ℤ) (root : ℕ)
    (reduced : List ℤ) (since : List ℕ) (cuts : List CutWeight) (place fresh : List ℕ) (last : ℕ) : Type 0 where
  pub path : IsPath vertices arcs root since (length cuts) place fresh last
  pub raised : IsRaised vertices arcs costs root reduced since cuts
  pub fuel : 2 * length fresh + last + length cuts ≤ 2 * vertices

module _ (vertices : ℕ) (arcs : List (ℕ × ℕ)) (graph : IsGraph vertices arcs) where
  -- an arc enters the last set exactly where it comes to the last place
  comes-enters : (place : List ℕ) (last a : ℕ) → a < length arcs
      → comes (ends_of arcs) place last a ≡ enters (ends_of arcs) (last_set vertices place last) a
  comes-enters place last a l = ap (λ b. b && not (eqb (at place (ends_of arcs a).0) last)) (member (ends_of arcs a).1 (graph.second a l))
      ∙ ap (λ b. is_member (ends_of arcs a).1 (last_set vertices place last) && not b) (member (ends_of arcs a).0 (graph.first a l))
    where
      member : (v : ℕ) → v < vertices → eqb (at place v) last ≡ is_member v (last_set vertices place last)
      member v l = elim (cases_eq (at place v) last) [
        | inl e ↦ eq-eqb _ _ e ∙ sym (last_set-from vertices place last v l e)
        | inr n ↦ ne_eqb _ _ n ∙ sym (last_set-not vertices place last v n)
      ]

  module _ (costs : List ℤ) (root : ℕ) where
    -- ---- the start

    pub IsSearching-start : (since place fresh : List ℕ) → root < vertices → length costs ≡ length arcs → All IsWideCost costs
        → length since ≡ length costs → ((a : ℕ) → a < length costs → IsFirstTime (cost_at costs a) (at since a))
        → length place ≡ vertices → at place root ≡ 0 → ((v : ℕ) → v < vertices → v ≢ root → at place v ≡ never)
        → fresh ≡ without_one (all_below vertices) root → IsSearching vertices arcs costs root costs since [] place fresh 0
    IsSearching-start since place fresh below long range timed times place_long here others ef = record {
      path = record {
        long = place_long;
        fresh_set = subst (IsSet vertices) (sym ef) (IsSet-without_one vertices (all_below vertices) root (IsSet-all_below vertices));
        unseen = λ v m. let p = parts v m in others v p.0 p.1;
        seen = λ v l m. elim (cases_eq v root) [
          | inl e ↦ (let z : at place v ≡ 0 = ap (at place) e ∙ here in omega arith)
          | inr n ↦ absurd (both_ways _ m (ap (is_member v) ef ∙ is_member-without_one v root (all_below vertices)
              ∙ and_from _ _ (is_member-all_below v vertices ∙ lt-ltb v vertices l) (ap not (ne_eqb v root n))))
        ];
        root_place = here;
        rooted = λ v l z. elim (cases_eq v root) [
          | inl e ↦ subst (Leads (length arcs) (ends_of arcs) since 0 root) (sym e) (Leads-itself (length arcs) (ends_of arcs) since 0 root)
          | inr n ↦ (let o = others v l n in absurd (omega arith))
        ];
        joined = λ x y lx ly some le most. absurd (omega arith);
        some = λ l. absurd (omega arith);
      };
      raised = record {
        reduced_long = long;
        since_long = timed ∙ long;
        paid = λ a l. omega (arith, ints);
        low = λ a l. (All-get_or IsWideCost costs a (pos 0) (omega arith) range).0;
        high = λ a l. (All-get_or IsWideCost costs a (pos 0) (omega arith) range).1;
        spent = λ a l t. (times a (omega arith)).spent t;
        soon = λ a l z. (let e = (times a (omega arith)).soon z in omega arith);
        each = tt;
        nested = tt;
      };
      fuel = (let e = ap length ef in
          let k = length-without_one (all_below vertices) root (IsRising-all_below vertices) (is_member-all_below root vertices ∙ lt-ltb root vertices below) in
          omega (arith, length-all_below vertices));
    }
      where
        parts : (v : ℕ) → is_member v fresh ≡ true → (v < vertices) × (v ≢ root)
        parts v m =
            let p = and_parts (is_member v (all_below vertices)) (not (eqb v root)) (sym (is_member-without_one v root (all_below vertices)) ∙ sym (ap (is_member v) ef) ∙ m) in
            (ltb-true v vertices (sym (is_member-all_below v vertices) ∙ p.0), λ e. both_ways _ (ap not (eq-eqb v root e)) p.1)

    -- ---- a path begins

    pub IsSearching-begin : (reduced : List ℤ) (since : List ℕ) (cuts : List CutWeight) (place next fresh : List ℕ) (t : ℕ)
        → IsSearching vertices arcs costs root reduced since cuts place fresh 0 → is_member t fresh ≡ true
        → length next ≡ length place → at next t ≡ 1 → ((w : ℕ) → w ≢ t → at next w ≡ at place w)
        → IsSearching vertices arcs costs root reduced since cuts next (without_one fresh t) 1
    IsSearching-begin reduced since cuts place next fresh t s m long here others = record {
      path = subst (IsPath vertices arcs root since (length cuts) next (without_one fresh t)) (omega arith)
          (IsPath-push vertices arcs root since (length cuts) place next fresh 0 t s.path (omega arith) m (λ y l some none. absurd (omega arith))
          (long ∙ s.path.long) (here ∙ omega arith) others);
      raised = s.raised;
      fuel = (let f = s.fuel in omega (arith, length-without_one fresh t s.path.fresh_set.rising m));
    }

    -- ---- the last set

    root_free : (reduced : List ℤ) (since : List ℕ) (cuts : List CutWeight) (place fresh : List ℕ) (last : ℕ)
        → IsSearching vertices arcs costs root reduced since cuts place fresh last → 0 < last
        → IsRootFree vertices root (last_set vertices place last)
    unfolding last_set
    root_free reduced since cuts place fresh last s some = (let w = s.path.some some in record {
      set = IsSet-those_below vertices (λ v. eqb (at place v) last);
      some = some_from_member w.0 _ (last_set-from vertices place last w.0 w.1 w.2);
      free = last_set-not vertices place last root (λ e. let z = s.path.root_place in absurd (omega arith));
    })

    -- no arc enters it
    pub IsSearching-unreached : (reduced : List ℤ) (since : List ℕ) (cuts : List CutWeight) (place fresh : List ℕ) (last : ℕ)
        → IsSearching vertices arcs costs root reduced since cuts place fresh last → 0 < last
        → ((b : ℕ) → b < length arcs → comes (ends_of arcs) place last b ≡ false)
        → IsUnentered vertices arcs root (last_set vertices place last)
    IsSearching-unreached reduced since cuts place fresh last s some none = record {
      root_free = root_free reduced since cuts place fresh last s some;
      none = λ a l. sym (comes-enters place last a l) ∙ none a l;
    }

    -- it is listed; then the least arc that enters it is spent
    pub IsSearching-raise : (reduced left : List ℤ) (since later : List ℕ) (cuts : List CutWeight) (c : CutWeight) (place fresh : List ℕ) (last a : ℕ)
        → IsSearching vertices arcs costs root reduced since cuts place fresh last → 0 < last → length cuts + 1 < never
        → 2 * length fresh + last + suc (length cuts) ≤ 2 * vertices
        → IsLeast (length arcs) (comes (ends_of arcs) place last) reduced a → pos 0 <ℤ cost_at reduced a → c.weight ≡ cost_at reduced a
        → c.set ≡ last_set vertices place last
        → IsLowered (length arcs) (comes (ends_of arcs) place last) c.weight (suc (length cuts)) reduced left since later
        → IsSearching vertices arcs costs root left later (cuts ++ c ∷ []) place fresh last × (at later a ≤ length (cuts ++ c ∷ []))
    IsSearching-raise reduced left since later cuts c place fresh last a s some few room least more ew es l =
        let ends = ends_of arcs in
        let count = length arcs in
        let same : (b : ℕ) → b < count → comes ends place last b ≡ enters ends c.set b =
        λ b lb. comes-enters place last b lb ∙ ap (λ k. enters ends k b) (sym es) in
        let lowered : IsLowered count (enters ends c.set) c.weight (suc (length cuts)) reduced left since later = record {
          left_long = l.left_long;
          later_long = l.later_long;
          left_is = λ b lb. subst (λ t. cost_at reduced b ≡ cost_at left b +ℤ weight_where t c.weight) (same b lb) (l.left_is b lb);
          later_is = λ b lb. subst (λ t. ((at later b ≡ at since b) × (t ≡ true → cost_at left b ≢ pos 0))
              ⊎ ((at later b ≡ suc (length cuts)) × ((t ≡ true) × (cost_at left b ≡ pos 0)))) (same b lb) (l.later_is b lb);
        } in
        let all : (b : ℕ) → b < count → enters ends c.set b ≡ true → c.weight ≤ℤ cost_at reduced b =
        λ b lb e. (let k = least.least b lb (same b lb ∙ e) in omega (arith, ints)) in
        let positive : pos 0 <ℤ c.weight = omega (arith, ints) in
        let longer : length (cuts ++ c ∷ []) ≡ suc (length cuts) = length-append cuts (c ∷ []) ∙ omega arith in
        let free = subst (IsRootFree vertices root) (sym es) (root_free reduced since cuts place fresh last s some) in
        let joined : (x y : ℕ) → is_member x c.set ≡ true → is_member y c.set ≡ true → Leads count ends since (length cuts) x y = λ x y mx my. (
        let px = last_set-gives vertices place last x (ap (is_member x) (sym es) ∙ mx) in
        let py = last_set-gives vertices place last y (ap (is_member y) (sym es) ∙ my) in
        let ex = px.1 in let ey = py.1 in
        s.path.joined x y px.0 py.0 (omega arith) (omega arith) (omega arith)) in
        let next = IsRaised-raise vertices arcs costs root reduced left since later cuts c s.raised few positive free joined all lowered in
        let changes = IsLater-raise vertices arcs costs root reduced left since later cuts c.set c.weight s.raised (omega arith) positive all lowered in
        let spent : cost_at left a ≡ pos 0 =
        (let e = l.left_is a least.below in let w : weight_where (comes ends place last a) c.weight ≡ c.weight = rw least.passes in omega (arith, ints)) in (
          record {
            path = IsPath-later vertices arcs root since (length cuts) later (length (cuts ++ c ∷ [])) place fresh last
                (λ b lb e. let k = soon-later count ends since later (length cuts) changes b lb e in omega arith) s.path;
            raised = next;
            fuel = omega arith;
          },
          next.soon a least.below spent,
        )

    -- ---- the arc is followed back

    pub IsSearching-push : (reduced : List ℤ) (since : List ℕ) (cuts : List CutWeight) (place next fresh : List ℕ) (last a : ℕ)
        → IsSearching vertices arcs costs root reduced since cuts place fresh last → last + 1 < never → a < length arcs
        → comes (ends_of arcs) place last a ≡ true → at since a ≤ length cuts
        → at place (ends_of arcs a).0 ≡ never → length next ≡ length place → at next (ends_of arcs a).0 ≡ last + 1
        → ((w : ℕ) → w ≢ (ends_of arcs a).0 → at next w ≡ at place w)
        → IsSearching vertices arcs costs root reduced since cuts next (without_one fresh (ends_of arcs a).0) (last + 1)
    IsSearching-push reduced since cuts place next fresh last a s few la come early unseen long here others =
        let t = (ends_of arcs a).0 in
        let h = (ends_of arcs a).1 in
        let p = comes-parts arcs place last a come in
        let m : is_member t fresh ≡ true = elim (cases_Bool (is_member t fresh)) [
          | inl m ↦ m
          | inr out ↦ (let k = s.path.seen t (graph.first a la) out in absurd (omega arith))
        ] in
        let at_head = p.0 in
        record {
          path = IsPath-push vertices arcs root since (length cuts) place next fresh last t s.path few m
              (λ y ly some most. Leads-trans (length arcs) (ends_of arcs) since (length cuts) t h y (Leads-arc (length arcs) (ends_of arcs) since (length cuts) a la early)
              (s.path.joined h y (graph.second a la) ly some (omega arith) (omega arith)))
              (long ∙ s.path.long) here others;
          raised = s.raised;
          fuel = (let f = s.fuel in omega (arith, length-without_one fresh t s.path.fresh_set.rising m));
        }

    pub IsSearching-join : (reduced : List ℤ) (since : List ℕ) (cuts : List CutWeight) (place next fresh : List ℕ) (last a : ℕ)
        → IsSearching vertices arcs costs root reduced since cuts place fresh last → last < never → a < length arcs
        → comes (ends_of arcs) place last a ≡ true → at since a ≤ length cuts
        → (at place (ends_of arcs a).0 ≡ never → ⊥) → length next ≡ length place
        → ((w : ℕ) → at next w ≡ falls (at place (ends_of arcs a).0) last (at place w))
        → IsSearching vertices arcs costs root reduced since cuts next fresh (at place (ends_of arcs a).0) × (at place (ends_of arcs a).0 < last)
    IsSearching-join reduced since cuts place next fresh last a s few la come early seen long fell =
        let t = (ends_of arcs a).0 in
        let p = comes-parts arcs place last a come in
        let low : at place t ≤ last = elim (cases_Bool (is_member t fresh)) [
          | inl m ↦ absurd (seen (s.path.unseen t m))
          | inr out ↦ s.path.seen t (graph.first a la) out
        ] in
        let before : at place t < last = elim (cases_lt (at place t) last) [ inl l ↦ l | inr k ↦ absurd (p.1 (omega arith)) ] in (
          record {
            path = IsPath-join vertices arcs root since (length cuts) place next fresh last a s.path few la (graph.first a la) (graph.second a la) early p.0 before (long ∙ s.path.long) fell;
            raised = s.raised;
            fuel = (let f = s.fuel in omega arith);
          },
          before,
        )

    -- ---- the end

    -- ---- one turn of the loop

    pub IsSearching-begun : (reduced : List ℤ) (since : List ℕ) (cuts : List CutWeight) (before after : Path)
        → IsSearching vertices arcs costs root reduced since cuts before.place.items before.fresh before.last → IsBegun before after true
        → IsSearching vertices arcs costs root reduced since cuts after.place.items after.fresh after.last × (0 < after.last)
        × (2 * length after.fresh + after.last ≤ 2 * length before.fresh + before.last)
    IsSearching-begun reduced since cuts before after s (inl h) = (
      subst (λ l. IsSearching vertices arcs costs root reduced since cuts after.place.items after.fresh l) (sym h.1.1.1)
          (subst (λ f. IsSearching vertices arcs costs root reduced since cuts after.place.items f before.last) (sym h.1.1.0)
          (subst (λ p. IsSearching vertices arcs costs root reduced since cuts p before.fresh before.last) (sym h.1.0) s)),
      (let e = h.1.1.1 in let k = h.0 in omega arith),
      (let e = h.1.1.1 in let f = ap length h.1.1.0 in omega arith),
    )
    IsSearching-begun reduced since cuts before after s (inr h) =
        let q = h.1.2 in
        let start = subst (IsSearching vertices arcs costs root reduced since cuts before.place.items before.fresh) h.0 s in
        let e = h.0 in
        let last_is : after.last ≡ 1 = (let l = q.last in omega arith) in (
          subst (λ l. IsSearching vertices arcs costs root reduced since cuts after.place.items after.fresh l) (sym last_is)
              (subst (λ f. IsSearching vertices arcs costs root reduced since cuts after.place.items f 1) (sym q.fresh)
              (IsSearching-begin reduced since cuts before.place.items after.place.items before.fresh h.1.0 start h.1.1 q.long (let k = q.here in omega arith) q.others)),
          omega arith,
          (let f = ap length q.fresh in omega (arith, length-without_one before.fresh h.1.0 s.path.fresh_set.rising h.1.1)),
        )

    pub IsSearching-paid : (before after : Raised) (place fresh : List ℕ) (last a : ℕ)
        → IsSearching vertices arcs costs root before.reduced.items before.since.items before.cuts.items place fresh last → 0 < last
        → length before.cuts.items + 1 < never
        → 2 * length fresh + last + suc (length before.cuts.items) ≤ 2 * vertices
        → IsLeast (length arcs) (comes (ends_of arcs) place last) before.reduced.items a
        → IsPaid (comes (ends_of arcs) place last) place last a before after
        → IsSearching vertices arcs costs root after.reduced.items after.since.items after.cuts.items place fresh last × (at after.since.items a ≤ length after.cuts.items)
        × (length after.cuts.items ≤ suc (length before.cuts.items))
    IsSearching-paid before after place fresh last a s some few room least (inl h) =
        let low = s.raised.low a least.below in
        let gone : cost_at before.reduced.items a ≡ pos 0 = (let k = h.0 in omega (arith, ints)) in
        let early = s.raised.soon a least.below gone in
        let all = subst (λ c. IsSearching vertices arcs costs root after.reduced.items after.since.items c place fresh last) (sym h.1.0)
        (subst (λ r. IsSearching vertices arcs costs root r after.since.items before.cuts.items place fresh last) (sym h.1.1.0)
        (subst (λ t. IsSearching vertices arcs costs root before.reduced.items t before.cuts.items place fresh last) (sym h.1.1.1) s)) in
        (all, (let e = ap length h.1.0 in let t = ap (λ t. at t a) h.1.1.1 in omega arith), (let e = ap length h.1.0 in omega arith))
    IsSearching-paid before after place fresh last a s some few room least (inr h) =
        let l = h.1 in
        let set_is = l.set_is ∙ ap (λ n. those_below n (λ v. eqb (at place v) last)) s.path.long ∙ sym (last_set-is vertices place last) in
        let lowered = subst (λ w. IsLowered (length arcs) (comes (ends_of arcs) place last) w (suc (length before.cuts.items))
        before.reduced.items after.reduced.items before.since.items after.since.items)
        (sym l.weight_is)
        (subst (λ n. IsLowered n (comes (ends_of arcs) place last) (cost_at before.reduced.items a) (suc (length before.cuts.items))
        before.reduced.items after.reduced.items before.since.items after.since.items)
        s.raised.reduced_long l.lowered) in
        let n = IsSearching-raise before.reduced.items after.reduced.items before.since.items after.since.items before.cuts.items l.cut place fresh last a
        s some few room least h.0 l.weight_is set_is lowered in (
          subst (λ c. IsSearching vertices arcs costs root after.reduced.items after.since.items c place fresh last) (sym l.cuts) n.0,
          (let e = ap length l.cuts in let k = n.1 in omega arith),
          (let e = ap length l.cuts in omega (arith, length-append before.cuts.items (l.cut ∷ []))),
        )

    pub IsSearching-followed : (reduced : List ℤ) (since : List ℕ) (cuts : List CutWeight) (before after : Path) (a : ℕ)
        → IsSearching vertices arcs costs root reduced since cuts before.place.items before.fresh before.last → before.last + 1 < never
        → a < length arcs
        → comes (ends_of arcs) before.place.items before.last a ≡ true → at since a ≤ length cuts
        → IsFollowed (ends_of arcs a).0 before after
        → IsSearching vertices arcs costs root reduced since cuts after.place.items after.fresh after.last
        × (2 * length after.fresh + after.last < 2 * length before.fresh + before.last)
    IsSearching-followed reduced since cuts before after a s few la come early (inl h) =
        let q = h.1 in
        let m : is_member (ends_of arcs a).0 before.fresh ≡ true = elim (cases_Bool (is_member (ends_of arcs a).0 before.fresh)) [
          | inl m ↦ m
          | inr out ↦ (let k = s.path.seen (ends_of arcs a).0 (graph.first a la) out in let e = h.0 in absurd (omega arith))
        ] in (
          subst (λ l. IsSearching vertices arcs costs root reduced since cuts after.place.items after.fresh l) (sym q.last)
              (subst (λ f. IsSearching vertices arcs costs root reduced since cuts after.place.items f (before.last + 1)) (sym q.fresh)
              (IsSearching-push reduced since cuts before.place.items after.place.items before.fresh before.last a s few la come early h.0 q.long q.here q.others)),
          (let f = ap length q.fresh in let l = q.last in omega (arith, length-without_one before.fresh (ends_of arcs a).0 s.path.fresh_set.rising m)),
        )
    IsSearching-followed reduced since cuts before after a s few la come early (inr h) =
        let q = h.1 in
        let n = IsSearching-join reduced since cuts before.place.items after.place.items before.fresh before.last a s (omega arith) la come early h.0 q.long q.fall in (
          subst (λ l. IsSearching vertices arcs costs root reduced since cuts after.place.items after.fresh l) (sym q.last)
              (subst (λ f. IsSearching vertices arcs costs root reduced since cuts after.place.items f (at before.place.items (ends_of arcs a).0)) (sym q.fresh) n.0),
          (let f = ap length q.fresh in let l = q.last in let k = n.1 in omega arith),
        )

    -- a path begins where there is none, the last set is paid for, and its arc is followed back
    pub IsSearching-turn : (before after : Raised) (start begun next : Path) (a : ℕ) (found : Option ℕ) → vertices ≤ vertex_bound
        → IsSearching vertices arcs costs root before.reduced.items before.since.items before.cuts.items start.place.items start.fresh start.last
        → 2 * length start.fresh + start.last + length before.cuts.items + 1 ≤ 2 * vertices
        → IsBegun start begun true → found ≡ Some a → TellsSpent arcs begun.place.items begun.last before after found → IsFollowed (ends_of arcs a).0 begun next
        → IsSearching vertices arcs costs root after.reduced.items after.since.items after.cuts.items next.place.items next.fresh next.last
        × (2 * length next.fresh + next.last + length after.cuts.items + 1 ≤ 2 * vertices)
        × (2 * length next.fresh + next.last < 2 * length start.fresh + start.last)
    IsSearching-turn before after start begun next a found small s spare b is told f =
        let spent = subst (TellsSpent arcs begun.place.items begun.last before after) is told in
        let begins = IsSearching-begun before.reduced.items before.since.items before.cuts.items start begun s b in
        let less = begins.2 in
        let paid = IsSearching-paid before after begun.place.items begun.fresh begun.last a begins.0 begins.1 (omega arith) (omega arith) spent.least spent.paid in
        let more = paid.2 in
        let followed = IsSearching-followed after.reduced.items after.since.items after.cuts.items begun next a paid.0 (omega arith)
        spent.least.below spent.least.passes paid.1 f in
        let lower = followed.1 in
        (followed.0, omega arith, omega arith)
