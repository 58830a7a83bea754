-- A path is taken out of a table from its end on: where its last vertex gets itself before it, what is left of the path leads to the vertex
-- before that, and in the end nothing is left. Each step makes one entry more a vertex's own.
use Rattle.mat_flow.proofs.Common.{◌≡◌, ℕ, zero, suc, ◌+◌, ◌-◌, ◌<◌, ◌≤◌, ◌≢◌, Bool, true, false, not, ◌&&◌, ◌||◌, eqb, List, [], ◌∷◌, length, set, Option, Some, None, inl, inr, refl, sym, ap, ◌∙◌, subst, arith, length-set, both_ways, cases_eq, eq-eqb, eqb-true, false_from_ne_true, ne_eqb, or_cases}
use Rattle.mat_flow.proofs.Common.{or_right, is_member, with_one, without_one, IsSet, length-with_one, below_member, IsSet-with_one, IsSet-without_one, is_member-with_one, is_member-without_one, same_members, IsRising-with_one, IsRising-without_one, and_not_none, entry_at, is_there, leads_to}
use Rattle.mat_flow.proofs.Common.{one_if_none, starts_in, with_there, HasEnds, HasPathLeft, IsLinkTable}
use Rattle.mat_sets.specs.Families.{indicator}
use Rattle.mat_sets.proofs.DisjointSets.{with_one-holds}
use Rattle.mat_flow.proofs.LinkTables.{entry_set, leads_to_itself, none_is_not_some, some_is_one, starts_in-set}

-- ---- one step

module _ (vertices : ℕ) (arcs : List (ℕ × ℕ)) (sources rest : List ℕ) (u : ℕ) (before : List (Option ℕ))
    (h : HasPathLeft vertices arcs sources rest (Some u) before) where
  is_end : is_member u (with_one rest u) ≡ true
  is_end = with_one-holds rest u

  pub end_inside : u < length before
  end_inside = let below : u < vertices = below_member h.linked.set is_end in let long = h.linked.table.long in omega arith

  pub end_free : (w : ℕ) → entry_at before w ≢ Some u
  end_free w = h.linked.free u w is_end

  old_end : (x : ℕ) → is_member x rest ≡ true → is_member x (with_one rest u) ≡ true
  old_end x m = is_member-with_one x u rest ∙ or_right (eqb x u) (is_member x rest) m

  abbrev now : List (Option ℕ)
  now = set before u (Some u)

  module _ (left : Option ℕ) (is : left ≡ entry_at before u) where
    other : (y : ℕ) → left ≡ Some y → is_member y rest ≡ false
    other y e = false_from_ne_true (is_member y rest) (λ m. h.linked.free y u (old_end y m) (sym is ∙ e))

    -- the ends that there are now
    set_left : (l : Option ℕ) → left ≡ l → IsSet vertices (with_there rest l)
    set_left None e = h.set
    set_left (Some y) e = IsSet-with_one vertices rest y h.set (h.linked.table.below u y (sym is ∙ e))

    kept_end : (l : Option ℕ) (x : ℕ) → is_member x rest ≡ true → is_member x (with_there rest l) ≡ true
    kept_end None x m = m
    kept_end (Some y) x m = is_member-with_one x y rest ∙ or_right (eqb x y) (is_member x rest) m

    new_end : (l : Option ℕ) (x : ℕ) → l ≡ Some x → is_member x (with_there rest l) ≡ true
    new_end None x e = absurd (none_is_not_some x e)
    new_end (Some y) x e = rw (some_is_one y x e) (with_one-holds rest x)

    is_free : (l : Option ℕ) → left ≡ l → (x w : ℕ) → is_member x (with_there rest l) ≡ true → entry_at now w ≢ Some x
    is_free l e x w m k = elim (entry_set before u (Some u) w end_inside) [
      | inl own ↦ own_is_none l e (subst (λ y. is_member y (with_there rest l) ≡ true) (sym (some_is_one u x (sym own.1 ∙ k))) m)
      | inr old ↦ old_is_free l e m (sym old.1 ∙ k) old.0
    ]
      where
        own_is_none : (l : Option ℕ) → left ≡ l → is_member u (with_there rest l) ≡ true → ⊥
        own_is_none None e m = both_ways (is_member u rest) (h.other u refl) m
        own_is_none (Some y) e m = elim (or_cases (eqb u y) (is_member u rest) (sym (is_member-with_one u y rest) ∙ m)) [
          | inl same ↦ end_free u (sym is ∙ e ∙ ap Some (sym (eqb-true u y same)))
          | inr k ↦ both_ways (is_member u rest) (h.other u refl) k
        ]

        old_is_free : (l : Option ℕ) → left ≡ l → is_member x (with_there rest l) ≡ true → entry_at before w ≡ Some x → w ≢ u → ⊥
        old_is_free None e m k d = h.linked.free x w (old_end x m) k
        old_is_free (Some y) e m k d = elim (or_cases (eqb x y) (is_member x rest) (sym (is_member-with_one x y rest) ∙ m)) [
          | inl same ↦ d (h.linked.table.once w u y (k ∙ ap Some (eqb-true x y same)) (sym is ∙ e))
          | inr old ↦ h.linked.free x w (old_end x old) k
        ]

    is_end_now : (x : ℕ) → x < vertices → ((w : ℕ) → entry_at now w ≢ Some x) → is_member x (with_there rest left) ≡ true
    is_end_now x l none = at left refl
      where
        differs : x ≢ u
        differs e = elim (entry_set before u (Some u) u end_inside) [
          | inl own ↦ none u (own.1 ∙ ap Some (sym e))
          | inr old ↦ old.0 refl
        ]

        was_end : entry_at before u ≢ Some x → is_member x rest ≡ true
        was_end d =
            let free : (w : ℕ) → entry_at before w ≢ Some x = λ w k. elim (entry_set before u (Some u) w end_inside) [
              | inl own ↦ d (subst (λ y. entry_at before y ≡ Some x) own.0 k)
              | inr old ↦ none w (old.1 ∙ k)
            ] in
            elim (or_cases (eqb x u) (is_member x rest) (sym (is_member-with_one x u rest) ∙ h.linked.table.ends x l free)) [
              | inl same ↦ absurd (differs (eqb-true x u same))
              | inr m ↦ m
            ]

        at : (l : Option ℕ) → left ≡ l → is_member x (with_there rest left) ≡ true
        at None e = kept_end left x (was_end (λ k. none_is_not_some x (sym e ∙ is ∙ k)))
        at (Some y) e = elim (cases_eq x y) [
          | inl same ↦ new_end left x (e ∙ ap Some (sym same))
          | inr d ↦ kept_end left x (was_end (λ k. d (sym (some_is_one y x (sym e ∙ is ∙ k)))))
        ]

    is_table : IsLinkTable vertices arcs sources (with_there rest left) now
    is_table = record {
      long = length-set before u (Some u) ∙ h.linked.table.long;
      below = λ v x e. elim (entry_set before u (Some u) v end_inside) [
        | inl own ↦ subst (λ y. y < vertices) (some_is_one u x (sym own.1 ∙ e)) (below_member h.linked.set is_end)
        | inr old ↦ h.linked.table.below v x (sym old.1 ∙ e)
      ];
      joined = λ v x e. elim (entry_set before u (Some u) v end_inside) [
        | inl own ↦ subst (λ y. leads_to arcs (Some y) v ≡ true) (own.0 ∙ some_is_one u x (sym own.1 ∙ e)) (leads_to_itself arcs v)
        | inr old ↦ h.linked.table.joined v x (sym old.1 ∙ e)
      ];
      starts = λ v l e. elim (entry_set before u (Some u) v end_inside) [
        | inl own ↦ absurd (none_is_not_some u (sym e ∙ own.1))
        | inr old ↦ h.linked.table.starts v l (sym old.1 ∙ e)
      ];
      ends = is_end_now;
      once = λ v w x e f. elim (entry_set before u (Some u) v end_inside) [
        | inl a ↦ elim (entry_set before u (Some u) w end_inside) [
          | inl b ↦ a.0 ∙ sym b.0
          | inr b ↦ absurd (end_free w (sym b.1 ∙ f ∙ ap Some (sym (some_is_one u x (sym a.1 ∙ e)))))
        ]
        | inr a ↦ elim (entry_set before u (Some u) w end_inside) [
          | inl b ↦ absurd (end_free v (sym a.1 ∙ e ∙ ap Some (sym (some_is_one u x (sym b.1 ∙ f)))))
          | inr b ↦ h.linked.table.once v w x (sym a.1 ∙ e) (sym b.1 ∙ f)
        ]
      ];
    }

    counted : (l : Option ℕ) → left ≡ l → starts_in now ≡ length (with_there rest l)
    counted l e =
        let changed = starts_in-set before u (Some u) end_inside in
        let before_is = h.linked.count in
        let more = length-with_one rest u h.set.rising (h.other u refl) in
        at l e (subst (λ entry. starts_in now + one_if_none entry ≡ starts_in before + 0) (sym is ∙ e) changed) (before_is ∙ more)
      where
        at : (l : Option ℕ) → left ≡ l → starts_in now + one_if_none l ≡ starts_in before + 0 → starts_in before ≡ suc (length rest)
            → starts_in now ≡ length (with_there rest l)
        at None e c b = omega arith
        at (Some y) e c b = let more = length-with_one rest y h.set.rising (other y e) in omega arith

    pub HasPathLeft-less : HasPathLeft vertices arcs sources rest left now
    HasPathLeft-less = record {
      set = h.set;
      other = other;
      linked = record { set = set_left left refl; table = is_table; free = is_free left refl; count = counted left refl };
    }

-- ---- the first step, and after the last one

pub HasPathLeft-all : (vertices : ℕ) (arcs : List (ℕ × ℕ)) (sources ends : List ℕ) (v : ℕ) (before : List (Option ℕ))
    → HasEnds vertices arcs sources ends before → is_member v ends ≡ true → HasPathLeft vertices arcs sources (without_one ends v) (Some v) before
HasPathLeft-all vertices arcs sources ends v before h m =
    let rises = IsRising-without_one ends v h.set.rising in
    record {
      set = IsSet-without_one vertices ends v h.set;
      other = λ u e. ap (λ x. is_member x (without_one ends v)) (sym (some_is_one v u e)) ∙ is_member-without_one v v ends ∙ and_not_none (is_member v ends) (eqb v v) (eq-eqb v v refl);
      linked = subst (λ X. HasEnds vertices arcs sources X before)
          (same_members ends (with_one (without_one ends v) v) h.set.rising (IsRising-with_one (without_one ends v) v rises) (λ k. sym (back k))) h;
    }
  where
    back : (k : ℕ) → is_member k (with_one (without_one ends v) v) ≡ is_member k ends
    back k = is_member-with_one k v (without_one ends v) ∙ ap (λ b. eqb k v || b) (is_member-without_one k v ends)
        ∙ at (eqb k v) (is_member k ends) (λ e. ap (λ x. is_member x ends) (eqb-true k v e) ∙ m)
      where
        at : (a b : Bool) → (a ≡ true → b ≡ true) → (a || (b && not a)) ≡ b
        at true b f = sym (f refl)
        at false true f = refl
        at false false f = refl

pub HasPathLeft-none : (vertices : ℕ) (arcs : List (ℕ × ℕ)) (sources rest : List ℕ) (left : Option ℕ) (before : List (Option ℕ)) → left ≡ None
    → HasPathLeft vertices arcs sources rest left before → HasEnds vertices arcs sources rest before
HasPathLeft-none vertices arcs sources rest left before e h = subst (λ l. HasEnds vertices arcs sources (with_there rest l) before) e h.linked

-- ---- how many entries are a vertex's own

-- the entries of a table whose first vertex is k that are their vertex's own
abbrev own_from : ℕ → List (Option ℕ) → ℕ
own_from k [] = 0
own_from k (entry ∷ table) = indicator (is_there k entry) + own_from (suc k) table

own_most : (k : ℕ) (table : List (Option ℕ)) → own_from k table ≤ length table
own_most k [] = omega arith
own_most k (entry ∷ table) = let rest = own_most (suc k) table in let one = one_most (is_there k entry) in omega arith
  where
    one_most : (b : Bool) → indicator b ≤ 1
    one_most true = omega arith
    one_most false = omega arith

own_more : (k i : ℕ) (table : List (Option ℕ)) → i < length table → entry_at table i ≢ Some (k + i)
    → own_from k (set table i (Some (k + i))) ≡ suc (own_from k table)
own_more k i [] l d = absurd (omega arith)
own_more k zero (entry ∷ table) l d =
    let own = is_own k (k + 0) (omega arith) in let was = not_own entry (λ e. d (e ∙ ap Some (omega arith))) in omega arith
  where
    is_own : (k m : ℕ) → m ≡ k → indicator (is_there k (Some m)) ≡ 1
    is_own k m e = ap indicator (eq-eqb k m (sym e))

    not_own : (entry : Option ℕ) → entry ≢ Some k → indicator (is_there k entry) ≡ 0
    not_own None d = refl
    not_own (Some m) d = ap indicator (ne_eqb k m (λ e. d (ap Some (sym e))))
own_more k (suc i) (entry ∷ table) l d =
    let at : k + suc i ≡ suc k + i = omega arith in
    let rest = own_more (suc k) i table (omega arith) (λ e. d (e ∙ ap Some (sym at))) in
    rw at (let r = rest in omega arith)

-- the entries that are not their vertex's own
abbrev pub others_in : List (Option ℕ) → ℕ
others_in table = length table - own_from 0 table

pub others_fewer : (table : List (Option ℕ)) (u : ℕ) → u < length table → entry_at table u ≢ Some u → others_in (set table u (Some u)) < others_in table
others_fewer table u l d =
    let same : 0 + u ≡ u = omega arith in
    let more = subst (λ m. own_from 0 (set table u (Some m)) ≡ suc (own_from 0 table)) same (own_more 0 u table l (λ e. d (e ∙ ap Some same))) in
    let long = length-set table u (Some u) in
    let most = own_most 0 (set table u (Some u)) in
    omega arith
