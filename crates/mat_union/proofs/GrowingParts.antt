-- Growing parts. A set that each part spans is closed: from its elements nothing can be added, nor can they take the place of another; so a
-- search may leave it out. Moves of other elements leave it spanned, and what a stuck search reached is spanned with it.
use Rattle.mat_union.proofs.Common.{◌≡◌, ◌⊎◌, ℕ, ◌<◌, ◌≤◌, Bool, true, false, not, ◌||◌, ◌&&◌, eqb, ltb, List, length, take, inl, inr, refl, sym, ap, ◌∙◌, arith, and_from, and_parts, both_ways, eq-eqb, eqb-true, false_from_ne_true, lt-ltb, not-true, not_from_false, or_cases, or_left, or_right}
use Rattle.mat_union.proofs.Common.{or_parts, take_all, is_member, IsRising, IsSet, intersection, with_one, without_one, length-with_one, below_member, same_members, is_member-intersection, is_member-with_one, is_member-without_one, IsRising-intersection, IsRising-with_one, some_below_from}
use Rattle.mat_union.proofs.Common.{and_neither, IsMatroid, Exchanges, rank_is, part_at, test_at, AreMatroids, AreGrowing, can_push, exchanges_with, IsReaching, ArePlaced, law_at, part_set, MoveSearch}
use Rattle.mat_laws.specs.Ranks.{rank}
use Rattle.mat_laws.proofs.Cuts.{rank-in_reach}

-- ---- a set that an independent set spans

module _ {n : ℕ} {p : List ℕ → Bool} (laws : IsMatroid n p) (I D : List ℕ) (rd : IsRising D) (spans : rank p D ≡ length (intersection I D)) (ri : IsRising I) where
  -- with its members in D it has no other element of D in an independent set
  no_more : (u : ℕ) → is_member u D ≡ true → is_member u I ≡ false → (J : List ℕ) → p J ≡ true
      → ((z : ℕ) → is_member z I ≡ true → is_member z D ≡ true → is_member z J ≡ true) → is_member u J ≡ true → ⊥
  no_more u u_in out J ok holds u_J =
      let K = with_one (intersection I D) u in
      let rk = IsRising-with_one (intersection I D) u (IsRising-intersection I D ri) in
      let pass = laws.subsets K J rk (record {
        inside = λ z h. elim (or_cases (eqb z u) (is_member z (intersection I D)) (sym (is_member-with_one z u (intersection I D)) ∙ h)) [
          | inl e ↦ ap (λ y. is_member y J) (eqb-true z u e) ∙ u_J
          | inr k ↦ (let b = and_parts (is_member z I) (is_member z D) (sym (is_member-intersection z I D) ∙ k) in holds z b.0 b.1)
        ];
      }) ok in
      let most = (rank_is laws D rd).most K pass (record {
        inside = λ z h. elim (or_cases (eqb z u) (is_member z (intersection I D)) (sym (is_member-with_one z u (intersection I D)) ∙ h)) [
          | inl e ↦ ap (λ y. is_member y D) (eqb-true z u e) ∙ u_in
          | inr k ↦ (and_parts (is_member z I) (is_member z D) (sym (is_member-intersection z I D) ∙ k)).1
        ];
      }) in
      let size = length-with_one (intersection I D) u (IsRising-intersection I D ri) (is_member-intersection u I D ∙ ap (λ b. b && is_member u D) out) in
      let no : ⊥ = omega arith in
      no

  pub spanned_adds : (u : ℕ) → is_member u D ≡ true → is_member u I ≡ false → p (with_one I u) ≡ false
  spanned_adds u u_in out = false_from_ne_true _ (λ ok. no_more u u_in out (with_one I u) ok
      (λ z h d. is_member-with_one z u I ∙ or_right (eqb z u) (is_member z I) h) (is_member-with_one u u I ∙ or_left (eqb u u) (is_member u I) (eq-eqb u u refl)))

  pub spanned_trades : (u y : ℕ) → is_member u D ≡ true → is_member u I ≡ false → is_member y D ≡ false → p (with_one (without_one I y) u) ≡ false
  spanned_trades u y u_in out y_out = false_from_ne_true _ (λ ok. no_more u u_in out (with_one (without_one I y) u) ok
      (λ z h d. is_member-with_one z u (without_one I y) ∙ or_right (eqb z u) (is_member z (without_one I y)) (is_member-without_one z y I ∙ kept z h d (eqb z y) refl))
      (is_member-with_one u u (without_one I y) ∙ or_left (eqb u u) (is_member u (without_one I y)) (eq-eqb u u refl)))
    where
      kept : (z : ℕ) → is_member z I ≡ true → is_member z D ≡ true → (b : Bool) → eqb z y ≡ b → (is_member z I && not (eqb z y)) ≡ true
      kept z h d true e = absurd (both_ways _ y_out (ap (λ v. is_member v D) (sym (eqb-true z y e)) ∙ d))
      kept z h d false e = rw (h, e) refl

module _ {n : ℕ} {tests : List (List ℕ → Bool)} {parts : List (List ℕ)} {spanned unspanned : List ℕ} (laws : AreMatroids n tests) (g : AreGrowing n tests parts spanned unspanned) where
  abbrev ex : ℕ → Exchanges
  ex = exchanges_with tests parts

  unspanned_or_spanned : (v : ℕ) → v < n → is_member v spanned ≡ false → is_member v unspanned ≡ true
  unspanned_or_spanned v l o = g.others v ∙ and_from (ltb v n) (not (is_member v spanned)) (lt-ltb v n l) (not_from_false (is_member v spanned) o)

  unspanned_below : (v : ℕ) → is_member v unspanned ≡ true → is_member v spanned ≡ false
  unspanned_below v h = not-true (is_member v spanned) (and_parts (ltb v n) (not (is_member v spanned)) (sym (g.others v) ∙ h)).1

  -- ---- after moves of other elements

  module _ {x : ℕ} {new : List (List ℕ)} (p : ArePlaced tests parts unspanned x new) (is_unspanned : is_member x unspanned ≡ true) where
    -- a spanned element is not among those that moved
    spanned_stays : (z : ℕ) → is_member z spanned ≡ true → (eqb z x || is_member z unspanned) ≡ false
    spanned_stays z d = false_from_ne_true _ (λ h. elim (or_cases (eqb z x) (is_member z unspanned) h) [
      | inl e ↦ both_ways _ (unspanned_below x is_unspanned) (ap (λ v. is_member v spanned) (sym (eqb-true z x e)) ∙ d)
      | inr k ↦ both_ways _ (unspanned_below z k) d
    ])

    same_in_spanned : (q : ℕ) → q < length new → intersection (part_at new q) spanned ≡ intersection (part_at parts q) spanned
    same_in_spanned q l =
        let lo : q < length parts = (let a = p.are.one_each in let b = g.are.one_each in omega arith) in
        same_members _ _ (IsRising-intersection _ spanned (part_set laws p.are q l).rising) (IsRising-intersection _ spanned (part_set laws g.are q lo).rising) (λ z.
        is_member-intersection z (part_at new q) spanned ∙ within (is_member z (part_at new q)) (is_member z (part_at parts q)) (is_member z spanned) (λ d. p.others q z l (spanned_stays z d))
        ∙ sym (is_member-intersection z (part_at parts q) spanned))
      where
        within : (a b d : Bool) → (d ≡ true → a ≡ b) → (a && d) ≡ (b && d)
        within a b true f = ap (λ c. c && true) (f refl)
        within true true false f = refl
        within true false false f = refl
        within false true false f = refl
        within false false false f = refl

    pub placed_grow : AreGrowing n tests new spanned unspanned
    placed_grow = record {
      are = p.are;
      set = g.set;
      spans = λ i l. g.spans i (let a = p.are.one_each in let b = g.are.one_each in omega arith) ∙ ap length (sym (same_in_spanned i l));
      others = g.others;
    }

  -- ---- after a stuck search

  module _ {start : ℕ} {s : MoveSearch} (reaching : IsReaching n (length parts) (exchanges_with tests parts) unspanned start s) (end : length s.queue.items ≤ s.head) where
    all_told : take s.head s.queue.items ≡ s.queue.items
    all_told = take_all s.head s.queue.items end

    is_told : (u : ℕ) → is_member u s.queue.items ≡ true → is_member u (take s.head s.queue.items) ≡ true
    is_told u h = ap (is_member u) all_told ∙ h

    module _ (spanned' unspanned' : List ℕ) (rises : IsRising spanned') (spanned_is : (v : ℕ) → is_member v spanned' ≡ (is_member v spanned || is_member v s.queue.items))
        (below' : IsSet n spanned') (unspanned_is : (v : ℕ) → is_member v unspanned' ≡ (is_member v unspanned && not (is_member v s.queue.items))) where
      cases_spanned : (v : ℕ) → is_member v spanned' ≡ true → (is_member v spanned ≡ true) ⊎ (is_member v s.queue.items ≡ true)
      cases_spanned v h = or_cases (is_member v spanned) (is_member v s.queue.items) (sym (spanned_is v) ∙ h)

      not_spanned : (v : ℕ) → is_member v spanned' ≡ false → (is_member v spanned ≡ false) × (is_member v s.queue.items ≡ false)
      not_spanned v h = or_parts (is_member v spanned) (is_member v s.queue.items) (sym (spanned_is v) ∙ h)

      no_addition : (i u : ℕ) → i < length parts → is_member u (part_at parts i) ≡ false → is_member u spanned' ≡ true → test_at tests i (with_one (part_at parts i) u) ≡ false
      no_addition i u l out h = elim (cases_spanned u h) [
        | inl d ↦ spanned_adds (law_at laws g.are i l) (part_at parts i) spanned g.set.rising (g.spans i l) (part_set laws g.are i l).rising u d out
        | inr r ↦ false_from_ne_true _ (λ ok. both_ways _ (reaching.so_far.refused u (is_told u r))
            (some_below_from (length parts) i (λ q. (ex q).adds u) l (and_from _ _ (not_from_false _ out) ok)))
      ]

      no_exchange : (i u y : ℕ) → i < length parts → is_member u (part_at parts i) ≡ false → is_member u spanned' ≡ true → is_member y (part_at parts i) ≡ true → is_member y spanned' ≡ false
          → test_at tests i (with_one (without_one (part_at parts i) y) u) ≡ false
      no_exchange i u y l out h y_in y_out = elim (cases_spanned u h) [
        | inl d ↦ spanned_trades (law_at laws g.are i l) (part_at parts i) spanned g.set.rising (g.spans i l) (part_set laws g.are i l).rising u y d out (not_spanned y y_out).0
        | inr r ↦ false_from_ne_true _ (λ ok.
            let push : can_push (length parts) ex u y ≡ true = some_below_from (length parts) i (λ q. (ex q).trades y u) l (and_from _ _ y_in (and_from _ _ (not_from_false _ out) ok)) in
            both_ways _ (not_spanned y y_out).1 (reaching.so_far.left y (unspanned_or_spanned y (below_member (part_set laws g.are i l) y_in) (not_spanned y y_out).0) (reaching.so_far.closed u y (is_told u r) push)))
      ]

      pub spanned_grows : AreGrowing n tests parts spanned' unspanned'
      spanned_grows = record {
        are = g.are;
        set = below';
        spans = λ i l. rank-in_reach (law_at laws g.are i l) (part_at parts i) spanned' (g.are.passes i l) rises (λ x o h. no_addition i x l o h) (λ x y o h y_in y_out. no_exchange i x y l o h y_in y_out);
        others = λ v. unspanned_is v ∙ ap (λ b. b && not (is_member v s.queue.items)) (g.others v) ∙ and_neither (ltb v n) (is_member v spanned) (is_member v s.queue.items) ∙ ap (λ b. ltb v n && not b) (sym (spanned_is v));
      }
