-- One more element is done: it came into the parts, or it and all that it reaches are spanned.
use Rattle.mat_union.proofs.Common.{◌≡◌, ℕ, ◌≤◌, Bool, true, not, ◌||◌, ◌&&◌, eqb, List, length, inl, inr, refl, sym, ap, ◌∙◌, eq-eqb, eqb-true, or_cases, or_left, or_right, family_union, is_member, IsRising, IsSet, IsSubset, family_union-from, below_member, AllBelow-from_members}
use Rattle.mat_union.proofs.Common.{is_member-with_one, some_below_gives, AreMatroids, AreDone, AreGrowing, exchanges_with, IsReaching, ArePlaced, trade_gives, MoveSearch}
use Rattle.mat_union.proofs.GrowingParts.{spanned_grows}

-- ---- it came into the parts

module _ {tests : List (List ℕ → Bool)} {parts : List (List ℕ)} {unspanned : List ℕ} {start : ℕ} {new : List (List ℕ)} (p : ArePlaced tests parts unspanned start new) where
  pub in_new : (v : ℕ) → is_member v (family_union new) ≡ (eqb v start || is_member v (family_union parts))
  in_new v = ap (is_member v) p.together ∙ is_member-with_one v start (family_union parts)

  pub placed_hold : IsSubset (family_union parts) (family_union new)
  placed_hold = record { inside = λ v h. in_new v ∙ or_right (eqb v start) (is_member v (family_union parts)) h }

  pub placed_done : {n : ℕ} {spanned : List ℕ} (done : ℕ → Bool) → AreDone n done parts spanned → AreDone n (λ v. done v || eqb v start) new spanned
  placed_done {n} {spanned} done d = record {
    placed = λ v h. elim (or_cases (eqb v start) (is_member v (family_union parts)) (sym (in_new v) ∙ h)) [
      | inl e ↦ or_right (done v) (eqb v start) e
      | inr k ↦ or_left (done v) (eqb v start) (d.placed v k)
    ];
    refused = λ v h. or_left (done v) (eqb v start) (d.refused v h);
    all = λ v l h. elim (or_cases (done v) (eqb v start) h) [
      | inl k ↦ elim (or_cases (is_member v (family_union parts)) (is_member v spanned) (d.all v l k)) [
        | inl a ↦ or_left (is_member v (family_union new)) (is_member v spanned) (placed_hold.inside v a)
        | inr b ↦ or_right (is_member v (family_union new)) (is_member v spanned) b
      ]
      | inr e ↦ or_left (is_member v (family_union new)) (is_member v spanned) (in_new v ∙ or_left (eqb v start) (is_member v (family_union parts)) e)
    ];
  }

module _ {n : ℕ} {tests : List (List ℕ → Bool)} {parts : List (List ℕ)} {spanned unspanned : List ℕ} {start : ℕ} {s : MoveSearch} (laws : AreMatroids n tests) (g : AreGrowing n tests parts spanned unspanned)
    (reaching : IsReaching n (length parts) (exchanges_with tests parts) unspanned start s) where
  -- ---- it and all that it reaches are spanned

  -- what is reached is the start, or in a part
  reached_placed : (v : ℕ) → is_member v s.queue.items ≡ true → (eqb v start || is_member v (family_union parts)) ≡ true
  reached_placed = reaching.so_far.least (λ v. eqb v start || is_member v (family_union parts)) (or_left (eqb start start) _ (eq-eqb start start refl))
      (λ u v h t p.
      let w = some_below_gives (length parts) (λ q. (exchanges_with tests parts q).trades v u) p in
      or_right (eqb v start) (is_member v (family_union parts)) (family_union-from v parts w.0 w.1 (trade_gives tests parts w.0 v u w.2).0))

  module _ (end : length s.queue.items ≤ s.head) (spanned' unspanned' elements : List ℕ) (are : elements ≡ s.queue.items) (rises : IsRising spanned')
      (spanned_is : (v : ℕ) → is_member v spanned' ≡ (is_member v spanned || is_member v elements)) (unspanned_is : (v : ℕ) → is_member v unspanned' ≡ (is_member v unspanned && not (is_member v elements))) where
    spanned_told : (v : ℕ) → is_member v spanned' ≡ (is_member v spanned || is_member v s.queue.items)
    spanned_told v = spanned_is v ∙ ap (λ l. is_member v spanned || is_member v l) are

    spanned_set : IsSet n spanned'
    spanned_set = record {
      rising = rises;
      below = AllBelow-from_members n spanned' (λ v h. elim (or_cases (is_member v spanned) (is_member v s.queue.items) (sym (spanned_told v) ∙ h)) [
        | inl a ↦ below_member g.set a
        | inr b ↦ reaching.so_far.below v b
      ]);
    }

    pub spanned_grown : AreGrowing n tests parts spanned' unspanned'
    spanned_grown = spanned_grows laws g reaching end spanned' unspanned' rises spanned_told spanned_set (λ v. unspanned_is v ∙ ap (λ l. is_member v unspanned && not (is_member v l)) are)

    pub spanned_done : (done : ℕ → Bool) → AreDone n done parts spanned → AreDone n (λ v. done v || eqb v start) parts spanned'
    spanned_done done d = record {
      placed = λ v h. or_left (done v) (eqb v start) (d.placed v h);
      refused = λ v h. elim (or_cases (is_member v spanned) (is_member v s.queue.items) (sym (spanned_told v) ∙ h)) [
        | inl a ↦ or_left (done v) (eqb v start) (d.refused v a)
        | inr b ↦ elim (or_cases (eqb v start) (is_member v (family_union parts)) (reached_placed v b)) [
          | inl e ↦ or_right (done v) (eqb v start) e
          | inr k ↦ or_left (done v) (eqb v start) (d.placed v k)
        ]
      ];
      all = λ v l h. elim (or_cases (done v) (eqb v start) h) [
        | inl k ↦ elim (or_cases (is_member v (family_union parts)) (is_member v spanned) (d.all v l k)) [
          | inl a ↦ or_left (is_member v (family_union parts)) (is_member v spanned') a
          | inr b ↦ or_right (is_member v (family_union parts)) (is_member v spanned') (spanned_told v ∙ or_left (is_member v spanned) (is_member v s.queue.items) b)
        ]
        | inr e ↦ or_right (is_member v (family_union parts)) (is_member v spanned') (spanned_told v
            ∙ or_right (is_member v spanned) (is_member v s.queue.items) (ap (λ z. is_member z s.queue.items) (eqb-true v start e) ∙ reaching.so_far.first))
      ];
    }
