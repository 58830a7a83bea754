-- The search for a root-free set that fewer than k arcs enter finds one, or each such set is entered by at least k.
use Rattle.mat_branch.proofs.Common.{◌≡◌, ℕ, true, false, not, ◌&&◌, ltb, List, length, inl, inr, ap, arith, and_from, and_parts, both_ways, cases_Bool, cases_lt, false_from_ne_true, lt-ltb, ltb-true, not-true, entering, all_below, is_member, AllBelow-subset, IsRising-all_below, IsSet-all_below}
use Rattle.mat_branch.proofs.Common.{IsSubset-all_below, some_subset_gives, some_subset_none, AreEntered, IsSeldomEnteredBy, is_seldom_entered, some_seldom_entered}

module _ (vertices root : ℕ) (ends : ℕ → ℕ × ℕ) (live : List ℕ) (k : ℕ) where
  -- what the search finds
  pub some_gives : some_seldom_entered vertices root ends live k ≡ true → (cut : List ℕ) × IsSeldomEnteredBy vertices root ends live k cut
  unfolding some_seldom_entered
  some_gives some =
      let f = some_subset_gives (all_below vertices) (is_seldom_entered root ends live k) (IsRising-all_below vertices) some in
      let p = and_parts (ltb 0 (length f.0) && not (is_member root f.0)) _ f.3 in
      let q = and_parts (ltb 0 (length f.0)) _ p.0 in (
        f.0,
        record {
          root_free = record {
            set = record { rising = f.1; below = AllBelow-subset vertices f.0 (all_below vertices) f.2 (IsSet-all_below vertices).below };
            some = ltb-true 0 _ q.0;
            free = not-true _ q.1;
          };
          few = ltb-true _ k p.1;
        },
      )

  -- where it finds none
  pub none_gives : some_seldom_entered vertices root ends live k ≡ false → AreEntered vertices root ends live k
  unfolding some_seldom_entered
  none_gives none = record {
    each = λ cut free. elim (cases_lt (length (entering ends live cut)) k) [
      | inr many ↦ many
      | inl few ↦ absurd (both_ways _ (some_subset_none (all_below vertices) cut (is_seldom_entered root ends live k) none (IsRising-all_below vertices)
          free.set.rising (IsSubset-all_below vertices cut free.set.below))
          (and_from _ _ (and_from _ _ (lt-ltb 0 _ free.some) (ap not free.free)) (lt-ltb _ k few)))
    ];
  }

  -- it finds one where there is one
  pub found_some : (cut : List ℕ) → IsSeldomEnteredBy vertices root ends live k cut → some_seldom_entered vertices root ends live k ≡ true
  found_some cut s = elim (cases_Bool (some_seldom_entered vertices root ends live k)) [
    | inl some ↦ some
    | inr none ↦ (let most = (none_gives none).each cut s.root_free in let few = s.few in absurd (omega arith))
  ]

  -- and none where there is none
  pub found_none : AreEntered vertices root ends live k → some_seldom_entered vertices root ends live k ≡ false
  found_none e = false_from_ne_true _ (λ some. let f = some_gives some in let most = e.each f.0 f.1.root_free in let few = f.1.few in absurd (omega arith))
