-- A rung in range is right exactly where its clauses hold.
use Rattle.mat_check.proofs.Common.{ℕ, Bool, List, [], ◌∷◌, ◌++◌, map, sym, ◌∙◌, lt-ltb, ltb-true, not-true, not_from_false, all_below, weight_at, Weight, same_gives, same_from, is_member-all_below, IsMatroid, IsHeaviest-not_beaten, not_beaten-IsHeaviest, IsRangedPlainRung, IsRangedPricedRung}
use Rattle.mat_check.proofs.Common.{PlainRung, PricedRung, IsRightPlainRung, IsRightPricedRung, Clause, sum_clause, heaviest_clause, priced_rung_clauses, plain_rung_clauses}
use Rattle.mat_check.proofs.FirstFailures.{AllHold, AllHold-append, AllHold-front, AllHold-back, AllHold-map, AllHold-at}

-- ---- rungs without a split

module _ {n : ℕ} {p : List ℕ → Bool} (lp : IsMatroid n p) (w : List Weight) (k : ℕ) (rung : PlainRung) where
  pub right_plain_rung : IsRangedPlainRung n k rung → AllHold (plain_rung_clauses n p w k rung) → IsRightPlainRung p w k rung
  right_plain_rung r h = record {
    priced = same_gives _ _ h.0;
    size = r.size;
    heaviest = not_beaten-IsHeaviest lp (weight_at w) rung.set h.1.0 (not-true _ h.1.1.0);
  }

  pub plain_rung_holds : IsRightPlainRung p w k rung → AllHold (plain_rung_clauses n p w k rung)
  plain_rung_holds r =
      (same_from _ _ r.priced, (r.heaviest.passes, (not_from_false _ (IsHeaviest-not_beaten n p (weight_at w) rung.set r.heaviest), tt)))

-- ---- rungs with a split

module _ {n : ℕ} {p q : List ℕ → Bool} (lp : IsMatroid n p) (lq : IsMatroid n q) (w : List Weight) (k : ℕ) (rung : PricedRung) where
  abbrev sums : List Clause
  sums = map (sum_clause w k rung.first rung.second) (all_below n)

  abbrev beaten : List Clause
  beaten = heaviest_clause n p rung.first 0 k rung.set ∷ heaviest_clause n q rung.second 1 k rung.set ∷ []

  pub right_priced_rung : IsRangedPricedRung n k rung → AllHold (priced_rung_clauses n p q w k rung)
      → IsRightPricedRung n p q w k rung
  right_priced_rung r h =
      let split : AllHold (sums ++ beaten) = h.1.1.1 in
      let heaviest : AllHold beaten = AllHold-back sums beaten split in
      record {
        priced = same_gives _ _ h.0;
        right = record {
          size = r.0.size;
          first_length = r.1.size;
          second_length = r.2.size;
          split = λ e small. same_gives _ _ (AllHold-at (sum_clause w k rung.first rung.second) (all_below n)
              (AllHold-front sums beaten split) e (is_member-all_below e n ∙ lt-ltb e n small));
          first_heaviest = not_beaten-IsHeaviest lp (weight_at rung.first) rung.set h.1.0 (not-true _ heaviest.0);
          second_heaviest = not_beaten-IsHeaviest lq (weight_at rung.second) rung.set h.1.1.0 (not-true _ heaviest.1.0);
        };
      }

  pub priced_rung_holds : IsRightPricedRung n p q w k rung → AllHold (priced_rung_clauses n p q w k rung)
  priced_rung_holds r =
      let split = r.right in
      let each : AllHold sums = AllHold-map (sum_clause w k rung.first rung.second) (all_below n)
      (λ e m. same_from _ _ (split.split e (ltb-true e n (sym (is_member-all_below e n) ∙ m)))) in
      let heaviest : AllHold beaten = (
        not_from_false _ (IsHeaviest-not_beaten n p (weight_at rung.first) rung.set split.first_heaviest),
        (not_from_false _ (IsHeaviest-not_beaten n q (weight_at rung.second) rung.set split.second_heaviest), tt),
      ) in
      (same_from _ _ r.priced, (split.first_heaviest.passes, (split.second_heaviest.passes, AllHold-append sums beaten each heaviest)))
