-- Facts suffice for an answer with a set of each size: each set is a heaviest one of its size, and none is larger.
use Rattle.mat_facts.proofs.Common.{◌≡◌, ℕ, Bool, true, List, [], ◌∷◌, length, map, get_or, Option, Some, slice_get, ap, ◌∙◌, subst, arith, length-map, slice_get-map, option_map, ends_of, ◌≼◌, weight, Weight, is_graphic, Tree, is_independent, column_at, row_at, is_once, tree_is_common, Instance}
use Rattle.mat_facts.proofs.Common.{pair, list, coloured, table, IsValid, Certificate, intersect, best, rainbow, assign, PlainRung, PricedRung, IsOptimalLadder, AreOptimalRungs, IsOptimalRainbow, coloured_is_coloured, Fact, allowed, AreAllowedRungs, IsAllowedRung, plain_rung, Holds, AllAllow}
use Rattle.mat_facts.proofs.Common.{weights_of, ShowsEachRung}
use Rattle.std.specs.List.{All}
use Rattle.mat_facts.proofs.RulesOfProblems.{both_allow, one_allows}
use Rattle.mat_facts.proofs.SufficientBounds.{none_is_larger, said, size_is_bounded}

-- of two rules
module _ (problem : Instance) (answer : Certificate) (facts : List Fact) (valid : IsValid problem) (hold : All (Holds problem answer) facts)
    (p q : List ℕ → Bool) (two : (X : List ℕ) → p X ≡ true → q X ≡ true → AllAllow problem X)
    (back : (X : List ℕ) → AllAllow problem X → (p X ≡ true) × (q X ≡ true)) (rungs : List PricedRung) where
  ladder_shown : AreAllowedRungs problem (map plain_rung rungs) → ShowsEachRung problem (map plain_rung rungs) facts
      → IsOptimalLadder p q (weights_of problem) rungs
  ladder_shown are s = record {
    heaviest = λ k rung at.
        let place : slice_get (map plain_rung rungs) k ≡ Some (plain_rung rung) = slice_get-map plain_rung rungs k ∙ ap (option_map plain_rung) at in
        let is : IsAllowedRung problem k (plain_rung rung) = are k (plain_rung rung) place in
        let both = back rung.set is.allow in
        record {
          size = is.size;
          in_first = both.0;
          in_second = both.1;
          most = λ Y in_p in_q size.
              subst (λ v. weight (weights_of problem) Y ≼ v) is.priced
              (size_is_bounded problem answer facts valid hold k rung.weight (s.each k (plain_rung rung) place) Y (two Y in_p in_q) size);
        };
    none_larger = λ X in_p in_q.
        let few = none_is_larger problem answer facts valid hold (length (map plain_rung rungs)) s.larger X (two X in_p in_q) in
        omega (arith, length-map rungs plain_rung);
  }

pub intersection_shown : (w : List Weight) (first second : Tree) (n : ℕ) (rungs : List PricedRung) (cut : List ℕ) (facts : List Fact)
    → IsValid (pair w first second) → All (Holds (pair w first second) (intersect n rungs cut)) facts
    → ShowsEachRung (pair w first second) (map plain_rung rungs) facts
    → IsOptimalLadder (is_independent first) (is_independent second) w rungs
intersection_shown w first second n rungs cut facts valid hold s =
    ladder_shown (pair w first second) (intersect n rungs cut) facts valid hold (is_independent first) (is_independent second)
    (both_allow (is_independent first) (is_independent second)) (λ X all. (all 0 (omega arith), all 1 (omega arith))) rungs
    (said (pair w first second) (intersect n rungs cut) facts valid hold allowed s.says_allowed).1 s

pub assignment_shown : (rows columns : ℕ) (cells : List (ℕ × ℕ)) (w : List Weight) (n r c : ℕ) (rungs : List PricedRung) (cut : List ℕ) (facts : List Fact)
    → IsValid (table rows columns cells w) → All (Holds (table rows columns cells w) (assign n r c rungs cut)) facts
    → ShowsEachRung (table rows columns cells w) (map plain_rung rungs) facts
    → IsOptimalLadder (is_once (length cells) rows (row_at cells)) (is_once (length cells) columns (column_at cells)) w rungs
assignment_shown rows columns cells w n r c rungs cut facts valid hold s =
    ladder_shown (table rows columns cells w) (assign n r c rungs cut) facts valid hold
    (is_once (length cells) rows (row_at cells)) (is_once (length cells) columns (column_at cells))
    (both_allow (is_once (length cells) rows (row_at cells)) (is_once (length cells) columns (column_at cells)))
    (λ X all. (all 0 (omega arith), all 1 (omega arith))) rungs
    (said (table rows columns cells w) (assign n r c rungs cut) facts valid hold allowed s.says_allowed).3 s

module _ (vertices colours : ℕ) (edges : List (ℕ × ℕ)) (colour_of : List ℕ) (w : List Weight) where
  abbrev colour : ℕ → ℕ
  colour e = get_or colour_of e 0

  pub rainbow_shown : (n v c : ℕ) (rungs : List PricedRung) (cut : List ℕ) (missing : Option (List ℕ)) (facts : List Fact)
      → IsValid (coloured vertices colours edges colour_of w)
      → All (Holds (coloured vertices colours edges colour_of w) (rainbow n v c rungs cut missing)) facts
      → ShowsEachRung (coloured vertices colours edges colour_of w) (map plain_rung rungs) facts
      → IsOptimalRainbow vertices (length edges) (ends_of edges) colours colour w rungs
  rainbow_shown n v c rungs cut missing facts valid hold s =
      let p = is_graphic (length edges) (ends_of edges) in
      let q = is_once (length edges) colours colour in
      let best : IsOptimalLadder p q w rungs =
      ladder_shown (coloured vertices colours edges colour_of w) (rainbow n v c rungs cut missing) facts valid hold p q
      (both_allow p q) (λ X all. (all 0 (omega arith), all 1 (omega arith))) rungs
      (said (coloured vertices colours edges colour_of w) (rainbow n v c rungs cut missing) facts valid hold allowed s.says_allowed).3 s in
      record {
        ladder = best;
        none = λ short X tree.
            let common = tree_is_common vertices edges colours colour_of (coloured_is_coloured vertices colours edges colour_of w valid) X tree in
            let few = best.none_larger X common.1 common.2 in
            absurd (omega (arith, common.0));
      }

-- of one rule
pub best_shown : (w : List Weight) (matroid : Tree) (n : ℕ) (rungs : List PlainRung) (facts : List Fact)
    → IsValid (list w (matroid ∷ [])) → All (Holds (list w (matroid ∷ [])) (best n rungs)) facts
    → ShowsEachRung (list w (matroid ∷ [])) rungs facts → AreOptimalRungs (is_independent matroid) w rungs
best_shown w matroid n rungs facts valid hold s =
    let problem = list w (matroid ∷ []) in
    let answer = best n rungs in
    let are : AreAllowedRungs (list w (matroid ∷ [])) rungs = (said problem answer facts valid hold allowed s.says_allowed).1 in
    record {
      size = λ k rung at. (are k rung at).size;
      heaviest = λ k rung at.
          let is = are k rung at in
          record {
            passes = is.allow 0 (omega arith);
            most = λ Y in_p size.
                subst (λ v. weight w Y ≼ v) is.priced
                (size_is_bounded problem answer facts valid hold k rung.weight (s.each k rung at) Y (one_allows (is_independent matroid) Y in_p) (size ∙ is.size));
          };
      none_larger = λ X in_p. none_is_larger problem answer facts valid hold (length rungs) s.larger X (one_allows (is_independent matroid) X in_p);
    }
