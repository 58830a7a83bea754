-- Rainbow ladders, assignments and arborescences in range are right exactly where none of their clauses fails. The first two are ladders;
-- of an arborescence the tests tell what they should since it is independent in both matroids.
use Rattle.mat_check.proofs.Common.{◌≡◌, ◌↔◌, ℕ, suc, ◌<◌, ◌≤◌, true, ◌&&◌, eqb, List, [], ◌∷◌, length, get_or, map, Option, Some, None, sym, subst, ◌∙◌, arith, MatchOption, eqb-true, eq-eqb, and_parts, and_from, lt-ltb, ltb-true, ltb-false, not-true, not_from_false, ends_of, IsGraph}
use Rattle.mat_check.proofs.Common.{IsSpanningArborescence, all_below, IsSet, weight, weight_at, Weight, is_member-all_below, same_gives, same_from, IsHeaviest-not_beaten, not_beaten-IsHeaviest, is_graphic, number_of_components, graphic_laws, is_spanning_arborescence, spanning_is_told}
use Rattle.mat_check.proofs.Common.{is_entering_once, common_from_arborescence, column_at, row_at, is_once, IsMissingColours, edges_without, once_laws, rooted, coloured, table, IsRangedArborescence, IsRangedOption, is_short_of_tree, arbor, rainbow, assign, last_rung, PricedRung, clauses_of, Clause}
use Rattle.mat_check.proofs.Common.{heaviest_clause, ladder_clauses, arborescence_clauses, colours_clauses, cost_clause}
use Rattle.mat_arbor.specs.Arborescences.{IsSplitArborescence}
use Rattle.mat_arbor.proofs.Splits.{entering_once_laws}
use Rattle.mat_check.proofs.AnswerForms.{RightHasNoFailure}
use Rattle.mat_check.proofs.FirstFailures.{AllHold, all_hold, none_fails, AllHold-append, AllHold-at, AllHold-back, AllHold-front, AllHold-map}
use Rattle.mat_check.proofs.RightLadders.{ladder_is_right, ladder_holds}
use Rattle.mat_check.proofs.ValidGraphs.{rooted_is_graph, root_is_below}

-- ---- assignments

pub right_assignment_has_no_failure : (rows columns : ℕ) (cells : List (ℕ × ℕ)) (w : List Weight) (n r c : ℕ) (rungs : List PricedRung) (cut : List ℕ)
    → RightHasNoFailure (table rows columns cells w) (assign n r c rungs cut)
right_assignment_has_no_failure rows columns cells w n r c rungs cut valid sound ranged =
    let lp = once_laws n rows (row_at cells) in
    let lq = once_laws n columns (column_at cells) in
    let clauses = clauses_of (table rows columns cells w) (assign n r c rungs cut) in (
      λ right. none_fails clauses (
        and_from _ _ (eq-eqb n (length cells) right.0) (and_from _ _ (eq-eqb r rows right.1) (eq-eqb c columns right.2)),
        ladder_holds lp lq w rungs cut right.3,
      ),
      λ none.
          let h = all_hold clauses none in
          let first = and_parts (eqb n (length cells)) (eqb r rows && eqb c columns) h.0 in
          let rest = and_parts (eqb r rows) (eqb c columns) first.1 in (
            eqb-true n (length cells) first.0,
            eqb-true r rows rest.0,
            eqb-true c columns rest.1,
            ladder_is_right lp lq w rungs cut ranged.ladder_in_range h.1,
          ),
    )

-- ---- rainbow ladders

module _ (vertices n : ℕ) (ends : ℕ → ℕ × ℕ) (colours : ℕ) (colour : ℕ → ℕ) (rungs : List PricedRung) (some : 0 < length rungs) where
  abbrev AreMissing : Option (List ℕ) → Type 0
  AreMissing missing =
      MatchOption missing (vertices ≤ length rungs) (λ C. (length rungs < vertices) × IsMissingColours vertices n ends colours colour C)

  missing_are_right : (missing : Option (List ℕ)) → IsRangedOption colours (is_short_of_tree (last_rung rungs) vertices) missing
      → AllHold (colours_clauses vertices n ends colour missing) → AreMissing missing
  missing_are_right None r h =
      let long = ltb-false _ _ r in omega (arith, long, some)
  missing_are_right (Some C) r h =
      let short = ltb-true _ _ r.0 in
      let apart = ltb-true _ _ h.0 in
      (omega (arith, short, some), record { set = r.1; apart = omega (arith, apart) })

  missing_hold : (missing : Option (List ℕ)) → AreMissing missing → AllHold (colours_clauses vertices n ends colour missing)
  missing_hold None r = tt
  missing_hold (Some C) r =
      let apart = r.1.apart in
      (lt-ltb (suc (length C)) (number_of_components vertices ends (edges_without n colour C)) (omega (arith, apart)), tt)

pub right_rainbow_has_no_failure : (vertices colours : ℕ) (edges : List (ℕ × ℕ)) (colour_of : List ℕ) (w : List Weight) (n v c : ℕ)
    (rungs : List PricedRung) (cut : List ℕ) (missing : Option (List ℕ))
    → RightHasNoFailure (coloured vertices colours edges colour_of w) (rainbow n v c rungs cut missing)
right_rainbow_has_no_failure vertices colours edges colour_of w n v c rungs cut missing valid sound ranged =
    let ends = ends_of edges in
    let colour = λ (e : ℕ). get_or colour_of e 0 in
    let lp = graphic_laws n ends in
    let lq = once_laws n colours colour in
    let front = ladder_clauses n (is_graphic n ends) (is_once n colours colour) w rungs cut in
    let back = colours_clauses vertices n ends colour missing in
    let clauses = clauses_of (coloured vertices colours edges colour_of w) (rainbow n v c rungs cut missing) in (
      λ right.
          let r = right.3 in
          none_fails clauses (
            and_from _ _ (eq-eqb n (length edges) right.0) (and_from _ _ (eq-eqb v vertices right.1) (eq-eqb c colours right.2)),
            AllHold-append front back (ladder_holds lp lq w rungs cut r.ladder)
                (missing_hold vertices n ends colours colour rungs r.ladder.some missing r.missing_colours),
          ),
      λ none.
          let h = all_hold clauses none in
          let first = and_parts (eqb n (length edges)) (eqb v vertices && eqb c colours) h.0 in
          let rest = and_parts (eqb v vertices) (eqb c colours) first.1 in
          let same_v = eqb-true v vertices rest.0 in
          let same_c = eqb-true c colours rest.1 in
          let in_range : IsRangedOption colours (is_short_of_tree (last_rung rungs) vertices) missing =
          subst (λ u. IsRangedOption colours (is_short_of_tree (last_rung rungs) u) missing) same_v
          (subst (λ k. IsRangedOption k (is_short_of_tree (last_rung rungs) v) missing) same_c ranged.missing_in_range) in
          let ladder = ladder_is_right lp lq w rungs cut ranged.ladder_in_range (AllHold-front front back h.1) in (
            eqb-true n (length edges) first.0,
            same_v,
            same_c,
            record {
              ladder = ladder;
              missing_colours =
                  missing_are_right vertices n ends colours colour rungs ladder.some missing in_range (AllHold-back front back h.1);
            },
          ),
    )

-- ---- arborescences

module _ (vertices : ℕ) (arcs : List (ℕ × ℕ)) (costs : List Weight) (root : ℕ) (g : IsGraph vertices arcs) (small : root < vertices)
    (cost : Weight) (tree : List ℕ) (first second : List Weight) where
  abbrev n : ℕ
  n = length arcs

  abbrev ends : ℕ → ℕ × ℕ
  ends = ends_of arcs

  abbrev sums : List Clause
  sums = map (cost_clause costs first second) (all_below n)

  abbrev beaten : List Clause
  beaten = heaviest_clause n (is_graphic n ends) first 0 0 tree ∷ heaviest_clause n (is_entering_once n vertices ends root) second 1 0 tree ∷ []

  told : IsSet n tree → (is_spanning_arborescence vertices ends root tree ≡ true) ↔ IsSpanningArborescence vertices n ends root tree
  told set = spanning_is_told vertices n root ends tree small g.first set

  arborescence_is_right : IsRangedArborescence n cost tree first second
      → AllHold (arborescence_clauses vertices n ends costs root cost tree first second)
      → (cost ≡ weight costs tree) × IsSplitArborescence vertices arcs costs root tree first second
  arborescence_is_right r h =
      let spanning = (told r.arcs_in_range).0 h.1.0 in
      let common = common_from_arborescence vertices arcs root g small tree spanning in
      let heaviest : AllHold beaten = AllHold-back sums beaten h.1.1 in (
        same_gives _ _ h.0,
        record {
          spanning = spanning;
          first_length = r.first_in_range.size;
          second_length = r.second_in_range.size;
          split = λ a l. same_gives _ _ (AllHold-at (cost_clause costs first second) (all_below n) (AllHold-front sums beaten h.1.1) a
              (is_member-all_below a n ∙ lt-ltb a n l));
          first_heaviest = not_beaten-IsHeaviest (graphic_laws n ends) (weight_at first) tree common.0 (not-true _ heaviest.0);
          second_heaviest =
              not_beaten-IsHeaviest (entering_once_laws n vertices ends root) (weight_at second) tree common.1 (not-true _ heaviest.1.0);
        },
      )

  arborescence_holds : cost ≡ weight costs tree → IsSplitArborescence vertices arcs costs root tree first second
      → AllHold (arborescence_clauses vertices n ends costs root cost tree first second)
  arborescence_holds priced s =
      let each : AllHold sums = AllHold-map (cost_clause costs first second) (all_below n)
      (λ a m. same_from _ _ (s.split a (ltb-true a n (sym (is_member-all_below a n) ∙ m)))) in
      let heaviest : AllHold beaten = (
        not_from_false _ (IsHeaviest-not_beaten n (is_graphic n ends) (weight_at first) tree s.first_heaviest),
        (not_from_false _ (IsHeaviest-not_beaten n (is_entering_once n vertices ends root) (weight_at second) tree s.second_heaviest), tt),
      ) in
      (same_from _ _ priced, ((told s.spanning.set).1 s.spanning, AllHold-append sums beaten each heaviest))

pub right_arborescence_has_no_failure : (vertices root : ℕ) (arcs : List (ℕ × ℕ)) (costs : List Weight) (n : ℕ) (cost : Weight) (tree : List ℕ)
    (first second : List Weight) → RightHasNoFailure (rooted vertices root arcs costs) (arbor n cost tree first second)
right_arborescence_has_no_failure vertices root arcs costs n cost tree first second valid sound ranged =
    let g = rooted_is_graph vertices root arcs costs valid in
    let small = root_is_below vertices root arcs costs valid in
    let ends = ends_of arcs in
    let clauses = clauses_of (rooted vertices root arcs costs) (arbor n cost tree first second) in (
      λ right.
          let h = arborescence_holds vertices arcs costs root g small cost tree first second right.1 right.2 in
          none_fails clauses (
            eq-eqb n (length arcs) right.0,
            subst (λ m. AllHold (arborescence_clauses vertices m ends costs root cost tree first second)) (sym right.0) h,
          ),
      λ none.
          let h = all_hold clauses none in
          let same = eqb-true n (length arcs) h.0 in
          let r = arborescence_is_right vertices arcs costs root g small cost tree first second
          (subst (λ m. IsRangedArborescence m cost tree first second) same ranged)
          (subst (λ m. AllHold (arborescence_clauses vertices m ends costs root cost tree first second)) same h.1) in
          (same, r.0, r.1),
    )
