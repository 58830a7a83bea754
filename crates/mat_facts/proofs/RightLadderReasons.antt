-- Right ladders give reasons: of two matroids, of colours, of a table, and of one matroid.
use Rattle.mat_facts.proofs.Common.{◌≡◌, ◌+◌, ◌<◌, ◌≤◌, ℕ, zero, suc, Bool, true, List, [], ◌∷◌, ◌++◌, length, get_or, Option, None, Some, slice_get, inl, inr, refl, sym, subst, arith, All-append, All-cons, All-nil, Contains-append_left, Contains-append_right, slice_get_cases, MatchOption, ends_of}
use Rattle.mat_facts.proofs.Common.{weight_at, Weight, at_most_same, IsMatroid, is_graphic, number_of_components, Tree, is_independent, column_at, row_at, is_once, Instance, pair, list, coloured, table, IsValid, Certificate, intersect, best, rainbow, assign, last_rung, PlainRung, PricedRung}
use Rattle.mat_facts.proofs.Common.{AreRightRungs, IsRight, IsRightLadder, IsRightRainbow, AddUp, Fact, allowed, falls_apart, few_above, full, shared, Holds, colours_facts, ladder_facts, last_facts, reason_of, sizes_facts, whole_facts, AreAllowedRungs, rungs_of, ShowsNoLarger, ShowsNoRainbowTree, Suffice, list_at}
use Rattle.std.specs.List.{All, Contains}
use Rattle.mat_fronts.specs.Rainbow.{IsMissingColours, edges_without}
use Rattle.mat_facts.proofs.BestOfRungs.{ShowsFallingRungs}
use Rattle.mat_facts.proofs.GivenBounds.{FallingBound, bound_by_one, terms_of}
use Rattle.mat_facts.proofs.HeaviestTerms.{terms_of_heaviest}
use Rattle.mat_facts.proofs.ListedFacts.{all_one, all_told, all_two, stands_in_told, stands_later}
use Rattle.mat_facts.proofs.RightRungs.{each_rung_shown, ladder_allowed, ladder_holds}
use Rattle.mat_facts.proofs.RulesOfProblems.{both_allow, one_allows, rules_are_matroids}
use Rattle.mat_facts.proofs.TermSums.{sum_of_one}

-- whatever is told, the facts hold and suffice
abbrev pub GivesReason : Instance → Certificate → Type 0
GivesReason problem answer = (told : ℕ → Bool) → All (Holds problem answer) (reason_of told problem answer) × Suffice problem answer (reason_of told problem answer)

-- the facts of an answer with a set of each size hold, its sets are allowed, and each that is told bounds its size by steps that fall
pub record GivesRungs (told : ℕ → Bool) (problem : Instance) (answer : Certificate) : Type 0 where
  pub hold : All (Holds problem answer) (reason_of told problem answer)
  pub are : AreAllowedRungs problem (rungs_of answer)
  pub rungs : ShowsFallingRungs told problem (rungs_of answer) (reason_of told problem answer)

pub intersection_gives : (told : ℕ → Bool) (w : List Weight) (first second : Tree) (n : ℕ) (rungs : List PricedRung) (cut : List ℕ) → IsValid (pair w first second)
    → IsRight (pair w first second) (intersect n rungs cut) → GivesRungs told (pair w first second) (intersect n rungs cut)
intersection_gives told w first second n rungs cut valid right =
    let problem = pair w first second in
    let answer = intersect n rungs cut in
    let p = is_independent first in
    let q = is_independent second in
    let ladder : IsRightLadder (length w) p q w rungs cut = subst (λ m. IsRightLadder m p q w rungs cut) right.0 right.1 in
    let laws = rules_are_matroids problem valid in
    let lp : IsMatroid (length w) p = laws.each 0 (omega arith) in
    let lq : IsMatroid (length w) q = laws.each 1 (omega arith) in
    let are = ladder_allowed told problem answer (length w) p q w lp lq rungs cut ladder refl (both_allow p q) in
    record {
      hold = ladder_holds told problem answer (length w) p q w lp lq rungs cut ladder (right.0, are)
          (λ shares h. h) (λ share terms h. (omega arith, h)) (λ share terms h. (omega arith, h)) (λ S c h. (omega arith, h)) (λ S c h. (omega arith, h));
      are = are;
      rungs = each_rung_shown told problem answer (length w) p q w lp lq rungs cut ladder refl refl (reason_of told problem answer) (λ fact h. h);
    }

pub assignment_gives : (told : ℕ → Bool) (rows columns : ℕ) (cells : List (ℕ × ℕ)) (w : List Weight) (n r c : ℕ) (rungs : List PricedRung) (cut : List ℕ)
    → IsValid (table rows columns cells w) → IsRight (table rows columns cells w) (assign n r c rungs cut)
    → GivesRungs told (table rows columns cells w) (assign n r c rungs cut)
assignment_gives told rows columns cells w n r c rungs cut valid right =
    let problem = table rows columns cells w in
    let answer = assign n r c rungs cut in
    let m = length cells in
    let p = is_once m rows (row_at cells) in
    let q = is_once m columns (column_at cells) in
    let ladder : IsRightLadder m p q w rungs cut =
    subst (λ k. IsRightLadder k (is_once k rows (row_at cells)) (is_once k columns (column_at cells)) w rungs cut) right.0 right.3 in
    let laws = rules_are_matroids problem valid in
    let lp : IsMatroid m p = laws.each 0 (omega arith) in
    let lq : IsMatroid m q = laws.each 1 (omega arith) in
    let are = ladder_allowed told problem answer m p q w lp lq rungs cut ladder refl (both_allow p q) in
    record {
      hold = ladder_holds told problem answer m p q w lp lq rungs cut ladder (right.0, right.1, right.2, are)
          (λ shares h. h) (λ share terms h. (omega arith, h)) (λ share terms h. (omega arith, h)) (λ S c h. (omega arith, h)) (λ S c h. (omega arith, h));
      are = are;
      rungs = each_rung_shown told problem answer m p q w lp lq rungs cut ladder refl refl (reason_of told problem answer) (λ fact h. h);
    }

module _ (told : ℕ → Bool) (vertices colours : ℕ) (edges : List (ℕ × ℕ)) (colour_of : List ℕ) (w : List Weight) (n v c : ℕ) (rungs : List PricedRung) (cut : List ℕ) where
  abbrev colour : ℕ → ℕ
  colour e = get_or colour_of e 0

  abbrev problem : Instance
  problem = coloured vertices colours edges colour_of w

  colours_hold : (missing other : Option (List ℕ)) → MatchOption missing (vertices ≤ length rungs)
      (λ C. (length rungs < vertices) × IsMissingColours vertices (length edges) (ends_of edges) colours colour C)
      → All (Holds problem (rainbow n v c rungs cut other)) (colours_facts vertices (length edges) (ends_of edges) colour missing)
  colours_hold None other h = All-nil (Holds problem (rainbow n v c rungs cut other))
  colours_hold (Some C) other h =
      let count = number_of_components vertices (ends_of edges) (edges_without (length edges) colour C) in
      all_one (Holds problem (rainbow n v c rungs cut other)) (falls_apart C count) (h.1.set, refl)

  pub rainbow_gives : (missing : Option (List ℕ)) → IsValid problem → IsRight problem (rainbow n v c rungs cut missing)
      → GivesRungs told problem (rainbow n v c rungs cut missing)
  rainbow_gives missing valid right =
      let answer = rainbow n v c rungs cut missing in
      let m = length edges in
      let p = is_graphic m (ends_of edges) in
      let q = is_once m colours colour in
      let is : IsRightRainbow vertices m (ends_of edges) colours colour w rungs cut missing =
      subst (λ k. IsRightRainbow vertices k (ends_of edges) colours colour w rungs cut missing) right.0 right.3 in
      let laws = rules_are_matroids problem valid in
      let lp : IsMatroid m p = laws.each 0 (omega arith) in
      let lq : IsMatroid m q = laws.each 1 (omega arith) in
      let are = ladder_allowed told problem answer m p q w lp lq rungs cut is.ladder refl (both_allow p q) in
      let extra = colours_facts vertices m (ends_of edges) colour missing in
      record {
        hold = All-append (Holds problem answer) (ladder_facts told m p q rungs cut) extra
            (ladder_holds told problem answer m p q w lp lq rungs cut is.ladder (right.0, right.1, right.2, are)
            (λ shares h. h) (λ share terms h. (omega arith, h)) (λ share terms h. (omega arith, h)) (λ S c h. (omega arith, h)) (λ S c h. (omega arith, h)))
            (colours_hold missing missing is.missing_colours);
        are = are;
        rungs = each_rung_shown told problem answer m p q w lp lq rungs cut is.ladder refl refl (reason_of told problem answer)
            (λ fact h. Contains-append_left (ladder_facts told m p q rungs cut) extra fact h);
      }

  -- if the last set is no spanning tree, the missing colours show that there is none
  pub no_tree_shown : (missing : Option (List ℕ)) → IsRight problem (rainbow n v c rungs cut missing) → length rungs < vertices
      → ShowsNoRainbowTree (reason_of told problem (rainbow n v c rungs cut missing))
  no_tree_shown None right short = (let many = right.3.missing_colours in absurd (omega arith))
  no_tree_shown (Some C) right short =
      let m = length edges in
      let is : IsRightRainbow vertices m (ends_of edges) colours colour w rungs cut (Some C) =
      subst (λ k. IsRightRainbow vertices k (ends_of edges) colours colour w rungs cut (Some C)) right.0 right.3 in
      let p = is_graphic m (ends_of edges) in
      let q = is_once m colours colour in
      let count = number_of_components vertices (ends_of edges) (edges_without m colour C) in
      record {
        colours = C;
        count = count;
        says_groups = Contains-append_right (ladder_facts told m p q rungs cut) (falls_apart C count ∷ []) (falls_apart C count) (0, omega arith, refl);
        few = is.missing_colours.1.apart;
      }

-- ---- of one matroid

module _ (told : ℕ → Bool) (w : List Weight) (matroid : Tree) (n : ℕ) (rungs : List PlainRung) (valid : IsValid (list w (matroid ∷ [])))
    (right : IsRight (list w (matroid ∷ [])) (best n rungs)) where
  abbrev single : Instance
  single = list w (matroid ∷ [])

  abbrev answer : Certificate
  answer = best n rungs

  abbrev p : List ℕ → Bool
  p = is_independent matroid

  lp : IsMatroid (length w) p
  lp = (rules_are_matroids single valid).each 0 (omega arith)

  are : AreRightRungs (length w) p w rungs
  are = subst (λ m. AreRightRungs m p w rungs) right.0 right.1

  abbrev sizes : List Fact
  sizes = sizes_facts told (whole_facts w) 0 rungs

  abbrev ends : List Fact
  ends = last_facts (slice_get rungs (last_rung rungs))

  whole : AddUp (length w) 1 w (w ∷ [])
  whole = record { lists = refl; long = long; sums = λ e l. sum_of_one (λ i. weight_at (list_at (w ∷ []) i) e) }
    where
      long : (i : ℕ) → i < 1 → length (list_at (w ∷ []) i) ≡ length w
      long zero l = refl
      long (suc i) l = absurd (omega arith)

  ends_hold : (found : Option PlainRung) → slice_get rungs (last_rung rungs) ≡ found → All (Holds single answer) (last_facts found)
  ends_hold None e = All-nil (Holds single answer)
  ends_hold (Some rung) e = all_one (Holds single answer) (full rung.set) (refl, are.last rung e)

  sizes_hold : (k : ℕ) (rung : PlainRung) → slice_get rungs k ≡ Some rung → All (Holds single answer) (whole_facts w rung)
  sizes_hold k rung at =
      all_two (Holds single answer) (shared (w ∷ [])) (few_above 0 w (terms_of w rung.set)) whole
      (omega arith, record { long = refl; few = terms_of_heaviest lp (weight_at w) rung.set (are.each k rung at).heaviest })

  are_allowed : AreAllowedRungs single rungs
  are_allowed k rung at =
      let is = are.each k rung at in
      record { size = is.size; allow = one_allows p rung.set is.heaviest.passes; priced = is.priced }

  rungs_hold : All (Holds single answer) (allowed ∷ sizes ++ ends)
  rungs_hold =
      All-cons (Holds single answer) allowed (sizes ++ ends) (right.0, are_allowed)
      (All-append (Holds single answer) sizes ends
      (all_told told (whole_facts w) (Holds single answer) 0 rungs sizes_hold) (ends_hold (slice_get rungs (last_rung rungs)) refl))

  each_bound : (k : ℕ) (rung : PlainRung) → slice_get rungs k ≡ Some rung → told k ≡ true
      → FallingBound single (allowed ∷ sizes ++ ends) k rung.weight
  each_bound k rung at is =
      let tell = λ (fact : Fact) (h : Contains (whole_facts w rung) fact).
      stands_later fact allowed (sizes ++ ends) (Contains-append_left sizes ends fact
      (stands_in_told told (whole_facts w) 0 rungs k rung fact at (let same : k ≡ 0 + k = omega arith in subst (λ j. told j ≡ true) same is) h)) in
      bound_by_one single (allowed ∷ sizes ++ ends) k rung.weight rung.set (are.each k rung at).size refl w
      (tell (shared (w ∷ [])) (0, omega arith, refl)) (tell (few_above 0 w (terms_of w rung.set)) (1, omega arith, refl))
      (at_most_same _ _ (sym (are.each k rung at).priced))

  no_larger : ShowsNoLarger single (allowed ∷ sizes ++ ends) (length rungs)
  no_larger = elim (slice_get_cases rungs (last_rung rungs)).1 [
    | inl found ↦
        (let rung = found.0 in
        let says : Contains ends (full rung.set) = subst (λ o. Contains (last_facts o) (full rung.set)) (sym found.2) (0, omega arith, refl) in
        let size = (are.each (last_rung rungs) rung found.2).size in
        inr (inr (record {
          set = rung.set;
          says_full = stands_later (full rung.set) allowed (sizes ++ ends) (Contains-append_right sizes ends (full rung.set) says);
          few = let some = are.some in omega arith;
        })))
    | inr past ↦ (let some = are.some in absurd (omega (arith, past.0)))
  ]

  pub best_gives : GivesRungs told (list w (matroid ∷ [])) (best n rungs)
  best_gives = record {
    hold = rungs_hold;
    are = are_allowed;
    rungs = record { says_allowed = (0, omega arith, refl); each = each_bound; larger = no_larger };
  }
