-- The test of spanning arborescences is exact: where each root-free set is entered, an arborescence grows in the arcs, so the root reaches each
-- vertex along them; and a walk from the root to a member of such a set enters it.
use Rattle.mat_branch.proofs.Common.{◌≡◌, ◌↔◌, ℕ, suc, ◌+◌, ◌<◌, ◌≤◌, Bool, true, false, not, ◌&&◌, eqb, List, [], ◌∷◌, length, refl, sym, ap, ◌∙◌, arith, and_from, and_parts, eq-eqb, eqb-true, not-true, and_right, indicator, entering, IsSpanningArborescence, is_member, IsSet, is_member-entering}
use Rattle.mat_branch.proofs.Common.{walk_enters, below_member, Reaches-subset, member_from_some, some_from_member, AreEntered, IsSeldomEnteredBy, is_spanning_arborescence, some_seldom_entered}
use Rattle.mat_branch.proofs.GrowthSteps.{grow, Grows-start}
use Rattle.mat_branch.proofs.Seldom.{found_none, found_some, none_gives}

module _ (vertices arcs root : ℕ) (ends : ℕ → ℕ × ℕ) (tree : List ℕ) where
  -- where each root-free set is entered
  spans_from_entered : root < vertices → ((a : ℕ) → a < arcs → (ends a).0 < vertices) → IsSet arcs tree → suc (length tree) ≡ vertices
      → AreEntered vertices root ends tree 1 → IsSpanningArborescence vertices arcs ends root tree
  spans_from_entered below tails set size e =
      let g = grow vertices arcs root ends (length tree) tree 0 tree (root ∷ []) [] tails (Grows-start vertices arcs root ends tree 0 set below e) (omega arith) in
      record {
        set = set;
        size = size;
        reached = λ v l. Reaches-subset ends g.tree tree root v
            (record { inside = λ a m. part (is_member a g.tree) (is_member a g.live) (is_member a tree) (g.grown.parts a) m }) (g.grown.spans.reached v l);
      }
    where
      part : (x y z : Bool) → indicator x + indicator y ≤ indicator z → x ≡ true → z ≡ true
      part x y true h e = refl
      part true y false h e = absurd (omega arith)
      part false y false h e = e

  -- an arborescence enters each root-free set
  entered_from_spans : IsSpanningArborescence vertices arcs ends root tree → AreEntered vertices root ends tree 1
  entered_from_spans s = record {
    each = λ cut free.
        let v = member_from_some cut free.some in
        let r = s.reached v.0 (below_member free.set v.1) in
        let w = walk_enters ends cut r.along root v.0 r.walk free.free v.1 in
        let some = some_from_member w.0 (entering ends tree cut) (is_member-entering ends w.0 tree cut ∙ and_from _ _ (r.inside.inside w.0 w.1) w.2) in
        omega arith;
  }

  -- the test tells exactly the spanning arborescences
  pub spanning_is_told : root < vertices → ((a : ℕ) → a < arcs → (ends a).0 < vertices) → IsSet arcs tree
      → (is_spanning_arborescence vertices ends root tree ≡ true) ↔ IsSpanningArborescence vertices arcs ends root tree
  spanning_is_told below tails set = (
    λ h.
        let p = and_parts (eqb (suc (length tree)) vertices) (not (some_seldom_entered vertices root ends tree 1)) h in
        spans_from_entered below tails set (eqb-true _ vertices p.0) (none_gives vertices root ends tree 1 (not-true _ p.1)),
    λ s. and_from _ _ (eq-eqb (suc (length tree)) vertices s.size) (ap not (found_none vertices root ends tree 1 (entered_from_spans s))),
  )

  -- ---- what a search for a root-free set that no arc enters tells

  pub told_cut : (cut : List ℕ) → IsSeldomEnteredBy vertices root ends tree 1 cut → false ≡ is_spanning_arborescence vertices ends root tree
  told_cut cut s = sym (ap (λ b. eqb (suc (length tree)) vertices && not b) (found_some vertices root ends tree 1 cut s)
      ∙ and_right (eqb (suc (length tree)) vertices) false refl)

  pub told_entered : suc (length tree) ≡ vertices → AreEntered vertices root ends tree 1 → true ≡ is_spanning_arborescence vertices ends root tree
  told_entered size e = sym (and_from _ _ (eq-eqb (suc (length tree)) vertices size) (ap not (found_none vertices root ends tree 1 e)))
