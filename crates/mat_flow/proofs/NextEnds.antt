-- A vertex is no end and one path more leads to it exactly where from it a walk leads, in what the paths leave, to a vertex with a source after it.
use Rattle.mat_flow.proofs.Common.{◌≡◌, ℕ, Bool, true, false, eqb, List, [], Option, inl, inr, refl, ap, ◌∙◌, subst, cases_Bool, eq-eqb, eqb-true, or_left, is_member, with_one, is_member-with_one, reached_set_exists, walk_differs, reversed_arcs, DirectedGraph, IsTurned, AreLeading, residual_arc}
use Rattle.mat_flow.proofs.Common.{residual_goal, HasPathsToEach, AreNextEnds, AreReroutes, Reroutes}
use Rattle.mat_flow.proofs.LeadingVertices.{leading_walk, unled_misses}
use Rattle.mat_flow.proofs.PushedWalks.{pushed_paths, pushed_to_no_end}
use Rattle.mat_flow.proofs.Rerouting.{none_more, only_one, opposite_ways}

module _ (vertices : ℕ) (arcs : List (ℕ × ℕ)) (sources ends : List ℕ) (kept : Reroutes) (k : AreReroutes vertices arcs sources ends kept)
    (found : List ℕ) where
  abbrev arc : ℕ → ℕ → Bool
  arc = residual_arc (reversed_arcs arcs) kept.after.items

  abbrev goal : ℕ → Bool
  goal = residual_goal sources kept.after.items

  module _ (leading : AreLeading vertices arc goal found) (v : ℕ) where
    abbrev start : ℕ → Bool
    start u = is_member u (with_one [] v)

    own_start : start v ≡ true
    own_start = is_member-with_one v v [] ∙ or_left (eqb v v) false (eq-eqb v v refl)

    path_more : is_member v found ≡ true → (is_member v ends ≡ false) × HasPathsToEach arcs sources (with_one ends v)
    path_more m =
        let q = leading_walk vertices arc goal found leading start v own_start m in
        let differ = walk_differs vertices arc start goal q.0 q.0 refl q.1 in (
          pushed_to_no_end vertices arcs sources ends k.before kept.after.items k.turned k.table v q.0 q.1.walk differ,
          pushed_paths vertices arcs sources ends k.before kept.after.items k.turned k.table v q.0 q.1.walk differ,
        )

    no_path_more : is_member v ends ≡ false → is_member v found ≡ false → HasPathsToEach arcs sources (with_one ends v) → ⊥
    no_path_more new out =
        let r = reached_set_exists vertices arc start in
        none_more vertices arcs (reversed_arcs arcs) sources ends k.before kept.after.items (opposite_ways arcs) k.turned k.table v new k.inside
        k.graph.second r.0 r.1
        (unled_misses vertices arc goal found leading start r.0 r.1 (λ u l s. ap (λ w. is_member w found) (eqb-true u v (only_one u v s)) ∙ out))

  pub next_ends_are : (read : List (Option ℕ)) → read ≡ kept.after.items → (back : DirectedGraph) → IsTurned vertices arcs back
      → AreLeading back.vertices (residual_arc back.arcs read) (residual_goal sources read) found → AreNextEnds vertices arcs sources ends found
  next_ends_are read same back is h = λ v l. (
    path_more leading v,
    λ p. elim (cases_Bool (is_member v found)) [
      | inl on ↦ on
      | inr out ↦ absurd (no_path_more leading v p.0 out p.1)
    ],
  )
    where
      leading : AreLeading vertices arc goal found
      leading =
          subst (λ r. AreLeading vertices (residual_arc (reversed_arcs arcs) r) (residual_goal sources r) found) same
          (subst (λ b. AreLeading vertices (residual_arc b read) (residual_goal sources read) found) is.arcs_are
          (subst (λ n. AreLeading n (residual_arc back.arcs read) (residual_goal sources read) found) is.same h))
