-- The rules of a valid problem are matroids on its elements, and there is at least one.
use Rattle.mat_facts.proofs.Common.{◌≡◌, ◌<◌, ℕ, zero, suc, Bool, true, false, List, [], ◌∷◌, length, map, get_or, sym, subst, arith, length-map, get_or-map, ends_of, IsSet, IsMatroid, test_at, AreMatroids, column_at, row_at, Tree, element_count, is_independent, IsSound, Instance, pair, list, graph}
use Rattle.mat_facts.proofs.Common.{rooted, coloured, table, IsValid, AllAllow, rule_count, rules_of, size_of}
use Rattle.mat_graphic.specs.ForestLaws.{graphic_laws}
use Rattle.mat_arbor.proofs.Splits.{entering_once_laws}
use Rattle.mat_fronts.proofs.OnceEach.{once_laws}
use Rattle.mat_any.specs.TreeLaws.{tree_laws}
use Rattle.mat_problem.proofs.SoundProblems.{IsSoundInstance-valid}

of_one : {n : ℕ} {p : List ℕ → Bool} → IsMatroid n p → AreMatroids n (p ∷ [])
of_one {n} {p} lp = record { each = each }
  where
    each : (i : ℕ) → i < 1 → IsMatroid n (test_at (p ∷ []) i)
    each zero l = lp
    each (suc i) l = absurd (omega arith)

of_two : {n : ℕ} {p q : List ℕ → Bool} → IsMatroid n p → IsMatroid n q → AreMatroids n (p ∷ q ∷ [])
of_two {n} {p} {q} lp lq = record { each = each }
  where
    each : (i : ℕ) → i < 2 → IsMatroid n (test_at (p ∷ q ∷ []) i)
    each zero l = lp
    each (suc zero) l = lq
    each (suc (suc i)) l = absurd (omega arith)

-- a sound tree with this many elements
of_tree : (n : ℕ) (tree : Tree) → IsSound tree → element_count tree ≡ n → IsMatroid n (is_independent tree)
of_tree n tree sound same = subst (λ m. IsMatroid m (is_independent tree)) same (tree_laws tree sound)

of_trees : (n : ℕ) (trees : List Tree) → ((i : ℕ) (d : Tree) → i < length trees → IsSound (get_or trees i d) × (element_count (get_or trees i d) ≡ n))
    → AreMatroids n (map is_independent trees)
of_trees n [] h = record { each = λ i l. absurd (omega arith) }
of_trees n (tree ∷ trees) h = record {
  each = λ i l.
      let inside : i < length (tree ∷ trees) = subst (λ k. i < k) (length-map (tree ∷ trees) is_independent) l in
      let here = h i tree inside in
      subst (IsMatroid n) (sym (get_or-map is_independent (tree ∷ trees) i tree (λ X. false) inside))
      (of_tree n (get_or (tree ∷ trees) i tree) here.0 here.1);
}

pub rules_are_matroids : (problem : Instance) → IsValid problem → AreMatroids (size_of problem) (rules_of problem)
rules_are_matroids (pair w first second) valid =
    let sound = IsSoundInstance-valid (pair w first second) valid in
    of_two (of_tree (length w) first sound.0 sound.1) (of_tree (length w) second sound.2 sound.3)
rules_are_matroids (list w matroids) valid = of_trees (length w) matroids (IsSoundInstance-valid (list w matroids) valid)
rules_are_matroids (graph vertices edges) valid = of_one (graphic_laws (length edges) (ends_of edges))
rules_are_matroids (rooted vertices root arcs costs) valid =
    of_two (graphic_laws (length arcs) (ends_of arcs)) (entering_once_laws (length arcs) vertices (ends_of arcs) root)
rules_are_matroids (coloured vertices colours edges colour_of w) valid =
    of_two (graphic_laws (length edges) (ends_of edges)) (once_laws (length edges) colours (λ e. get_or colour_of e 0))
rules_are_matroids (table rows columns cells w) valid =
    of_two (once_laws (length cells) rows (row_at cells)) (once_laws (length cells) columns (column_at cells))

pub some_rule : (problem : Instance) → IsValid problem → 0 < rule_count problem
some_rule (pair w first second) valid = omega arith
some_rule (list w matroids) valid = let some = valid.1 in omega (arith, length-map matroids is_independent)
some_rule (graph vertices edges) valid = omega arith
some_rule (rooted vertices root arcs costs) valid = omega arith
some_rule (coloured vertices colours edges colour_of w) valid = omega arith
some_rule (table rows columns cells w) valid = omega arith

-- what the rules allow is a set of elements
pub allowed_set : (problem : Instance) → IsValid problem → (X : List ℕ) → AllAllow problem X → IsSet (size_of problem) X
allowed_set problem valid X all =
    let some = some_rule problem valid in
    ((rules_are_matroids problem valid).each 0 some).sets X (all 0 some)

-- two rules that allow a set are all
pub both_allow : (p q : List ℕ → Bool) (X : List ℕ) → p X ≡ true → q X ≡ true → (i : ℕ) → i < 2 → test_at (p ∷ q ∷ []) i X ≡ true
both_allow p q X in_p in_q zero l = in_p
both_allow p q X in_p in_q (suc zero) l = in_q
both_allow p q X in_p in_q (suc (suc i)) l = absurd (omega arith)

pub one_allows : (p : List ℕ → Bool) (X : List ℕ) → p X ≡ true → (i : ℕ) → i < 1 → test_at (p ∷ []) i X ≡ true
one_allows p X in_p zero l = in_p
one_allows p X in_p (suc i) l = absurd (omega arith)
