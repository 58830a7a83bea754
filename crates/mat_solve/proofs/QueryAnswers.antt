-- The forms of the answers to a query: what holds of each of these forms holds of every answer to it.
use Rattle.mat_solve.proofs.Common.{◌≡◌, ℕ, List, length, Weight, Certificate, intersect, union_of, trees, trees_none, arbor, unreached, assign, LevelLine, PricedRung}
use Rattle.mat_solve.specs.Queries.{IsAnswerOf}
use Rattle.mat_solve.specs.declared.query.Query.TheVariants.{Intersect, Union, Trees, Arborescence, Assign}

module _ (P : Certificate → Type 0) where
  pub on_intersect : ((n : ℕ) (rungs : List PricedRung) (cut : List ℕ) → P (intersect n rungs cut))
      → (answer : Certificate) → IsAnswerOf Intersect answer → P answer
  on_intersect f (intersect n rungs cut) of = f n rungs cut
  on_intersect f answer of = absurd of

  pub on_union : ((n : ℕ) (weight : Weight) (parts : List (List ℕ)) (levels : List LevelLine) → P (union_of n weight parts levels))
      → (answer : Certificate) → IsAnswerOf Union answer → P answer
  on_union f (union_of n weight parts levels) of = f n weight parts levels
  on_union f answer of = absurd of

  pub on_trees : (k : ℕ) → ((n : ℕ) (sets : List (List ℕ)) → length sets ≡ k → P (trees n sets))
      → ((n asked vertices : ℕ) (classes : List (List ℕ)) → asked ≡ k → P (trees_none n asked vertices classes))
      → (answer : Certificate) → IsAnswerOf (Trees k) answer → P answer
  on_trees k f g (trees n sets) of = f n sets of
  on_trees k f g (trees_none n asked vertices classes) of = g n asked vertices classes of
  on_trees k f g answer of = absurd of

  pub on_arborescence : ((n : ℕ) (cost : Weight) (arcs : List ℕ) (first second : List Weight) → P (arbor n cost arcs first second))
      → ((n vertices : ℕ) (set : List ℕ) → P (unreached n vertices set))
      → (answer : Certificate) → IsAnswerOf Arborescence answer → P answer
  on_arborescence f g (arbor n cost arcs first second) of = f n cost arcs first second
  on_arborescence f g (unreached n vertices set) of = g n vertices set
  on_arborescence f g answer of = absurd of

  pub on_assign : ((n rows columns : ℕ) (rungs : List PricedRung) (cut : List ℕ) → P (assign n rows columns rungs cut))
      → (answer : Certificate) → IsAnswerOf Assign answer → P answer
  on_assign f (assign n rows columns rungs cut) of = f n rows columns rungs cut
  on_assign f answer of = absurd of
