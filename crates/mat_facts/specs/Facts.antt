-- What can be said of a problem and an answer to it, one fact a sentence. Rules are counted from 0, in the order of the problem.
use Rattle.std.specs.Prelude.{ℕ, List}
use Rattle.mat_sets.specs.declared.weight.Weight.{Weight}

-- a fact; what each says stands in `Holding`
pub data Fact : Type 0 where
  -- the answer has the numbers of the problem, and its sets are of the kind that was asked for, be there better ones or not
  allowed : Fact
  -- rule i allows at most so many of these elements
  at_most : ℕ → List ℕ → ℕ → Fact
  -- shares of each element, one for each rule, add up to its weight
  shared : List (List Weight) → Fact
  -- a set that rule i allows has no member with a share above the first of these terms, at most one above the second, at most two above the
  -- third, and so on
  few_above : ℕ → List Weight → List Weight → Fact
  -- the one rule allows this set, and no other element can be added to it
  full : List ℕ → Fact
  -- so many of the elements that weigh this or more are in parts
  in_parts : Weight → ℕ → Fact
  -- of groups that are not empty, where each vertex is in exactly one: the edges between different groups are these
  between : List (List ℕ) → List ℕ → Fact
  -- without the edges of these colours the vertices fall into so many groups
  falls_apart : List ℕ → ℕ → Fact
  -- there are some of these vertices, and the root is not among them
  without_root : List ℕ → Fact
  -- the arcs from elsewhere into these vertices are these
  entered_by : List ℕ → List ℕ → Fact
  -- no element weighs more than nothing: of arcs, no cost is below 0
  none_gains : Fact
