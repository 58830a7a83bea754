use Rattle.mat_witness.proofs.Common.{◌≡◌, ℕ, ◌≤◌, List, length, ap, subst, arith, most_elements, IsSet-length, Tree, uniform, partition, laminar, element_count, tree_of, BoundPart, IsBoundFor, spent, bound_part}
use Rattle.mat_witness.proofs.verifier.bounds.bound_shown.Goals as goal

-- no more elements count themselves than there are
spent_inside : (n : ℕ) (tree : Tree) (elements chosen : List ℕ) → IsBoundFor n tree (spent elements chosen) → length elements ≤ n
spent_inside n (uniform m cap) elements chosen for = IsSet-length n elements for.elements_inside
spent_inside n (partition m classes caps) elements chosen for = IsSet-length n elements for.elements_inside
spent_inside n (laminar m sets caps) elements chosen for = IsSet-length n elements for.elements_inside
spent_inside n _ elements chosen for = absurd for

few_spent : (n : ℕ) (tree : Tree) (part : BoundPart) (elements chosen : List ℕ) → part ≡ spent elements chosen → IsBoundFor n tree part
    → n ≤ most_elements → length elements ≤ most_elements
few_spent n tree part elements chosen is for few =
    let inside = spent_inside n tree elements chosen (subst (IsBoundFor n tree) is for) in omega arith

pub uniform_bound-requires-clause-spent : goal.uniform_bound-requires-clause-spent
uniform_bound-requires-clause-spent c =
    let tree = tree_of c.args.matroid.now in
    few_spent (element_count tree) tree (bound_part c.args.part.now) c.in-Uniform-Spent.spent c.in-Uniform-Spent.sets
    (ap bound_part c.in-Uniform-Spent.is-1) c.requires.part c.requires.few

pub listed_bound-requires-clause-spent : goal.listed_bound-requires-clause-spent
listed_bound-requires-clause-spent c =
    let tree = tree_of c.args.matroid.now in
    few_spent (element_count tree) tree (bound_part c.args.part.now) c.in-Partition-Spent.spent c.in-Partition-Spent.sets
    (ap bound_part c.in-Partition-Spent.is-1) c.requires.part c.requires.few

pub listed_bound-requires-in-Laminar-Spent-clause-spent : goal.listed_bound-requires-in-Laminar-Spent-clause-spent
listed_bound-requires-in-Laminar-Spent-clause-spent c =
    let tree = tree_of c.args.matroid.now in
    few_spent (element_count tree) tree (bound_part c.args.part.now) c.in-Laminar-Spent.spent c.in-Laminar-Spent.sets
    (ap bound_part c.in-Laminar-Spent.is-1) c.requires.part c.requires.few
