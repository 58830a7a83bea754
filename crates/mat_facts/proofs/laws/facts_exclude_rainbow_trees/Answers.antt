use Rattle.mat_facts.proofs.SufficientGraphs.{no_rainbow_tree}
use Rattle.mat_facts.proofs.laws.facts_exclude_rainbow_trees.Goals as goal

pub returns : goal.returns
returns c = no_rainbow_tree
