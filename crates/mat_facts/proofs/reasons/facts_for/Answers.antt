use Rattle.mat_facts.specs.Views.{is_told}
use Rattle.mat_facts.proofs.reasons.facts_for.Goals as goal

pub returns-in-Graph : goal.returns-in-Graph
returns-in-Graph c = rw c.in-Graph.is (c.graph_reason.ensures (is_told c.args.told))

pub returns-in-Rooted : goal.returns-in-Rooted
returns-in-Rooted c =
    let given = c.rooted_reason.ensures (is_told c.args.told) in
    rw c.in-Rooted.is (rw c.as_slice-in-Rooted.ensures at given)
