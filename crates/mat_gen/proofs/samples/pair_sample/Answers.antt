use Rattle.mat_gen.proofs.Common.{◌+◌, ◌/◌, ◌∙◌, arith, rules}
use Rattle.mat_gen.proofs.PairMade.{pair_made}
use Rattle.mat_gen.proofs.Validity.{graph_drawn}
use Rattle.mat_gen.proofs.samples.pair_sample.Goals as goal

pub new-requires : goal.new-requires
new-requires c =
    graph_drawn c.args.seed c.args.count 4 0 (c.args.count / 4 + 2) c.in_ok-edges.edges c.requires.few (omega arith)
    c.in_ok-edges.ensures

pub returns : goal.returns
returns c =
    pair_made c.args.seed c.args.count c.in_ok-weights.weights c.in_ok-edges.edges c.deref.result.now c.in_ok-caps.caps.items
    c.in_ok-first.first c.in_ok-second.second c.in_ok-weights.ensures c.in_ok-edges.ensures
    (c.deref.ensures.value ∙ c.in_ok-class_of.ensures) (c.in_ok-caps.ensures.items_if_clones_equal (λ y h. search rules))
    c.in_ok-first.ensures.value c.in_ok-second.ensures.value
