use Rattle.mat_desc.proofs.Common.{rules, zero_weight, coloured_edge_line, naming}
use Rattle.mat_desc.proofs.Writing.{triple_written, triples_written}
use Rattle.mat_desc.proofs.write.lines.put_coloured_edge_lines.Goals as goal

pub loop-i-preserved : goal.loop-i-preserved
loop-i-preserved c =
    triple_written (coloured_edge_line (naming c.args.names)) c.args.out.now.items c.args.edges.now c.args.colour_of.now c.args.weights.now
    c.loop-i.i (0, 0) 0 zero_weight c.loop-i.out.items _ (search rules) c.loop-i.invariant (search rules)

pub returns : goal.returns
returns c =
    triples_written (coloured_edge_line (naming c.args.names)) c.args.out.now.items c.args.edges.now c.args.colour_of.now c.args.weights.now
    c.loop-i.i c.loop-i.out.items (search rules) c.loop-i.invariant
