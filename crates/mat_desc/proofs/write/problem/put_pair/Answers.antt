use Rattle.mat_desc.proofs.Common.{codes, tree_of, weights_line, matroid_lines, naming}
use Rattle.mat_desc.proofs.Writing.{pair_written_out}
use Rattle.mat_desc.proofs.write.problem.put_pair.Goals as goal

pub returns : goal.returns
returns c =
    let lines = matroid_lines (naming c.args.names) in
    pair_written_out c.args.out.now.items c.put_weights_line.new.out.items c.put_matroid.new.out.items _
    (weights_line (codes "weights") c.args.weights.now) (lines (tree_of c.args.first.now)) (lines (tree_of c.args.second.now))
    c.in_ok-put_weights_line.ensures.ok c.in_ok-put_matroid.ensures c.in_ok-put_matroid-2.ensures
