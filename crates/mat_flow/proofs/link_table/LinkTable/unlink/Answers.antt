use Rattle.mat_flow.proofs.Common.{without_one}
use Rattle.mat_flow.proofs.PathsTakenOut.{HasPathLeft-all}
use Rattle.mat_flow.proofs.link_table.LinkTable.unlink.Goals as goal

pub take_path_out-requires : goal.take_path_out-requires
take_path_out-requires c =
    let r = c.requires in
    (r.0, r.1, r.2, without_one r.3 c.args.v, HasPathLeft-all r.0 r.1 r.2 r.3 c.args.v c.args.self.now.before.items r.5 r.4)

pub returns : goal.returns
returns c = λ vertices arcs sources ends h m.
    c.take_path_out.ensures vertices arcs sources (without_one ends c.args.v)
    (HasPathLeft-all vertices arcs sources ends c.args.v c.args.self.now.before.items h m)
