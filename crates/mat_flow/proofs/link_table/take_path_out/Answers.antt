-- What is left of the path ends at the vertex that comes next; each step takes one link out, so fewer are left.
use Rattle.mat_flow.proofs.Common.{◌≡◌, length, rules, vec_len, subst, sym, arith, HasPathLeft}
use Rattle.mat_flow.proofs.LinkTables.{entry_of, none_from}
use Rattle.mat_flow.proofs.PathsTakenOut.{end_free, end_inside, others_fewer, HasPathLeft-less, HasPathLeft-none}
use Rattle.mat_flow.proofs.link_table.take_path_out.Goals as goal

pub index-left-requires : goal.index-left-requires
index-left-requires c =
    let r = c.requires in
    let items = c.loop-left.table.items in
    let here = subst (λ left. HasPathLeft r.0 r.1 r.2 r.3 left items) c.in-Some.is (c.loop-left.invariant r.0 r.1 r.2 r.3 r.4) in
    let size : vec_len c.loop-left.table ≡ length items = search rules in
    omega (arith, size, end_inside r.0 r.1 r.2 r.3 c.in-Some.u items here)

pub index_mut-requires : goal.index_mut-requires
index_mut-requires c =
    let r = c.requires in
    let items = c.loop-left.table.items in
    let here = subst (λ left. HasPathLeft r.0 r.1 r.2 r.3 left items) c.in-Some.is (c.loop-left.invariant r.0 r.1 r.2 r.3 r.4) in
    let size : vec_len c.loop-left.table ≡ length items = search rules in
    omega (arith, size, end_inside r.0 r.1 r.2 r.3 c.in-Some.u items here)

pub loop-left-smaller : goal.loop-left-smaller
loop-left-smaller c =
    let r = c.requires in
    let items = c.loop-left.table.items in
    let here = subst (λ left. HasPathLeft r.0 r.1 r.2 r.3 left items) c.in-Some.is (c.loop-left.invariant r.0 r.1 r.2 r.3 r.4) in
    others_fewer items c.in-Some.u (end_inside r.0 r.1 r.2 r.3 c.in-Some.u items here) (end_free r.0 r.1 r.2 r.3 c.in-Some.u items here c.in-Some.u)

pub loop-left-preserved : goal.loop-left-preserved
loop-left-preserved c = λ vertices arcs sources rest h.
    let items = c.loop-left.table.items in
    let u = c.in-Some.u in
    let here = subst (λ left. HasPathLeft vertices arcs sources rest left items) c.in-Some.is (c.loop-left.invariant vertices arcs sources rest h) in
    HasPathLeft-less vertices arcs sources rest u items here c.index-left.result.now
    (sym (entry_of items u c.index-left.result.now (end_inside vertices arcs sources rest u items here) c.index-left.ensures))

pub returns : goal.returns
returns c = λ vertices arcs sources rest h.
    HasPathLeft-none vertices arcs sources rest c.loop-left.left c.loop-left.table.items (none_from c.loop-left.left c.in_default.not-Some)
    (c.loop-left.invariant vertices arcs sources rest h)
