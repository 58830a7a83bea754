use Rattle.mat_witness.proofs.Common.{◌≡◌, ◌∙◌, List, ap, length, rules, Weight, demand_for}
use Rattle.mat_witness.proofs.BoundRows.{counted_demands, counted_trees, demand_count}
use Rattle.mat_witness.proofs.bound_rows.bound_counts.Goals as goal

pub returns : goal.returns
returns c first second =
    let rung = c.args.rung.now in
    let listed : c.len-firsts.result ≡ length c.in_ok-demands_under.field-0.items = search rules in
    let also_listed : c.len-seconds.result ≡ length c.in_ok-demands_under-2.field-0.items = search rules in
    let firsts : c.len-firsts.result ≡ demand_count first c.args.k rung.set rung.first =
    listed
    ∙ counted_demands (demand_for first) c.in_ok-demands_under.field-0.items first c.args.k rung.set c.as_slice.result.now
    (c.in_ok-demands_under.ensures first)
    ∙ ap (λ (half : List Weight). demand_count first c.args.k rung.set half) c.as_slice.ensures in
    let seconds : c.len-seconds.result ≡ demand_count second c.args.k rung.set rung.second =
    also_listed
    ∙ counted_demands (demand_for second) c.in_ok-demands_under-2.field-0.items second c.args.k rung.set c.as_slice-2.result.now
    (c.in_ok-demands_under-2.ensures second)
    ∙ ap (λ (half : List Weight). demand_count second c.args.k rung.set half) c.as_slice-2.ensures in
    counted_trees first second c.args.k rung c.len-firsts.result c.len-seconds.result firsts seconds
