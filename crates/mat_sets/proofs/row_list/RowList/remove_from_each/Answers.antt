use Rattle.mat_sets.proofs.Common.{◌<◌, ◌≤◌, ◌&&◌, not, [], length, arith, ap, refl, sym, ◌∙◌, length-set, get_or_read, is_member}
use Rattle.mat_sets.proofs.Rows.{removed_none, removed_next, removed_all}
use Rattle.mat_sets.proofs.row_list.RowList.remove_from_each.Goals as goal

pub loop-at-init : goal.loop-at-init
loop-at-init c = rw (sym c.self.view_is) (record { count = refl; members = removed_none c.args.gone.now c.self.inside.rows.items })

pub loop-at-preserved : goal.loop-at-preserved
loop-at-preserved c =
    let now = c.loop-at.invariant in
    let rows = c.loop-at.self-inside.rows.items in
    let at = c.loop-at.at in
    let here : at < length rows = omega (arith, c.loop-at-test.true, c.len-at-end.ensures, ap length c.self.view_is, now.count) in
    let same = get_or_read rows at c.index_mut.result.now here c.index_mut.ensures.value [] in
    record {
      count = length-set rows at c.remove_all.new.self ∙ now.count;
      members = removed_next c.args.gone.now c.args.self.now rows at c.remove_all.new.self here
          (λ x. c.remove_all.ensures x ∙ ap (λ r. is_member x r && not (is_member x c.args.gone.now)) same) now.members;
    }

pub returns : goal.returns
returns c =
    let now = c.loop-at.invariant in
    let past : length c.args.self.now ≤ c.loop-at.at = omega (arith, c.loop-at-test.false, c.len-at-end.ensures, ap length c.self.view_is) in
    removed_all c.args.gone.now c.args.self.now c.loop-at.self-inside.rows.items c.loop-at.at now.count past now.members
