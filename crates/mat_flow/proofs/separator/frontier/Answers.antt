use Rattle.mat_flow.proofs.Common.{◌+◌, ◌<◌, ◌∙◌, length, get_or, refl, subst, sym, ap, is_member-get_or, AllBelow-at, entry_at}
use Rattle.mat_flow.proofs.LinkTables.{none_from}
use Rattle.mat_flow.proofs.Frontiers.{IsCutting, IsCutting-cut, IsCutting-skip}
use Rattle.mat_flow.proofs.separator.frontier.Goals as goal
use Rattle.mat_flow.proofs.separator.frontier.Goals.{in-Some, in_default}

pub bounds : goal.bounds
bounds c =
    let items = c.as_slice-v-items.ensures.items in
    let i = c.loop-v.v-index in
    subst (λ s. get_or s i 0 < length c.args.before.now) (sym items)
    (AllBelow-at (length c.args.before.now) c.args.reached.now i c.requires.inside (subst (λ s. i < length s) items c.loop-v-test.true))

pub loop-v-preserved : goal.loop-v-preserved
loop-v-preserved c =
    let before = c.args.before.now in
    let reached = c.args.reached.now in
    let items = c.as_slice-v-items.ensures.items in
    let rises = c.as_slice-v-items.ensures.rises in
    let i = c.loop-v.v-index in
    let v = get_or reached i 0 in
    let l : i < length reached = subst (λ s. i < length s) items c.loop-v-test.true in
    let same = ap (λ s. entry_at before (get_or s i 0)) items in
    elim c.match-before-v.branch [
      | in-Some w ↦ (let u = w.in-Some.u in
          let some = sym same ∙ w.in-Some.is in
          let inside = c.requires.closed v u (is_member-get_or reached i v l refl) some in
          subst (IsCutting before reached (i + 1)) (sym (w.separator-is ∙ w.take_out.ensures.items))
          (IsCutting-cut before reached i u c.loop-v.separator rises l c.requires.once inside some c.loop-v.invariant))
      | in_default w ↦ subst (IsCutting before reached (i + 1)) (sym w.separator-is)
          (IsCutting-skip before reached i c.loop-v.separator l (sym same ∙ none_from _ w.in_default.not-Some) c.loop-v.invariant)
    ]
