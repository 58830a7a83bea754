-- Each live arc is looked at once: it is refused, or doesn't leave what is reached, or can be spared and taken. At the end of the list all arcs that
-- leave would be refused, which cannot be while a vertex is not reached.
use Rattle.mat_branch.proofs.Common.{◌∙◌, ◌<◌, ◌+◌, ◌≡◌, length, get_or, ap, subst, sym, inl, inr, arith, ends_of, is_member, with_one, below_member, IsRefused}
use Rattle.mat_branch.proofs.Choices.{item_live, IsScanned, IsScanned-end, IsScanned-refuse, IsScanned-skip}
use Rattle.mat_branch.proofs.growing.next_arc.Goals as goal
use Rattle.mat_branch.proofs.growing.next_arc.Goals.{then-contains+then-not-contains+then-not-contains-2+in_ok-can_spare+else-branch+in_ok-insert, else-contains, else-contains-via-then-contains+then-not-contains+else-not-contains-2, else-contains-via-then-contains+else-not-contains, else-contains-via-else-contains}

pub get-tail-requires : goal.get-tail-requires
get-tail-requires c =
    let slice = c.as_slice-a-items.result.now in
    let i = c.loop-a.a-index in
    subst (λ l. get_or slice i 0 < length l) (sym c.arcs-arcs.ensures.arcs)
    (below_member c.requires.grows.2.live_set (item_live c.args.live.now slice i c.as_slice-a-items.ensures.items c.loop-a-test.true))

pub can_spare-requires-clause-arc : goal.can_spare-requires-clause-arc
can_spare-requires-clause-arc c =
    item_live c.args.live.now c.as_slice-a-items.result.now c.loop-a.a-index c.as_slice-a-items.ensures.items c.loop-a-test.true

pub returns-then-branch-clause-arc : goal.returns-then-branch-clause-arc
returns-then-branch-clause-arc c =
    let slice = c.as_slice-a-items.result.now in
    let a = get_or slice c.loop-a.a-index 0 in
    let reached = c.args.reached.now in
    let live_arc = item_live c.args.live.now slice c.loop-a.a-index c.as_slice-a-items.ensures.items c.loop-a-test.true in
    let e = c.get-tail.ensures ∙ ap (λ l. ends_of l a) c.arcs-arcs.ensures.arcs in
    record {
      live_arc = live_arc;
      tail = ap (λ p. is_member p.0 reached) (sym e) ∙ sym c.contains.ensures ∙ c.if-contains.true;
      head = ap (λ p. is_member p.1 reached) (sym e) ∙ sym c.contains-then-contains.ensures ∙ c.if-not-contains.true;
      below = c.arcs-arcs.ensures.graph.second a (below_member c.requires.grows.2.live_set live_arc);
      spare = c.in_ok-can_spare.ensures.yes_means c.if-branch.true;
    }

pub loop-a-preserved : goal.loop-a-preserved
loop-a-preserved c =
    let vertices = c.args.graph.now.vertices in
    let root = c.args.root in
    let ends = ends_of c.args.graph.now.arcs in
    let live = c.args.live.now in
    let reached = c.args.reached.now in
    let m = c.args.m in
    let i = c.loop-a.a-index in
    let slice = c.as_slice-a-items.result.now in
    let same : get_or slice i 0 ≡ get_or live i 0 = ap (λ s. get_or s i 0) c.as_slice-a-items.ensures.items in
    let e = c.get-tail.ensures ∙ ap (λ l. ends_of l (get_or slice i 0)) c.arcs-arcs.ensures.arcs ∙ ap ends same in
    elim c.if-contains.branch [
      | then-contains+then-not-contains+then-not-contains-2+in_ok-can_spare+else-branch+in_ok-insert w ↦
          subst (IsScanned vertices root ends live reached m (i + 1)) (sym (w.refused-is ∙ w.in_ok-insert.ensures.ok ∙ ap (with_one c.loop-a.refused) same))
          (IsScanned-refuse vertices root ends live reached m i c.loop-a.refused
          (subst (IsRefused vertices root ends live m) same (w.in_ok-can_spare.ensures.no_means w.if-branch.false)) c.loop-a.invariant)
      | else-contains w ↦ subst (IsScanned vertices root ends live reached m (i + 1)) (sym w.refused-is)
          (IsScanned-skip vertices root ends live reached m i c.loop-a.refused (elim w.else-contains.branch [
            | else-contains-via-then-contains+then-not-contains+else-not-contains-2 w2 ↦ inr (inr (ap (λ a. is_member a c.loop-a.refused) (sym same) ∙ sym w2.if-not-contains-2.ensures))
            | else-contains-via-then-contains+else-not-contains w2 ↦ inr (inl (ap (λ p. is_member p.1 reached) (sym e) ∙ sym w2.if-not-contains.ensures))
            | else-contains-via-else-contains w2 ↦ inl (ap (λ p. is_member p.0 reached) (sym e) ∙ sym c.contains.ensures ∙ w2.if-contains.false)
          ]) c.loop-a.invariant)
    ]

pub unreachable-requires : goal.unreachable-requires
unreachable-requires c =
    let vertices = c.args.graph.now.vertices in
    let arcs = c.args.graph.now.arcs in
    let live = c.args.live.now in
    let end : c.loop-a.a-index ≡ length live =
    (let long = ap length c.as_slice-a-items.ensures.items in omega (arith, c.loop-a-test.false, c.loop-a.auto.a-index-end)) in
    IsScanned-end vertices c.args.root (ends_of arcs) live c.args.reached.now c.args.m (length arcs) c.requires.grows.0 c.requires.grows.1 c.loop-a.refused
    c.arcs-arcs.ensures.graph.first c.requires.grows.2 c.requires.grows.3
    (subst (λ n. IsScanned vertices c.args.root (ends_of arcs) live c.args.reached.now c.args.m n c.loop-a.refused) end c.loop-a.invariant)
