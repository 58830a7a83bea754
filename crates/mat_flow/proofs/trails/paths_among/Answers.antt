-- A vertex without one before it begins a path, which is listed; the others are passed over.
use Rattle.mat_flow.proofs.Common.{◌+◌, ◌∙◌, List, ℕ, Vec, Global, length, get_or, take, subst, sym, arith, AllBelow-at, entry_at, AreTrails}
use Rattle.mat_flow.proofs.LinkTables.{entry_inside, some_is_one}
use Rattle.mat_flow.proofs.DisjointPaths.{AreTrails-push, AreTrails-skip, none_of}
use Rattle.mat_flow.proofs.trails.paths_among.Goals as goal
use Rattle.mat_flow.proofs.trails.paths_among.Goals.{then-is_none+in_ok-path_from+in_ok-push, else-is_none}

pub bounds-before-v : goal.bounds-before-v
bounds-before-v c = AllBelow-at (length c.args.before.now) c.args.among.now c.loop-v.v-index c.requires.inside c.loop-v-test.true

pub path_from-requires-clause-start : goal.path_from-requires-clause-start
path_from-requires-clause-start c =
    let below = AllBelow-at (length c.args.before.now) c.args.among.now c.loop-v.v-index c.requires.inside c.loop-v-test.true in
    omega (arith, c.requires.reversed.long)

pub path_from-requires-clause-below : goal.path_from-requires-clause-below
path_from-requires-clause-below c = λ u v e.
    let inside = entry_inside c.args.before.now v u (c.requires.reversed.turned u v e) in
    omega (arith, c.requires.reversed.long)

pub path_from-requires-clause-once : goal.path_from-requires-clause-once
path_from-requires-clause-once c = λ u w v e f.
    some_is_one u w (sym (c.requires.reversed.turned u v e) ∙ c.requires.reversed.turned w v f)

pub loop-v-preserved : goal.loop-v-preserved
loop-v-preserved c =
    let before = c.args.before.now in
    let after = c.args.after.now in
    let among = c.args.among.now in
    let i = c.loop-v.v-index in
    let l = c.loop-v-test.true in
    let now : Vec (List ℕ) Global → Type 0 = λ paths. AreTrails before after (take (i + 1) among) paths.items in
    elim c.if-is_none.branch [
      | then-is_none+in_ok-path_from+in_ok-push w ↦ subst now (sym w.paths-is) (rw w.in_ok-push.ensures.items
          (AreTrails-push before after among i c.loop-v.paths.items w.in_ok-path_from.field-0 c.requires.reversed c.requires.rises l
          (none_of (entry_at before (get_or among i 0)) w.if-is_none.ensures) w.in_ok-path_from.ensures c.loop-v.invariant))
      | else-is_none w ↦
          subst now (sym w.paths-is) (AreTrails-skip before after among i c.loop-v.paths.items l w.if-is_none.ensures c.loop-v.invariant)
    ]
