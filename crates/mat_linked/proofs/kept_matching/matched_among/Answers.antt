use Rattle.mat_linked.proofs.Common.{length, get_or, ap, ◌∙◌, is_member, AllBelow-at, entry_at, none_from}
use Rattle.mat_linked.proofs.KeptRows.{matched_among-passed, matched_among-put}
use Rattle.mat_linked.proofs.kept_matching.matched_among.Goals as goal
use Rattle.mat_linked.proofs.kept_matching.matched_among.Goals.{in-Some+in_ok-insert, in_default}

pub bounds : goal.bounds
bounds c = AllBelow-at (length c.args.matched.now) c.args.indices.now c.loop-j.j-index c.requires c.loop-j-test.true

pub loop-j-preserved : goal.loop-j-preserved
loop-j-preserved c =
    let matched = c.args.matched.now in
    let indices = c.args.indices.now in
    let i = c.loop-j.j-index in
    elim c.match-matched-j.branch [
      | in-Some+in_ok-insert w ↦ λ y.
          ap (is_member y) (w.found-is ∙ w.in_ok-insert.ensures.ok)
          ∙ matched_among-put matched indices i w.in-Some.y c.loop-j.found c.loop-j-test.true w.in-Some.is c.loop-j.invariant y
      | in_default w ↦ λ y.
          ap (is_member y) w.found-is
          ∙ matched_among-passed matched indices i c.loop-j.found c.loop-j-test.true
          (none_from (entry_at matched (get_or indices i 0)) w.in_default.not-Some) c.loop-j.invariant y
    ]
