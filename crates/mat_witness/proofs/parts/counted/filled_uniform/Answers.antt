use Rattle.mat_witness.proofs.Common.{length, arith}
use Rattle.mat_witness.proofs.UniformParts.{all_number, all_shows, all_spent, room_shows, room_spent}
use Rattle.mat_witness.proofs.parts.counted.filled_uniform.Goals as goal

pub returns-then-len-cap-clause-part : goal.returns-then-len-cap-clause-part
returns-then-len-cap-clause-part c =
    rw (c.in_ok-spent.ensures.equal, c.new-sets.ensures.members)
    (room_spent c.args.matroid.now.count c.args.matroid.now.cap c.args.inside.now c.requires.inside)

pub returns-then-len-cap-clause-shows : goal.returns-then-len-cap-clause-shows
returns-then-len-cap-clause-shows c set is_set maximal =
    let matroid = c.args.matroid.now in
    rw (c.in_ok-spent.ensures.equal, c.new-sets.ensures.members)
    (room_shows matroid.count matroid.cap set c.args.inside.now is_set maximal (omega (arith, c.len.ensures.count, c.cap.ensures)))

pub returns-clause-part : goal.returns-clause-part
returns-clause-part c =
    rw (c.new-spent.ensures.members, c.in_ok-add.ensures.ok.1, c.new-sets-2.ensures.members) (all_spent c.args.matroid.now.count)

pub returns-clause-shows : goal.returns-clause-shows
returns-clause-shows c set is_set maximal =
    rw (c.new-spent.ensures.members, c.in_ok-add.ensures.ok.1, c.new-sets-2.ensures.members)
    (all_shows c.args.matroid.now.count set is_set)

pub returns-clause-number : goal.returns-clause-number
returns-clause-number c =
    rw (c.new-spent.ensures.members, c.in_ok-add.ensures.ok.1, c.new-sets-2.ensures.members)
    (all_number c.args.matroid.now.cap (length c.args.inside.now) (omega (arith, c.len.ensures.count, c.cap.ensures)))
