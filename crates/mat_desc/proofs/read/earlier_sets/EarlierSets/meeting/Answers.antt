use Rattle.mat_desc.proofs.Common.{◌<◌, ◌||◌, length, get_or, ap, subst, sym, ◌∙◌, row_at, is_member, AllBelow-at}
use Rattle.mat_desc.proofs.MeetingSets.{AreMeeting-more}
use Rattle.mat_desc.proofs.read.earlier_sets.EarlierSets.meeting.Goals as goal

pub row-requires : goal.row-requires
row-requires c =
    let items = c.as_slice-x-items.ensures.items in
    let i = c.loop-x.x-index in
    let count = length c.self.inside.holders in
    let inside = subst (λ s. i < length s) items c.loop-x-test.true in
    let all = rw (sym c.self.view_is) at c.requires in
    subst (λ s. get_or s i 0 < count) (sym items) (AllBelow-at count c.args.next.now i all inside)

pub loop-x-preserved : goal.loop-x-preserved
loop-x-preserved c =
    let items = c.as_slice-x-items.ensures.items in
    let i = c.loop-x.x-index in
    let table = c.self.inside.holders in
    let inside = subst (λ s. i < length s) items c.loop-x-test.true in
    let all = rw (sym c.self.view_is) at c.requires in
    AreMeeting-more c.self.inside.sets.items table c.args.next.now i c.loop-x.places c.unite_row.new.self c.self.invariant inside
    (AllBelow-at (length table) c.args.next.now i all inside)
    (λ a. c.in_ok-unite_row.ensures.ok a ∙ ap (λ r. is_member a c.loop-x.places || is_member a r)
    (c.row.ensures ∙ ap (λ s. row_at table (get_or s i 0)) items))
    c.loop-x.invariant
