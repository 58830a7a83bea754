-- The search ends at a free set, so that x can be added, or comes to an end; then x can take the place of the members that it reached.
use Rattle.mat_linked.proofs.Common.{◌≡◌, ◌∙◌, ap, length, sym, vec_len, rules, subst, arith, and_parts, AllBelow-from_members, IsRoom, is_matched_among}
use Rattle.mat_linked.proofs.KeptRows.{row_added}
use Rattle.mat_linked.proofs.Searching.{may_search, row_spent}
use Rattle.mat_linked.proofs.kept_matching.KeptMatching.row.Goals as goal

pub seek-requires-clause-sound : goal.seek-requires-clause-sound
seek-requires-clause-sound c =
    may_search c.args.rows.now c.args.base.now c.args.self.now.matched.items c.deref.result.now c.args.x c.requires.matching c.deref.ensures.value
    c.requires.few c.requires.below

pub seek-requires-clause-room : goal.seek-requires-clause-room
seek-requires-clause-room c =
    let size : vec_len c.args.self.now.matched ≡ length c.args.self.now.matched.items = search rules in
    subst (λ n. IsRoom n c.in_ok-room.room) (c.len.ensures ∙ size ∙ sym (ap length c.deref.ensures.value)) c.in_ok-room.ensures.room

pub matched_among-requires : goal.matched_among-requires
matched_among-requires c =
    let found = rw c.in-None.is at c.in_ok-seek.ensures.walk in
    let size : vec_len c.args.self.now.matched ≡ length c.args.self.now.matched.items = search rules in
    rw (c.deref-in-None.ensures.value, c.found.ensures)
    (AllBelow-from_members (length c.args.self.now.matched.items) _ (λ v m.
    let p = and_parts _ _ (sym (found.1 v) ∙ m) in
    let l = c.in_ok-room.ensures.room.below v p.0 in
    let n = c.len.ensures in
    omega arith))

pub returns-in-Some-clause-row : goal.returns-in-Some-clause-row
returns-in-Some-clause-row c = λ family size inside r passes.
    let found = rw c.in-Some.is at c.in_ok-seek.ensures.walk in
    row_added c.args.rows.now c.args.base.now c.args.self.now.matched.items c.args.x c.requires.matching c.requires.outside c.requires.below
    family size inside r passes c.deref.result.now c.deref.ensures.value _ c.in-Some.field-0.items c.in_ok-with-in-Some.with
    c.in_ok-with-in-Some.ensures.equal found.0

pub returns-clause-row : goal.returns-clause-row
returns-clause-row c = λ family size inside r passes.
    let found = rw c.in-None.is at c.in_ok-seek.ensures.walk in
    let long : vec_len c.args.self.now.matched ≡ length c.args.self.now.matched.items = search rules in
    row_spent c.args.rows.now c.args.base.now c.args.self.now.matched.items c.args.x c.requires.matching c.requires.outside c.requires.below
    family size inside r passes c.deref.result.now c.deref.ensures.value _ c.len.result (c.len.ensures ∙ long ∙ sym (ap length c.deref.ensures.value))
    c.in_ok-room.ensures.all _ _ found.0 found.1 c.in_ok-found-in-None.found c.in_ok-with-in-None.with
    (λ y. c.in_ok-found-in-None.ensures y ∙ ap (λ b. is_matched_among b c.found.result.now y) c.deref-in-None.ensures.value
    ∙ ap (λ s. is_matched_among c.args.self.now.matched.items s y) c.found.ensures)
    c.in_ok-with-in-None.ensures.members
