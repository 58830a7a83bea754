-- Each number that is read goes behind the set so far if it is larger; a fault, or a number that does not rise, is the fault of the whole list.
use Rattle.mat_cert.proofs.Common.{◌≡◌, ◌∙◌, sym, [], err_from_is_err_and, parts_left, words_left, told_again, told_fails, refusal_of, kind_of, members_from, some_left, none_left}
use Rattle.mat_words.specs.Reading.{below_at}
use Rattle.mat_cert.proofs.MemberLists.{members_go_on, members_fall, members_fail, members_done}
use Rattle.mat_cert.proofs.read.words.next_members.Goals as goal

pub returns-in_err-member : goal.returns-in_err-member
returns-in_err-member c =
    let p = err_from_is_err_and c.from_residual.result c.from_residual.ensures.1 in
    rw (p.1, p.2) (members_fail c.args.bound c.loop-rest.rest.line c.loop-rest.least c.loop-rest.set (parts_left c.loop-rest.rest.left)
    (refusal_of c.in_err-member.field-0.0)
    (members_from c.args.bound c.args.words.line 0 (parts_left c.args.words.left))
    (some_left c.loop-rest.rest.left (sym c.is_some.ensures ∙ c.loop-rest-test.true))
    (told_fails kind_of (below_at c.args.bound (words_left c.loop-rest.rest)) c.in_err-member.field-0.0 c.in_err-member.ensures.value)
    c.loop-rest.invariant.reads)

pub returns-then-member-least : goal.returns-then-member-least
returns-then-member-least c =
    rw c.fault.ensures
    (members_fall c.args.bound c.loop-rest.rest.line c.loop-rest.least c.loop-rest.set (parts_left c.loop-rest.rest.left) c.in_ok-member.member
    (words_left c.in_ok-member.after)
    (members_from c.args.bound c.args.words.line 0 (parts_left c.args.words.left))
    (told_again kind_of (below_at c.args.bound (words_left c.loop-rest.rest)) (c.in_ok-member.member, words_left c.in_ok-member.after)
    c.in_ok-member.ensures.value) c.if-member-least.true
    c.loop-rest.invariant.reads)

pub loop-rest-smaller : goal.loop-rest-smaller
loop-rest-smaller c =
    (members_go_on c.args.bound c.loop-rest.rest.line c.loop-rest.least c.loop-rest.set (parts_left c.loop-rest.rest.left) c.in_ok-member.member
    (words_left c.in_ok-member.after)
    (members_from c.args.bound c.args.words.line 0 (parts_left c.args.words.left))
    (told_again kind_of (below_at c.args.bound (words_left c.loop-rest.rest)) (c.in_ok-member.member, words_left c.in_ok-member.after)
    c.in_ok-member.ensures.value) c.if-member-least.false
    c.loop-rest.invariant.below
    c.loop-rest.invariant.reads).shorter

pub loop-rest-preserved : goal.loop-rest-preserved
loop-rest-preserved c =
    let next = members_go_on c.args.bound c.loop-rest.rest.line c.loop-rest.least c.loop-rest.set (parts_left c.loop-rest.rest.left)
    c.in_ok-member.member (words_left c.in_ok-member.after)
    (members_from c.args.bound c.args.words.line 0 (parts_left c.args.words.left))
    (told_again kind_of (below_at c.args.bound (words_left c.loop-rest.rest)) (c.in_ok-member.member, words_left c.in_ok-member.after)
    c.in_ok-member.ensures.value) c.if-member-least.false
    c.loop-rest.invariant.below
    c.loop-rest.invariant.reads in
    record { reads = rw c.in_ok-add.ensures.ok.1 next.reads; below = rw c.in_ok-add.ensures.ok.1 next.below }

pub returns : goal.returns
returns c =
    let none : parts_left c.loop-rest.rest.left ≡ [] = none_left c.loop-rest.rest.left (sym c.is_some.ensures ∙ c.loop-rest-test.false) in
    members_done c.args.bound c.loop-rest.rest.line c.loop-rest.least c.loop-rest.set
    (members_from c.args.bound c.args.words.line 0 (parts_left c.args.words.left))
    (rw none at c.loop-rest.invariant.reads)
