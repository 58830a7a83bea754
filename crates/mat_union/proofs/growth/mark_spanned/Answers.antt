use Rattle.mat_union.proofs.Common.{arith, is_member}
use Rattle.mat_union.proofs.SpannedElements.{spanned_with, spanned_with_one, unspanned_more, unspanned_none, unspanned_without_one}
use Rattle.mat_union.proofs.growth.mark_spanned.Goals as goal

pub loop-v-init : goal.loop-v-init
loop-v-init c = λ v. unspanned_none (is_member v c.args.unspanned.now) v c.args.elements.now

pub loop-v-preserved : goal.loop-v-preserved
loop-v-preserved c =
    unspanned_more c.loop-v.unspanned c.remove-in-loop-v.new.self c.args.elements.now c.loop-v.v-index c.args.unspanned.now c.loop-v-test.true c.remove-in-loop-v.ensures
    c.loop-v.invariant

pub returns-clause-spanned : goal.returns-clause-spanned
returns-clause-spanned c =
    spanned_with c.args.spanned.now c.args.elements.now c.in_ok-more.more c.in_ok-spanned.field-0 c.in_ok-more.ensures.members c.in_ok-spanned.ensures.members

pub returns-in-len1-clause-spanned : goal.returns-in-len1-clause-spanned
returns-in-len1-clause-spanned c =
    spanned_with_one c.args.spanned.now c.add.new.self c.args.elements.now (let some = c.in-len1.len_at_least in omega arith)
    (let few = c.in-len1.len_below in omega arith) c.in_ok-add.ensures.ok.1

pub returns-in-len1-clause-unspanned : goal.returns-in-len1-clause-unspanned
returns-in-len1-clause-unspanned c =
    unspanned_without_one c.args.unspanned.now c.remove.new.self c.args.elements.now (let some = c.in-len1.len_at_least in omega arith)
    (let few = c.in-len1.len_below in omega arith) c.remove.ensures
