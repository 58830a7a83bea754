use Rattle.mat_cert.proofs.Common.{parts_left}
use Rattle.mat_cert.proofs.WordCounts.{too_few_words, right_number_of_words, too_many_words}
use Rattle.mat_cert.proofs.read.words.are_this_many.Goals as goal

pub returns-in-None : goal.returns-in-None
returns-in-None c =
    too_few_words c.args.many c.loop.counter (parts_left c.args.words.left) c.loop.rest c.in-None.is c.loop.invariant c.loop-test.true

pub returns-in-None-rest : goal.returns-in-None-rest
returns-in-None-rest c =
    right_number_of_words c.args.many c.loop.counter (parts_left c.args.words.left) c.loop.rest c.in-None-rest.is c.loop.invariant
    c.loop-test.false c.loop.auto.counter-end

pub returns-in-Some-rest : goal.returns-in-Some-rest
returns-in-Some-rest c =
    too_many_words c.args.many c.loop.counter (parts_left c.args.words.left) c.loop.rest c.in-Some-rest.field-0 c.in-Some-rest.is
    c.loop.invariant c.loop-test.false
