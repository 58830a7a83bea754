-- The lists that are lent to the growth are copies of the weights, and what is written back is all of both.
use Rattle.mat_exchange.proofs.Common.{◌∙◌, written_back}
use Rattle.mat_exchange.proofs.GrownSplits.{grown_of_copies}
use Rattle.mat_exchange.proofs.growth.grown_halves.Goals as goal

pub returns-clause-grown : goal.returns-clause-grown
returns-clause-grown c =
    let old1 = c.in_ok-new1.new1 in
    let old2 = c.in_ok-new2.new2 in
    let grown = c.grow_from_heaviest in
    let same1 = c.deref_mut.ensures.value ∙ c.in_ok-new1.ensures.items in
    let same2 = c.deref_mut-2.ensures.value ∙ c.in_ok-new2.ensures.items in
    let written1 = written_back old1.len grown.new.w1 old1.items (grown.ensures.first_length ∙ c.deref_mut.ensures.len) in
    let written2 = written_back old2.len grown.new.w2 old2.items (grown.ensures.second_length ∙ c.deref_mut-2.ensures.len) in
    rw (c.new.ensures, c.new-2.ensures, written1, written2) (grown_of_copies grown.new.w1 grown.new.w2 same1 same2 c.in_ok-heaviest.ensures.grown)

pub returns-clause-heaviest : goal.returns-clause-heaviest
returns-clause-heaviest c =
    let old1 = c.in_ok-new1.new1 in
    let old2 = c.in_ok-new2.new2 in
    let grown = c.grow_from_heaviest in
    let written1 = written_back old1.len grown.new.w1 old1.items (grown.ensures.first_length ∙ c.deref_mut.ensures.len) in
    let written2 = written_back old2.len grown.new.w2 old2.items (grown.ensures.second_length ∙ c.deref_mut-2.ensures.len) in
    rw (c.new.ensures, c.new-2.ensures, written1, written2) c.in_ok-heaviest.ensures.heaviest
