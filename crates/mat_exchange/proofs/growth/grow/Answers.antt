-- The halves are within the bounds of the search, and what it finds is told of the halves by themselves.
use Rattle.mat_exchange.proofs.GrownSplits.{grown_first_within, grown_second_within, grown_found, stays_heaviest}
use Rattle.mat_exchange.proofs.growth.grow.Goals as goal

pub tight_search_with-requires-clause-first_small : goal.tight_search_with-requires-clause-first_small
tight_search_with-requires-clause-first_small c =
    let halves = c.in_ok-new1.field-0 in
    let grown = c.in_ok-new1.ensures in
    rw c.as_slice.ensures (grown_first_within c.args.w1.now c.args.w2.now halves.first halves.second c.requires.few c.requires.small
    c.requires.second_small grown.first_length grown.second_length grown.grown)

pub tight_search_with-requires-clause-second_small : goal.tight_search_with-requires-clause-second_small
tight_search_with-requires-clause-second_small c =
    let halves = c.in_ok-new1.field-0 in
    let grown = c.in_ok-new1.ensures in
    rw c.as_slice-2.ensures (grown_second_within c.args.w1.now c.args.w2.now halves.first halves.second c.requires.few c.requires.small
    c.requires.second_small grown.first_length grown.second_length grown.grown)

pub tight_search_with-requires-clause-heaviest : goal.tight_search_with-requires-clause-heaviest
tight_search_with-requires-clause-heaviest c = rw (c.as_slice.ensures, c.as_slice-2.ensures) c.in_ok-new1.ensures.heaviest

pub returns-clause-grown : goal.returns-clause-grown
returns-clause-grown c =
    let halves = c.in_ok-new1.field-0 in
    let grown = c.in_ok-new1.ensures in
    grown_found c.args.w1.now c.args.w2.now halves.first halves.second c.requires.few c.requires.small c.requires.second_small
    grown.first_length grown.second_length grown.grown c.in_ok-found.found
    (rw (c.as_slice.ensures, c.as_slice-2.ensures, grown.first_length) at c.in_ok-found.ensures.found)

pub returns-clause-stuck : goal.returns-clause-stuck
returns-clause-stuck c = rw (c.as_slice.ensures, c.as_slice-2.ensures, c.in_ok-new1.ensures.first_length) at c.in_ok-found.ensures.stuck

pub returns-clause-heaviest : goal.returns-clause-heaviest
returns-clause-heaviest c =
    stays_heaviest _ c.args.first.now c.args.second.now c.args.set.now c.args.w1.now c.args.w2.now _ (returns-clause-grown c)
