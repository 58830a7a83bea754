use Rattle.mat_witness.proofs.Common.{◌<◌, ◌∙◌, length, get_or, length-set, arith, AllBelow-at}
use Rattle.mat_witness.proofs.OrderedPaths.{places_more}
use Rattle.mat_witness.proofs.parts.gammoids.paths.places_of_ends.Goals as goal

pub index_mut-requires : goal.index_mut-requires
index_mut-requires c =
    omega (arith, AllBelow-at c.args.size c.args.ends.now c.loop-i.i c.requires.below c.loop-i-test.true, c.loop-i.invariant.long, c.loop-i.places.ok)

pub loop-i-preserved : goal.loop-i-preserved
loop-i-preserved c =
    let ends = c.args.ends.now in
    let i = c.loop-i.i in
    let places = c.loop-i.places.items in
    let small = AllBelow-at c.args.size ends i c.requires.below c.loop-i-test.true in
    let within : get_or ends i 0 < length places = omega (arith, small, c.loop-i.invariant.long) in
    record {
      long = length-set places (get_or ends i 0) i ∙ c.loop-i.invariant.long;
      places = places_more ends places i c.requires.distinct c.loop-i-test.true within c.loop-i.invariant.places;
    }
