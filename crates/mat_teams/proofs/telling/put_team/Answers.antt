use Rattle.std.proofs.Common.{length, arith}
use Rattle.std.proofs.lemmas.Int.{ints}
use Rattle.mat_sets.proofs.Ground.{IsSet-length}
use Rattle.mat_teams.proofs.telling.put_team.Goals as goal

pub weigh-weight-requires-clause-few : goal.weigh-weight-requires-clause-few
weigh-weight-requires-clause-few c = omega (arith, IsSet-length (length c.args.weights.now) c.args.team.now c.requires.team, c.requires.few)

pub weigh-weight-requires-clause-small : goal.weigh-weight-requires-clause-small
weigh-weight-requires-clause-small c = λ k d below.
    let within = c.requires.small k d below in
    ((omega (arith, ints, within.0.0), omega (arith, ints, within.0.1)), (omega (arith, ints, within.1.0), omega (arith, ints, within.1.1)))
