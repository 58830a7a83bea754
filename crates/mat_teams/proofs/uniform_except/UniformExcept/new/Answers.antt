use Rattle.std.proofs.Common.{[], ap, sym, subst, ◌∙◌}
use Rattle.std.proofs.lemmas.Bool.{or_left}
use Rattle.mat_sets.specs.Sets.{is_member, IsSet}
use Rattle.mat_sets.proofs.Ground.{IsSet-nil, IsSet-union}
use Rattle.mat_sets.proofs.Members.{is_member-union, member_from_some, some_from_member}
use Rattle.mat_teams.proofs.uniform_except.UniformExcept.new.Goals as goal

pub returns-clause-sound : goal.returns-clause-sound
returns-clause-sound c =
    let members = c.args.members.now in
    let some = member_from_some members c.requires.some in
    some_from_member some.0 c.in_ok-circuit.circuit (ap (is_member some.0) c.in_ok-circuit.ensures.members ∙ is_member-union some.0 members []
    ∙ or_left (is_member some.0 members) (is_member some.0 []) some.1)

pub returns-clause-set : goal.returns-clause-set
returns-clause-set c = subst (IsSet c.args.count) (sym c.in_ok-circuit.ensures.members)
    (IsSet-union c.args.count c.args.members.now [] c.requires.below (IsSet-nil c.args.count))
