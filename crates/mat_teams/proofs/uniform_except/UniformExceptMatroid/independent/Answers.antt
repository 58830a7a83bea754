use Rattle.std.proofs.Common.{◌≡◌, true, length, leb, arith}
use Rattle.std.proofs.lemmas.Bool.{le-leb}
use Rattle.mat_sets.proofs.SetTests.{is_set-true}
use Rattle.mat_teams.proofs.uniform_except.UniformExceptMatroid.independent.Goals as goal

pub returns-then-len : goal.returns-then-len
returns-then-len c =
    let self = c.args.self.now in
    let set = is_set-true self.count c.args.set.now c.len.ensures.rises c.requires.below in
    let within : leb (length c.args.set.now) (length self.circuit) ≡ true = le-leb (length c.args.set.now) (length self.circuit)
    (omega (arith, c.len.ensures.count, c.len-2.ensures.count, c.if-len.true)) in
    rw (set, within) c.ne.ensures
