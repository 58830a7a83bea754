use Rattle.std.proofs.Common.{◌≤◌, length, arith}
use Rattle.mat_teams.proofs.TeamSets.{rungs_are_teams}
use Rattle.mat_teams.proofs.ladders.next_teams.Goals as goal

pub returns-clause-team : goal.returns-clause-team
returns-clause-team g c = λ k rung at.
    let last = c.args.last.now in
    let heaviest = c.in_ok-ladder.ensures.heaviest k rung at in
    let meaning = (c.uniform_except_means.ensures last.count last.circuit rung.set).0 heaviest.in_first in
    (heaviest.size, meaning.2, heaviest.in_second)

pub returns-clause-heaviest : goal.returns-clause-heaviest
returns-clause-heaviest g c = λ k rung at other set size differs allowed.
    let last = c.args.last.now in
    let heaviest = c.in_ok-ladder.ensures.heaviest k rung at in
    let meaning = (c.uniform_except_means.ensures last.count last.circuit rung.set).0 heaviest.in_first in
    let few : length other ≤ length last.circuit = omega (arith, size, heaviest.size, meaning.1) in
    heaviest.most other ((c.uniform_except_means.ensures last.count last.circuit other).1 (set, few, differs)) allowed size

pub returns-clause-largest : goal.returns-clause-largest
returns-clause-largest g c = λ other set few differs allowed.
    let last = c.args.last.now in
    c.in_ok-ladder.ensures.largest other ((c.uniform_except_means.ensures last.count last.circuit other).1 (set, few, differs)) allowed

pub returns-clause-sets : goal.returns-clause-sets
returns-clause-sets g c = rungs_are_teams c.lawful.ensures c.args.weights.now c.in_ok-ladder.ladder.rungs.items c.in_ok-ladder.ensures.heaviest
