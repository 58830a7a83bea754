use Rattle.mat_linked.proofs.Common.{◌≡◌, ◌∙◌, ap, map, sym, subst, arith, take_all, minus, entry_without, IsMatching}
use Rattle.mat_linked.proofs.NewMatches.{IsMatching-without}
use Rattle.mat_linked.proofs.kept_matching.matched_without.Goals as goal

pub returns-clause-matching : goal.returns-clause-matching
returns-clause-matching c = λ rows X t.
    let is : c.loop-entry.left.items ≡ map (entry_without c.args.gone.now) c.args.matched.now =
    c.loop-entry.invariant ∙ ap (map (entry_without c.args.gone.now)) (take_all c.loop-entry.entry-index c.args.matched.now (omega (arith, c.loop-entry-test.false))) in
    subst (IsMatching rows (minus X c.args.gone.now)) (sym is) (IsMatching-without rows X c.args.gone.now c.args.matched.now t)
