use Rattle.mat_check.proofs.Common.{◌<◌, ◌∙◌, map, sym, subst, StandFrom, halves_of, half_at, AreSumsUnder}
use Rattle.mat_check.proofs.ListedHalves.{sums_of_rung}
use Rattle.mat_check.proofs.ladder.rung_sums.rung_sums.Goals as goal

pub returns-clause-heaviest : goal.returns-clause-heaviest
returns-clause-heaviest g c = λ k h.
    let halves = halves_of c.args.side c.args.rungs.now in
    let stand = subst (λ xs. StandFrom (AreSumsUnder (c.args.m.now, map (half_at halves) xs)) 0 c.in_ok-sums.sums.items) c.deref.ensures.value
    c.in_ok-sums.ensures.rows in
    sums_of_rung c.args.m.now halves c.in_ok-sums.sums.items c.args.halves.listed.items c.args.halves.own.items c.requires.listed
    (c.in_ok-sums.ensures.count ∙ c.len.ensures ∙ c.args.halves.listed.ok.0) stand k (subst (λ m. k < m) (sym c.requires.count) h)
