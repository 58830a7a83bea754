-- Each round finds the next level; a goal on it gives a walk of fewest vertices, and an empty level shows that all reached vertices are found.
use Rattle.mat_sets.proofs.Common.{arith, rules, sym, ap, not, replicate, length, ◌&&◌, ◌∙◌, ◌≡◌, ltb, both_ways, eq-eqb, eqb-true, all_below, is_member}
use Rattle.mat_sets.proofs.LevelSearch.{fewer_unreached, search_end, search_found, search_round, search_start, some_member}
use Rattle.mat_sets.proofs.level_search.shortest_walk.Goals as goal

pub rounds-init : goal.rounds-init
rounds-init g c =
    let relation = g.R.Relation in
    let of = c.args.relation.now in
    let zeros : c.in_ok-before.before.items ≡ replicate c.size-size.result 0 = search rules in
    let all : c.in_ok-unreached.unreached ≡ all_below (relation.count of) = c.in_ok-unreached.ensures ∙ ap all_below c.size-size.ensures in
    search_start (relation.count of) (relation.arc of) (relation.start of) (relation.goal of) _ _ _
    (zeros ∙ ap (λ m. replicate m 0) c.size-size.ensures) c.in_ok-frontier.ensures.found
    (λ v. c.in_ok-frontier.ensures.rest v ∙ ap (λ l. is_member v l && not (ltb v (relation.count of) && relation.start of v)) all)

pub returns-in-Some : goal.returns-in-Some
returns-in-Some g c =
    let member = rw c.deref.ensures.value at c.in-Some.ensures.0 in
    let trace = rw c.deref-in-Some.ensures.value at c.in_ok-trace.ensures in
    search_found _ _ _ _ _ _ c.rounds.invariant member c.in-Some.ensures.1 trace

pub returns-then-is_empty : goal.returns-then-is_empty
returns-then-is_empty g c =
    let none = rw c.deref.ensures.value at c.in_default.ensures in
    let round = rw c.deref-in-rounds.ensures.value at c.in_ok-found.ensures in
    let empty : length c.in_ok-found.found.items ≡ 0 = (let e = eqb-true _ _ (sym c.if-is_empty.ensures) in omega arith) in
    rw (c.in_ok-others.ensures, c.size-size.ensures) (search_end _ _ _ _ _ _ _ c.rounds.invariant none round empty)

pub overflow_add-arcs : goal.overflow_add-arcs
overflow_add-arcs g c =
    let round = rw c.deref-in-rounds.ensures.value at c.in_ok-found.ensures in
    let x = some_member c.in_ok-found.found.items (λ z. both_ways _ (sym c.if-is_empty.ensures) (eq-eqb _ 0 (omega arith))) in
    let fewer = fewer_unreached _ _ _ _ _ _ _ c.rounds.invariant round x.0 x.1 in
    let fuel = c.rounds.invariant.fuel in
    let small = c.size-size.type_inv in
    let same = c.size-size.ensures in
    omega arith

pub rounds-smaller : goal.rounds-smaller
rounds-smaller g c =
    let round = rw c.deref-in-rounds.ensures.value at c.in_ok-found.ensures in
    let x = some_member c.in_ok-found.found.items (λ z. both_ways _ (sym c.if-is_empty.ensures) (eq-eqb _ 0 (omega arith))) in
    fewer_unreached _ _ _ _ _ _ _ c.rounds.invariant round x.0 x.1

pub rounds-preserved : goal.rounds-preserved
rounds-preserved g c =
    let none = rw c.deref.ensures.value at c.in_default.ensures in
    let round = rw c.deref-in-rounds.ensures.value at c.in_ok-found.ensures in
    let x = some_member c.in_ok-found.found.items (λ z. both_ways _ (sym c.if-is_empty.ensures) (eq-eqb _ 0 (omega arith))) in
    search_round _ _ _ _ _ _ _ c.rounds.invariant none round x.0 x.1
