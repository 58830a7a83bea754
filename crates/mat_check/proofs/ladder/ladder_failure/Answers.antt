use Rattle.mat_check.proofs.Common.{◌+◌, ◌==◌, [], ◌∷◌, length, sym, ap, ◌∙◌, minus, all_below, is_independent, tree_of, last_rung, numbered_clauses, priced_rung_clauses, cut_clause}
use Rattle.mat_laws.specs.Ranks.{rank}
use Rattle.mat_check.proofs.FailingClauses.{first_in_front}
use Rattle.mat_check.proofs.JoinedClauses.{end_fails, end_holds}
use Rattle.mat_check.proofs.ladder.ladder_failure.Goals as goal

pub returns-in-Some : goal.returns-in-Some
returns-in-Some g c =
    let w = c.args.both.now.weights.now in
    let p = is_independent (tree_of c.args.both.now.first.now) in
    let q = is_independent (tree_of c.args.both.now.second.now) in
    sym (first_in_front (numbered_clauses (priced_rung_clauses (length w) p q w) 0 c.args.rungs.now)
    (cut_clause (length w) p q (last_rung c.args.rungs.now) c.args.cut.now ∷ []) c.in-Some.failure
    (sym c.in_ok-failure.ensures ∙ c.in-Some.is))

pub returns-then-not-branch : goal.returns-then-not-branch
returns-then-not-branch g c =
    let w = c.args.both.now.weights.now in
    let p = is_independent (tree_of c.args.both.now.first.now) in
    let q = is_independent (tree_of c.args.both.now.second.now) in
    rw c.at.ensures (end_fails (numbered_clauses (priced_rung_clauses (length w) p q w) 0 c.args.rungs.now)
    (cut_clause (length w) p q (last_rung c.args.rungs.now) c.args.cut.now) (sym c.in_ok-failure.ensures ∙ c.in_default.is)
    (sym (c.in_ok-cut_holds.ensures ∙ ap (λ m. rank p (minus (all_below m) c.args.cut.now) + rank q c.args.cut.now == last_rung c.args.rungs.now)
    (sym c.requires.first_lengths)) ∙ c.if-not-branch.true))

pub returns : goal.returns
returns g c =
    let w = c.args.both.now.weights.now in
    let p = is_independent (tree_of c.args.both.now.first.now) in
    let q = is_independent (tree_of c.args.both.now.second.now) in
    end_holds (numbered_clauses (priced_rung_clauses (length w) p q w) 0 c.args.rungs.now)
    (cut_clause (length w) p q (last_rung c.args.rungs.now) c.args.cut.now) (sym c.in_ok-failure.ensures ∙ c.in_default.is)
    (sym (c.in_ok-cut_holds.ensures ∙ ap (λ m. rank p (minus (all_below m) c.args.cut.now) + rank q c.args.cut.now == last_rung c.args.rungs.now)
    (sym c.requires.first_lengths)) ∙ c.if-not-branch.false)
