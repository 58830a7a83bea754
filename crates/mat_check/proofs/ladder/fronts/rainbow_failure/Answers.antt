use Rattle.mat_check.proofs.Common.{◌∙◌, ℕ, get_or, length, sym, IfOk-weaker, ends_of, is_graphic, is_once, ladder_clauses, colours_clauses}
use Rattle.mat_check.proofs.FailingClauses.{first_in_back, first_in_front}
use Rattle.mat_check.proofs.ladder.fronts.rainbow_failure.Goals as goal

pub returns-in-Some : goal.returns-in-Some
returns-in-Some g c =
    let n = length c.args.edges.now in
    let ends = ends_of c.args.edges.now in
    let colour = λ (e : ℕ). get_or c.args.colour_of.now e 0 in
    let front = ladder_clauses n (is_graphic n ends) (is_once n c.args.colours colour) c.args.weights.now c.args.rungs.now c.args.cut.now in
    let back = colours_clauses c.args.vertices n ends colour c.args.missing.now in
    sym (first_in_front front back c.in-Some.failure (sym c.in_ok-found.ensures ∙ c.in-Some.is))

pub returns : goal.returns
returns g c =
    let n = length c.args.edges.now in
    let ends = ends_of c.args.edges.now in
    let colour = λ (e : ℕ). get_or c.args.colour_of.now e 0 in
    let front = ladder_clauses n (is_graphic n ends) (is_once n c.args.colours colour) c.args.weights.now c.args.rungs.now c.args.cut.now in
    let back = colours_clauses c.args.vertices n ends colour c.args.missing.now in
    IfOk-weaker c.colours_failure.result _ _ (λ found h. h ∙ sym (first_in_back front back (sym c.in_ok-found.ensures ∙ c.in_default.is)))
    c.colours_failure.ensures
