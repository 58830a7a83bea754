-- A member of the set has no row, nor has an element that can be added; the row of any other element is that of its circuit.
use Rattle.mat_exchange.proofs.Common.{◌≡◌, ◌∙◌, refl, sym, ap, subst, cond-true, AllBelow, is_member, Exchange, row_of, rows_of, on_ok_weaker}
use Rattle.mat_exchange.proofs.RowExchanges.{circuit_row, no_circuit, row_in-rows_of, rows-below}
use Rattle.mat_exchange.proofs.TableSteps.{IsFilledTable-skip}
use Rattle.mat_exchange.proofs.exchanges.enter_missing.Goals as goal

pub returns-then-contains : goal.returns-then-contains
returns-then-contains g c = λ missing filled.
    let n = g.M.Matroid.ground_size c.args.m.now in
    let p = g.M.Matroid.indep c.args.m.now in
    let I = c.args.set.now in
    let here : is_member c.args.x I ≡ _ = ap (is_member c.args.x) (sym c.requires.base) ∙ sym c.contains.ensures ∙ c.if-contains.true in
    IsFilledTable-skip (rows_of n p I) missing c.args.x _ _ _ filled (row_in-rows_of n p I c.args.x c.requires.below ∙ cond-true (is_member c.args.x I) _ _ here)

pub circuit_members-requires-clause-outside : goal.circuit_members-requires-clause-outside
circuit_members-requires-clause-outside g c =
    ap (is_member c.args.x) (sym c.requires.base) ∙ sym c.contains.ensures ∙ c.if-contains.false

pub returns-in-None : goal.returns-in-None
returns-in-None g c =
    let n = g.M.Matroid.ground_size c.args.m.now in
    let p = g.M.Matroid.indep c.args.m.now in
    let I = c.args.set.now in
    let addable = no_circuit (row_of p I c.args.x) (sym c.in_ok-circuit_members.ensures ∙ c.in-None.is) in
    on_ok_weaker c.enter_addable.result (λ told missing filled. told (rows_of n p I) missing
    (ap (λ (r : Exchange). r.addable) (row_in-rows_of n p I c.args.x c.requires.below) ∙ addable) filled) c.enter_addable.ensures

pub enter-requires-clause-below : goal.enter-requires-clause-below
enter-requires-clause-below g c =
    let n = g.M.Matroid.ground_size c.args.m.now in
    let p = g.M.Matroid.indep c.args.m.now in
    let I = c.args.set.now in
    let same = row_in-rows_of n p I c.args.x c.requires.below ∙ circuit_row (row_of p I c.args.x) _ (sym c.in_ok-circuit_members.ensures ∙ c.in-Some.is) in
    subst (λ k. AllBelow k c.in-Some.members) (sym c.requires.rows)
    (subst (λ (r : Exchange). AllBelow n r.with) same (rows-below c.lawful.ensures I c.requires.independent (rows_of n p I) refl c.args.x))

pub returns-in-Some : goal.returns-in-Some
returns-in-Some g c = λ missing filled.
    let n = g.M.Matroid.ground_size c.args.m.now in
    let p = g.M.Matroid.indep c.args.m.now in
    let I = c.args.set.now in
    let same = row_in-rows_of n p I c.args.x c.requires.below ∙ circuit_row (row_of p I c.args.x) _ (sym c.in_ok-circuit_members.ensures ∙ c.in-Some.is) in
    c.enter.ensures (rows_of n p I) missing same filled
