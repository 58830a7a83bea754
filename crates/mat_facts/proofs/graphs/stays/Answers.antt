use Rattle.mat_facts.proofs.Common.{◌&&◌, [], get_or, length, sym, ap, ◌∙◌, ends_of, is_member}
use Rattle.std.proofs.lemmas.List.{get_or_default}
use Rattle.mat_sets.proofs.Search.{some_below_from, some_below-next, some_below-zero}
use Rattle.mat_facts.proofs.graphs.stays.Goals as goal

pub loop-q-init : goal.loop-q-init
loop-q-init c =
    let p = ends_of c.args.edges.now c.args.e in
    some_below-zero (λ q. is_member p.0 (get_or c.args.classes.now q []) && is_member p.1 (get_or c.args.classes.now q []))

pub returns-then-holds_both : goal.returns-then-holds_both
returns-then-holds_both c =
    let p = ends_of c.args.edges.now c.args.e in
    let here = get_or_default c.args.classes.now c.loop-q.q [] c.index-classes-q.result c.loop-q-test.true ∙ sym c.index-classes-q.is in
    sym (some_below_from (length c.args.classes.now) c.loop-q.q
    (λ q. is_member p.0 (get_or c.args.classes.now q []) && is_member p.1 (get_or c.args.classes.now q [])) c.loop-q-test.true
    (ap (λ set. is_member p.0 set && is_member p.1 set) here ∙ ap (λ z. is_member z.0 c.index-classes-q.result && is_member z.1 c.index-classes-q.result) (sym c.get-first.ensures)
    ∙ sym c.holds_both.ensures ∙ c.if-holds_both.true))

pub loop-q-preserved : goal.loop-q-preserved
loop-q-preserved c =
    let p = ends_of c.args.edges.now c.args.e in
    let here = get_or_default c.args.classes.now c.loop-q.q [] c.index-classes-q.result c.loop-q-test.true ∙ sym c.index-classes-q.is in
    some_below-next c.loop-q.q (λ q. is_member p.0 (get_or c.args.classes.now q []) && is_member p.1 (get_or c.args.classes.now q []))
    (ap (λ set. is_member p.0 set && is_member p.1 set) here ∙ ap (λ z. is_member z.0 c.index-classes-q.result && is_member z.1 c.index-classes-q.result) (sym c.get-first.ensures)
    ∙ sym c.holds_both.ensures ∙ c.if-holds_both.false)
    c.loop-q.invariant
