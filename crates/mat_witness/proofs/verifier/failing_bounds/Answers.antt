-- The first matroid is looked at in front of the second, and the bounds of both last; the first that is not met is told.
use Rattle.mat_witness.proofs.Common.{sym, ◌∙◌}
use Rattle.mat_witness.proofs.SplitBounds.{behind_first, both_met, first_fails, first_fits, in_turn, last_two, second_fails, second_fits}
use Rattle.mat_witness.proofs.verifier.failing_bounds.Goals as goal

pub met_under-requires-clause-enough : goal.met_under-requires-clause-enough
met_under-requires-clause-enough c =
    rw c.as_slice.ensures (in_turn c.args.k c.args.rung.now c.requires.parts).enough

pub met_under-requires-clause-parts : goal.met_under-requires-clause-parts
met_under-requires-clause-parts c =
    rw c.as_slice.ensures (in_turn c.args.k c.args.rung.now c.requires.parts).at

pub returns-in_default : goal.returns-in_default
returns-in_default c =
    first_fails (in_turn c.args.k c.args.rung.now c.requires.parts) _ _ (rw (c.as_slice.ensures, c.in_default.is) at c.in_ok-firsts.ensures)

pub bounds_behind-rest-requires : goal.bounds_behind-rest-requires
bounds_behind-rest-requires c =
    first_fits (in_turn c.args.k c.args.rung.now c.requires.parts) (rw (c.as_slice.ensures, c.in-Some.is) at c.in_ok-firsts.ensures)

pub met_under-requires-2-clause-enough : goal.met_under-requires-2-clause-enough
met_under-requires-2-clause-enough c =
    rw c.as_slice-2.ensures
    (behind_first (in_turn c.args.k c.args.rung.now c.requires.parts) (rw (c.as_slice.ensures, c.in-Some.is) at c.in_ok-firsts.ensures)
    c.bounds_behind-rest.ensures.rest).enough

pub met_under-requires-2-clause-parts : goal.met_under-requires-2-clause-parts
met_under-requires-2-clause-parts c =
    rw (c.as_slice-2.ensures, c.requires.same)
    (behind_first (in_turn c.args.k c.args.rung.now c.requires.parts) (rw (c.as_slice.ensures, c.in-Some.is) at c.in_ok-firsts.ensures)
    c.bounds_behind-rest.ensures.rest).at

pub returns-in_default-2 : goal.returns-in_default-2
returns-in_default-2 c =
    second_fails (in_turn c.args.k c.args.rung.now c.requires.parts) _ _ (rw (c.as_slice.ensures, c.in-Some.is) at c.in_ok-firsts.ensures)
    c.bounds_behind-rest.ensures.rest (rw (c.as_slice-2.ensures, c.in_default-2.is) at c.in_ok-seconds.ensures)

pub bounds_behind-last_two-requires : goal.bounds_behind-last_two-requires
bounds_behind-last_two-requires c =
    second_fits (behind_first (in_turn c.args.k c.args.rung.now c.requires.parts) (rw (c.as_slice.ensures, c.in-Some.is) at c.in_ok-firsts.ensures)
    c.bounds_behind-rest.ensures.rest)
    (rw (c.as_slice-2.ensures, c.in-Some-2.is) at c.in_ok-seconds.ensures)

pub bounds_common_sets-requires-clause-parts : goal.bounds_common_sets-requires-clause-parts
bounds_common_sets-requires-clause-parts c =
    last_two (behind_first (in_turn c.args.k c.args.rung.now c.requires.parts) (rw (c.as_slice.ensures, c.in-Some.is) at c.in_ok-firsts.ensures)
    c.bounds_behind-rest.ensures.rest)
    (rw (c.as_slice-2.ensures, c.in-Some-2.is) at c.in_ok-seconds.ensures) c.bounds_behind-last_two.ensures.rest

pub returns-then-branch : goal.returns-then-branch
returns-then-branch c =
    both_met (in_turn c.args.k c.args.rung.now c.requires.parts) _ _ (rw (c.as_slice.ensures, c.in-Some.is) at c.in_ok-firsts.ensures)
    c.bounds_behind-rest.ensures.rest (rw (c.as_slice-2.ensures, c.in-Some-2.is) at c.in_ok-seconds.ensures) c.bounds_behind-last_two.ensures.rest
    (sym c.in_ok-bounds_common_sets.ensures ∙ c.if-branch.true)

pub returns-else-branch : goal.returns-else-branch
returns-else-branch c =
    both_met (in_turn c.args.k c.args.rung.now c.requires.parts) _ _ (rw (c.as_slice.ensures, c.in-Some.is) at c.in_ok-firsts.ensures)
    c.bounds_behind-rest.ensures.rest (rw (c.as_slice-2.ensures, c.in-Some-2.is) at c.in_ok-seconds.ensures) c.bounds_behind-last_two.ensures.rest
    (sym c.in_ok-bounds_common_sets.ensures ∙ c.if-branch.false)
