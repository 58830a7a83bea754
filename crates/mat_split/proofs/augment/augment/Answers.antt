use Rattle.mat_split.proofs.SplitSteps.{first_table, second_table, first_gains, second_gains, second_small, larger_from_grown, cut_from_grown}
use Rattle.mat_split.proofs.augment.augment.Goals as goal

pub grow-requires-clause-first_table : goal.grow-requires-clause-first_table
grow-requires-clause-first_table g c =
    first_table c.lawful.ensures (rw c.requires.ground at c.lawful-2.ensures) c.requires.few c.requires.rung
    c.requires.first_rows c.as_slice-first.ensures

pub grow-requires-clause-second_table : goal.grow-requires-clause-second_table
grow-requires-clause-second_table g c =
    second_table c.lawful.ensures (rw c.requires.ground at c.lawful-2.ensures) c.requires.few c.requires.rung c.requires.ground
    c.requires.second_rows c.as_slice-first.ensures

pub grow-requires-clause-first_gains : goal.grow-requires-clause-first_gains
grow-requires-clause-first_gains g c =
    first_gains c.lawful.ensures (rw c.requires.ground at c.lawful-2.ensures) c.requires.few c.requires.rung
    c.requires.first_rows c.as_slice-first.ensures

pub grow-requires-clause-second_gains : goal.grow-requires-clause-second_gains
grow-requires-clause-second_gains g c =
    second_gains c.lawful.ensures (rw c.requires.ground at c.lawful-2.ensures) c.requires.few c.requires.rung c.requires.ground
    c.requires.second_rows c.as_slice-second.ensures

pub grow-requires-clause-second_small : goal.grow-requires-clause-second_small
grow-requires-clause-second_small g c =
    second_small c.lawful.ensures (rw c.requires.ground at c.lawful-2.ensures) c.requires.few c.requires.rung c.as_slice-second.ensures

pub returns-in_ok-set-in-Path : goal.returns-in_ok-set-in-Path
returns-in_ok-set-in-Path g c =
    larger_from_grown c.lawful.ensures (rw c.requires.ground at c.lawful-2.ensures) c.requires.few c.requires.rung c.requires.ground
    c.requires.first_rows c.requires.second_rows c.as_slice-first.ensures
    c.as_slice-second.ensures c.in_ok-first.ensures.grown c.in-Path.is c.deref.ensures.value c.in_ok-set-in-Path.ensures.set

pub returns-in-Stuck : goal.returns-in-Stuck
returns-in-Stuck g c =
    cut_from_grown c.lawful.ensures (rw c.requires.ground at c.lawful-2.ensures) c.requires.few c.requires.rung c.requires.ground
    c.requires.first_rows c.requires.second_rows c.as_slice-first.ensures
    c.as_slice-second.ensures c.in_ok-first.ensures.grown c.in-Stuck.is
