use Rattle.mat_witness.proofs.Common.{ℕ, ◌<◌, [], length, ◌∙◌, subst, All-get_or, IsSet, AreLargestNamed}
use Rattle.mat_witness.proofs.FilledBounds.{are_spent, filled_number, filled_shows, maximal_inside}
use Rattle.mat_witness.proofs.NamedSets.{named_by_table, unnamed_by_table}
use Rattle.mat_witness.proofs.parts.counted.filled_bound.Goals as goal

pub unnamed_members-requires : goal.unnamed_members-requires
unnamed_members-requires c =
    rw (c.deref-2.ensures.value, c.in_ok-named.ensures.long)
    (maximal_inside c.args.count c.args.sets.now c.args.caps.now c.args.set.now c.args.inside.now c.requires.maximal).below

pub returns : goal.returns
returns c =
    let n = c.args.count in
    let sets = c.args.sets.now in
    let caps = c.args.caps.now in
    let F = c.args.set.now in
    let I = c.args.inside.now in
    let table = c.in_ok-named.named.items in
    let rises = λ (i : ℕ) (l : i < length sets). (All-get_or (IsSet n) sets i [] l c.requires.sets).rising in
    let largest = subst (λ M. AreLargestNamed sets caps M (length sets) n table) c.in_ok-marks.ensures.members c.in_ok-named.ensures.named in
    let chosen = named_by_table sets caps I n table F c.in_ok-chosen.chosen c.requires.set largest (rw c.deref.ensures.value at c.in_ok-chosen.ensures) in
    let spent = rw c.deref-2.ensures.value at c.in_ok-spent.ensures.members
    ∙ unnamed_by_table sets caps I n table I (maximal_inside n sets caps F I c.requires.maximal) largest in
    record {
      part = are_spent c.requires.sound rises c.requires.set c.requires.maximal chosen spent;
      shows = filled_shows c.requires.sound rises c.requires.set c.requires.maximal chosen spent;
      number = filled_number c.requires.sound rises c.requires.set c.requires.maximal chosen spent;
    }
