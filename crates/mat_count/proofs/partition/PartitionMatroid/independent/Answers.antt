use Rattle.mat_count.proofs.Common.{◌≡◌, subst, AllBelow, is_counted, CappedClasses, IsPartition}
use Rattle.mat_count.proofs.ClassTables.{is_counted-from_numbers}
use Rattle.mat_count.proofs.partition.PartitionMatroid.independent.Goals as goal

pub returns : goal.returns
returns c =
    let set = c.args.set.now in
    let Answers : CappedClasses → Type 0 =
    λ p. IsPartition p.count p.classes p.caps → AllBelow p.count set → c.are_within.result ≡ is_counted p.count p.classes p.caps set in
    let means = rw (c.deref-2.ensures.value, c.deref-3.ensures.value) at c.are_within.ensures in
    let inside = c.self.inside in
    subst Answers c.self.view_is (λ partition below.
    is_counted-from_numbers inside.count inside.classes inside.caps.items set c.in_ok-numbers.numbers.items c.are_within.result
    partition.capped c.in_ok-numbers.ensures.rises below c.in_ok-numbers.ensures.numbers means) c.requires.sound c.requires.below
