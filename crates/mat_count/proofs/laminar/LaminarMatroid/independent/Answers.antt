use Rattle.mat_count.proofs.Common.{◌≡◌, subst, AllBelow, is_counted, CappedSets, IsLaminar}
use Rattle.mat_count.proofs.ClassTables.{is_counted-from_numbers}
use Rattle.mat_count.proofs.laminar.LaminarMatroid.independent.Goals as goal

pub returns : goal.returns
returns c =
    let set = c.args.set.now in
    let Answers : CappedSets → Type 0 = λ m. IsLaminar m.count m.sets m.caps → AllBelow m.count set
    → c.are_within.result ≡ is_counted m.count m.sets m.caps set in
    let means = rw (c.deref.ensures.value, c.deref-2.ensures.value) at c.are_within.ensures in
    subst Answers c.self.view_is (λ laminar below.
    is_counted-from_numbers c.self.inside.count c.self.inside.sets c.self.inside.caps.items set c.in_ok-numbers.numbers.items c.are_within.result
    laminar.capped c.in_ok-numbers.ensures.rises below c.in_ok-numbers.ensures.numbers means) c.requires.sound c.requires.below
