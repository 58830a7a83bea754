-- For the members so far the larger of the set and of the one named before is named; all other entries are as before.
use Rattle.mat_witness.proofs.Common.{◌<◌, ◌+◌, Some, [], length, get_or, take, refl, sym, ◌∙◌, subst, All-set, IfSome, AllBelow-at, AreLargerNamed, AreListed}
use Rattle.mat_witness.proofs.NamedSets.{larger_found, larger_passed, listed_below}
use Rattle.mat_witness.proofs.parts.counted.name_larger.Goals as goal
use Rattle.mat_witness.proofs.parts.counted.name_larger.Goals.{then-outgrows, else-outgrows}

pub slice_copy_out-outgrows : goal.slice_copy_out-outgrows
slice_copy_out-outgrows c =
    rw c.loop-x.invariant.long
    (listed_below (c.as_slice-x-items.ensures.items ∙ c.get-set.ensures.item) c.requires.inside c.loop-x-test.true)

pub bounds-named-x : goal.bounds-named-x
bounds-named-x c =
    rw c.loop-x.invariant.long
    (listed_below (c.as_slice-x-items.ensures.items ∙ c.get-set.ensures.item) c.requires.inside c.loop-x-test.true)

pub loop-x-preserved : goal.loop-x-preserved
loop-x-preserved c =
    let sets = c.args.sets.now in
    let place = c.args.place in
    let before = c.args.named.now in
    let table = c.loop-x.named in
    let i = c.loop-x.x-index in
    let S = get_or sets place [] in
    let items = c.as_slice-x-items.ensures.items ∙ c.get-set.ensures.item in
    let inside = rw items at c.loop-x-test.true in
    let small : get_or S i 0 < length table =
    rw c.loop-x.invariant.long (AllBelow-at (length before) S i c.requires.inside inside) in
    let asked = rw (items, c.get-set.ensures.item) at c.outgrows.ensures in
    let rises = c.get-set.ensures.rises in
    elim c.if-outgrows.branch [
      | then-outgrows w ↦ (
          let is = rw items at w.named-is in
          record {
            long = c.if-outgrows.auto.named ∙ c.loop-x.invariant.long;
            listed = subst (AreListed sets) (sym is)
                (All-set (λ entry. IfSome entry (λ k. k < length sets)) table (get_or S i 0) (Some place) c.requires.place c.loop-x.invariant.listed);
            entries = subst (AreLargerNamed sets place (take (i + 1) S) before) (sym is)
                (larger_found sets place S i before table rises inside refl small (sym asked ∙ w.if-outgrows.true) c.loop-x.invariant.entries);
          })
      | else-outgrows w ↦ record {
        long = c.if-outgrows.auto.named ∙ c.loop-x.invariant.long;
        listed = subst (AreListed sets) (sym w.named-is) c.loop-x.invariant.listed;
        entries = subst (AreLargerNamed sets place (take (i + 1) S) before) (sym w.named-is)
            (larger_passed sets place S i before table rises inside refl (sym asked ∙ w.if-outgrows.false) c.loop-x.invariant.entries);
      }
    ]
