-- A set that the marked elements fill is named for its members; any other set leaves the names as they are.
use Rattle.mat_witness.proofs.Common.{rules, ◌≡◌, ◌+◌, None, length, replicate, ap, ◌∙◌, sym, subst, length-replicate, written_back, AreListed, AreLargestNamed}
use Rattle.mat_witness.proofs.NamedSets.{AreListed-none, AreLargestNamed-none, largest_met, largest_passed}
use Rattle.mat_witness.proofs.parts.counted.largest_sets.Goals as goal
use Rattle.mat_witness.proofs.parts.counted.largest_sets.Goals.{then-count_marked-caps, else-count_marked-caps}

pub loop-place-init : goal.loop-place-init
loop-place-init c =
    let sets = c.args.sets.now in
    let count = c.args.count in
    let none : c.in_ok-named.named.items ≡ replicate count None = c.in_ok-named.ensures.items_if_clones_equal (λ y h. search rules) in
    record {
      long = ap length none ∙ length-replicate count None;
      listed = subst (AreListed sets) (sym none) (AreListed-none sets count);
      named = subst (AreLargestNamed sets c.args.caps.now c.args.marks.now 0 count) (sym none)
          (AreLargestNamed-none sets c.args.caps.now c.args.marks.now count);
    }

pub loop-place-preserved : goal.loop-place-preserved
loop-place-preserved c =
    let sets = c.args.sets.now in
    let caps = c.args.caps.now in
    let marks = c.args.marks.now in
    let i = c.loop-place.place in
    let count = c.args.count in
    let table = c.loop-place.named.items in
    let counted = rw c.get.ensures.item at c.count_marked.ensures in
    elim c.if-count_marked-caps.branch [
      | then-count_marked-caps w ↦ (
          let new = w.name_larger.new.named in
          let items : c.if-count_marked-caps.named.items ≡ new = ap (λ v. v.items) w.named-is
          ∙ written_back c.loop-place.named.len new table (w.name_larger.ensures.long ∙ w.deref_mut.ensures.len) in
          record {
            long = ap length items ∙ w.name_larger.ensures.long ∙ ap length w.deref_mut.ensures.value ∙ c.loop-place.invariant.long;
            listed = subst (AreListed sets) (sym items) w.name_larger.ensures.listed;
            named = subst (AreLargestNamed sets caps marks (i + 1) count) (sym items)
                (largest_met sets caps marks i count c.count_marked.result table new c.requires.marks c.get.ensures.rises counted
                w.if-count_marked-caps.true c.loop-place.invariant.long (rw w.deref_mut.ensures.value at w.name_larger.ensures.entries)
                c.loop-place.invariant.named);
          })
      | else-count_marked-caps w ↦ (
          let items : c.if-count_marked-caps.named.items ≡ table = ap (λ v. v.items) w.named-is in
          record {
            long = ap length items ∙ c.loop-place.invariant.long;
            listed = subst (AreListed sets) (sym items) c.loop-place.invariant.listed;
            named = subst (AreLargestNamed sets caps marks (i + 1) count) (sym items)
                (largest_passed sets caps marks i count c.count_marked.result table c.requires.marks c.get.ensures.rises counted
                w.if-count_marked-caps.false c.loop-place.invariant.named);
          })
    ]
