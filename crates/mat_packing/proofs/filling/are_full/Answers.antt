use Rattle.mat_packing.proofs.Common.{◌∙◌, ap, arith, inl, inr, length, sym, cases_eq, part_at}
use Rattle.mat_packing.proofs.filling.are_full.Goals as goal

pub loop-i-preserved : goal.loop-i-preserved
loop-i-preserved c = λ j l. elim (cases_eq j c.loop-i.i) [
  | inl e ↦ ap (λ k. length (part_at c.args.sets.now k)) e ∙ sym (ap length c.get.ensures.item) ∙ sym c.len.ensures.count ∙ c.if-len-size.false
  | inr d ↦ c.loop-i.invariant j (omega arith)
]
