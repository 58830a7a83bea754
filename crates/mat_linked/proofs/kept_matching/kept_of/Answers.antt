use Rattle.mat_linked.proofs.Common.{◌∙◌, ap, length, is_none, refl, subst, sym, entry_at, LeadToFree, is_held}
use Rattle.mat_flow.specs.Leading.{AreLeading}
use Rattle.mat_linked.proofs.kept_matching.kept_of.Goals as goal

pub returns : goal.returns
returns c =
    let rows = c.args.rows.now in
    let read = c.deref.result.now in
    let leading = c.in_ok-leading.leading in (
      refl,
      subst (λ m. LeadToFree rows m leading) c.deref.ensures.value
          (subst (λ n. AreLeading n (λ j. is_held rows (entry_at read j)) (λ j. is_none (entry_at read j)) leading)
          (sym (ap length c.deref.ensures.value ∙ c.requires.long)) c.in_ok-leading.ensures),
    )
