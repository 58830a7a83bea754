use Rattle.mat_linked.proofs.Common.{◌∙◌, ap, length, subst, sym, IfOk-weaker, minus, IsMatching, LeadToFree}
use Rattle.mat_linked.proofs.GrownSets.{minus-minus}
use Rattle.mat_linked.proofs.KeptRows.{IsMatching-any_rows, LeadToFree-any_rows}
use Rattle.mat_linked.proofs.MatchableSets.{element_below}
use Rattle.mat_linked.proofs.kept_matching.KeptMatching.next.Goals as goal

pub matched_with_new-requires-clause-long : goal.matched_with_new-requires-clause-long
matched_with_new-requires-clause-long c = c.in_ok-common.ensures.long ∙ ap length c.deref.ensures.value ∙ c.requires.long

pub matched_with_new-requires-clause-matching : goal.matched_with_new-requires-clause-matching
matched_with_new-requires-clause-matching c =
    let rows = c.args.rows.now in
    let base = c.args.base.now in
    subst (λ X. IsMatching rows X c.in_ok-common.common.items)
    (ap (minus base) c.in_ok-gone.ensures.members ∙ minus-minus base c.args.next.now c.in_ok-gone.ensures.rises)
    (c.in_ok-common.ensures.matching rows base (subst (IsMatching rows base) (sym c.deref.ensures.value) c.requires.matching))

pub kept_of-requires-clause-below : goal.kept_of-requires-clause-below
kept_of-requires-clause-below c = element_below c.args.rows.now c.args.next.now c.in_ok-matched.matched.items c.in_ok-matched.ensures.matching

pub returns : goal.returns
returns c =
    let rows = c.args.rows.now in
    let X = c.args.next.now in
    let table = c.in_ok-matched.matched.items in
    let t = c.in_ok-matched.ensures.matching in
    IfOk-weaker c.kept_of.result _ _ (λ kept both family size r. record {
      long = ap length both.0 ∙ c.in_ok-matched.ensures.long ∙ sym size;
      matching = λ others s. subst (IsMatching others X) (sym both.0) (IsMatching-any_rows (length rows) family rows others X table c.requires.below r s t);
      leading = λ others s. subst (λ m. LeadToFree others m kept.leading) (sym both.0)
          (LeadToFree-any_rows (length rows) family rows others X table kept.leading c.requires.below r s t both.1);
    }) c.kept_of.ensures
