use Rattle.mat_linked.proofs.Common.{◌≡◌, ◌∙◌, ap, length, None, replicate, rules, subst, sym, length-replicate, IfOk-weaker, LeadToFree, IsMatching}
use Rattle.mat_linked.proofs.KeptRows.{IsMatching-any_rows, LeadToFree-any_rows}
use Rattle.mat_linked.proofs.MatchableSets.{element_below}
use Rattle.mat_linked.proofs.NewMatches.{IsMatching-none_common}
use Rattle.mat_linked.proofs.kept_matching.KeptMatching.new.Goals as goal

pub matched_with_new-requires-clause-long : goal.matched_with_new-requires-clause-long
matched_with_new-requires-clause-long c =
    let empty : c.in_ok-empty.empty.items ≡ replicate c.args.sets None = search rules in
    ap length empty ∙ length-replicate c.args.sets None

pub matched_with_new-requires-clause-matching : goal.matched_with_new-requires-clause-matching
matched_with_new-requires-clause-matching c =
    let empty : c.in_ok-empty.empty.items ≡ replicate c.args.sets None = search rules in
    IsMatching-none_common c.args.rows.now c.args.sets c.in_ok-empty.empty.items c.new.result c.args.base.now c.new.ensures.members empty

pub kept_of-requires-clause-below : goal.kept_of-requires-clause-below
kept_of-requires-clause-below c = element_below c.args.rows.now c.args.base.now c.in_ok-matched.matched.items c.in_ok-matched.ensures.matching

pub returns : goal.returns
returns c =
    let rows = c.args.rows.now in
    let X = c.args.base.now in
    let table = c.in_ok-matched.matched.items in
    let t = c.in_ok-matched.ensures.matching in
    IfOk-weaker c.kept_of.result _ _ (λ kept both family size r. record {
      long = ap length both.0 ∙ c.in_ok-matched.ensures.long ∙ sym size;
      matching = λ others s. subst (IsMatching others X) (sym both.0) (IsMatching-any_rows (length rows) family rows others X table c.requires.below r s t);
      leading = λ others s. subst (λ m. LeadToFree others m kept.leading) (sym both.0)
          (LeadToFree-any_rows (length rows) family rows others X table kept.leading c.requires.below r s t both.1);
    }) c.kept_of.ensures
