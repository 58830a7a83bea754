use Rattle.mat_witness.proofs.Common.{ap, subst, sym, ◌∙◌, IsSet, all_below, minus, IsSet-all_below, IsSet-minus, element_count, tree_of}
use Rattle.mat_witness.proofs.make.cut_bounds.Goals as goal

pub rank_bound-requires-clause-set : goal.rank_bound-requires-clause-set
rank_bound-requires-clause-set c =
    let n = element_count (tree_of c.args.first.now) in
    let rest = c.in_ok-rest.ensures.members
    ∙ ap (λ all. minus all c.args.cut.now) (c.in_ok-all_below.ensures.members ∙ ap all_below c.size.ensures) in
    subst (IsSet n) (sym rest) (IsSet-minus n (all_below n) c.args.cut.now (IsSet-all_below n))
