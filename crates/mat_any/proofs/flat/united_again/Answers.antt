use Rattle.mat_any.proofs.Common.{subst, sym, IsUnited, tree_of}
use Rattle.mat_any.proofs.PartLists.{united_joined}
use Rattle.mat_any.proofs.flat.united_again.Goals as goal

pub union_of-requires : goal.union_of-requires
union_of-requires c =
    let united : IsUnited (tree_of c.args.matroid.now) c.in_ok-parts.parts.items = record { flat = c.requires.flat; trees = c.in_ok-parts.ensures } in
    united_joined united

pub returns : goal.returns
returns c =
    let united : IsUnited (tree_of c.args.matroid.now) c.in_ok-parts.parts.items = record { flat = c.requires.flat; trees = c.in_ok-parts.ensures } in
    subst (λ (u : _). IsUnited (tree_of c.args.matroid.now) u) (sym c.union_of.ensures) united
