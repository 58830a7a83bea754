use Rattle.mat_any.proofs.Common.{◌<◌, ◌^◌, length, arith, subst, sym, trees_in, IsUnited, tree_of}
use Rattle.mat_any.proofs.PartLists.{united_from, united_joined}
use Rattle.mat_any.proofs.flat.united_parts.Goals as goal

pub union_of-requires : goal.union_of-requires
union_of-requires c =
    let items = c.in_ok-parts.parts.items in
    let few : length items < 2 ^ 32 = omega (arith, c.len.ensures, c.if-len-gt-MOST_MATROIDS.false) in
    let united = united_from (tree_of c.args.matroid.now) (trees_in c.args.matroids.now) c.requires.node items c.requires.sound c.in_ok-parts.ensures few in
    united_joined united

pub returns : goal.returns
returns c =
    let items = c.in_ok-parts.parts.items in
    let few : length items < 2 ^ 32 = omega (arith, c.len.ensures, c.if-len-gt-MOST_MATROIDS.false) in
    let united = united_from (tree_of c.args.matroid.now) (trees_in c.args.matroids.now) c.requires.node items c.requires.sound c.in_ok-parts.ensures few in
    subst (λ (u : _). IsUnited (tree_of c.args.matroid.now) u) (sym c.union_of.ensures) united
