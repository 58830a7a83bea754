use Rattle.mat_graphic.proofs.Common.{◌∙◌, sym, subst, arith, rules, AllBelow-member}
use Rattle.std.specs.Option.{IsSome}
use Rattle.mat_graphic.proofs.TrailTables.{entry_of, found_place}
use Rattle.mat_graphic.proofs.rooted_forest.place_of.Goals as goal

pub index-requires : goal.index-requires
index-requires c =
    let small = AllBelow-member _ _ c.args.vertex c.requires.order.below c.requires.found in omega (arith, c.args.forest.now.place.ok.0)

pub unwrap-requires : goal.unwrap-requires
unwrap-requires c =
    let small = AllBelow-member _ _ c.args.vertex c.requires.order.below c.requires.found in
    subst IsSome (sym (found_place _ _ _ _ c.requires.order c.args.vertex c.index.result.now small c.index.ensures c.requires.found).1) (search rules)

pub returns-clause-inside : goal.returns-clause-inside
returns-clause-inside c =
    let small = AllBelow-member _ _ c.args.vertex c.requires.order.below c.requires.found in
    (c.requires.order.known c.args.vertex c.unwrap.result small (entry_of _ c.args.vertex c.index.result.now small c.index.ensures
    ∙ c.unwrap.ensures)).0

pub returns-clause-here : goal.returns-clause-here
returns-clause-here c =
    let small = AllBelow-member _ _ c.args.vertex c.requires.order.below c.requires.found in
    (c.requires.order.known c.args.vertex c.unwrap.result small (entry_of _ c.args.vertex c.index.result.now small c.index.ensures
    ∙ c.unwrap.ensures)).1
