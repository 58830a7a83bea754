use Rattle.mat_graphic.proofs.Common.{sym}
use Rattle.mat_graphic.proofs.graphic.GraphicMatroid.keep.Goals as goal

pub root_trees-requires-clause-graph : goal.root_trees-requires-clause-graph
root_trees-requires-clause-graph c = rw c.as_slice.ensures c.requires.sound

pub root_trees-requires-clause-below : goal.root_trees-requires-clause-below
root_trees-requires-clause-below c = rw c.as_slice.ensures (c.lawful.ensures.sets c.args.base.now c.requires.base).below

pub returns : goal.returns
returns c = rw (sym c.as_slice.ensures) c.root_trees.ensures
