use Rattle.mat_graphic.proofs.rooted_forest.enter_trail.Goals as goal

pub enter_climb-requires-clause-tree : goal.enter_climb-requires-clause-tree
enter_climb-requires-clause-tree c = c.requires.tree

pub returns : goal.returns
returns c = rw (c.place_of.ensures.here, c.place_of-2.ensures.here) at c.enter_climb.ensures
