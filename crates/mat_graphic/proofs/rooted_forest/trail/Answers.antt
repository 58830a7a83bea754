use Rattle.mat_graphic.proofs.rooted_forest.trail.Goals as goal

pub returns-clause-trail : goal.returns-clause-trail
returns-clause-trail c = rw (c.place_of.ensures.here, c.place_of-2.ensures.here) at c.climb.ensures.trail
