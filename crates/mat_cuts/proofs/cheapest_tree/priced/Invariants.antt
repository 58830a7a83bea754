use Rattle.mat_cuts.proofs.Common.{◌*◌, ◌+◌, ◌≤◌, length}
use Rattle.mat_cuts.proofs.Searching.{IsSearching}
use Rattle.mat_cuts.proofs.cheapest_tree.priced.Given as goal

abbrev pub invariant-search : goal.invariant-search
invariant-search l = record {
  searching : IsSearching l.vertices l.arcs l.costs l.root l.raised.reduced.items l.raised.since.items l.raised.cuts.items l.path.place.items l.path.fresh l.path.last;
  spare : 2 * length l.path.fresh + l.path.last + length l.raised.cuts.items + 1 ≤ 2 * l.vertices;
}

abbrev pub decreases-search : goal.decreases-search
decreases-search l = 2 * length l.path.fresh + l.path.last
