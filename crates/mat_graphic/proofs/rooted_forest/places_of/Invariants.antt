use Rattle.mat_graphic.proofs.Common.{◌≡◌, length, ArePlaces}
use Rattle.mat_graphic.proofs.rooted_forest.places_of.Given as goal

abbrev pub invariant-loop-i : goal.invariant-loop-i
invariant-loop-i l = record { long : length l.first.items ≡ l.vertices; places : ArePlaces l.list l.i l.first.items l.next.items }
