use Rattle.mat_graphic.proofs.Common.{length, ends_of, AreEntering, is_graphic}
use Rattle.mat_graphic.proofs.graphic.GraphicMatroid.columns.Given as goal

abbrev pub invariant-loop-x : goal.invariant-loop-x
invariant-loop-x l = AreEntering (length l.self.edges) (is_graphic (length l.self.edges) (ends_of l.self.edges)) l.base l.x l.columns
