-- Each of the lists so far is a path from a source.
use Rattle.mat_witness.proofs.Common.{◌≡◌, ℕ, List, length, true, take, AreArcRows}
use Rattle.std.specs.List.{list_all}
use Rattle.mat_witness.proofs.PathParts.{is_source_path}
use Rattle.mat_witness.proofs.parts.gammoids.paths.are_from_sources.Given as goal

abbrev pub invariant-loop-path : goal.invariant-loop-path
invariant-loop-path l = (arcs : List (ℕ × ℕ)) → AreArcRows (length l.rows) arcs l.rows
    → list_all (is_source_path arcs l.sources) (take l.path-index l.lists) ≡ true
