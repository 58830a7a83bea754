use Rattle.mat_judge.proofs.Common.{◌≡◌, ◌≤◌, ◌+◌, ◌-◌, ℕ, List, vec_len, HasLeft}
use Rattle.mat_judge.proofs.reading.read_all.Given as goal

abbrev pub invariant-loop-bytes : goal.invariant-loop-bytes
invariant-loop-bytes g l = record {
  held : (other : List ℕ) → g.F.Shelf.held l.files other ≡ g.F.Shelf.held l.fn.files other;
  grows : (other : List ℕ) → g.F.Shelf.faults l.fn.files other ≤ g.F.Shelf.faults l.files other;
  reading : g.F.Shelf.reading l.files l.name;
  left : HasLeft (g.F.Shelf.held l.fn.files l.name) l.bytes.items (g.F.Shelf.left l.files);
  within : vec_len l.bytes ≤ l.limit + 1;
  room : vec_len l.buffer ≡ 65536;
}

abbrev pub decreases-loop-bytes : goal.decreases-loop-bytes
decreases-loop-bytes g l = l.limit + 1 - vec_len l.bytes
