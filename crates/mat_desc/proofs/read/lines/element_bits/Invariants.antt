use Rattle.mat_desc.proofs.Common.{◌≡◌, [], length, elements_from, elements_at, naming, parts_left, words_left}
use Rattle.mat_desc.proofs.read.lines.element_bits.Given as goal

abbrev pub invariant-loop-rest : goal.invariant-loop-rest
invariant-loop-rest l = elements_from (naming l.names) l.count l.rest.line l.set l.set (parts_left l.rest.left)
    ≡ elements_at (naming l.names) l.count [] (words_left l.fn.words)

abbrev pub decreases-loop-rest : goal.decreases-loop-rest
decreases-loop-rest l = length (parts_left l.rest.left)
