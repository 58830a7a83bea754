-- No group before this holds both.
use Rattle.mat_facts.proofs.Common.{◌≡◌, ◌&&◌, false, [], get_or, is_member, ends_of}
use Rattle.mat_sets.specs.Search.{some_below}
use Rattle.mat_facts.proofs.graphs.stays.Given as goal

abbrev pub invariant-loop-q : goal.invariant-loop-q
invariant-loop-q l =
    some_below l.q (λ q. is_member (ends_of l.edges l.e).0 (get_or l.classes q []) && is_member (ends_of l.edges l.e).1 (get_or l.classes q [])) ≡ false
