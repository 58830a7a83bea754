use Rattle.mat_check.proofs.Common.{◌≤◌, ◌<◌, ◌-◌, ◌*◌, length, subst, sym, ◌∙◌, ends_of}
use Rattle.mat_check.proofs.PartitionFailures.{crossing_found, empty_found, missed_found, none_found, overlap_found}
use Rattle.mat_check.proofs.graphs.trees.partition_failure.Goals as goal

pub returns-in-Some : goal.returns-in-Some
returns-in-Some c =
    overlap_found c.args.vertices (length c.args.edges.now) (ends_of c.args.edges.now) c.args.k c.args.classes.now
    c.in-Some.failure (sym c.overlap_failure.ensures ∙ c.in-Some.is)

pub returns-in-Some-empty_failure : goal.returns-in-Some-empty_failure
returns-in-Some-empty_failure c =
    empty_found c.args.vertices (length c.args.edges.now) (ends_of c.args.edges.now) c.args.k c.args.classes.now
    (sym c.overlap_failure.ensures ∙ c.in_default.is) c.in-Some-empty_failure.failure (sym c.empty_failure.ensures ∙ c.in-Some-empty_failure.is)

pub returns-in-Some-missed_failure : goal.returns-in-Some-missed_failure
returns-in-Some-missed_failure c =
    missed_found c.args.vertices (length c.args.edges.now) (ends_of c.args.edges.now) c.args.k c.args.classes.now
    (sym c.overlap_failure.ensures ∙ c.in_default.is) (sym c.empty_failure.ensures ∙ c.in_default-empty_failure.is)
    c.in-Some-missed_failure.failure (sym c.missed_failure.ensures ∙ c.in-Some-missed_failure.is)

pub returns-then-crossing_count-k : goal.returns-then-crossing_count-k
returns-then-crossing_count-k c =
    rw c.at.ensures (crossing_found c.args.vertices (length c.args.edges.now) (ends_of c.args.edges.now) c.args.k c.args.classes.now
    (sym c.overlap_failure.ensures ∙ c.in_default.is) (sym c.empty_failure.ensures ∙ c.in_default-empty_failure.is)
    (sym c.missed_failure.ensures ∙ c.in_default-missed_failure.is)
    (subst (λ m. c.args.k * (length c.args.classes.now - 1) ≤ m) c.crossing_count.ensures c.if-crossing_count-k.true))

pub returns : goal.returns
returns c =
    none_found c.args.vertices (length c.args.edges.now) (ends_of c.args.edges.now) c.args.k c.args.classes.now
    (sym c.overlap_failure.ensures ∙ c.in_default.is) (sym c.empty_failure.ensures ∙ c.in_default-empty_failure.is)
    (sym c.missed_failure.ensures ∙ c.in_default-missed_failure.is)
    (subst (λ m. m < c.args.k * (length c.args.classes.now - 1)) c.crossing_count.ensures c.if-crossing_count-k.false)
