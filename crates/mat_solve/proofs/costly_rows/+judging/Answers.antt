use Rattle.mat_solve.proofs.Common.{◌≡◌, ◌∙◌, ◌||◌, Bool, true, false, leb, length, sym, ap, le-leb, lt-leb, tree_of, has_costly_rows}
use Rattle.std.specs.List.{list_any}
use Rattle.mat_solve.proofs.CostlyUnions.{costly_union}
use Rattle.mat_solve.proofs.costly_rows.+judging.Goals as goal

pub has_costly_rows-returns-in-Union : goal.has_costly_rows-returns-in-Union
has_costly_rows-returns-in-Union t c =
    let lent = c.deref-in-Union in
    c.are_many_or_costly.ensures ∙ sym (costly_union c.args.matroid.now c.in-Union.parts lent.result.now c.in-Union.is lent.ensures.value)

pub are_many_or_costly-returns-then-matroids-ge-MANY_MATROIDS : goal.are_many_or_costly-returns-then-matroids-ge-MANY_MATROIDS
are_many_or_costly-returns-then-matroids-ge-MANY_MATROIDS t c =
    let some : Bool = list_any (λ m. has_costly_rows (tree_of m)) c.args.matroids.now in
    let many : leb 16 (length c.args.matroids.now) ≡ true = le-leb 16 (length c.args.matroids.now) c.if-matroids-ge-MANY_MATROIDS.true in
    many ∙ sym (ap (λ b. b || some) many)

pub are_many_or_costly-returns-else-matroids-ge-MANY_MATROIDS : goal.are_many_or_costly-returns-else-matroids-ge-MANY_MATROIDS
are_many_or_costly-returns-else-matroids-ge-MANY_MATROIDS t c =
    let some : Bool = list_any (λ m. has_costly_rows (tree_of m)) c.args.matroids.now in
    let few : leb 16 (length c.args.matroids.now) ≡ false = lt-leb 16 (length c.args.matroids.now) c.if-matroids-ge-MANY_MATROIDS.false in
    c.some_have_costly_rows.ensures ∙ sym (ap (λ b. b || some) few)
