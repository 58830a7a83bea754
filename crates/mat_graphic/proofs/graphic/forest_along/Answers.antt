-- The table has the components of the set so far; an edge enters if its ends lie in two of them.
use Rattle.mat_graphic.proofs.Common.{◌≡◌, if◌then◌else◌, length, get_or, refl, ◌∙◌, subst, sym, IfOk-weaker, ends_of, with_one, AllBelow-at, IsRunning-start, IsRunning-next, IsRunning-end, least_merged, graphic_laws, IsParentTable}
use Rattle.mat_graphic.proofs.GraphicRuns.{enters_apart, table_after}
use Rattle.mat_graphic.proofs.Uniting.{table_empty}
use Rattle.mat_graphic.proofs.graphic.forest_along.Goals as goal
use Rattle.mat_graphic.proofs.graphic.forest_along.Goals.{then-unite_ends+in_ok-insert, else-unite_ends}

pub loop-x-init : goal.loop-x-init
loop-x-init c = record {
  running = IsRunning-start _ _ _ (graphic_laws (length c.args.edges.now) (ends_of c.args.edges.now)).empty c.new-set.ensures;
  descending = c.requires.descending;
  united = table_empty (ends_of c.args.edges.now) _ _ c.new-set.ensures c.requires.single;
}

pub unite_ends-requires-clause-below : goal.unite_ends-requires-clause-below
unite_ends-requires-clause-below c = AllBelow-at _ _ c.loop-x.x-index c.requires.below c.loop-x-test.true

pub loop-x-preserved : goal.loop-x-preserved
loop-x-preserved c =
    let ends = ends_of c.args.edges.now in
    let set = c.loop-x.set in
    let x = get_or c.args.order.now c.loop-x.x-index 0 in
    let apart = c.unite_ends.result in
    let small = AllBelow-at _ _ c.loop-x.x-index c.requires.below c.loop-x-test.true in
    let told = c.unite_ends.ensures.apart set c.loop-x.invariant.united in
    let after : c.if-unite_ends.set ≡ (if apart then with_one set x else set) = elim c.if-unite_ends.branch [
      | then-unite_ends+in_ok-insert w ↦ rw w.if-unite_ends.true (w.set-is ∙ w.in_ok-insert.ensures.ok)
      | else-unite_ends w ↦ rw w.if-unite_ends.false w.set-is
    ] in
    record {
      running = IsRunning-next _ _ _ c.loop-x.x-index x c.loop-x-test.true refl c.loop-x.invariant.running apart _
          (enters_apart ends set x (length c.args.edges.now) apart small c.loop-x.invariant.running.passes told) after;
      descending = c.unite_ends.ensures.descending;
      united = subst (λ Y. IsParentTable (least_merged ends Y) c.unite_ends.new.parent) (sym after)
          (table_after ends set x _ apart told (c.unite_ends.ensures.united set c.loop-x.invariant.united));
    }

pub returns : goal.returns
returns c =
    IfOk-weaker c.from_bits.result _ _ (λ set members. members ∙ IsRunning-end _ _ _ c.loop-x.x-index c.loop-x-test.false c.loop-x.invariant.running)
    c.from_bits.ensures.members
