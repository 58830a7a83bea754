use Rattle.mat_fronts.proofs.Common.{◌∙◌, ◌-◌, ℕ, ap, length, subst, sym, arith, AllBelow}
use Rattle.mat_graphic.specs.declared.graphic.Graphic.{Graphic}
use Rattle.mat_fronts.proofs.Ladders.{rainbow_made, missing_of_ladder}
use Rattle.mat_fronts.proofs.rainbow_search.rainbow.Goals as goal

pub returns-then-len-vertices : goal.returns-then-len-vertices
returns-then-len-vertices c = record {
  ladder = rainbow_made c.args.edges.now c.in_ok-graphic.graphic.edges c.args.colours c.args.colour_of.now c.args.weights.now
      c.in_ok-ladder.ladder.rungs.items c.in_ok-ladder.ladder.cut c.in_ok-classes.classes
      (ap (λ (g : Graphic). g.edges) c.in_ok-graphic.ensures.value ∙ c.in_ok-copy.ensures) c.requires.colouring.long c.in_ok-classes.ensures.value
      c.in_ok-ladder.ensures;
  missing_colours = omega (arith, c.len.ensures, c.if-len-vertices.true, c.in_ok-ladder.ladder.rungs.ok);
}

pub colours_on-requires : goal.colours_on-requires
colours_on-requires c =
    let rungs = c.in_ok-ladder.ladder.rungs in
    let l = c.in_ok-ladder.ensures in
    let cut = (l.last (length rungs.items - 1) (omega (arith, l.some))).set.below in
    subst (λ (n : ℕ). AllBelow n c.in_ok-ladder.ladder.cut) (ap length (ap (λ (g : Graphic). g.edges) c.in_ok-graphic.ensures.value ∙ c.in_ok-copy.ensures) ∙ sym c.requires.colouring.long) cut

pub returns : goal.returns
returns c =
    let rungs = c.in_ok-ladder.ladder.rungs in
    let ladder = rainbow_made c.args.edges.now c.in_ok-graphic.graphic.edges c.args.colours c.args.colour_of.now c.args.weights.now
    rungs.items c.in_ok-ladder.ladder.cut c.in_ok-classes.classes
    (ap (λ (g : Graphic). g.edges) c.in_ok-graphic.ensures.value ∙ c.in_ok-copy.ensures) c.requires.colouring.long c.in_ok-classes.ensures.value
    c.in_ok-ladder.ensures in
    record {
      ladder = ladder;
      missing_colours = missing_of_ladder c.args.vertices c.args.edges.now c.args.colours c.args.colour_of.now c.requires.graph
          c.requires.colouring (omega (arith, c.requires.vertices.0)) c.args.weights.now rungs.items c.in_ok-ladder.ladder.cut ladder
          c.in_ok-missing.missing c.in_ok-missing.ensures.colours c.in_ok-missing.ensures.rises
          (λ same. c.if-len-vertices.false (omega (arith, c.len.ensures, same, rungs.ok)));
    }
