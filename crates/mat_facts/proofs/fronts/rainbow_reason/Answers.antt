use Rattle.mat_facts.proofs.Common.{◌∙◌, ◌++◌, ℕ, List, ap, get_or, length, subst, sym, ends_of, is_graphic, is_once, colours_facts, ladder_facts, Fact}
use Rattle.mat_sets.specs.Sets.{AllBelow}
use Rattle.mat_count.specs.Partitions.{CappedClasses}
use Rattle.mat_count.proofs.LabelledMatroids.{test_of}
use Rattle.mat_graphic.specs.declared.graphic.Graphic.{Graphic}
use Rattle.mat_facts.specs.Views.{is_told}
use Rattle.mat_facts.proofs.RangedAnswers.{all_share, few_rungs}
use Rattle.mat_facts.proofs.fronts.rainbow_reason.Goals as goal

pub ladder_reason-requires-clause-below : goal.ladder_reason-requires-clause-below
ladder_reason-requires-clause-below c κs =
    subst (λ n. AllBelow n c.args.cut.now) (sym (ap (λ (m : CappedClasses). m.count) c.in_ok-classes.ensures.value ∙ c.requires.long))
    c.requires.ranged.1.below

pub ladder_reason-requires-clause-small : goal.ladder_reason-requires-clause-small
ladder_reason-requires-clause-small c κs = few_rungs (length c.args.edges.now) c.args.rungs.now c.requires.ranged.0

pub ladder_reason-requires-clause-shares : goal.ladder_reason-requires-clause-shares
ladder_reason-requires-clause-shares c κs = all_share (length c.args.edges.now) c.args.rungs.now c.requires.ranged.0

pub put_colours-requires-clause-long : goal.put_colours-requires-clause-long
put_colours-requires-clause-long c =
    let edges = ap (λ (m : Graphic). m.edges) c.in_ok-graph.ensures.value ∙ c.in_ok-copy.ensures in
    c.requires.long ∙ sym (ap length edges)

pub returns : goal.returns
returns c =
    let g = c.in_ok-graph.graph in
    let es = c.args.edges.now in
    let colour = λ (e : ℕ). get_or c.args.colour_of.now e 0 in
    let told = is_told c.args.told in
    let rungs = c.args.rungs.now in
    let cut = c.args.cut.now in
    let missing = c.args.missing.now in
    let once = is_once (length es) c.args.colours colour in
    let vertices = ap (λ (m : Graphic). m.vertices) c.in_ok-graph.ensures.value in
    let edges = ap (λ (m : Graphic). m.edges) c.in_ok-graph.ensures.value ∙ c.in_ok-copy.ensures in
    let classes = ap test_of c.in_ok-classes.ensures.value ∙ ap (λ (n : ℕ). is_once n c.args.colours colour) c.requires.long in
    c.in_ok-put_colours.ensures
    ∙ ap (λ (L : List Fact). L ++ colours_facts g.vertices (length g.edges) (ends_of g.edges) colour missing)
    (c.in_ok-facts.ensures ∙ ap (λ t. ladder_facts told (length g.edges) (is_graphic (length g.edges) (ends_of g.edges)) t rungs cut) classes)
    ∙ ap (λ (xs : List (ℕ × ℕ)). ladder_facts told (length xs) (is_graphic (length xs) (ends_of xs)) once rungs cut
    ++ colours_facts g.vertices (length xs) (ends_of xs) colour missing) edges
    ∙ ap (λ (v : ℕ). ladder_facts told (length es) (is_graphic (length es) (ends_of es)) once rungs cut
    ++ colours_facts v (length es) (ends_of es) colour missing) vertices
