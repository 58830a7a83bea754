-- An edge between two trees enters all columns; one within a tree enters those of the trail between its ends.
use Rattle.mat_graphic.proofs.Common.{◌∙◌, length, subst, sym, on_ok_weaker, ends_of, AllBelow, graphic_laws}
use Rattle.mat_graphic.proofs.EnteredTrails.{all_entered, trail_entered}
use Rattle.mat_graphic.proofs.graphic.Graphic.enter_exchanges.Goals as goal

pub enter_trail-requires-clause-order : goal.enter_trail-requires-clause-order
enter_trail-requires-clause-order c = c.requires.kept.ordered

pub enter_trail-requires-clause-from : goal.enter_trail-requires-clause-from
enter_trail-requires-clause-from c = c.requires.kept.found _ (rw c.get-first.ensures (c.requires.sound.second c.args.x c.requires.below))

pub enter_trail-requires-clause-to : goal.enter_trail-requires-clause-to
enter_trail-requires-clause-to c = c.requires.kept.found _ (rw c.get-first.ensures (c.requires.sound.first c.args.x c.requires.below))

pub enter_trail-requires-clause-tree : goal.enter_trail-requires-clause-tree
enter_trail-requires-clause-tree c =
    let edges = c.args.self.now.edges in
    let base = c.args.base.now in
    let set = (graphic_laws (length edges) (ends_of edges)).sets base c.requires.base in
    (ends_of edges, base, c.requires.kept.tree, subst (λ n. AllBelow n base) (sym c.requires.long) set.below)

pub returns-then-joined : goal.returns-then-joined
returns-then-joined c =
    let edges = c.args.self.now.edges in
    let told = rw (c.if-joined.true, c.get-first.ensures) at (c.in_ok-joined.ensures (ends_of edges) c.args.base.now c.requires.kept.tree) in
    trail_entered (length edges) (ends_of edges) c.args.base.now c.args.x c.requires.below c.requires.base c.requires.outside _ _ told

pub insert_each-requires : goal.insert_each-requires
insert_each-requires c =
    let edges = c.args.self.now.edges in
    let base = c.args.base.now in
    let told = c.in_ok-joined.ensures (ends_of edges) base c.requires.kept.tree in
    let set = (graphic_laws (length edges) (ends_of edges)).sets base c.requires.base in
    rw c.as_slice.ensures.items (subst (λ n. AllBelow n base) (sym (told.entered.count ∙ c.requires.long)) set.below)

pub returns : goal.returns
returns c =
    let edges = c.args.self.now.edges in
    let told = rw (c.if-joined.false, c.get-first.ensures) at (c.in_ok-joined.ensures (ends_of edges) c.args.base.now c.requires.kept.tree) in
    on_ok_weaker c.insert_each.result (λ entered. all_entered (length edges) (ends_of edges) c.args.base.now c.args.x c.requires.below c.requires.base
    c.requires.outside _ _ _ _ told c.as_slice.ensures.items entered) c.insert_each.ensures
