use Rattle.std.proofs.Common.{refl}
use Rattle.mat_shelf.proofs.ShelfLemmas.{bytes_at-place}
use Rattle.mat_shelf.proofs.sure_shelf.SureShelfShelf.open.Goals as goal

pub returns-clause-after : goal.returns-clause-after
returns-clause-after c =
    rw (← c.self.view_is, bytes_at-place c.self.inside.files.items c.deref.result.now c.self.inside.other.items c.args.name.now c.place_of-self-inside.result c.deref.ensures.value c.place_of-self-inside.ensures) refl

pub returns-clause-left : goal.returns-clause-left
returns-clause-left c =
    rw (← c.self.view_is, bytes_at-place c.self.inside.files.items c.deref.result.now c.self.inside.other.items c.args.name.now c.place_of-self-inside.result c.deref.ensures.value c.place_of-self-inside.ensures) refl
