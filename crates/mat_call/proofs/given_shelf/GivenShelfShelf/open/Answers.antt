use Rattle.mat_shelf.specs.Files.{held_in, left_of}
use Rattle.mat_call.proofs.ToldFiles.{missing_grows, held_told, opened_told}
use Rattle.mat_call.proofs.given_shelf.GivenShelfShelf.open.Goals as goal

pub returns-clause-held : goal.returns-clause-held
returns-clause-held c = λ other. rw (← c.self.view_is) (held_told c.self.inside.shelf.files c.open.new.self.files other (c.open.ensures.held other))

pub returns-clause-grows : goal.returns-clause-grows
returns-clause-grows c = λ other.
    rw (← c.self.view_is) (missing_grows c.self.inside.shelf.files c.open.new.self.files c.self.inside.shelf.other_faults
    c.open.new.self.other_faults other (c.open.ensures.held other) (c.open.ensures.grows other))

pub returns-clause-left : goal.returns-clause-left
returns-clause-left c =
    rw (← c.self.view_is) (opened_told c.open.result (held_in c.self.inside.shelf.files c.args.name.now) (left_of c.open.new.self.opened)
    c.open.ensures.fails c.open.ensures.left)
