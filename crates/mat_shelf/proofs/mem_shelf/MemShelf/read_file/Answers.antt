use Rattle.std.proofs.Common.{◌≡◌, ◌<◌, Some, length, drop, refl, arith}
use Rattle.mat_shelf.specs.Files.{open_at, left_of}
use Rattle.mat_shelf.proofs.FileLemmas.{open_at-files_with_fault}
use Rattle.mat_shelf.proofs.ShelfLemmas.{open_place_inside, left_of-open_at}
use Rattle.mat_shelf.proofs.mem_shelf.MemShelf.read_file.Goals as goal

pub returns-then-contains-clause-err : goal.returns-then-contains-clause-err
returns-then-contains-clause-err c =
    rw (← c.self.view_is, c.count_fault.ensures.files, c.count_fault.ensures.other, open_at-files_with_fault c.self.inside.files.items c.args.name.now c.self.inside.place c.self.inside.from, c.saturating_add-self-inside.ensures) refl

pub index-file-requires : goal.index-file-requires
index-file-requires c =
    omega (arith, open_place_inside c.self.inside.files.items c.in-Some.place c.self.inside.from c.args.name.now (rw (← c.self.view_is, c.in-Some.is) at c.requires))

pub returns-clause-count : goal.returns-clause-count
returns-clause-count c =
    let inside : c.in-Some.place < length c.self.inside.files.items = open_place_inside c.self.inside.files.items c.in-Some.place c.self.inside.from c.args.name.now (rw (← c.self.view_is, c.in-Some.is) at c.requires) in
    let left : left_of (open_at c.self.inside.files.items c.self.inside.place c.self.inside.from) ≡ Some (drop c.self.inside.from c.bytes.result.now) = left_of-open_at c.self.inside.files.items c.self.inside.place c.in-Some.place c.self.inside.from c.index-file.result.now c.bytes.result.now c.in-Some.is inside c.index-file.ensures c.bytes.ensures in
    rw (← c.self.view_is, left) c.copy_from-count.ensures.count

pub returns-clause-given : goal.returns-clause-given
returns-clause-given c =
    let inside : c.in-Some.place < length c.self.inside.files.items = open_place_inside c.self.inside.files.items c.in-Some.place c.self.inside.from c.args.name.now (rw (← c.self.view_is, c.in-Some.is) at c.requires) in
    let left : left_of (open_at c.self.inside.files.items c.self.inside.place c.self.inside.from) ≡ Some (drop c.self.inside.from c.bytes.result.now) = left_of-open_at c.self.inside.files.items c.self.inside.place c.in-Some.place c.self.inside.from c.index-file.result.now c.bytes.result.now c.in-Some.is inside c.index-file.ensures c.bytes.ensures in
    rw (← c.self.view_is, left) c.copy_from-count.ensures.copied
