use Rattle.std.proofs.Common.{arith, sym, ap, ◌∙◌, slice_set}
use Rattle.mat_shelf.specs.Files.{FileState}
use Rattle.mat_shelf.proofs.FileLemmas.{fault_at, fault_of_other}
use Rattle.mat_shelf.proofs.named_file.count_fault.Goals as goal

pub returns-in-Some-clause-files : goal.returns-in-Some-clause-files
returns-in-Some-clause-files c =
    let fault = fault_at c.args.files.now.items c.deref.result.now c.args.other.now c.args.name.now c.place_of.result c.in-Some.place c.index_mut-file.result.now c.deref.ensures.value c.place_of.ensures c.in-Some.is c.index_mut-file.ensures.value in
    ap (λ (f : FileState). slice_set c.args.files.now.items c.in-Some.place f) c.count_fault.ensures.raised ∙ sym fault.files_after

pub returns-in-Some-clause-other : goal.returns-in-Some-clause-other
returns-in-Some-clause-other c =
    let fault = fault_at c.args.files.now.items c.deref.result.now c.args.other.now c.args.name.now c.place_of.result c.in-Some.place c.index_mut-file.result.now c.deref.ensures.value c.place_of.ensures c.in-Some.is c.index_mut-file.ensures.value in
    sym fault.other_after

pub returns-in-Some-clause-fits : goal.returns-in-Some-clause-fits
returns-in-Some-clause-fits c =
    let fault = fault_at c.args.files.now.items c.deref.result.now c.args.other.now c.args.name.now c.place_of.result c.in-Some.place c.index_mut-file.result.now c.deref.ensures.value c.place_of.ensures c.in-Some.is c.index_mut-file.ensures.value in
    rw fault.count c.count_fault.ensures.fits

pub returns-in-None-clause-files : goal.returns-in-None-clause-files
returns-in-None-clause-files c =
    let fault = fault_of_other c.args.files.now.items c.deref.result.now c.args.other.now c.args.name.now c.place_of.result c.deref.ensures.value c.place_of.ensures c.in-None.is in
    sym fault.files_after

pub returns-in-None-clause-other : goal.returns-in-None-clause-other
returns-in-None-clause-other c =
    let fault = fault_of_other c.args.files.now.items c.deref.result.now c.args.other.now c.args.name.now c.place_of.result c.deref.ensures.value c.place_of.ensures c.in-None.is in
    rw fault.other_after c.saturating_add.ensures

pub returns-in-None-clause-fits : goal.returns-in-None-clause-fits
returns-in-None-clause-fits c =
    let fault = fault_of_other c.args.files.now.items c.deref.result.now c.args.other.now c.args.name.now c.place_of.result c.deref.ensures.value c.place_of.ensures c.in-None.is in
    rw fault.count (omega arith)
