use Rattle.mat_shelf.proofs.ShelfLemmas.{held_in-after_open, count_in-after_open, rose-after_open}
use Rattle.mat_shelf.proofs.mem_shelf.MemShelfShelf.open.Goals as goal

pub returns-clause-held : goal.returns-clause-held
returns-clause-held c = λ other. held_in-after_open c.open_file.result c.args.self.now c.open_file.new.self c.args.name.now other c.open_file.ensures.ok c.open_file.ensures.err

pub returns-clause-grows : goal.returns-clause-grows
returns-clause-grows c = λ other. count_in-after_open c.open_file.result c.args.self.now c.open_file.new.self c.args.name.now other c.open_file.ensures.ok c.open_file.ensures.err c.open_file.ensures.fits

pub returns-clause-cause : goal.returns-clause-cause
returns-clause-cause c = rose-after_open c.open_file.result c.args.self.now c.open_file.new.self c.args.name.now c.open_file.ensures.err c.open_file.ensures.fits
