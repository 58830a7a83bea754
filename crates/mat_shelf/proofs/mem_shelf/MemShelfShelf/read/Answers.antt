use Rattle.mat_shelf.proofs.ShelfLemmas.{held_in-after_read, count_in-after_read, rose-after_read}
use Rattle.mat_shelf.proofs.mem_shelf.MemShelfShelf.read.Goals as goal

pub returns-clause-held : goal.returns-clause-held
returns-clause-held c = λ other. held_in-after_read c.read_file.result c.args.self.now c.read_file.new.self c.args.name.now other c.read_file.ensures.ok c.read_file.ensures.err

pub returns-clause-grows : goal.returns-clause-grows
returns-clause-grows c = λ other. count_in-after_read c.read_file.result c.args.self.now c.read_file.new.self c.args.name.now other c.read_file.ensures.ok c.read_file.ensures.err c.read_file.ensures.fits

pub returns-clause-cause : goal.returns-clause-cause
returns-clause-cause c = rose-after_read c.read_file.result c.args.self.now c.read_file.new.self c.args.name.now c.read_file.ensures.err c.read_file.ensures.fits
