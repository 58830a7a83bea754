use Rattle.std.proofs.Common.{refl}
use Rattle.mat_shelf.proofs.FileLemmas.{HaveDifferentNames-one}
use Rattle.mat_reports.proofs.calls.one_file.Goals as goal

pub returns : goal.returns
returns c = HaveDifferentNames-one c.push.new.self.items c.new-file.result (rw (c.in_ok-push.ensures.items, c.new-files.ensures.items) refl)
