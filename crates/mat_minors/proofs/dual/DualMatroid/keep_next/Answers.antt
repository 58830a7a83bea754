use Rattle.mat_minors.proofs.Common.{sym, ◌∙◌}
use Rattle.mat_minors.proofs.DualNext.{kept_of_next}
use Rattle.mat_minors.proofs.dual.DualMatroid.keep_next.Goals as goal

pub returns-in-Some : goal.returns-in-Some
returns-in-Some g c =
    kept_of_next c.args._base.now c.args.next.now c.args.kept.now _ c.requires.kept (sym c.in-Some.is ∙ c.in_ok-same.ensures)
