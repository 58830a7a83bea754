-- `check` before two names asks for the check of them, where the first is not the option.
use Rattle.std.proofs.Common.{◌≡◌, ℕ, false, List, [], ◌∷◌, Some, refl}
use Rattle.std.specs.Prelude.{bytes_eq, codes}
use Rattle.mat_command.specs.CommandLines.{command_line, asked_by}
use Rattle.mat_report.specs.Reports.{check_of}

pub check_asked : (description certificate : List ℕ) → bytes_eq description (codes "--workers") ≡ false
    → asked_by (codes "check" ∷ description ∷ certificate ∷ []) ≡ Some (check_of description certificate)
unfolding command_line
check_asked description certificate other = rw other refl
