-- Files in memory as a call sees them: each name is told.
use Rattle.std.specs.Prelude.{ℕ, suc, List, replicate, if◌then◌else◌, Option, Some, is_some, unwrap_or}
use Rattle.mat_shelf.specs.Files.{FileState, held_in}
use Rattle.mat_cert.specs.Limits.{certificate_limit}

-- What stands for the text of a name that no file has: it is longer than any file may be, so it is never read whole, and is neither a
-- description nor a certificate, a witness or a list. 256 is no byte, so no file holds it.
pub no_text : List ℕ
no_text = replicate (suc certificate_limit) 256

-- what is told of a name: what the file of this name holds, and that there is no text where no file has it
abbrev pub told_in : List FileState → List ℕ → Option (List ℕ)
told_in files name = Some (unwrap_or (held_in files name) no_text)

-- how often a call for this name failed: never where a file has it, and else as often as a call for any name that no file has
abbrev pub missing_count : List FileState → ℕ → List ℕ → ℕ
missing_count files other name = if is_some (held_in files name) then 0 else other
