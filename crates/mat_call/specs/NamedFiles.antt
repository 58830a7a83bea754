-- The files of a call over a line.
use Rattle.std.specs.Prelude.{ℕ, List, [], ◌∷◌, codes}
use Rattle.mat_shelf.specs.Files.{FileState}

-- a file of this name that holds these bytes
abbrev pub file_of : List ℕ → List ℕ → FileState
file_of name bytes = record { name = name; bytes = bytes; faults = 0 }

-- the files `f`, `c` and `w`, which hold a description, a certificate and a witness
abbrev pub three_files : List ℕ → List ℕ → List ℕ → List FileState
three_files description certificate witness =
    file_of (codes "f") description ∷ file_of (codes "c") certificate ∷ file_of (codes "w") witness ∷ []
