-- What the words of the program's command line ask for.
use Rattle.std.specs.Prelude.{ℕ, List, [], ◌∷◌, bytes_eq, codes, if◌then◌else◌}

-- what is asked for
pub data ProgramTask : Type 0 where
  -- to print this text
  print : List ℕ → ProgramTask
  -- to tell in words the answer that the certificate in the file of the second name has to the problem in that of the first
  tell : List ℕ → List ℕ → ProgramTask
  -- to draw that answer
  draw : List ℕ → List ℕ → ProgramTask
  -- what the top call does by these words
  call : List (List ℕ) → ProgramTask

-- what a word alone asks for: one of two texts, or what the top call does by these words
abbrev pub text_task : (help version word : List ℕ) → List (List ℕ) → ProgramTask
text_task help version word words =
    if bytes_eq word (codes "--help") then print help else (if bytes_eq word (codes "--version") then print version else call words)

-- what a word and two names ask for: a report, or what the top call does by these words
abbrev pub report_task : (word description certificate : List ℕ) → List (List ℕ) → ProgramTask
report_task word description certificate words =
    if bytes_eq word (codes "--tell") then tell description certificate else
    (if bytes_eq word (codes "--picture") then draw description certificate else call words)

-- what the words ask for, where these are the two texts
abbrev pub program_task : (help version : List ℕ) → List (List ℕ) → ProgramTask
program_task help version (word ∷ []) = text_task help version word (word ∷ [])
program_task help version (word ∷ description ∷ certificate ∷ []) =
    report_task word description certificate (word ∷ description ∷ certificate ∷ [])
program_task help version words = call words
