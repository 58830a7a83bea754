-- A shelf that tells each name: what it tells of the files, of their faults, and that an outcome needs nothing more.
use Rattle.std.proofs.Common.{◌≡◌, ℕ, ◌≤◌, ◌⊎◌, cond, List, [], ◌∷◌, Option, Some, None, Result, Ok, Err, refl, sym, arith, inl, inr}
use Rattle.std.specs.Prelude.{◌↔◌, is_some, unwrap_or, IsErr, OnOk, IfSome}
use Rattle.std.proofs.lemmas.Bool.{cases_Bool}
use Rattle.mat_shelf.specs.Faults.{Rose}
use Rattle.mat_shelf.specs.Files.{FileState, has_name, held_in, count_in}
use Rattle.mat_command.specs.CommandLines.{Request, check, witness, verify, Task, about, batch}
use Rattle.mat_command.specs.JobLists.{Job}
use Rattle.mat_top.specs.Outcomes.{TellsCertificate, TellsJobs, Tells}
use Rattle.mat_call.specs.GivenShelves.{no_text, told_in, missing_count}

-- ---- counts of faults

-- a name that no file has has the count of all such names
count_of_missing : (files : List FileState) (other : ℕ) (name : List ℕ) → held_in files name ≡ None → count_in files other name ≡ other
count_of_missing [] other name missing = refl
count_of_missing (f ∷ fs) other name missing = elim (cases_Bool (has_name name f)) [
  | inl same ↦ let at : Some f.bytes ≡ None = rw same at missing in absurd cc
  | inr differs ↦ let at : held_in fs name ≡ None = rw differs at missing in rw differs (count_of_missing fs other name at)
]

grows_where_missing : (held : Option (List ℕ)) (a b : ℕ) → (held ≡ None → a ≤ b) → cond (is_some held) 0 a ≤ cond (is_some held) 0 b
grows_where_missing None a b grows = grows refl
grows_where_missing (Some bytes) a b grows = omega arith

-- where what the files hold of a name stays and its count does not fall, this count does not fall either
pub missing_grows : (files now : List FileState) (other other_now : ℕ) (name : List ℕ) → held_in now name ≡ held_in files name
    → count_in files other name ≤ count_in now other_now name → missing_count files other name ≤ missing_count now other_now name
missing_grows files now other other_now name held grows =
    rw held (grows_where_missing (held_in files name) other other_now (λ missing.
    let before = count_of_missing files other name missing in
    let after = count_of_missing now other_now name (rw held missing) in
    omega (arith, grows, before, after)))

-- a count that is 0 did not rise
none_rose : (before : ℕ) → Rose before 0 → ⊥
none_rose before (inl less) = omega arith
none_rose before (inr last) = omega arith

rose_where_missing : (held held_now : Option (List ℕ)) (a b : ℕ)
    → ◌≡◌ {A = Option (List ℕ)} (Some (unwrap_or held_now no_text)) (Some (unwrap_or held no_text))
    → Rose (cond (is_some held) 0 a) (cond (is_some held_now) 0 b) → ◌≡◌ {A = Option (List ℕ)} (Some (unwrap_or held no_text)) (Some no_text)
rose_where_missing None held_now a b told rose = refl
rose_where_missing (Some bytes) None a b told rose = sym told
rose_where_missing (Some bytes) (Some bytes_now) a b told rose = absurd (none_rose 0 rose)

-- where what is told of a name stays, its count rises only where no file has it
pub missing_rose : (files now : List FileState) (other other_now : ℕ) (name : List ℕ) → told_in now name ≡ told_in files name
    → Rose (missing_count files other name) (missing_count now other_now name) → told_in files name ≡ Some no_text
missing_rose files now other other_now name told rose =
    rose_where_missing (held_in files name) (held_in now name) other other_now told rose

-- ---- what is told of a name

-- what is held is told
pub held_told : (files now : List FileState) (name : List ℕ) → held_in now name ≡ held_in files name → told_in now name ≡ told_in files name
held_told files now name held = rw held refl

-- where an opening fails if no file has the name, what is told is left after one that does not
pub opened_told : {E X : Type 0} (result : Result (Unit {0}) E) (held left : Option (List ℕ)) → (IsErr result ↔ (X ⊎ (held ≡ None)))
    → OnOk result (IfSome held (λ bytes. left ≡ Some bytes)) → OnOk result (left ≡ Some (unwrap_or held no_text))
opened_told (Ok done) None left fails is = let never = fails.1 (inr refl) in absurd cc
opened_told (Ok done) (Some bytes) left fails is = is
opened_told (Err error) held left fails is = tt

-- ---- an outcome needs nothing more

module _ (files : List FileState) where
  certificate_told : (request : Request) (bytes : List ℕ) → TellsCertificate (told_in files) request bytes
  certificate_told (check certificate) bytes = λ instance described. refl
  certificate_told (witness k certificate) bytes = λ instance described. refl
  certificate_told (verify k certificate shown) bytes = λ instance described answer is. refl
  certificate_told _ bytes = tt

  jobs_told : (jobs : List Job) → TellsJobs (told_in files) jobs
  jobs_told [] = tt
  jobs_told (job ∷ jobs) = (refl, λ done. jobs_told jobs)

  pub always_told : (asked : Option Task) → Tells (told_in files) asked
  always_told (Some (about file request)) = certificate_told request (unwrap_or (held_in files file) no_text)
  always_told (Some (batch list)) = λ jobs listed. jobs_told jobs
  always_told _ = tt
