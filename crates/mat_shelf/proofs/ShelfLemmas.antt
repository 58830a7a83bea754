-- What a call of a shelf in memory leaves, by the state that it leaves.
use Rattle.std.proofs.Common.{List, None, Option, Some, [], ap, arith, drop, false, get_or, inl, inr, length, refl, suc, sym, true, zero, ℕ, ◌<◌, ◌∙◌, ◌∷◌, ◌≡◌, ◌≤◌}
use Rattle.std.specs.Prelude.{unwrap_or, option_map, position, IsSome, IfOk, OnOk, OnErr, Result, Ok, Err}
use Rattle.std.proofs.lemmas.Slice.Eq.{bytes_eq-Decides}
use Rattle.std.proofs.lemmas.Option.{slice_get-get_or, slice_get_read}
use Rattle.mat_shelf.specs.Faults.{Rose, last_count}
use Rattle.std.proofs.lemmas.Bool.{cases_Bool}
use Rattle.mat_shelf.specs.Files.{held_or, bytes_at, FileState, MemShelfState, has_name, held_in, count_in, open_at, left_of, IsReading, after_open, after_failed_open, after_read, after_failed_read}
use Rattle.mat_shelf.proofs.FileLemmas.{place_from, missing_from, held_in-place, held_in-missing, held_in-files_with_fault, count_in-grows, count_in-rose}

-- the file of this name is opened with all that it holds
pub open_at-place : (files : List FileState) (name : List ℕ) (i : ℕ) → position (has_name name) files ≡ Some i → open_at files (Some i) 0 ≡ option_map (λ bytes. record { name = name; left = bytes }) (held_in files name)
open_at-place files name i e =
    let f : FileState = record { name = []; bytes = []; faults = 0 } in
    let first = place_from files name i f e in
    let same : (get_or files i f).name ≡ name = (bytes_eq-Decides (get_or files i f).name name).0 first.named in
    rw (held_in-place files name i f first, slice_get-get_or files i f first.inside, same) refl

pub held_in-found : (files : List FileState) (name : List ℕ) (i : ℕ) → position (has_name name) files ≡ Some i → IsSome (held_in files name)
held_in-found files name i e =
    let f : FileState = record { name = []; bytes = []; faults = 0 } in
    rw (held_in-place files name i f (place_from files name i f e)) refl

pub held_in-not_found : (files : List FileState) (name : List ℕ) → position (has_name name) files ≡ None → held_in files name ≡ None
held_in-not_found files name e =
    let f : FileState = record { name = []; bytes = []; faults = 0 } in
    held_in-missing files name f (missing_from files name f e)

pub not_missing : (held : Option (List ℕ)) → IsSome held → held ≡ None → ⊥
not_missing held is missing = let some : false ≡ true = rw missing at is in cc

-- a file that is open stands among the files
pub open_place_inside : (files : List FileState) (i from : ℕ) (name : List ℕ) → IsReading (open_at files (Some i) from) name → i < length files
open_place_inside [] i from name h = absurd h
open_place_inside (f ∷ fs) zero from name h = omega arith
open_place_inside (f ∷ fs) (suc i) from name h = omega (arith, open_place_inside fs i from name h)

-- what is left of the file at a place
pub left_of-open_at : (files : List FileState) (place : Option ℕ) (i from : ℕ) (f : FileState) (bytes : List ℕ) → place ≡ Some i → i < length files → f ≡ get_or files i f → bytes ≡ f.bytes → left_of (open_at files place from) ≡ Some (drop from bytes)
left_of-open_at files place i from f bytes at inside is same = rw (at, slice_get_read files (length files) i f refl inside is, same) refl

-- No call changes what is held, lets a count fall, or fails without a count that rose.
pub held_in-after_open : {X E : Type 0} (r : Result X E) (s t : MemShelfState) (name other : List ℕ) → OnOk r (t ≡ after_open s name) → OnErr r (t ≡ after_failed_open s name) → held_in t.files other ≡ held_in s.files other
held_in-after_open (Ok _) s t name other ok err = rw ok refl
held_in-after_open (Err _) s t name other ok err = rw err (held_in-files_with_fault s.files name other)

pub count_in-after_open : {X E : Type 0} (r : Result X E) (s t : MemShelfState) (name other : List ℕ) → OnOk r (t ≡ after_open s name) → OnErr r (t ≡ after_failed_open s name) → OnErr r (count_in s.files s.other_faults name ≤ last_count) → count_in s.files s.other_faults other ≤ count_in t.files t.other_faults other
count_in-after_open (Ok _) s t name other ok err fits = rw ok (omega arith)
count_in-after_open (Err _) s t name other ok err fits = rw err (count_in-grows s.files s.other_faults name other fits)

pub rose-after_open : {X E : Type 0} (r : Result X E) (s t : MemShelfState) (name : List ℕ) → OnErr r (t ≡ after_failed_open s name) → OnErr r (count_in s.files s.other_faults name ≤ last_count) → OnErr r (Rose (count_in s.files s.other_faults name) (count_in t.files t.other_faults name))
rose-after_open (Ok _) s t name err fits = tt
rose-after_open (Err _) s t name err fits = rw err (count_in-rose s.files s.other_faults name fits)

pub held_in-after_read : {E : Type 0} (r : Result ℕ E) (s t : MemShelfState) (name other : List ℕ) → IfOk r (λ c. t ≡ after_read s c) → OnErr r (t ≡ after_failed_read s name) → held_in t.files other ≡ held_in s.files other
held_in-after_read (Ok c) s t name other ok err = rw ok refl
held_in-after_read (Err _) s t name other ok err = rw err (held_in-files_with_fault s.files name other)

pub count_in-after_read : {E : Type 0} (r : Result ℕ E) (s t : MemShelfState) (name other : List ℕ) → IfOk r (λ c. t ≡ after_read s c) → OnErr r (t ≡ after_failed_read s name) → OnErr r (count_in s.files s.other_faults name ≤ last_count) → count_in s.files s.other_faults other ≤ count_in t.files t.other_faults other
count_in-after_read (Ok c) s t name other ok err fits = rw ok (omega arith)
count_in-after_read (Err _) s t name other ok err fits = rw err (count_in-grows s.files s.other_faults name other fits)

pub rose-after_read : {E : Type 0} (r : Result ℕ E) (s t : MemShelfState) (name : List ℕ) → OnErr r (t ≡ after_failed_read s name) → OnErr r (count_in s.files s.other_faults name ≤ last_count) → OnErr r (Rose (count_in s.files s.other_faults name) (count_in t.files t.other_faults name))
rose-after_read (Ok _) s t name err fits = tt
rose-after_read (Err _) s t name err fits = rw err (count_in-rose s.files s.other_faults name fits)

held_or-held_in : (files : List FileState) (other name : List ℕ) → held_or files other name ≡ unwrap_or (held_in files name) other
held_or-held_in [] other name = refl
held_or-held_in (f ∷ fs) other name = elim (cases_Bool (has_name name f)) [
  | inl same ↦ rw same refl
  | inr differs ↦ rw differs (held_or-held_in fs other name)
]

-- the bytes at the place of a name are what the name holds
pub bytes_at-place : (files read : List FileState) (other name : List ℕ) (place : Option ℕ) → read ≡ files → place ≡ position (has_name name) read → bytes_at files other place ≡ held_or files other name
bytes_at-place files read other name None same found =
    let missing : position (has_name name) files ≡ None = ap (λ (xs : List FileState). position (has_name name) xs) (sym same) ∙ sym found in
    rw (held_or-held_in files other name, held_in-not_found files name missing) refl
bytes_at-place files read other name (Some i) same found =
    let f : FileState = record { name = []; bytes = []; faults = 0 } in
    let at : position (has_name name) files ≡ Some i = ap (λ (xs : List FileState). position (has_name name) xs) (sym same) ∙ sym found in
    let first = place_from files name i f at in
    rw (held_or-held_in files other name, held_in-place files name i f first, slice_get-get_or files i f first.inside) refl
