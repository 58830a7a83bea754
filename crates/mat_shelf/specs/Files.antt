-- Files, and the shelves that are made of them.
use Rattle.std.specs.Prelude.{◌≡◌, ℕ, ◌⊎◌, List, [], ◌∷◌, drop, length, min, Contains, bytes_eq, slice_get}
use Rattle.std.specs.Prelude.{Bool, if◌then◌else◌, Option, Some, None, option_map, unwrap_or, is_some}
use Rattle.mat_shelf.specs.Faults.{next_count}

-- a file: its name, what it holds, and how often a call for it failed
pub record FileState : Type 0 where
  pub name : List ℕ
  pub bytes : List ℕ
  pub faults : ℕ

-- a file that is open: its name, and what is left of it
pub record OpenFile : Type 0 where
  pub name : List ℕ
  pub left : List ℕ

-- A shelf in memory: its files, the most bytes that a read gives, the numbers of the calls that
-- fail, how many calls there were, the file that is open, and the count for all other names.
pub record MemShelfState : Type 0 where
  pub files : List FileState
  pub step : ℕ
  pub fail : List ℕ
  pub calls : ℕ
  pub opened : Option OpenFile
  pub other_faults : ℕ

-- A shelf that never fails: its files, what every other name holds, and what is left of the
-- file that was opened last.
pub record SureShelfState : Type 0 where
  pub files : List FileState
  pub other : List ℕ
  pub left : List ℕ

-- The real files: how many calls failed, and whether something is open.
pub record FileShelfState : Type 0 where
  pub faults : ℕ
  pub is_open : Bool

-- the file has this name
abbrev pub has_name : List ℕ → FileState → Bool
has_name name f = bytes_eq f.name name

-- what the file of this name holds
abbrev pub held_in : List FileState → List ℕ → Option (List ℕ)
held_in [] name = None
held_in (f ∷ fs) name = if has_name name f then Some f.bytes else held_in fs name

-- no two of the files have the same name: no file after one has its name
abbrev pub HaveDifferentNames : List FileState → Type 0
HaveDifferentNames [] = Unit {0}
HaveDifferentNames (f ∷ fs) = (held_in fs f.name ≡ None) × HaveDifferentNames fs

-- what the file of this name holds, or what every other name holds
abbrev pub held_or : List FileState → List ℕ → List ℕ → List ℕ
held_or [] other name = other
held_or (f ∷ fs) other name = if has_name name f then f.bytes else held_or fs other name

-- the count of the file of this name, or that for all other names
abbrev pub count_in : List FileState → ℕ → List ℕ → ℕ
count_in [] other name = other
count_in (f ∷ fs) other name = if has_name name f then f.faults else count_in fs other name

-- the file with its count raised
abbrev pub with_fault : FileState → FileState
with_fault f = record f { faults = next_count f.faults }

-- the files, the count of the one of this name raised
abbrev pub files_with_fault : List FileState → List ℕ → List FileState
files_with_fault [] name = []
files_with_fault (f ∷ fs) name = if has_name name f then with_fault f ∷ fs else f ∷ files_with_fault fs name

-- the count for all other names, raised where no file has this name
abbrev pub other_with_fault : List FileState → ℕ → List ℕ → ℕ
other_with_fault files other name = if is_some (held_in files name) then other else next_count other

-- the file at a place, open with its bytes from an offset on
abbrev pub open_at : List FileState → Option ℕ → ℕ → Option OpenFile
open_at files None from = None
open_at files (Some place) from = option_map (λ f. record { name = f.name; left = drop from f.bytes }) (slice_get files place)

-- what is left of the file that is open
abbrev pub left_of : Option OpenFile → Option (List ℕ)
left_of opened = option_map (λ f. f.left) opened

-- the file that is open has this name
abbrev pub IsReading : Option OpenFile → List ℕ → Type 0
IsReading None name = ⊥
IsReading (Some f) name = f.name ≡ name

-- the next call of the shelf is one of those that fail
abbrev pub FailsNext : MemShelfState → Type 0
FailsNext s = Contains s.fail (next_count s.calls)

-- the opening of this name fails
abbrev pub FailsToOpen : MemShelfState → List ℕ → Type 0
FailsToOpen s name = FailsNext s ⊎ (held_in s.files name ≡ None)

-- the shelf after an opening of this name that failed: it is a fault of this name, and nothing is open
abbrev pub after_failed_open : MemShelfState → List ℕ → MemShelfState
after_failed_open s name = record s {
  files = files_with_fault s.files name;
  calls = next_count s.calls;
  opened = None;
  other_faults = other_with_fault s.files s.other_faults name;
}

-- the shelf after an opening of this name: all that the file holds is left
abbrev pub after_open : MemShelfState → List ℕ → MemShelfState
after_open s name = record s {
  calls = next_count s.calls;
  opened = option_map (λ bytes. record { name = name; left = bytes }) (held_in s.files name);
}

-- the shelf after a read that failed: it is a fault of this name
abbrev pub after_failed_read : MemShelfState → List ℕ → MemShelfState
after_failed_read s name = record s {
  files = files_with_fault s.files name;
  calls = next_count s.calls;
  other_faults = other_with_fault s.files s.other_faults name;
}

-- the file that is open, c bytes of what was left dropped
abbrev pub dropped : ℕ → OpenFile → OpenFile
dropped c f = record f { left = drop c f.left }

-- how many bytes a read into a buffer of this length gives
abbrev pub read_count : MemShelfState → ℕ → ℕ
read_count s room = min (min s.step room) (length (unwrap_or (left_of s.opened) []))

-- the shelf after a read of c bytes: they are dropped from what is left
abbrev pub after_read : MemShelfState → ℕ → MemShelfState
after_read s c = record s {
  calls = next_count s.calls;
  opened = option_map (dropped c) s.opened;
}

-- the bytes of the file at a place, or those of every other name
abbrev pub bytes_at : List FileState → List ℕ → Option ℕ → List ℕ
bytes_at files other None = other
bytes_at files other (Some place) = unwrap_or (option_map (λ f. f.bytes) (slice_get files place)) other

-- the shelf that never fails after an opening of this name: all that the name holds is left
abbrev pub after_sure_open : SureShelfState → List ℕ → SureShelfState
after_sure_open s name = record s { left = held_or s.files s.other name }

-- how many bytes a read into a buffer of this length gives
abbrev pub sure_read_count : SureShelfState → ℕ → ℕ
sure_read_count s room = min room (length s.left)

-- the shelf that never fails after a read into a buffer of this length
abbrev pub after_sure_read : SureShelfState → ℕ → SureShelfState
after_sure_read s room = record s { left = drop (sure_read_count s room) s.left }
