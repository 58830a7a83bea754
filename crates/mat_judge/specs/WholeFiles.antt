-- What reading a file does, where the shelf tells what it holds.
use Rattle.std.specs.Prelude.{◌≡◌, ℕ, ◌+◌, ◌<◌, ◌≤◌, List, [], ◌++◌, length, take, drop, Option, Some, IfSome}
use Rattle.mat_shelf.specs.Faults.{Rose}
use Rattle.mat_judge.specs.declared.reading.Unread.{Unread}
use Rattle.mat_judge.specs.declared.reading.Unread.TheVariants as unread

-- these are all bytes of the file, at most as many as the limit
abbrev pub WasRead : Option (List ℕ) → ℕ → List ℕ → Type 0
WasRead held limit bytes = (length bytes ≤ limit) × IfSome held (λ all. all ≡ bytes)

-- why they were not read: with what is left of the file, and the count of faults before and after; a file is too long once
-- one byte more than the limit was read, and then no more was read
abbrev pub NotRead : Option (List ℕ) → ℕ → Option (List ℕ) → ℕ → ℕ → Unread → Type 0
NotRead held limit left before now unread.Fault = Rose before now
NotRead held limit left before now unread.TooLong = IfSome held (λ all. (limit < length all) × (left ≡ Some (drop (limit + 1) all)))
NotRead held limit left before now unread.Memory = Unit {0}

-- what is left of a file of which these bytes were read
abbrev pub HasLeft : Option (List ℕ) → List ℕ → Option (List ℕ) → Type 0
HasLeft held bytes left = IfSome held (λ all. (rest : List ℕ) × (left ≡ Some rest) × (all ≡ bytes ++ rest))

-- one read: its bytes stand behind those read before, and what followed them is left
abbrev pub GoesOn : Option (List ℕ) → List ℕ → List ℕ → Option (List ℕ) → Type 0
GoesOn left old new after = IfSome left (λ rest. (count : ℕ) × (new ≡ old ++ take count rest) × (after ≡ Some (drop count rest)))

-- nothing is left
abbrev pub IsAtEnd : Option (List ℕ) → Type 0
IsAtEnd left = IfSome left (λ rest. rest ≡ [])

-- why one read failed
abbrev pub NotTaken : ℕ → ℕ → Unread → Type 0
NotTaken before now unread.Fault = Rose before now
NotTaken before now unread.TooLong = ⊥
NotTaken before now unread.Memory = Unit {0}

-- why a file was not read, where what is left of it doesn't matter
abbrev pub IsUnread : Option (List ℕ) → ℕ → ℕ → ℕ → Unread → Type 0
IsUnread held limit before now unread.Fault = Rose before now
IsUnread held limit before now unread.TooLong = IfSome held (λ all. limit < length all)
IsUnread held limit before now unread.Memory = Unit {0}
