-- What is known of a file where the shelf tells what it holds.
use Rattle.mat_judge.proofs.Common.{ℕ, ◌≤◌, List, Option, Some, None, inl, inr, arith, IfSome, IsSome, IsSomeAnd, Rose, IsUnread}
use Rattle.mat_judge.specs.declared.reading.Unread.{Unread}
use Rattle.mat_judge.specs.declared.reading.Unread.TheVariants as unread

-- where a file is told, a fact of what is told
pub told : (o : Option (List ℕ)) (P Q : List ℕ → Type 0) → IsSome o → IfSome o P → ((bytes : List ℕ) → P bytes → Q bytes)
    → IsSomeAnd o Q
told None P Q some h f = absurd cc
told (Some bytes) P Q some h f = f bytes h

-- and where a fact of what is told comes with it
pub told_both : (o : Option (List ℕ)) (P Q R : List ℕ → Type 0) → IsSomeAnd o P → IfSome o Q
    → ((bytes : List ℕ) → P bytes → Q bytes → R bytes) → IsSomeAnd o R
told_both None P Q R h k f = absurd h
told_both (Some bytes) P Q R h k f = f bytes h k

pub if_told : (o : Option (List ℕ)) (P Q : List ℕ → Type 0) → ((bytes : List ℕ) → P bytes → Q bytes) → IfSome o P → IfSome o Q
if_told None P Q f h = tt
if_told (Some bytes) P Q f h = f bytes h

-- a count that rose rose from a lesser one
pub rose_before : (first before now : ℕ) → first ≤ before → Rose before now → Rose first now
rose_before first before now earlier (inl less) = inl (omega arith)
rose_before first before now earlier (inr last) = inr last

pub unread_before : (held : Option (List ℕ)) (limit earlier before now : ℕ) (why : Unread) → earlier ≤ before
    → IsUnread held limit before now why → IsUnread held limit earlier now why
unread_before held limit earlier before now unread.Fault le rose = rose_before earlier before now le rose
unread_before held limit earlier before now why le is = is
