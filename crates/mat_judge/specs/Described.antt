-- What the bytes of a description say, and why a file describes no problem.
use Rattle.std.specs.Prelude.{◌≡◌, ℕ, ◌≤◌, List, length, Option, IfSome, Err}
use Rattle.mat_desc.specs.Faults.{DescRefusal, Fault}
use Rattle.mat_problem.specs.Instances.{Instance}
use Rattle.mat_desc.specs.Grammar.{Spells, SpellsNamed}
use Rattle.mat_desc.specs.Limits.{description_limit}
use Rattle.mat_desc.specs.Notations.{NamedInstance}
use Rattle.mat_desc.specs.Reading.{read_of}
use Rattle.mat_words.specs.declared.refusal.Refusal.TheVariants as desc_refusals
use Rattle.mat_judge.specs.declared.described.Undescribed.{Undescribed}
use Rattle.mat_judge.specs.declared.described.Undescribed.TheVariants as undescribed
use Rattle.mat_judge.specs.declared.reading.Unread.TheVariants as unread
use Rattle.mat_judge.specs.WholeFiles.{IsUnread}

-- the bytes have this first fault
pub record IsFaulty (bytes : List ℕ) (fault : Fault) : Type 0 where
  pub within : length bytes ≤ description_limit
  pub first : read_of bytes ≡ Err fault

-- the bytes spell this problem
pub record IsDescribed (bytes : List ℕ) (instance : Instance) : Type 0 where
  pub within : length bytes ≤ description_limit
  pub spelled : Spells bytes instance

-- the bytes spell this problem, and name its elements and its vertices so
pub record IsNamed (bytes : List ℕ) (problem : NamedInstance) : Type 0 where
  pub within : length bytes ≤ description_limit
  pub spelled : SpellsNamed bytes problem

-- what a reader that read no problem says of the description
abbrev pub undescribed_by : DescRefusal → Undescribed
undescribed_by (desc_refusals.Fault kind line) = undescribed.Fault kind line
undescribed_by desc_refusals.Memory = undescribed.Unread unread.Memory

-- why a file describes no problem: with what it holds, and the count of its faults before and after
abbrev pub IsUndescribed : Option (List ℕ) → ℕ → ℕ → Undescribed → Type 0
IsUndescribed held before now (undescribed.Unread why) = IsUnread held description_limit before now why
IsUndescribed held before now (undescribed.Fault kind number) = IfSome held (λ bytes. IsFaulty bytes (kind, number))
