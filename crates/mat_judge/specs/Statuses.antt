-- Statuses with their numbers, and the refusals that end in each.
use Rattle.std.specs.Prelude.{ℕ}
use Rattle.mat_judge.specs.declared.described.Undescribed.{Undescribed}
use Rattle.mat_judge.specs.declared.described.Undescribed.TheVariants as undescribed
use Rattle.mat_judge.specs.declared.certified.Uncertified.{Uncertified}
use Rattle.mat_judge.specs.declared.certified.Uncertified.TheVariants as uncertified
use Rattle.mat_judge.specs.declared.certified.NotRight.{NotRight}
use Rattle.mat_judge.specs.declared.certified.NotRight.TheVariants as not_right
use Rattle.mat_judge.specs.declared.reading.Unread.{Unread}
use Rattle.mat_judge.specs.declared.reading.Unread.TheVariants as unread
use Rattle.mat_judge.specs.declared.refusal.Denial.{Denial}
use Rattle.mat_judge.specs.declared.refusal.Denial.TheVariants as denials
use Rattle.mat_judge.specs.declared.refusal.Refusal.{Refusal}
use Rattle.mat_judge.specs.declared.refusal.Refusal.TheVariants as refusals
use Rattle.mat_judge.specs.declared.status.Status.{Status}
use Rattle.mat_judge.specs.declared.status.Status.TheVariants as statuses

-- the number by which the program ends
abbrev pub status_number : Status → ℕ
status_number statuses.Done = 0
status_number statuses.No = 1
status_number statuses.Usage = 2
status_number statuses.BadDescription = 3
status_number statuses.BadCertificate = 4
status_number statuses.ReadFault = 5
status_number statuses.WriteFault = 6
status_number statuses.Memory = 7
status_number statuses.TooLong = 8
status_number statuses.WrongShape = 9
status_number statuses.Unwitnessed = 11
status_number statuses.BadWitness = 12
status_number statuses.BadCost = 13
status_number statuses.BadList = 14

-- the status of a call that its files deny
abbrev pub status_of_denial : Denial → Status
status_of_denial (denials.No reason first second) = statuses.No
status_of_denial (denials.NotShown part) = statuses.No
status_of_denial (denials.BadDescription kind line) = statuses.BadDescription
status_of_denial (denials.BadCertificate kind line) = statuses.BadCertificate
status_of_denial denials.WrongShape = statuses.WrongShape
status_of_denial denials.Unwitnessed = statuses.Unwitnessed
status_of_denial (denials.BadWitness kind line) = statuses.BadWitness
status_of_denial denials.BadCost = statuses.BadCost
status_of_denial (denials.BadList line) = statuses.BadList

-- the status of a call that did not read a file, or that memory did not suffice for
abbrev pub status_of_unread : Unread → Status
status_of_unread unread.Fault = statuses.ReadFault
status_of_unread unread.TooLong = statuses.TooLong
status_of_unread unread.Memory = statuses.Memory

-- the status of a call that was refused
abbrev pub status_of : Refusal → Status
status_of refusals.Usage = statuses.Usage
status_of refusals.WriteFault = statuses.WriteFault
status_of (refusals.Unread why) = status_of_unread why
status_of (refusals.Denied denial) = status_of_denial denial

-- the refusal of a call that memory did not suffice for
abbrev pub out_of_memory : Refusal
out_of_memory = refusals.Unread unread.Memory

-- the refusal of a call that did not read a file, or that memory did not suffice for
abbrev pub refusal_of_unread : Unread → Refusal
refusal_of_unread why = refusals.Unread why

-- the refusal of a call whose description describes no problem
abbrev pub refusal_of_undescribed : Undescribed → Refusal
refusal_of_undescribed (undescribed.Unread why) = refusals.Unread why
refusal_of_undescribed (undescribed.Fault kind line) = refusals.Denied (denials.BadDescription kind line)

-- the refusal of a call whose file is no certificate
abbrev pub refusal_of_uncertified : Uncertified → Refusal
refusal_of_uncertified (uncertified.Unread why) = refusals.Unread why
refusal_of_uncertified (uncertified.Fault kind line) = refusals.Denied (denials.BadCertificate kind line)

-- the refusal of a call whose certificate has no right answer
abbrev pub refusal_of_not_right : NotRight → Refusal
refusal_of_not_right (not_right.Uncertified why) = refusal_of_uncertified why
refusal_of_not_right not_right.WrongShape = refusals.Denied denials.WrongShape
refusal_of_not_right (not_right.No reason first second) = refusals.Denied (denials.No reason first second)
