-- The names that the proofs of this crate take from elsewhere and from its specs, passed on from one place. Declares nothing.
pub use Rattle.std.specs.Global.{Vec}
pub use Rattle.std.proofs.Common.{All, Bool, Err, IfErr, IfOk, IfSome, IsSome, IsSomeAnd, List, None, Ok, Option, Result, Some, [], ap, append-nil, append_assoc, arith, codes, drop, false, get_or, inl, inr, length, map, pos, refl, rules, slice_get, subst, suc, sym, take, true, ℕ, ◌++◌, ◌+◌, ◌<◌}
pub use Rattle.std.proofs.Common.{◌∙◌, ◌∷◌, ◌≡◌, ◌≢◌, ◌≤◌, ◌⊎◌}
pub use Rattle.std.proofs.lemmas.List.Elements.{All-cons, All-map, All-nil, All-push}
pub use Rattle.std.proofs.lemmas.Result.{IfOk-weaker, err_from_is_err_and}
pub use Rattle.mat_words.specs.Lines.{text_of}
pub use Rattle.mat_words.specs.Numbers.{numeral}
pub use Rattle.mat_words.specs.Writing.{end_line, members_line}
pub use Rattle.mat_problem.specs.Instances.{Instance, rooted}
pub use Rattle.mat_problem.specs.Views.{instance_of}
pub use Rattle.mat_cert.specs.Limits.{certificate_limit}
pub use Rattle.mat_cert.proofs.Lengths.{length-certificate_text}
pub use Rattle.mat_cert.proofs.LineTexts.{four_pieces, line_added, opening}
pub use Rattle.mat_command.specs.CommandLines.{Request, Task, about, batch, check, cuts, show, solve, verify, witness}
pub use Rattle.mat_command.specs.Commands.{request_of, task_of}
pub use Rattle.mat_command.specs.JobLists.{IsListed, Job}
pub use Rattle.mat_command.specs.Views.{job_of}
pub use Rattle.mat_judge.specs.Described.{IsDescribed, IsFaulty, IsUndescribed}
pub use Rattle.mat_judge.specs.Notes.{note_of}
pub use Rattle.mat_judge.specs.declared.refusal.Refusal.{Refusal}
pub use Rattle.mat_judge.specs.declared.status.Status.{Status}
pub use Rattle.mat_judge.proofs.Told.{if_told, told, told_both, unread_before}
pub use Rattle.mat_top.specs.CutTexts.{IsCutsText, IsPayable, cut_line, mains}
pub use Rattle.mat_top.specs.LoadedJobs.{AreLoaded, AreUnloaded, HaveTexts, IsAnswerable, IsLoaded, IsLoading, IsOfOtherForm, IsTextAt, IsUnloaded, refusal_of_unloaded}
pub use Rattle.mat_top.specs.Outcomes.{AreJobTexts, CallReaches, IsBytesOutcome, IsCertificateOutcome, IsJobOutcome, IsJobsOutcome, IsNote, IsOutcome, IsProblemOutcome, IsRequestOutput, IsTextFor, IsTold, IsTrueOf, IsTrueOfJobs, IsWitnessOutcome, IsWritten, JobsReach, MayBeSolved, Tells}
pub use Rattle.mat_top.specs.Outcomes.{TellsCertificate, TellsJobs}
pub use Rattle.mat_top.specs.Refusals.{HasNoText, HasSolutionText, HasText, IsEnded, IsJobProblem, IsRefusal, MayBeWritten}
pub use Rattle.mat_top.specs.declared.loaded_job.LoadedJob.{LoadedJob}
pub use Rattle.mat_top.specs.declared.loading.Unloaded.{Unloaded}
