-- The names that the proofs of this crate take from elsewhere and from its specs, passed on from one place. Declares nothing.
pub use Rattle.std.proofs.Common.{Bool, Err, IfErr, IfOk, IfSome, List, None, Ok, Option, Result, Some, [], ap, append-nil, append_assoc, arith, bytes_eq, codes, cond, eqb, false, if◌then◌else◌, length, length-append, map, not, option_map, pos, refl, rules, string_bytes, subst, suc, sym, take}
pub use Rattle.std.proofs.Common.{take_all, true, zero, ℕ, ◌++◌, ◌+◌, ◌-◌, ◌<◌, ◌∙◌, ◌∷◌, ◌≡◌, ◌≤◌}
pub use Rattle.std.proofs.lemmas.List.{length-map, map_push, take-append-le}
pub use Rattle.std.proofs.lemmas.Result.{err_from_is_err_and}
pub use Rattle.mat_words.specs.Cursors.{LinesLeft, WordsLeft, lines_left, parts_left, words_left}
pub use Rattle.mat_words.specs.Words.{is_well_spaced, is_word, words_of}
pub use Rattle.mat_command.specs.JobLists.{Job, ended, is_end, is_head, job_before, job_of_line, most_jobs, on_line, with_job}
unfoldable pub use Rattle.mat_command.specs.JobLists.{jobs_at, jobs_of}
pub use Rattle.mat_command.specs.Views.{job_of}
