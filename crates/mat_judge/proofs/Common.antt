-- The names that the proofs of this crate take from elsewhere and from its specs, passed on from one place. Declares nothing.
pub use Rattle.std.proofs.Common.{Err, IfErr, IfSome, IsSome, IsSomeAnd, List, None, Ok, OnErr, OnOk, Option, Result, Some, ap, arith, drop, flat_map, get_or, inl, inr, length, rules, subst, sym, take, take-append-drop, true, vec_len, ℕ, ◌++◌, ◌+◌, ◌-◌, ◌<◌, ◌∙◌, ◌≡◌, ◌≤◌}
pub use Rattle.std.proofs.lemmas.List.{drop_more, take_rest}
pub use Rattle.std.proofs.lemmas.Result.{IfErr-weaker, err_from_is_err_and}
pub use Rattle.mat_problem.specs.Views.{instance_of}
pub use Rattle.mat_cert.specs.Views.{certificate_of}
pub use Rattle.mat_shelf.specs.Faults.{Rose}
pub use Rattle.mat_shelf.specs.Writing.{Appended, AppendedProperPrefix}
pub use Rattle.mat_shelf.proofs.WritingLemmas.{Appended-take, AppendedPrefix-proper, AppendedPrefix-whole, AppendedProperPrefix-append, AppendedProperPrefix-take, AppendedProperPrefix-then}
pub use Rattle.mat_check.specs.Views.{failure_in}
pub use Rattle.mat_judge.specs.Certified.{IsCertified, IsNotFoundRight, IsNotRight}
pub use Rattle.mat_judge.specs.Texts.{all_texts, piece_text}
pub use Rattle.mat_judge.specs.WholeFiles.{HasLeft, IsUnread}
