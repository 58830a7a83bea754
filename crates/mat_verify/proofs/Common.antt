-- The names that the proofs of this crate take from elsewhere and from its specs, passed on from one place. Declares nothing.
pub use Rattle.std.proofs.Common.{IfSome, List, Option, inl, inr, length, ltb-true, refl, subst, true, ℕ, ◌≡◌, ◌≤◌}
pub use Rattle.std.proofs.lemmas.Result.{IfErr-weaker, IfOk-weaker, err_from_is_err_and}
pub use Rattle.mat_problem.specs.Instances.{Instance, pair}
pub use Rattle.mat_problem.specs.Views.{instance_of}
pub use Rattle.mat_cert.specs.Views.{certificate_of}
pub use Rattle.mat_witness.specs.Kinds.{has_rung, is_witnessed_pair}
pub use Rattle.mat_witness.specs.Lines.{witness_limit, witness_text}
pub use Rattle.mat_judge.proofs.Told.{if_told, unread_before}
pub use Rattle.mat_verify.specs.WitnessRefusals.{HasNoRung, HasNoWitness, IsRefusedAnswer, IsUnshown, IsUnshownRung, IsUnverified, IsUnwitnessable, IsWrongRung}
pub use Rattle.mat_verify.specs.Witnessing.{IsRungAnswer, IsShowing, fits_rung}
