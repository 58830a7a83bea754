-- A report on a right answer may be written where the check of its certificate would be done; and where memory ran out there is none.
use Rattle.std.proofs.Common.{◌≡◌, ℕ, List, Option, Result, Ok, Err, refl, subst}
use Rattle.std.specs.Prelude.{IfSome, IfOk, IfErr, IsErrAnd}
use Rattle.mat_command.specs.CommandLines.{check}
use Rattle.mat_problem.specs.Instances.{Instance}
use Rattle.mat_desc.specs.Notations.{NamedInstance}
use Rattle.mat_judge.specs.Described.{IsDescribed, IsNamed}
use Rattle.mat_judge.specs.Statuses.{out_of_memory}
use Rattle.mat_judge.specs.declared.certified.NotRight.TheVariants as not_right
use Rattle.mat_judge.specs.declared.certified.Uncertified.TheVariants as uncertified
use Rattle.mat_judge.specs.declared.reading.Unread.TheVariants as unread
use Rattle.mat_judge.specs.declared.refusal.Refusal.{Refusal}
use Rattle.mat_judge.proofs.Told.{if_told}
use Rattle.mat_top.specs.Outcomes.{yes_text}
use Rattle.mat_top.specs.Refusals.{HasText, HasNoText}
use Rattle.mat_top.proofs.Refusing.{text_found}
use Rattle.mat_report.specs.Reports.{Saying, IsAnswerReport}
use Rattle.mat_report.specs.ReportEnds.{MayBeReported}

-- what is described with names is described
pub described_there : (held : Option (List ℕ)) (problem : NamedInstance) → IfSome held (λ bytes. IsNamed bytes problem)
    → IfSome held (λ bytes. IsDescribed bytes problem.instance)
described_there held problem named =
    if_told held _ _ (λ bytes spelled. record { within = spelled.within; spelled = spelled.spelled.spells }) named

module _ (says : Saying) (held after : List ℕ → Option (List ℕ)) (same : (name : List ℕ) → after name ≡ held name)
    (description certificate : List ℕ) (problem : NamedInstance) (named : IfSome (held description) (λ bytes. IsNamed bytes problem)) where
  -- the check would write its yes
  yes_there : (text : List ℕ) → IsAnswerReport says (after certificate) problem text
      → HasText after (check certificate) problem.instance yes_text
  yes_there text reported = record {
    answer = (
      refl,
      if_told (after certificate) _ _ (λ bytes right.
          (reported.answer, right.certified, right.fitting, right.right)) reported.answered,
    );
    short = tt;
  }

  reported_there : (text : List ℕ) → IsAnswerReport says (after certificate) problem text
      → MayBeReported says held description certificate text
  reported_there text reported = record {
    report = record {
      problem = problem;
      named = named;
      reported = subst (λ o. IsAnswerReport says o problem text) (same certificate) reported;
    };
    outcome = (text_found {X = List ℕ} held after same description (check certificate) problem.instance
        (described_there (held description) problem named) (Ok text) (λ t. yes_text) (yes_there text reported)).outcome;
  }

  pub report_found : {X : Type 0} (found : Result X Refusal) (text_of : X → List ℕ)
      → IfOk found (λ x. IsAnswerReport says (after certificate) problem (text_of x))
      → IfOk found (λ x. MayBeReported says held description certificate (text_of x))
  report_found (Ok x) text_of reported = reported_there (text_of x) reported
  report_found (Err refusal) text_of reported = tt

-- memory ran out
memory_refused : (held : List ℕ → Option (List ℕ)) (certificate : List ℕ) (instance : Instance) (before now : List ℕ → ℕ)
    (refusal : Refusal)
    → refusal ≡ out_of_memory → HasNoText held (check certificate) instance before now refusal
memory_refused held certificate instance before now refusal is = (not_right.Uncertified (uncertified.Unread unread.Memory), is, tt)

pub memory_found : {X : Type 0} (held : List ℕ → Option (List ℕ)) (certificate : List ℕ) (instance : Instance)
    (before now : List ℕ → ℕ) (found : Result X Refusal)
    → IsErrAnd found (λ e. e ≡ out_of_memory) → IfErr found (λ e. HasNoText held (check certificate) instance before now e)
memory_found held certificate instance before now (Ok x) is = absurd is
memory_found held certificate instance before now (Err e) is = memory_refused held certificate instance before now e is
