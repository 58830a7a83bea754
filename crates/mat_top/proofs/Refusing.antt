-- What is found of a problem and of a certificate is the outcome of a request about the problem in a file, where the shelf tells its files.
use Rattle.mat_top.proofs.Common.{◌≡◌, ◌⊎◌, ℕ, ◌<◌, ◌≤◌, List, length, Option, Some, None, Result, Ok, Err, true, refl, inl, inr, subst, IfSome, IsSome, IsSomeAnd, IfOk, IfErr, Instance, rooted, certificate_limit, Request, show, solve, cuts, check, witness, verify, about, IsDescribed, Refusal}
use Rattle.mat_top.proofs.Common.{Status, told, told_both, if_told, IsCutsText, IsProblemOutcome, IsBytesOutcome, IsCertificateOutcome, IsWitnessOutcome, CallReaches, Tells, TellsCertificate, IsOutcome, IsTextFor, IsTrueOf, HasText, HasNoText, IsRefusal, MayBeWritten}
use Rattle.std.proofs.lemmas.Bool.{and_parts}
use Rattle.mat_cert.specs.Certificates.{Certificate}
use Rattle.mat_cert.specs.declared.refusal.CertKind.{CertKind}
use Rattle.mat_check.specs.Fitting.{fits, is_rooted}
use Rattle.mat_witness.specs.Kinds.{has_rung, is_witnessed_pair}
use Rattle.mat_judge.specs.Certified.{IsFaultyCertificate, IsNotRight, IsUncertified}
use Rattle.mat_judge.specs.Statuses.{refusal_of_not_right, refusal_of_uncertified}
use Rattle.mat_judge.specs.declared.certified.NotRight.{NotRight}
use Rattle.mat_judge.specs.declared.certified.NotRight.TheVariants as not_right
use Rattle.mat_judge.specs.declared.certified.Uncertified.{Uncertified}
use Rattle.mat_judge.specs.declared.certified.Uncertified.TheVariants as uncertified
use Rattle.mat_judge.specs.declared.reading.Unread.TheVariants as unread
use Rattle.mat_judge.specs.declared.refusal.Denial.TheVariants as denials
use Rattle.mat_judge.specs.declared.status.Status.TheVariants as statuses
use Rattle.mat_verify.specs.WitnessOutcomes.{IsRungOutcome, IsVerifyOutcome, IsWitnessFound}
use Rattle.mat_verify.specs.WitnessRefusals.{HasNoRung, HasNoWitness, IsUnshown, IsUnverified, refusal_of_no_rung, refusal_of_unshown}
use Rattle.mat_verify.specs.Witnessing.{IsRungAnswer}
use Rattle.mat_verify.specs.declared.refusals.NoRung.{NoRung}
use Rattle.mat_verify.specs.declared.refusals.NoRung.TheVariants as no_rung
use Rattle.mat_verify.specs.declared.refusals.Unshown.{Unshown}
use Rattle.mat_verify.specs.declared.refusals.Unshown.TheVariants as unshown
use Rattle.mat_verify.proofs.Unwitnessed.{no_witness_there, uncertified_before, unverified_there}

-- ---- the shelf before the description was read

not_right_before : (instance : Instance) (held : Option (List ℕ)) (earlier before now : ℕ) (why : NotRight) → earlier ≤ before
    → IsNotRight instance held before now why → IsNotRight instance held earlier now why
not_right_before instance held earlier before now (not_right.Uncertified why) le is = uncertified_before held earlier before now why le is
not_right_before instance held earlier before now why le is = is

module _ (held after : List ℕ → Option (List ℕ)) (same : (name : List ℕ) → after name ≡ held name) (instance : Instance) where
  -- what is written over the shelf as it was after is written over the shelf before
  answer_before : (request : Request) (text : List ℕ) → IsTextFor after request instance text → IsTextFor held request instance text
  answer_before (check certificate) text answer =
      (answer.0, subst (λ o. IfSome o (λ bytes. IsCertificateOutcome instance bytes statuses.Done)) (same certificate) answer.1)
  answer_before (witness k certificate) text answer =
      subst (λ o. IfSome o (λ bytes. IsWitnessFound instance k bytes text)) (same certificate) answer
  answer_before (verify k certificate shown) text answer = (
    answer.0,
    subst (λ o. IfSome (held certificate) (λ bytes. (a : Certificate) × IsRungAnswer instance k bytes a
        × IfSome o (λ t. IsVerifyOutcome instance a k t statuses.Done))) (same shown)
        (subst (λ o. IfSome o (λ bytes. (a : Certificate) × IsRungAnswer instance k bytes a
        × IfSome (after shown) (λ t. IsVerifyOutcome instance a k t statuses.Done))) (same certificate) answer.1),
  )
  answer_before request text answer = answer

  text_before : (request : Request) (text : List ℕ) → HasText after request instance text → HasText held request instance text
  text_before request text has = record { answer = answer_before request text has.answer; short = has.short }

  -- and so is what gives none
  none_before : (request : Request) (earlier before now : List ℕ → ℕ) (refusal : Refusal)
      → ((name : List ℕ) → earlier name ≤ before name)
      → HasNoText after request instance before now refusal → HasNoText held request instance earlier now refusal
  none_before (check certificate) earlier before now refusal le (why, same_refusal, is) = (
    why,
    same_refusal,
    subst (λ o. IsNotRight instance o (earlier certificate) (now certificate) why) (same certificate)
        (not_right_before instance (after certificate) (earlier certificate) (before certificate) (now certificate) why (le certificate) is),
  )
  none_before (witness k certificate) earlier before now refusal le is =
      no_witness_there after held same instance earlier before now le k certificate refusal is
  none_before (verify k certificate shown) earlier before now refusal le is =
      unverified_there after held same instance earlier before now le k certificate shown refusal is
  none_before request earlier before now refusal le why = why

-- ---- the outcome of the problem that was read

-- a problem with a text of weighted vertex sets is one of arcs with costs and a root
cuts_form : (instance : Instance) (text : List ℕ) → IsCutsText instance text → is_rooted instance ≡ true
cuts_form (rooted vertices root arcs costs) text is = refl
cuts_form instance text is = absurd is

module _ (held : List ℕ → Option (List ℕ)) (file : List ℕ) (instance : Instance)
    (described : IfSome (held file) (λ bytes. IsDescribed bytes instance)) where
  -- an outcome of the problem is one of the call
  problem_outcome : (request : Request) (status : Status)
      → ((bytes : List ℕ) → IsDescribed bytes instance → TellsCertificate held request bytes
      → IsProblemOutcome held request instance status)
      → Tells held (Some (about file request)) → IsOutcome held (Some (about file request)) status
  problem_outcome request status outcome tells = from (held file) described tells
    where
      from : (o : Option (List ℕ)) → IfSome o (λ bytes. IsDescribed bytes instance) → IsSomeAnd o (TellsCertificate held request)
          → IsSomeAnd o (λ bytes. IsBytesOutcome held request bytes status)
      from None described tells = absurd tells
      from (Some bytes) described tells = inr (instance, described, outcome bytes described tells)

  -- an outcome of the certificate is one of the call
  certificate_outcome : (certificate : List ℕ) (P : List ℕ → Type 0) (status : Status) → IfSome (held certificate) P
      → ((bytes : List ℕ) → P bytes → IsCertificateOutcome instance bytes status)
      → Tells held (Some (about file (check certificate))) → IsOutcome held (Some (about file (check certificate))) status
  certificate_outcome certificate P status why outcome =
      problem_outcome (check certificate) status (λ bytes spelled tells. told (held certificate) _ _ (tells instance spelled) why outcome)

  -- what is written for the problem is written where the outcome is Done
  done_for : (request : Request) (text bytes : List ℕ) → IsTextFor held request instance text → IsDescribed bytes instance
      → TellsCertificate held request bytes → IsProblemOutcome held request instance statuses.Done
  done_for show text bytes answer spelled tells = refl
  done_for (solve query) text bytes answer spelled tells = answer.0
  done_for cuts text bytes answer spelled tells = (cuts_form instance text answer.1, answer.0)
  done_for (check certificate) text bytes answer spelled tells =
      told (held certificate) _ _ (tells instance spelled) answer.1 (λ all outcome. outcome)
  done_for (witness k certificate) text bytes answer spelled tells =
      told (held certificate) _ _ (tells instance spelled) answer (λ all found. inr (found.answer, found.of_rung, found.right))
  done_for (verify k certificate shown) text bytes answer spelled tells =
      told_both (held certificate) _ _ _ (tells instance spelled) answer.1 (λ all needs found. inr (
        found.0,
        found.1,
        told (held shown) _ _ (needs found.0 found.1) found.2 (λ t outcome. outcome),
      ))

  -- there is a text
  written_for : (request : Request) (text : List ℕ) → HasText held request instance text → MayBeWritten held (about file request) text
  written_for request text has = record {
    output = record {
      short = has.short;
      answer = if_told (held file) _ _ (λ bytes spelled. record { instance = instance; described = spelled; answer = has.answer }) described;
    };
    outcome = problem_outcome request statuses.Done (λ bytes. done_for request text bytes has.answer);
  }

  -- a file is no certificate, for any request whose outcome it is to be one
  uncertified_by : (request : Request) (certificate : List ℕ) (before now : List ℕ → ℕ) (why : Uncertified)
      → IsUncertified (held certificate) (before certificate) (now certificate) why
      → CallReaches held (Some (about file request)) certificate
      → (IfSome (held certificate) (λ bytes. certificate_limit < length bytes) → Tells held (Some (about file request))
      → IsOutcome held (Some (about file request)) statuses.TooLong)
      → ((kind : CertKind) (number : ℕ) → IfSome (held certificate) (λ bytes. IsFaultyCertificate bytes (kind, number))
      → (Tells held (Some (about file request)) → IsOutcome held (Some (about file request)) statuses.BadCertificate)
      × IsTrueOf held (Some (about file request)) (denials.BadCertificate kind number))
      → IsRefusal held (about file request) before now (refusal_of_uncertified why)
  uncertified_by request certificate before now (uncertified.Unread unread.Fault) is reaches long faulty = (certificate, reaches, is)
  uncertified_by request certificate before now (uncertified.Unread unread.TooLong) is reaches long faulty = long is
  uncertified_by request certificate before now (uncertified.Unread unread.Memory) is reaches long faulty = tt
  uncertified_by request certificate before now (uncertified.Fault kind number) is reaches long faulty = faulty kind number is

  -- the certificate gives no text
  denied_by : (certificate : List ℕ) (before now : List ℕ → ℕ) (why : NotRight)
      → IsNotRight instance (held certificate) (before certificate) (now certificate) why
      → IsRefusal held (about file (check certificate)) before now (refusal_of_not_right why)
  denied_by certificate before now (not_right.Uncertified why) is =
      uncertified_by (check certificate) certificate before now why is
      (inr (refl, if_told (held file) _ _ (λ bytes spelled. (instance, spelled)) described))
      (λ long. certificate_outcome certificate _ statuses.TooLong long (λ all over. over)) (λ kind number faulty.
      (certificate_outcome certificate _ statuses.BadCertificate faulty (λ all fault. ((kind, number), fault)), faulty))
  denied_by certificate before now not_right.WrongShape is =
      (certificate_outcome certificate _ statuses.WrongShape is (λ all misfit. (misfit.answer, misfit.certified, misfit.misfit)), tt)
  denied_by certificate before now (not_right.No reason first second) is = (
    certificate_outcome certificate _ statuses.No is (λ all no. (no.answer, no.certified, no.fitting, no.wrong)),
    if_told (held file) _ _ (λ bytes spelled. if_told (held certificate) _ _
        (λ all no. record { instance = instance; described = spelled; failed = no }) is) described,
  )

  -- there is no witness
  witness_outcome : (k : ℕ) (certificate : List ℕ) (P : List ℕ → Type 0) (status : Status) → IfSome (held certificate) P
      → ((bytes : List ℕ) → P bytes → IsRungOutcome instance k bytes status
      ⊎ ((answer : Certificate) × IsRungAnswer instance k bytes answer × IsWitnessOutcome instance answer status))
      → Tells held (Some (about file (witness k certificate))) → IsOutcome held (Some (about file (witness k certificate))) status
  witness_outcome k certificate P status why outcome =
      problem_outcome (witness k certificate) status (λ bytes spelled tells. told (held certificate) _ _ (tells instance spelled) why outcome)

  no_rung_by : (k : ℕ) (certificate : List ℕ) (before now : List ℕ → ℕ) (why : NoRung)
      → HasNoRung instance k (held certificate) (before certificate) (now certificate) why
      → IsRefusal held (about file (witness k certificate)) before now (refusal_of_no_rung why)
  no_rung_by k certificate before now (no_rung.Uncertified why) is =
      uncertified_by (witness k certificate) certificate before now why is
      (inr (refl, if_told (held file) _ _ (λ bytes spelled. (instance, spelled)) described))
      (λ long. witness_outcome k certificate _ statuses.TooLong long (λ all over. inl over)) (λ kind number faulty.
      (witness_outcome k certificate _ statuses.BadCertificate faulty (λ all fault. inl ((kind, number), fault)), faulty))
  no_rung_by k certificate before now no_rung.WrongShape is =
      (witness_outcome k certificate _ statuses.WrongShape is (λ all shape. inl shape), tt)
  no_rung_by k certificate before now no_rung.Unwitnessed is =
      (witness_outcome k certificate _ statuses.Unwitnessed is (λ all kinds. inl kinds), tt)

  unwitnessed_by : (k : ℕ) (certificate : List ℕ) (before now : List ℕ → ℕ) (refusal : Refusal)
      → HasNoWitness instance k (held certificate) (before certificate) (now certificate) refusal
      → IsRefusal held (about file (witness k certificate)) before now refusal
  unwitnessed_by k certificate before now refusal (inl (why, same, is)) = rw same (no_rung_by k certificate before now why is)
  unwitnessed_by k certificate before now refusal (inr (reason, first, second, same, is)) = rw same (
    witness_outcome k certificate _ statuses.No is (λ all no. inr (no.answer, no.of_rung, no.wrong)),
    if_told (held file) _ _ (λ bytes spelled. if_told (held certificate) _ _ (λ all no. record {
      instance = instance;
      described = spelled;
      failed = record {
        answer = no.answer;
        certified = no.of_rung.certified;
        fitting = (and_parts (fits instance no.answer) (has_rung no.answer k) no.of_rung.fitting).0;
        wrong = no.wrong;
        fails = no.fails;
      };
    }) is) described,
  )

  -- a witness is not verified
  verify_outcome : (k : ℕ) (certificate shown : List ℕ) (P : List ℕ → Type 0) (status : Status) → IfSome (held certificate) P
      → ((bytes : List ℕ) → P bytes → ((answer : Certificate) → IsRungAnswer instance k bytes answer → IsSome (held shown))
      → IsRungOutcome instance k bytes status ⊎ ((answer : Certificate) × IsRungAnswer instance k bytes answer
      × IsSomeAnd (held shown) (λ text. IsVerifyOutcome instance answer k text status)))
      → Tells held (Some (about file (verify k certificate shown))) → IsOutcome held (Some (about file (verify k certificate shown))) status
  verify_outcome k certificate shown P status why outcome =
      problem_outcome (verify k certificate shown) status (λ bytes spelled tells.
      told_both (held certificate) _ _ _ (tells instance spelled) why (λ all needs fact. outcome all fact needs))

  unverified_rung : (k : ℕ) (certificate shown : List ℕ) (before now : List ℕ → ℕ) (why : NoRung)
      → HasNoRung instance k (held certificate) (before certificate) (now certificate) why
      → IsRefusal held (about file (verify k certificate shown)) before now (refusal_of_no_rung why)
  unverified_rung k certificate shown before now (no_rung.Uncertified why) is =
      uncertified_by (verify k certificate shown) certificate before now why is
      (inr (inl (refl, if_told (held file) _ _ (λ bytes spelled. (instance, spelled)) described)))
      (λ long. verify_outcome k certificate shown _ statuses.TooLong long (λ all over needs. inl over)) (λ kind number faulty.
      (verify_outcome k certificate shown _ statuses.BadCertificate faulty (λ all fault needs. inl ((kind, number), fault)), faulty))
  unverified_rung k certificate shown before now no_rung.WrongShape is =
      (verify_outcome k certificate shown _ statuses.WrongShape is (λ all shape needs. inl shape), tt)
  unverified_rung k certificate shown before now no_rung.Unwitnessed is =
      (verify_outcome k certificate shown _ statuses.Unwitnessed is (λ all kinds needs. inl kinds), tt)

  -- the certificate has such an answer, and the witness doesn't show its rung
  unshown_outcome : (k : ℕ) (certificate shown : List ℕ) (answer : Certificate) (P : List ℕ → Type 0) (status : Status)
      → IfSome (held certificate) (λ bytes. IsRungAnswer instance k bytes answer) → IfSome (held shown) P
      → ((text : List ℕ) → P text → IsVerifyOutcome instance answer k text status)
      → Tells held (Some (about file (verify k certificate shown))) → IsOutcome held (Some (about file (verify k certificate shown))) status
  unshown_outcome k certificate shown answer P status of_rung why outcome =
      verify_outcome k certificate shown (λ bytes. IsRungAnswer instance k bytes answer) status of_rung (λ bytes of needs.
      inr (answer, of, told (held shown) _ _ (needs answer of) why outcome))

  unshown_by : (k : ℕ) (certificate shown : List ℕ) (before now : List ℕ → ℕ) (why : Unshown) (answer : Certificate)
      → IfSome (held certificate) (λ bytes. IsRungAnswer instance k bytes answer) → is_witnessed_pair instance ≡ true
      → IsUnshown instance answer k (held shown) (before shown) (now shown) why
      → IsRefusal held (about file (verify k certificate shown)) before now (refusal_of_unshown why)
  unshown_by k certificate shown before now (unshown.Unread unread.Fault) answer of_rung witnessed is =
      (shown, inr (inr (refl, instance, described, witnessed, if_told (held certificate) _ _ (λ bytes of. (answer, of)) of_rung)), is)
  unshown_by k certificate shown before now (unshown.Unread unread.TooLong) answer of_rung witnessed is =
      unshown_outcome k certificate shown answer _ statuses.TooLong of_rung is (λ text long. long)
  unshown_by k certificate shown before now (unshown.Unread unread.Memory) answer of_rung witnessed is = tt
  unshown_by k certificate shown before now (unshown.Fault kind number) answer of_rung witnessed is = (
    unshown_outcome k certificate shown answer _ statuses.BadWitness of_rung is (λ text faulty. ((kind, number), faulty)),
    if_told (held file) _ _ (λ bytes spelled. if_told (held certificate) _ _ (λ all of. if_told (held shown) _ _ (λ text faulty. record {
      instance = instance;
      described = spelled;
      answer = answer;
      of_rung = of;
      faulty = faulty;
    }) is) of_rung) described,
  )
  unshown_by k certificate shown before now (unshown.Part part) answer of_rung witnessed is = (
    unshown_outcome k certificate shown answer _ statuses.No of_rung is (λ text fails. (part, fails)),
    if_told (held file) _ _ (λ bytes spelled. if_told (held certificate) _ _ (λ all of. if_told (held shown) _ _ (λ text fails. record {
      instance = instance;
      described = spelled;
      answer = answer;
      of_rung = of;
      fails = fails;
    }) is) of_rung) described,
  )

  unverified_by : (k : ℕ) (certificate shown : List ℕ) (before now : List ℕ → ℕ) (refusal : Refusal)
      → IsUnverified held instance k certificate shown before now refusal
      → IsRefusal held (about file (verify k certificate shown)) before now refusal
  unverified_by k certificate shown before now refusal (inl (why, same, is)) =
      rw same (unverified_rung k certificate shown before now why is)
  unverified_by k certificate shown before now refusal (inr (why, same, is)) =
      rw same (unshown_by k certificate shown before now why is.answer is.of_rung is.witnessed is.unshown)

  -- there is no text
  not_written : (request : Request) (before now : List ℕ → ℕ) (refusal : Refusal)
      → HasNoText held request instance before now refusal → IsRefusal held (about file request) before now refusal
  not_written show before now refusal memory = rw memory tt
  not_written (solve query) before now refusal (inl memory) = rw memory tt
  not_written (solve query) before now refusal (inr (shape, other)) =
      rw shape (problem_outcome (solve query) statuses.WrongShape (λ bytes spelled tells. other), tt)
  not_written cuts before now refusal (inl memory) = rw memory tt
  not_written cuts before now refusal (inr (inl (shape, other))) =
      rw shape (problem_outcome cuts statuses.WrongShape (λ bytes spelled tells. other), tt)
  not_written cuts before now refusal (inr (inr (cost, form, unpayable))) =
      rw cost (problem_outcome cuts statuses.BadCost (λ bytes spelled tells. (form, unpayable)), tt)
  not_written (check certificate) before now refusal (why, same, is) = rw same (denied_by certificate before now why is)
  not_written (witness k certificate) before now refusal is = unwitnessed_by k certificate before now refusal is
  not_written (verify k certificate shown) before now refusal is = unverified_by k certificate shown before now refusal is

-- ---- what was found of the problem, as what is found of the call

module _ {X : Type 0} (held after : List ℕ → Option (List ℕ)) (same : (name : List ℕ) → after name ≡ held name) (file : List ℕ)
    (request : Request) (instance : Instance) (described : IfSome (held file) (λ bytes. IsDescribed bytes instance)) where
  pub text_found : (found : Result X Refusal) (text_of : X → List ℕ) → IfOk found (λ x. HasText after request instance (text_of x))
      → IfOk found (λ x. MayBeWritten held (about file request) (text_of x))
  text_found (Ok x) text_of has =
      written_for held file instance described request (text_of x) (text_before held after same instance request (text_of x) has)
  text_found (Err refusal) text_of has = tt

  pub none_found : (found : Result X Refusal) (earlier before now : List ℕ → ℕ) → ((name : List ℕ) → earlier name ≤ before name)
      → IfErr found (λ e. HasNoText after request instance before now e)
      → IfErr found (λ e. IsRefusal held (about file request) earlier now e)
  none_found (Ok x) earlier before now le why = tt
  none_found (Err refusal) earlier before now le why =
      not_written held file instance described request earlier now refusal
      (none_before held after same instance request earlier before now refusal le why)
