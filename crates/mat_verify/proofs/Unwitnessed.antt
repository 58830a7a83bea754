-- Why there is no witness or none is verified, over the shelf as it was before: a count that rose rose from a lesser one, and what was held is
-- held; and what is said of an answer as what is said of the file that it was read from.
use Rattle.mat_verify.proofs.Common.{◌≡◌, ℕ, ◌≤◌, true, List, Option, inl, inr, subst, IfSome, Instance, is_witnessed_pair, witness_limit, if_told, unread_before, IsRungAnswer, HasNoRung, HasNoWitness, IsRefusedAnswer, IsUnshown, IsUnshownRung, IsUnverified, IsUnwitnessable, IsWrongRung}
use Rattle.mat_cert.specs.Certificates.{Certificate}
use Rattle.mat_cert.specs.Limits.{certificate_limit}
use Rattle.mat_judge.specs.Certified.{IsCertified, IsUncertified}
use Rattle.mat_judge.specs.declared.certified.Uncertified.{Uncertified}
use Rattle.mat_judge.specs.declared.certified.Uncertified.TheVariants as uncertified
use Rattle.mat_judge.specs.declared.reading.Unread.TheVariants as unread
use Rattle.mat_judge.specs.declared.refusal.Refusal.{Refusal}
use Rattle.mat_verify.specs.declared.refusals.NoRung.{NoRung}
use Rattle.mat_verify.specs.declared.refusals.NoRung.TheVariants as no_rung
use Rattle.mat_verify.specs.declared.refusals.Unshown.{Unshown}
use Rattle.mat_verify.specs.declared.refusals.Unshown.TheVariants as unshown

-- ---- a count that rose

pub uncertified_before : (held : Option (List ℕ)) (earlier before now : ℕ) (why : Uncertified) → earlier ≤ before
    → IsUncertified held before now why → IsUncertified held earlier now why
uncertified_before held earlier before now (uncertified.Unread why) le is = unread_before held certificate_limit earlier before now why le is
uncertified_before held earlier before now (uncertified.Fault kind number) le is = is

no_rung_before : (instance : Instance) (k : ℕ) (held : Option (List ℕ)) (earlier before now : ℕ) (why : NoRung) → earlier ≤ before
    → HasNoRung instance k held before now why → HasNoRung instance k held earlier now why
no_rung_before instance k held earlier before now (no_rung.Uncertified why) le is = uncertified_before held earlier before now why le is
no_rung_before instance k held earlier before now why le is = is

unshown_before : (instance : Instance) (answer : Certificate) (k : ℕ) (held : Option (List ℕ)) (earlier before now : ℕ) (why : Unshown)
    → earlier ≤ before → IsUnshown instance answer k held before now why → IsUnshown instance answer k held earlier now why
unshown_before instance answer k held earlier before now (unshown.Unread why) le is =
    unread_before held witness_limit earlier before now why le is
unshown_before instance answer k held earlier before now why le is = is

-- ---- the shelf before

module _ (after held : List ℕ → Option (List ℕ)) (same : (name : List ℕ) → after name ≡ held name) (instance : Instance)
    (earlier before now : List ℕ → ℕ) (le : (name : List ℕ) → earlier name ≤ before name) where
  no_rung_there : (k : ℕ) (certificate : List ℕ) (why : NoRung)
      → HasNoRung instance k (after certificate) (before certificate) (now certificate) why
      → HasNoRung instance k (held certificate) (earlier certificate) (now certificate) why
  no_rung_there k certificate why is = subst (λ o. HasNoRung instance k o (earlier certificate) (now certificate) why) (same certificate)
      (no_rung_before instance k (after certificate) (earlier certificate) (before certificate) (now certificate) why (le certificate) is)

  pub no_witness_there : (k : ℕ) (certificate : List ℕ) (refusal : Refusal)
      → HasNoWitness instance k (after certificate) (before certificate) (now certificate) refusal
      → HasNoWitness instance k (held certificate) (earlier certificate) (now certificate) refusal
  no_witness_there k certificate refusal (inl (why, is_refusal, is)) = inl (why, is_refusal, no_rung_there k certificate why is)
  no_witness_there k certificate refusal (inr (reason, first, second, is_refusal, is)) =
      inr (
        reason,
        first,
        second,
        is_refusal,
        subst (λ o. IfSome o (λ bytes. IsWrongRung instance k bytes reason first second)) (same certificate) is,
      )

  -- a rung whose witness doesn't show it
  pub unshown_rung : (k : ℕ) (certificate shown : List ℕ) (answer : Certificate) (why : Unshown)
      → IfSome (held certificate) (λ bytes. IsRungAnswer instance k bytes answer) → is_witnessed_pair instance ≡ true
      → IsUnshown instance answer k (after shown) (before shown) (now shown) why
      → IsUnshownRung held instance k certificate shown earlier now why
  unshown_rung k certificate shown answer why of_rung witnessed is = record {
    answer = answer;
    of_rung = of_rung;
    witnessed = witnessed;
    unshown = subst (λ o. IsUnshown instance answer k o (earlier shown) (now shown) why) (same shown)
        (unshown_before instance answer k (after shown) (earlier shown) (before shown) (now shown) why (le shown) is);
  }

  pub unverified_there : (k : ℕ) (certificate shown : List ℕ) (refusal : Refusal)
      → IsUnverified after instance k certificate shown before now refusal
      → IsUnverified held instance k certificate shown earlier now refusal
  unverified_there k certificate shown refusal (inl (why, is_refusal, is)) = inl (why, is_refusal, no_rung_there k certificate why is)
  unverified_there k certificate shown refusal (inr (why, is_refusal, is)) =
      inr (
        why,
        is_refusal,
        unshown_rung k certificate shown is.answer why
            (subst (λ o. IfSome o (λ bytes. IsRungAnswer instance k bytes is.answer)) (same certificate) is.of_rung) is.witnessed is.unshown,
      )

-- ---- the answer that was read

-- a rung of it can't be witnessed
pub unwitnessable_there : (instance : Instance) (k : ℕ) (held : Option (List ℕ)) (before now : ℕ) (answer : Certificate)
    → IfSome held (λ bytes. IsCertified bytes answer) → (why : NoRung) → IsUnwitnessable instance answer k why
    → HasNoRung instance k held before now why
unwitnessable_there instance k held before now answer certified (no_rung.Uncertified why) is = absurd is
unwitnessable_there instance k held before now answer certified no_rung.WrongShape misfit =
    if_told held _ _ (λ bytes is. (answer, is, misfit)) certified
unwitnessable_there instance k held before now answer certified no_rung.Unwitnessed (fitting, unwitnessed) =
    if_told held _ _ (λ bytes is. (answer, is, fitting, unwitnessed)) certified

-- what refuses an answer refuses the certificate that has it
module _ (instance : Instance) (k : ℕ) (held : Option (List ℕ)) (before now : ℕ) (answer : Certificate)
    (of_rung : IfSome held (λ bytes. IsRungAnswer instance k bytes answer)) where
  pub refused_by : (refusal : Refusal) → IsRefusedAnswer instance answer refusal → HasNoWitness instance k held before now refusal
  refused_by refusal (inl memory) = inl (no_rung.Uncertified (uncertified.Unread unread.Memory), memory, tt)
  refused_by refusal (inr (reason, first, second, same, wrong, fails)) =
      inr (reason, first, second, same, if_told held _ _ (λ bytes of. record { answer = answer; of_rung = of; wrong = wrong; fails = fails }) of_rung)
