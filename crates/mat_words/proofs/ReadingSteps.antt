-- The steps of a reading, whatever its faults are: what is known where a step after it was reached.
use Rattle.mat_words.proofs.Common.{◌≡◌, ℕ, Bool, true, false, cond, Result, Ok, Err, refl, ap, Fails, told_by, refusal_by, ◌>>=◌, Refusal}
use Rattle.mat_words.specs.declared.refusal.Refusal.TheVariants as refusals

-- a reading without a fault
abbrev pub found : {A F : Type 0} → A → Result A F
found x = Ok x

pub found-same : {A F : Type 0} (x y : A) → found {F = F} x ≡ found {F = F} y → x ≡ y
found-same x y e = cc

-- a reading that has no fault has none in its first step, and none behind it
pub bind_found : {A B F : Type 0} (reading : Result A F) (next : A → Result B F) (y : B) → (reading >>= next) ≡ Ok y
    → (x : A) × (reading ≡ Ok x) × (next x ≡ Ok y)
bind_found (Ok x) next y e = (x, refl, e)
bind_found (Err fault) next y e = absurd cc

-- a test that has to hold, held
pub test_found : {B F : Type 0} (test : Bool) (fault : F) (reading : Result B F) (y : B) → cond test reading (Err fault) ≡ Ok y
    → (test ≡ true) × (reading ≡ Ok y)
test_found true fault reading y e = (refl, e)
test_found false fault reading y e = absurd cc

-- a test that may not hold, failed
pub refused_found : {B F : Type 0} (test : Bool) (fault : F) (reading : Result B F) (y : B) → cond test (Err fault) reading ≡ Ok y
    → (test ≡ false) × (reading ≡ Ok y)
refused_found true fault reading y e = absurd cc
refused_found false fault reading y e = (refl, e)

-- ---- faults told by another kind

-- what is told was read
pub told_found : {K L A : Type 0} (kind_of : K → L) (reading : Result A (K × ℕ)) (x : A) → told_by kind_of reading ≡ Ok x → reading ≡ Ok x
told_found kind_of (Ok y) x e = ap (λ z. Ok z) (found-same y x e)
told_found kind_of (Err fault) x e = absurd cc

-- what is read is told
pub told_again : {K L A : Type 0} (kind_of : K → L) (reading : Result A (K × ℕ)) (x : A) → reading ≡ Ok x → told_by kind_of reading ≡ Ok x
told_again kind_of reading x e = rw e refl

-- where a reading was refused, so is what is told of it
pub told_fails : {K L A : Type 0} (kind_of : K → L) (reading : Result A (K × ℕ)) (refusal : Refusal K) → Fails refusal reading
    → Fails (refusal_by kind_of refusal) (told_by kind_of reading)
told_fails kind_of reading refusals.Memory failed = tt
told_fails kind_of reading (refusals.Fault kind line) failed = rw failed refl
