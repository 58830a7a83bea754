-- Rows that stand, one for each job, are the texts of all jobs.
use Rattle.mat_top.proofs.Common.{◌≡◌, ℕ, suc, ◌+◌, List, [], ◌∷◌, length, Some, refl, subst, arith, Vec, slice_get, LoadedJob, IsTextAt, HaveTexts}
use Rattle.mat_work.specs.Rows.{StandFrom}

texts_from : (all : List LoadedJob) (from : ℕ) (jobs : List LoadedJob) (rows : List (Vec ℕ))
    → ((i : ℕ) (loaded : LoadedJob) → slice_get jobs i ≡ Some loaded → slice_get all (from + i) ≡ Some loaded) → length rows ≡ length jobs
    → StandFrom (IsTextAt all) from rows → HaveTexts jobs rows
texts_from all from [] [] place count stand = tt
texts_from all from (loaded ∷ others) (row ∷ rows) place count stand = (
  stand.0 loaded (subst (λ n. slice_get all n ≡ Some loaded) (omega arith) (place 0 loaded refl)),
  texts_from all (from + 1) others rows
      (λ i other is. subst (λ n. slice_get all n ≡ Some other) (omega arith) (place (suc i) other is)) (omega arith) stand.1,
)
texts_from all from jobs rows place count stand = absurd (omega arith)

pub texts_of_rows : (jobs : List LoadedJob) (rows : List (Vec ℕ)) → length rows ≡ length jobs → StandFrom (IsTextAt jobs) 0 rows
    → HaveTexts jobs rows
texts_of_rows jobs rows count stand =
    texts_from jobs 0 jobs rows (λ i loaded is. subst (λ n. slice_get jobs n ≡ Some loaded) (omega arith) is) count stand
