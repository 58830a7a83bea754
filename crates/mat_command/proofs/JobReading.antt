-- Reading a list of jobs: the words of a line are text, no more than the first seven of them matter, and the lines are read one job after the
-- other, as a loop reads them: the jobs so far, in front of those that are still read, are the jobs that are read in all.
use Rattle.mat_command.proofs.Common.{◌≡◌, ℕ, zero, suc, ◌-◌, ◌+◌, ◌≤◌, ◌<◌, Bool, true, false, not, cond, eqb, List, [], ◌∷◌, ◌++◌, length, take, Option, Some, None, Result, Ok, Err, refl, sym, ap, subst, ◌∙◌, arith, append_assoc, IfOk, IfErr, append-nil, take_all, take-append-le, WordsLeft}
use Rattle.mat_command.proofs.Common.{LinesLeft, is_word, words_of, is_well_spaced, Job, on_line, ended, with_job, job_before, is_head, is_end, job_of_line, jobs_at, most_jobs, jobs_of}
use Rattle.std.specs.List.{list_all}
use Rattle.std.proofs.lemmas.Bool.{not-false}
use Rattle.mat_words.specs.Lines.{lines_of}
use Rattle.mat_words.specs.Reading.{Fault, line_from, line_at, is_closed}
use Rattle.mat_words.specs.Steps.{◌>>=◌}
use Rattle.mat_words.specs.declared.refusal.ReadingFault.TheVariants.{EndsEarly, BadByte, NoWord}
use Rattle.mat_words.proofs.ReadingSteps.{found-same, refused_found}
use Rattle.mat_command.specs.JobLines.{Fails, Gives, HasNoJobs, kept_words, words_at, head_at, no_job, some_job, job_at}
use Rattle.mat_command.specs.declared.refusal.ListRefusal.{ListRefusal}
use Rattle.mat_command.specs.declared.refusal.ListRefusal.TheVariants.{Line, Memory}
use Rattle.mat_desc.specs.Limits.{description_limit}

-- ---- the words of a line

-- the words of a line that is read are words
pub line_words : (p : LinesLeft) (w : WordsLeft) (q : LinesLeft) → line_at p ≡ Ok (w, q) → list_all is_word w.words ≡ true
unfolding line_at
line_words p w q e = from p.lines e
  where
    from : (lines : List (List ℕ)) → line_from p.line lines ≡ Ok (w, q) → list_all is_word w.words ≡ true
    from [] h = absurd cc
    from (l ∷ ls) h =
        let read : Result (WordsLeft × LinesLeft) Fault = Ok
        (record { line = p.line; words = words_of l }, record { line = p.line + 1; lines = ls }) in
        let ended = refused_found (eqb (length ls) 0) (EndsEarly, p.line)
        (cond (not (is_well_spaced l)) (Err (BadByte, p.line)) (cond (eqb (length l) 0) (Err (NoWord, p.line)) read)) (w, q) h in
        let spaced = refused_found (not (is_well_spaced l)) (BadByte, p.line) (cond (eqb (length l) 0) (Err (NoWord, p.line)) read) (w, q)
        ended.1 in
        let some = refused_found (eqb (length l) 0) (NoWord, p.line) read (w, q) spaced.1 in
        let same = found-same (record { line = p.line; words = words_of l }, record { line = p.line + 1; lines = ls }) (w, q) some.1 in
        let words : words_of l ≡ w.words = ap (λ (x : WordsLeft × LinesLeft). x.0.words) same in
        subst (λ (v : List (List ℕ)). list_all is_word v ≡ true) words (not-false (is_well_spaced l) spaced.0)

-- the words that are kept, where as many are read and the others are left
pub first_kept : (words rest whole : List (List ℕ)) → words ++ rest ≡ whole → length words ≡ kept_words → words ≡ take kept_words whole
first_kept words rest whole e many =
    sym (take_all kept_words words (omega arith)) ∙ sym (take-append-le kept_words words rest (omega arith)) ∙ ap (take kept_words) e

-- ---- the words behind the first seven say nothing

head_kept : (words : List (List ℕ)) → is_head (take kept_words words) ≡ is_head words
head_kept (a ∷ b ∷ c ∷ words) = refl
head_kept words = refl

end_kept : (words : List (List ℕ)) → is_end (take kept_words words) ≡ is_end words
end_kept (a ∷ b ∷ words) = refl
end_kept words = refl

job_kept : (words : List (List ℕ)) → job_of_line (take kept_words words) ≡ job_of_line words
job_kept (a ∷ b ∷ c ∷ d ∷ e ∷ f ∷ g ∷ words) = refl
job_kept words = refl

-- ---- the lines

-- the first words of a line that is read, and the lines behind it
abbrev kept : ℕ → Result (WordsLeft × LinesLeft) Fault → Result (List (List ℕ) × LinesLeft) ℕ
kept n line = on_line n line (λ words behind. Ok (take kept_words words, behind))

-- the job of a line that is read, with the lines behind it
abbrev job_in_line : ℕ → Result (WordsLeft × LinesLeft) Fault → Result (Option (Job × LinesLeft)) ℕ
job_in_line n line = kept n line >>= λ x. cond (is_end x.0) (no_job x.1) (some_job n (job_of_line x.0) x.1)

-- the jobs that the next line begins: none, or its job before those behind it
abbrev jobs_from : Result (Option (Job × LinesLeft)) ℕ → (LinesLeft → Result (List Job) ℕ) → Result (List Job) ℕ
jobs_from (Err n) next = Err n
jobs_from (Ok None) next = Ok []
jobs_from (Ok (Some x)) next = with_job x.0 (next x.1)

none_from : (closed : Bool) (n : ℕ) (next : LinesLeft → Result (List Job) ℕ)
    → cond closed (Ok []) (Err n) ≡ jobs_from (cond closed (Ok None) (Err n)) next
none_from true n next = refl
none_from false n next = refl

some_from : (last : Bool) (n : ℕ) (job : Option Job) (behind : LinesLeft) (next : LinesLeft → Result (List Job) ℕ)
    → cond last (ended behind) (job_before n job (next behind)) ≡ jobs_from (cond last (no_job behind) (some_job n job behind)) next
some_from true n job behind next = none_from (is_closed behind.lines) behind.line next
some_from false n None behind next = refl
some_from false n (Some job) behind next = refl

-- the jobs that the next line begins, where more may stand there
jobs_more : (more : ℕ) (left : LinesLeft) → jobs_at (suc more) left ≡ jobs_from (job_at left) (jobs_at more)
unfolding jobs_at job_at words_at
jobs_more more left = from (line_at left)
  where
    from : (line : Result (WordsLeft × LinesLeft) Fault)
        → on_line left.line line
        (λ words behind. cond (is_end words) (ended behind) (job_before left.line (job_of_line words) (jobs_at more behind)))
        ≡ jobs_from (job_in_line left.line line) (jobs_at more)
    from (Err fault) = refl
    from (Ok line) = rw (end_kept line.0.words, job_kept line.0.words)
        (some_from (is_end line.0.words) left.line (job_of_line line.0.words) line.1 (jobs_at more))

last_from : (last : Bool) (n : ℕ) (job : Option Job) (behind : LinesLeft)
    → cond last (ended behind) (Err n) ≡ jobs_from (cond last (no_job behind) (some_job n job behind)) (λ _. Err n)
last_from true n job behind = none_from (is_closed behind.lines) behind.line (λ _. Err n)
last_from false n None behind = refl
last_from false n (Some job) behind = refl

-- the same where no more may
jobs_last : (left : LinesLeft) → jobs_at zero left ≡ jobs_from (job_at left) (λ _. Err left.line)
unfolding jobs_at job_at words_at
jobs_last left = from (line_at left)
  where
    from : (line : Result (WordsLeft × LinesLeft) Fault)
        → on_line left.line line (λ words behind. cond (is_end words) (ended behind) (Err left.line))
        ≡ jobs_from (job_in_line left.line line) (λ _. Err left.line)
    from (Err fault) = refl
    from (Ok line) = rw (end_kept line.0.words, job_kept line.0.words)
        (last_from (is_end line.0.words) left.line (job_of_line line.0.words) line.1)

-- where the next line is the last, or has a fault, it doesn't matter how many more may stand there
none_more : (more : ℕ) (left : LinesLeft) → job_at left ≡ Ok None → jobs_at more left ≡ Ok []
none_more zero left e = rw (jobs_last left, e) refl
none_more (suc more) left e = rw (jobs_more more left, e) refl

fault_more : (more n : ℕ) (left : LinesLeft) → job_at left ≡ Err n → jobs_at more left ≡ Err n
fault_more zero n left e = rw (jobs_last left, e) refl
fault_more (suc more) n left e = rw (jobs_more more left, e) refl

-- ---- the loop

-- the jobs so far, in front of those that are still read
abbrev pub with_jobs : List Job → Result (List Job) ℕ → Result (List Job) ℕ
with_jobs front (Ok jobs) = Ok (front ++ jobs)
with_jobs front (Err n) = Err n

with_jobs-job : (front : List Job) (job : Job) (reading : Result (List Job) ℕ)
    → with_jobs front (with_job job reading) ≡ with_jobs (front ++ job ∷ []) reading
with_jobs-job front job (Ok jobs) = ap (λ (all : List Job). Ok all) (simp append_assoc)
with_jobs-job front job (Err n) = refl

-- one more job is read
pub job_read : (front : List Job) (most i : ℕ) (left : LinesLeft) (job : Job) (behind : LinesLeft) (total : Result (List Job) ℕ)
    → i < most → job_at left ≡ Ok (Some (job, behind)) → with_jobs front (jobs_at (most - i) left) ≡ total
    → with_jobs (front ++ job ∷ []) (jobs_at (most - (i + 1)) behind) ≡ total
job_read front most i left job behind total lt read so_far =
    let more : most - i ≡ suc (most - (i + 1)) = omega arith in
    let step : with_jobs front (jobs_at (most - i) left) ≡ with_jobs (front ++ job ∷ []) (jobs_at (most - (i + 1)) behind) =
    rw (more, jobs_more (most - (i + 1)) left, read) (with_jobs-job front job (jobs_at (most - (i + 1)) behind)) in
    sym step ∙ so_far

-- no job is left
pub jobs_read : (front : List Job) (more : ℕ) (left : LinesLeft) (total : Result (List Job) ℕ) → job_at left ≡ Ok None
    → with_jobs front (jobs_at more left) ≡ total → total ≡ Ok front
jobs_read front more left total read so_far =
    sym so_far ∙ rw (none_more more left read) (ap (λ (all : List Job). Ok all) (append-nil front))

-- the next line has a fault
job_fails : (front : List Job) (more n : ℕ) (left : LinesLeft) (total : Result (List Job) ℕ) → job_at left ≡ Err n
    → with_jobs front (jobs_at more left) ≡ total → total ≡ Err n
job_fails front more n left total failed so_far = sym so_far ∙ rw (fault_more more n left failed) refl

-- the next line has a fault, or memory ran out
pub reading_fails : (refusal : ListRefusal) (front : List Job) (more : ℕ) (left : LinesLeft) (total : Result (List Job) ℕ)
    → Fails refusal (job_at left) → with_jobs front (jobs_at more left) ≡ total → Fails refusal total
reading_fails Memory front more left total fails so_far = tt
reading_fails (Line n) front more left total fails so_far = job_fails front more n left total fails so_far

-- the next line says a job where no more may stand
pub job_refused : (front : List Job) (most i : ℕ) (left : LinesLeft) (x : Job × LinesLeft) (total : Result (List Job) ℕ)
    → most ≤ i → job_at left ≡ Ok (Some x) → with_jobs front (jobs_at (most - i) left) ≡ total → total ≡ Err left.line
job_refused front most i left x total le read so_far =
    let none : most - i ≡ zero = omega arith in
    sym so_far ∙ rw (none, jobs_last left, read) refl

-- ---- the whole list

-- the jobs of a list are those behind its head
jobs_of-steps : (bytes : List ℕ) → jobs_of bytes ≡ (head_at (record { line = 1; lines = lines_of bytes }) >>= jobs_at most_jobs)
unfolding jobs_of head_at words_at
jobs_of-steps bytes = from (line_at (record { line = 1; lines = lines_of bytes }))
  where
    choose : (head : Bool) (behind : LinesLeft)
        → cond head (jobs_at most_jobs behind) (Err 1) ≡ (cond head (Ok behind) (Err 1) >>= jobs_at most_jobs)
    choose true behind = refl
    choose false behind = refl

    from : (line : Result (WordsLeft × LinesLeft) Fault)
        → on_line 1 line (λ words behind. cond (is_head words) (jobs_at most_jobs behind) (Err 1))
        ≡ (kept 1 line >>= λ x. cond (is_head x.0) (Ok x.1) (Err 1)) >>= jobs_at most_jobs
    from (Err fault) = refl
    from (Ok line) = rw (head_kept line.0.words) (choose (is_head line.0.words) line.1)

-- the head of a list has a fault, or memory ran out there
pub head_fails : (refusal : ListRefusal) (bytes : List ℕ) → length bytes ≤ description_limit
    → Fails refusal (head_at (record { line = 1; lines = lines_of bytes })) → HasNoJobs bytes refusal
head_fails Memory bytes within fails = tt
head_fails (Line n) bytes within fails = record { within = within; first = jobs_of-steps bytes ∙ rw fails refl }

-- the jobs behind the head are those of the list
pub list_jobs : {X : Type 0} (view : X → List Job) (result : Result X ListRefusal) (bytes : List ℕ) (behind : LinesLeft)
    → head_at (record { line = 1; lines = lines_of bytes }) ≡ Ok behind → Gives view result (jobs_at most_jobs behind)
    → IfOk result (λ x. jobs_of bytes ≡ Ok (view x))
list_jobs view (Ok x) bytes behind head read = jobs_of-steps bytes ∙ rw (head, read) refl
list_jobs view (Err refusal) bytes behind head read = tt

-- why there are none
pub list_fails : {X : Type 0} (view : X → List Job) (result : Result X ListRefusal) (bytes : List ℕ) (behind : LinesLeft)
    → length bytes ≤ description_limit → head_at (record { line = 1; lines = lines_of bytes }) ≡ Ok behind
    → Gives view result (jobs_at most_jobs behind) → IfErr result (λ refusal. HasNoJobs bytes refusal)
list_fails view (Err (Line n)) bytes behind within head read =
    record { within = within; first = jobs_of-steps bytes ∙ rw (head, read) refl }
list_fails view _ bytes behind within head read = tt
