-- The lines of a whole witness: a text that is read is that of the witness that was read, which is in range, and the text of a witness in range
-- is read as that witness.
use Rattle.mat_witness.proofs.Common.{◌≡◌, ℕ, pos, true, List, [], ◌∷◌, ◌++◌, Result, Ok, refl, sym, ap, subst, ◌∙◌, append_assoc, codes, and_from, All-head, All-tail, LinesLeft, Line, lines_of, text_of, numeral, ◌>>=◌, is_word, end_line, same_text, AreLeft, known_line, numeral_word, found-same}
use Rattle.mat_witness.proofs.Common.{bind_found, Tree, Fault, counted_at, fixed_at, number_at, IsRead, IsReadAgain, end_found, end_again, closed_found, closed_again, exact_found, exact_again, fixed_found, fixed_again, whole_line, is_witnessed, bound_lines, bounds_lines, free_lines, witness_lines}
use Rattle.mat_witness.proofs.Common.{BoundPart, FreePart, WitnessParts, IsFreeFor, bound_at, bounds_at, parts_at, rung_line_at, version_at, witness_at, AreBoundsFor, counted_found, counted_again}
use Rattle.std.specs.List.{All}
use Rattle.mat_witness.proofs.FreeLines.{HasDigits, free_found, free_again}
use Rattle.mat_witness.proofs.BoundLines.{bound_found, bound_again}

-- ---- the first two lines

-- the line that names the version
abbrev pub version_line : Line
version_line = codes "witness" ∷ codes "1" ∷ []

version_found : (p q : LinesLeft) → version_at p ≡ Ok q → (rest : List Line) → AreLeft rest q → AreLeft (version_line ∷ rest) p
unfolding version_at
version_found p q e rest left =
    let line = bind_found (counted_at (codes "witness") 1 p) (λ line. fixed_at (codes "1") line.0 >>= λ behind. Ok line.1) q e in
    let one = bind_found (fixed_at (codes "1") line.0.0) (λ behind. Ok line.0.1) q line.2 in
    let read = counted_found (codes "witness") 1 p line.0.0 line.0.1 line.1 in
    let words = whole_line (codes "1" ∷ []) one.0.words line.0.0.words (fixed_found (codes "1") line.0.0 one.0 one.1) read.count in
    known_line (codes "witness") p line.0.0.words (codes "1" ∷ []) line.0.1 q read.spelled words (found-same line.0.1 q one.2) rest left

version_again : (p : LinesLeft) (rest : List Line) → AreLeft (version_line ∷ rest) p
    → (q : LinesLeft) × (version_at p ≡ Ok q) × AreLeft rest q
unfolding version_at
version_again p rest left =
    let line = counted_again (codes "witness") 1 p (codes "1" ∷ []) rest refl refl refl left in
    (line.0, rw (line.1, fixed_again (codes "1") p.line []) refl, line.2)

-- the line of a rung
abbrev pub rung_line : ℕ → Line
rung_line k = codes "rung" ∷ numeral (pos k) ∷ []

rung_found : (k : ℕ) (p q : LinesLeft) → rung_line_at k p ≡ Ok q → (rest : List Line) → AreLeft rest q → AreLeft (rung_line k ∷ rest) p
unfolding rung_line_at
rung_found k p q e rest left =
    let line = bind_found (counted_at (codes "rung") 1 p) (λ line. number_at (pos k) (pos k) line.0 >>= λ number. Ok line.1) q e in
    let number = bind_found (number_at (pos k) (pos k) line.0.0) (λ number. Ok line.0.1) q line.2 in
    let read = counted_found (codes "rung") 1 p line.0.0 line.0.1 line.1 in
    let words = whole_line (numeral (pos k) ∷ []) number.0.1.words line.0.0.words (exact_found k line.0.0 number.0.0 number.0.1 number.1) read.count in
    known_line (codes "rung") p line.0.0.words (numeral (pos k) ∷ []) line.0.1 q read.spelled words (found-same line.0.1 q number.2) rest left

rung_again : (k : ℕ) (p : LinesLeft) (rest : List Line) → AreLeft (rung_line k ∷ rest) p
    → (q : LinesLeft) × (rung_line_at k p ≡ Ok q) × AreLeft rest q
unfolding rung_line_at
rung_again k p rest left =
    let spelled = and_from (is_word (numeral (pos k))) true (numeral_word (pos k)) refl in
    let line = counted_again (codes "rung") 1 p (numeral (pos k) ∷ []) rest refl spelled refl left in
    (line.0, rw (line.1, exact_again k p.line []) refl, line.2)

-- ---- bounds in a row

-- each of the matroids is of a witnessed kind
abbrev pub AreWitnessedKinds : List Tree → Type 0
AreWitnessedKinds trees = All (λ tree. is_witnessed tree ≡ true) trees

pub bounds_found : (n : ℕ) (trees : List Tree) (p : LinesLeft) (parts : List BoundPart) (q : LinesLeft) → AreWitnessedKinds trees
    → bounds_at n trees p ≡ Ok (parts, q) → IsRead (AreBoundsFor n trees parts) (bounds_lines trees parts) p q
unfolding bounds_at
bounds_found n [] p parts q kinds e =
    subst (λ (r : List BoundPart × LinesLeft). IsRead (AreBoundsFor n [] r.0) (bounds_lines [] r.0) p r.1) (found-same ([], p) (parts, q) e)
    (record { in_range = tt; spelled = λ rest left. left })
bounds_found n (tree ∷ trees) p parts q kinds e =
    let part = bind_found (bound_at n tree p) (λ part. bounds_at n trees part.1 >>= λ others. Ok (part.0 ∷ others.0, others.1)) (parts, q) e in
    let others = bind_found (bounds_at n trees part.0.1) (λ others. Ok (part.0.0 ∷ others.0, others.1)) (parts, q) part.2 in
    let here = bound_found n tree p part.0.0 part.0.1 (All-head (λ (t : Tree). is_witnessed t ≡ true) tree trees kinds) part.1 in
    let more = bounds_found n trees part.0.1 others.0.0 others.0.1 (All-tail (λ (t : Tree). is_witnessed t ≡ true) tree trees kinds) others.1 in
    subst (λ (r : List BoundPart × LinesLeft). IsRead (AreBoundsFor n (tree ∷ trees) r.0) (bounds_lines (tree ∷ trees) r.0) p r.1)
    (found-same (part.0.0 ∷ others.0.0, others.0.1) (parts, q) others.2) (record {
      in_range = (here.in_range, more.in_range);
      spelled = λ rest left.
          subst (λ (ls : List Line). AreLeft ls p) (sym (append_assoc (bound_lines tree part.0.0) (bounds_lines trees others.0.0) rest))
          (here.spelled (bounds_lines trees others.0.0 ++ rest) (more.spelled rest left));
    })

pub bounds_again : (n : ℕ) (trees : List Tree) (parts : List BoundPart) (p : LinesLeft) (rest : List Line) → All HasDigits trees
    → AreBoundsFor n trees parts → AreLeft (bounds_lines trees parts ++ rest) p → IsReadAgain (bounds_at n trees p) parts rest
unfolding bounds_at
bounds_again n [] [] p rest some fits left = (p, refl, left)
bounds_again n (tree ∷ trees) (part ∷ parts) p rest some fits left =
    let front : AreLeft (bound_lines tree part ++ (bounds_lines trees parts ++ rest)) p =
    subst (λ (ls : List Line). AreLeft ls p) (append_assoc (bound_lines tree part) (bounds_lines trees parts) rest) left in
    let first = bound_again n tree part p (bounds_lines trees parts ++ rest) (All-head HasDigits tree trees some) fits.0 front in
    let others = bounds_again n trees parts first.0 rest (All-tail HasDigits tree trees some) fits.1 first.2 in
    (others.0, rw (first.1, others.1) refl, others.2)
bounds_again n _ _ p rest some fits left = absurd fits

-- ---- a whole witness

-- a witness is for these two matroids and these of its bounds
pub record IsWitnessOf (n : ℕ) (first second : Tree) (trees : List Tree) (k : ℕ) (witness : WitnessParts) : Type 0 where
  pub same : witness.k ≡ k
  pub first_part : IsFreeFor n k first witness.first
  pub second_part : IsFreeFor n k second witness.second
  pub bound_parts : AreBoundsFor n trees witness.bounds

-- the lines behind the first two
abbrev parts_lines : Tree → Tree → List Tree → WitnessParts → List Line → List Line
parts_lines first second trees witness rest =
    free_lines first witness.first ++ (free_lines second witness.second ++ (bounds_lines trees witness.bounds ++ rest))

record ArePartsRead (n : ℕ) (first second : Tree) (trees : List Tree) (k : ℕ) (p : LinesLeft) (witness : WitnessParts) (q : LinesLeft) : Type 0 where
  fits : IsWitnessOf n first second trees k witness
  spelled : (rest : List Line) → AreLeft rest q → AreLeft (parts_lines first second trees witness rest) p

-- two matroids and those of the bounds
pub record AreWitnessedHere (first second : Tree) (trees : List Tree) : Type 0 where
  pub first_kind : is_witnessed first ≡ true
  pub second_kind : is_witnessed second ≡ true
  pub kinds : AreWitnessedKinds trees

parts_found : (n : ℕ) (first second : Tree) (trees : List Tree) (k : ℕ) (p : LinesLeft) (witness : WitnessParts) (q : LinesLeft)
    → AreWitnessedHere first second trees → parts_at n first second trees k p ≡ Ok (witness, q)
    → ArePartsRead n first second trees k p witness q
unfolding parts_at
parts_found n first second trees k p witness q kinds e =
    let one = bind_found {A = FreePart × LinesLeft} _ _ _ e in
    let two = bind_found {A = FreePart × LinesLeft} _ _ _ one.2 in
    let bounds = bind_found {A = List BoundPart × LinesLeft} _ _ _ two.2 in
    let first_read = free_found n k first p one.0.0 one.0.1 kinds.first_kind one.1 in
    let second_read = free_found n k second one.0.1 two.0.0 two.0.1 kinds.second_kind two.1 in
    let bounds_read = bounds_found n trees two.0.1 bounds.0.0 bounds.0.1 kinds.kinds bounds.1 in
    let made : WitnessParts = record { k = k; first = one.0.0; second = two.0.0; bounds = bounds.0.0 } in
    subst (λ (r : WitnessParts × LinesLeft). ArePartsRead n first second trees k p r.0 r.1)
    (found-same (made, bounds.0.1) (witness, q) bounds.2) (record {
      fits = record { same = refl; first_part = first_read.in_range; second_part = second_read.in_range; bound_parts = bounds_read.in_range };
      spelled = λ rest left.
          first_read.spelled (free_lines second two.0.0 ++ (bounds_lines trees bounds.0.0 ++ rest))
          (second_read.spelled (bounds_lines trees bounds.0.0 ++ rest) (bounds_read.spelled rest left));
    })

-- what is left of a text before anything is read
abbrev pub whole_text : List ℕ → LinesLeft
whole_text text = record { line = 1; lines = lines_of text }

pub witness_found : (n : ℕ) (first second : Tree) (trees : List Tree) (k : ℕ) (text : List ℕ) (witness : WitnessParts)
    → AreWitnessedHere first second trees → witness_at n first second trees k (whole_text text) ≡ Ok witness
    → IsWitnessOf n first second trees k witness × (text ≡ text_of (witness_lines first second trees witness))
unfolding witness_at
witness_found n first second trees k text witness kinds e =
    let p = whole_text text in
    let version = bind_found {A = LinesLeft} _ _ _ e in
    let rung = bind_found {A = LinesLeft} _ _ _ version.2 in
    let parts = bind_found {A = WitnessParts × LinesLeft} _ _ _ rung.2 in
    let end = bind_found {A = LinesLeft} _ _ _ parts.2 in
    let closed = bind_found {A = Unit {0}} _ _ _ end.2 in
    let read = parts_found n first second trees k rung.0 parts.0.0 parts.0.1 kinds parts.1 in
    let behind = read.spelled (end_line ∷ []) (end_found parts.0.1 end.0 end.1 [] (closed_found end.0 closed.0 closed.1)) in
    let lines = parts_lines first second trees parts.0.0 (end_line ∷ []) in
    let whole = version_found p version.0 version.1 (rung_line k ∷ lines) (rung_found k version.0 rung.0 rung.1 lines behind) in
    let text_is : text ≡ text_of (version_line ∷ rung_line k ∷ lines) =
    same_text text (text_of (version_line ∷ rung_line k ∷ lines)) whole.same in
    let same : rung_line k ≡ rung_line parts.0.0.k = ap rung_line (sym read.fits.same) in
    subst (λ (made : WitnessParts). IsWitnessOf n first second trees k made × (text ≡ text_of (witness_lines first second trees made)))
    (found-same parts.0.0 witness closed.2)
    (read.fits, text_is ∙ ap (λ (line : Line). text_of (version_line ∷ line ∷ lines)) same)

-- these matroids have digits, where they have columns
pub record HaveDigits (first second : Tree) (trees : List Tree) : Type 0 where
  pub first_digits : HasDigits first
  pub second_digits : HasDigits second
  pub digits : All HasDigits trees

-- the reading of a witness with this number in place of its own
abbrev with_rung : WitnessParts → LinesLeft → ℕ → Result (WitnessParts × LinesLeft) Fault
with_rung witness q j = Ok (record { k = j; first = witness.first; second = witness.second; bounds = witness.bounds }, q)

parts_again : (n : ℕ) (first second : Tree) (trees : List Tree) (k : ℕ) (witness : WitnessParts) (p : LinesLeft) (rest : List Line)
    → HaveDigits first second trees → IsWitnessOf n first second trees k witness
    → AreLeft (parts_lines first second trees witness rest) p → IsReadAgain (parts_at n first second trees k p) witness rest
unfolding parts_at
parts_again n first second trees k witness p rest some fits left =
    let behind = free_lines second witness.second ++ (bounds_lines trees witness.bounds ++ rest) in
    let one = free_again n k first witness.first p behind some.first_digits fits.first_part left in
    let two = free_again n k second witness.second one.0 (bounds_lines trees witness.bounds ++ rest) some.second_digits fits.second_part one.2 in
    let bounds = bounds_again n trees witness.bounds two.0 rest some.digits fits.bound_parts two.2 in
    let read : parts_at n first second trees k p ≡ with_rung witness bounds.0 k = rw (one.1, two.1, bounds.1) refl in
    (bounds.0, read ∙ ap (with_rung witness bounds.0) (sym fits.same), bounds.2)

pub witness_again : (n : ℕ) (first second : Tree) (trees : List Tree) (k : ℕ) (text : List ℕ) (witness : WitnessParts)
    → HaveDigits first second trees → IsWitnessOf n first second trees k witness
    → text ≡ text_of (witness_lines first second trees witness)
    → witness_at n first second trees k (whole_text text) ≡ Ok witness
unfolding witness_at
witness_again n first second trees k text witness some fits whole =
    let p = whole_text text in
    let lines = parts_lines first second trees witness (end_line ∷ []) in
    let left : AreLeft (version_line ∷ rung_line k ∷ lines) p =
    record { same = ap lines_of (whole ∙ ap (λ (j : ℕ). text_of (version_line ∷ rung_line j ∷ lines)) fits.same) } in
    let version = version_again p (rung_line k ∷ lines) left in
    let rung = rung_again k version.0 lines version.2 in
    let parts = parts_again n first second trees k witness rung.0 (end_line ∷ []) some fits rung.2 in
    let end = end_again parts.0 [] parts.2 in
    rw (version.1, rung.1, parts.1, end.1, closed_again end.0 end.2) refl
