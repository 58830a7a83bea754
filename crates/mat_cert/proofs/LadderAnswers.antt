-- Ladders, and the answers that are made of them: what is read is spelled so, and what is spelled so is read.
use Rattle.mat_cert.proofs.Common.{◌≡◌, ℕ, suc, ◌+◌, ◌≤◌, List, [], ◌∷◌, ◌++◌, length, Result, Ok, Some, slice_get, refl, ap, subst, ◌∙◌, arith, Option, codes, Line, numerals, end_line, members_line, WordsLeft, LinesLeft, found-same, bind_found, AreLeft, PlainRung, PricedRung, Fault, most_elements}
use Rattle.mat_cert.proofs.Common.{Certificate, intersect, best, rainbow, assign, AreRangedRungs, IsRangedLadder, IsRangedPlainRung, IsRangedPricedRung, IsRangedRainbow, IsRangedAssignment, IsRangedOption, is_short_of_tree, last_rung, plain_rung_lines, priced_rung_lines, rungs_lines, option_lines}
use Rattle.mat_cert.proofs.Common.{plain_rung_at, priced_rung_at, rungs_at, ladder_at, intersect_at, best_at, rainbow_at, assign_at}
use Rattle.mat_cert.proofs.LineLaws.{IsReadAgain, set_found, set_again, option_found, option_again}
use Rattle.mat_cert.proofs.RungLaws.{plain_rung_found, plain_rung_again, priced_rung_found, priced_rung_again, AreRungsRead, rungs_found}
use Rattle.mat_cert.proofs.RungLaws.{rungs_again}
use Rattle.mat_cert.proofs.HeaderLaws.{ladder_header_found, ladder_header_again, rainbow_header_found, rainbow_header_again}
use Rattle.mat_cert.proofs.HeaderLaws.{assign_header_found, assign_header_again}
use Rattle.mat_cert.proofs.AnswerReading.{IsCommandRead, answer_read}

-- ---- rungs below a header

-- rungs that were read below a header are in range
rungs_ranged : {R : Type 0} (lines_of_rung : ℕ → R → List Line) (IsRangedAt : ℕ → R → Type 0) (n k : ℕ) (p : LinesLeft) (rungs : List R)
    (q : LinesLeft)
    → n ≤ most_elements → k ≤ n → AreRungsRead lines_of_rung IsRangedAt 0 (suc k) p rungs q → AreRangedRungs IsRangedAt n rungs
rungs_ranged {R} lines_of_rung IsRangedAt n k p rungs q few last read = record {
  few = few;
  some = omega (arith, read.count);
  no_more = omega (arith, read.count);
  each = λ i rung at. let place : 0 + i ≡ i = omega arith in subst (λ (j : ℕ). IsRangedAt j rung) place (read.each i rung at);
}

last_read : {R : Type 0} (k : ℕ) (rungs : List R) → length rungs ≡ suc k → k ≡ last_rung rungs
last_read k rungs count = omega arith

last_small : {R : Type 0} (n : ℕ) (rungs : List R) → length rungs ≤ n + 1 → last_rung rungs ≤ n
last_small n rungs no_more = omega arith

-- rungs in range below a header are read again
rungs_counted : {R : Type 0} (reader : ℕ → LinesLeft → Result (R × LinesLeft) Fault) (lines_of_rung : ℕ → R → List Line)
    (IsRangedAt : ℕ → R → Type 0)
    → ((k : ℕ) (p : LinesLeft) (rung : R) (rest : List Line) → IsRangedAt k rung → AreLeft (lines_of_rung k rung ++ rest) p
    → IsReadAgain (reader k p) rung rest)
    → (n : ℕ) (p : LinesLeft) (rungs : List R) (rest : List Line) → AreRangedRungs IsRangedAt n rungs
    → AreLeft (rungs_lines lines_of_rung 0 rungs ++ rest) p
    → IsReadAgain (rungs_at reader 0 (suc (last_rung rungs)) p) rungs rest
rungs_counted {R} reader lines_of_rung IsRangedAt one n p rungs rest ranged left =
    let each : (i : ℕ) (rung : R) → slice_get rungs i ≡ Some rung → IsRangedAt (0 + i) rung = λ i rung at.
    let place : i ≡ 0 + i = omega arith in
    subst (λ (j : ℕ). IsRangedAt j rung) place (ranged.each i rung at) in
    let read = rungs_again reader lines_of_rung IsRangedAt one 0 p rungs rest each left in
    let many : length rungs ≡ suc (last_rung rungs) = omega (arith, ranged.some) in
    (read.0, subst (λ (k : ℕ). rungs_at reader 0 k p ≡ Ok (rungs, read.0)) many read.1, read.2)

-- ---- rungs and a cut

-- a ladder was read
record IsLadderRead (n last : ℕ) (p : LinesLeft) (ladder : List PricedRung × List ℕ × LinesLeft) : Type 0 where
  in_range : IsRangedLadder n ladder.0 ladder.1
  count : last ≡ last_rung ladder.0
  spelled : (rest : List Line) → AreLeft rest ladder.2
      → AreLeft (rungs_lines priced_rung_lines 0 ladder.0 ++ members_line (codes "cut") ladder.1 ∷ rest) p

ladder_found : (n last : ℕ) (p : LinesLeft) (ladder : List PricedRung × List ℕ × LinesLeft) → n ≤ most_elements → last ≤ n
    → ladder_at n last p ≡ Ok ladder → IsLadderRead n last p ladder
unfolding ladder_at
ladder_found n last p ladder few small e =
    let rungs = bind_found _ _ _ e in
    let cut = bind_found _ _ _ rungs.2 in
    let read = rungs_found (priced_rung_at n) priced_rung_lines (IsRangedPricedRung n) (priced_rung_found n) 0 (suc last) p rungs.0.0 rungs.0.1
    rungs.1 in
    let set = set_found (codes "cut") n rungs.0.1 cut.0.0 cut.0.1 cut.1 in
    subst (IsLadderRead n last p) (found-same (rungs.0.0, cut.0.0, cut.0.1) ladder cut.2) (record {
      in_range = (
        rungs_ranged priced_rung_lines (IsRangedPricedRung n) n last p rungs.0.0 rungs.0.1 few small read,
        set.in_range,
      );
      count = last_read last rungs.0.0 read.count;
      spelled = λ rest left. read.spelled (members_line (codes "cut") cut.0.0 ∷ rest) (set.spelled rest left);
    })

ladder_again : (n : ℕ) (p : LinesLeft) (rungs : List PricedRung) (cut : List ℕ) (rest : List Line) → IsRangedLadder n rungs cut
    → AreLeft (rungs_lines priced_rung_lines 0 rungs ++ members_line (codes "cut") cut ∷ rest) p
    → (q : LinesLeft) × (ladder_at n (last_rung rungs) p ≡ Ok (rungs, cut, q)) × AreLeft rest q
unfolding ladder_at
ladder_again n p rungs cut rest ranged left =
    let read = rungs_counted (priced_rung_at n) priced_rung_lines (IsRangedPricedRung n) (priced_rung_again n) n p rungs
    (members_line (codes "cut") cut ∷ rest) ranged.0 left in
    let set = set_again (codes "cut") n read.0 cut rest refl ranged.1 read.2 in
    (set.0, rw (read.1, set.1) refl, set.2)

-- ---- intersect

pub intersect_found : (words : WordsLeft) (lines : LinesLeft) (answer : Certificate × LinesLeft) → intersect_at words lines ≡ Ok answer
    → IsCommandRead (codes "intersect") words lines answer
unfolding intersect_at
intersect_found words lines answer e =
    let header = bind_found {A = ℕ × ℕ} _ _ _ e in
    let ladder = bind_found _ _ _ header.2 in
    let n = header.0.0 in
    let head = ladder_header_found words header.0 header.1 in
    let read = ladder_found n header.0.1 lines ladder.0 head.in_range.0 head.in_range.1 ladder.1 in
    answer_read (codes "intersect") words lines answer (intersect n ladder.0.0 ladder.0.1) ladder.0.2 (numerals (n ∷ last_rung ladder.0.0 ∷ []))
    (rungs_lines priced_rung_lines 0 ladder.0.0 ++ members_line (codes "cut") ladder.0.1 ∷ end_line ∷ []) ladder.2 read.in_range
    (head.cut ∙ ap (λ (k : ℕ). numerals (n ∷ k ∷ [])) read.count) refl (read.spelled (end_line ∷ []))

pub intersect_again : (line n : ℕ) (rungs : List PricedRung) (cut : List ℕ) (p : LinesLeft) → IsRangedLadder n rungs cut
    → AreLeft (rungs_lines priced_rung_lines 0 rungs ++ members_line (codes "cut") cut ∷ end_line ∷ []) p
    → IsReadAgain (intersect_at (record { line = line; words = numerals (n ∷ last_rung rungs ∷ []) }) p) (intersect n rungs cut) (end_line ∷ [])
unfolding intersect_at
intersect_again line n rungs cut p ranged left =
    let ladder = ladder_again n p rungs cut (end_line ∷ []) ranged left in
    let header = ladder_header_again line n (last_rung rungs) ranged.0.few (last_small n rungs ranged.0.no_more) in
    (ladder.0, rw (header, ladder.1) refl, ladder.2)

-- ---- best

pub best_found : (words : WordsLeft) (lines : LinesLeft) (answer : Certificate × LinesLeft) → best_at words lines ≡ Ok answer
    → IsCommandRead (codes "best") words lines answer
unfolding best_at
best_found words lines answer e =
    let header = bind_found {A = ℕ × ℕ} _ _ _ e in
    let rungs = bind_found _ _ _ header.2 in
    let n = header.0.0 in
    let head = ladder_header_found words header.0 header.1 in
    let read = rungs_found (plain_rung_at n) plain_rung_lines (IsRangedPlainRung n) (plain_rung_found n) 0 (suc header.0.1) lines rungs.0.0
    rungs.0.1 rungs.1 in
    answer_read (codes "best") words lines answer (best n rungs.0.0) rungs.0.1 (numerals (n ∷ last_rung rungs.0.0 ∷ []))
    (rungs_lines plain_rung_lines 0 rungs.0.0 ++ end_line ∷ []) rungs.2
    (rungs_ranged plain_rung_lines (IsRangedPlainRung n) n header.0.1 lines rungs.0.0 rungs.0.1 head.in_range.0 head.in_range.1 read)
    (head.cut ∙ ap (λ (k : ℕ). numerals (n ∷ k ∷ [])) (last_read header.0.1 rungs.0.0 read.count)) refl (read.spelled (end_line ∷ []))

pub best_again : (line n : ℕ) (rungs : List PlainRung) (p : LinesLeft) → AreRangedRungs (IsRangedPlainRung n) n rungs
    → AreLeft (rungs_lines plain_rung_lines 0 rungs ++ end_line ∷ []) p
    → IsReadAgain (best_at (record { line = line; words = numerals (n ∷ last_rung rungs ∷ []) }) p) (best n rungs) (end_line ∷ [])
unfolding best_at
best_again line n rungs p ranged left =
    let read = rungs_counted (plain_rung_at n) plain_rung_lines (IsRangedPlainRung n) (plain_rung_again n) n p rungs (end_line ∷ [])
    ranged left in
    let header = ladder_header_again line n (last_rung rungs) ranged.few (last_small n rungs ranged.no_more) in
    (read.0, rw (header, read.1) refl, read.2)

-- ---- rainbow

pub rainbow_found : (words : WordsLeft) (lines : LinesLeft) (answer : Certificate × LinesLeft) → rainbow_at words lines ≡ Ok answer
    → IsCommandRead (codes "rainbow") words lines answer
unfolding rainbow_at
rainbow_found words lines answer e =
    let header = bind_found {A = ℕ × ℕ × ℕ × ℕ} _ _ _ e in
    let ladder = bind_found {A = List PricedRung × List ℕ × LinesLeft} _ _ _ header.2 in
    let missing = bind_found _ _ _ ladder.2 in
    let n = header.0.0 in
    let v = header.0.2 in
    let c = header.0.3 in
    let rungs = ladder.0.0 in
    let head = rainbow_header_found words header.0 header.1 in
    let read = ladder_found n header.0.1 lines ladder.0 head.in_range.0 head.in_range.1 ladder.1 in
    let option = option_found (codes "colours") c (is_short_of_tree header.0.1 v) ladder.0.2 missing.0.0 missing.0.1 missing.1 in
    let behind = option_lines (codes "colours") missing.0.0 ++ end_line ∷ [] in
    answer_read (codes "rainbow") words lines answer (rainbow n v c rungs ladder.0.1 missing.0.0) missing.0.1
    (numerals (n ∷ last_rung rungs ∷ v ∷ c ∷ []))
    (rungs_lines priced_rung_lines 0 rungs ++ members_line (codes "cut") ladder.0.1 ∷ behind) missing.2 (record {
      ladder_in_range = read.in_range;
      vertices_in_range = head.in_range.2;
      few_colours = head.in_range.3;
      missing_in_range = subst (λ (k : ℕ). IsRangedOption c (is_short_of_tree k v) missing.0.0) read.count option.in_range;
    })
    (head.cut ∙ ap (λ (k : ℕ). numerals (n ∷ k ∷ v ∷ c ∷ [])) read.count) refl (λ left. read.spelled behind (option.spelled (end_line ∷ []) left))

pub rainbow_again : (line n v c : ℕ) (rungs : List PricedRung) (cut : List ℕ) (missing : Option (List ℕ)) (p : LinesLeft)
    → IsRangedRainbow n v c rungs cut missing
    → AreLeft (rungs_lines priced_rung_lines 0 rungs ++ members_line (codes "cut") cut ∷ (option_lines (codes "colours") missing ++ end_line ∷ [])) p
    → IsReadAgain (rainbow_at (record { line = line; words = numerals (n ∷ last_rung rungs ∷ v ∷ c ∷ []) }) p)
    (rainbow n v c rungs cut missing) (end_line ∷ [])
unfolding rainbow_at
rainbow_again line n v c rungs cut missing p ranged left =
    let ladder = ladder_again n p rungs cut (option_lines (codes "colours") missing ++ end_line ∷ []) ranged.ladder_in_range left in
    let option = option_again (codes "colours") c (is_short_of_tree (last_rung rungs) v) ladder.0 missing (end_line ∷ []) refl
    ranged.missing_in_range ladder.2 in
    let header = rainbow_header_again line n (last_rung rungs) v c ranged.ladder_in_range.0.few
    (last_small n rungs ranged.ladder_in_range.0.no_more) ranged.vertices_in_range ranged.few_colours in
    (option.0, rw (header, ladder.1, option.1) refl, option.2)

-- ---- assign

pub assign_found : (words : WordsLeft) (lines : LinesLeft) (answer : Certificate × LinesLeft) → assign_at words lines ≡ Ok answer
    → IsCommandRead (codes "assign") words lines answer
unfolding assign_at
assign_found words lines answer e =
    let header = bind_found {A = ℕ × ℕ × ℕ × ℕ} _ _ _ e in
    let ladder = bind_found _ _ _ header.2 in
    let n = header.0.0 in
    let r = header.0.2 in
    let c = header.0.3 in
    let head = assign_header_found words header.0 header.1 in
    let read = ladder_found n header.0.1 lines ladder.0 head.in_range.0 head.in_range.1 ladder.1 in
    answer_read (codes "assign") words lines answer (assign n r c ladder.0.0 ladder.0.1) ladder.0.2
    (numerals (n ∷ last_rung ladder.0.0 ∷ r ∷ c ∷ []))
    (rungs_lines priced_rung_lines 0 ladder.0.0 ++ members_line (codes "cut") ladder.0.1 ∷ end_line ∷ []) ladder.2
    (record { ladder_in_range = read.in_range; few_rows = head.in_range.2; few_columns = head.in_range.3 })
    (head.cut ∙ ap (λ (k : ℕ). numerals (n ∷ k ∷ r ∷ c ∷ [])) read.count) refl (read.spelled (end_line ∷ []))

pub assign_again : (line n r c : ℕ) (rungs : List PricedRung) (cut : List ℕ) (p : LinesLeft) → IsRangedAssignment n r c rungs cut
    → AreLeft (rungs_lines priced_rung_lines 0 rungs ++ members_line (codes "cut") cut ∷ end_line ∷ []) p
    → IsReadAgain (assign_at (record { line = line; words = numerals (n ∷ last_rung rungs ∷ r ∷ c ∷ []) }) p) (assign n r c rungs cut)
    (end_line ∷ [])
unfolding assign_at
assign_again line n r c rungs cut p ranged left =
    let ladder = ladder_again n p rungs cut (end_line ∷ []) ranged.ladder_in_range left in
    let header = assign_header_again line n (last_rung rungs) r c ranged.ladder_in_range.0.few
    (last_small n rungs ranged.ladder_in_range.0.no_more) ranged.few_rows ranged.few_columns in
    (ladder.0, rw (header, ladder.1) refl, ladder.2)
