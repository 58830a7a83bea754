-- The lines of a certificate: what is read is spelled so, and what is spelled so is read.
use Rattle.mat_cert.proofs.Common.{◌≡◌, ℕ, pos, neg_ℤ, Bool, true, false, List, [], ◌∷◌, ◌++◌, length, map, Result, Ok, Some, None, refl, sym, ap, subst, ◌∙◌, Option, codes, and_from, length-map, nil_from_length, IsSet, Weight, is_word, numerals, numeral, weight_word, Line, end_line, members_line}
use Rattle.mat_cert.proofs.Common.{weights_line, WordsLeft, LinesLeft, ◌>>=◌, is_closed, numeral_word, found-same, bind_found, test_found, told_found, weight_at_again, weights_found, weights_again, numerals_words, weights_words, AreLeft, keyed_found, keyed_again, known_line, closed_left, LevelLine}
use Rattle.mat_cert.proofs.Common.{AfterEnd, Fault, kind_of, largest_number, IsCertificateWeight, IsRangedLevel, IsRangedOption, IsRangedPart, level_line, option_lines, rung_line, version_line, fixed_at, has_words, number_at, weight_at, weights_at, members_from, keyed_at, counted_at, version_at}
use Rattle.mat_cert.proofs.Common.{set_at, option_at, counted_set_at, part_at, level_at, end_at, closed_at, rung_at}
use Rattle.std.specs.List.{list_all}
use Rattle.mat_words.specs.Reading as any_text
use Rattle.mat_words.proofs.WeightLemmas.{weight_word-word}
use Rattle.mat_cert.proofs.WordLaws.{has_words_found, has_words_again, whole_line, then_words, fixed_found, fixed_again, exact_found, exact_again}
use Rattle.mat_cert.proofs.WordLaws.{weight_read, set_members_found, set_members_again}

-- what was read is in range, and was these lines
pub record IsRead (InRange : Type 0) (lines : List Line) (p q : LinesLeft) : Type 0 where
  pub in_range : InRange
  pub spelled : (rest : List Line) → AreLeft rest q → AreLeft (lines ++ rest) p

-- what stands in front of these lines is read
abbrev pub IsReadAgain : {A : Type 0} → Result (A × LinesLeft) Fault → A → List Line → Type 0
IsReadAgain reading x rest = (q : LinesLeft) × (reading ≡ Ok (x, q)) × AreLeft rest q

-- the line of a keyword that was read
pub line_read : (key : List ℕ) (p : LinesLeft) (x : WordsLeft × LinesLeft) → keyed_at key p ≡ Ok x → (rest : List Line) → AreLeft rest x.1
    → AreLeft ((key ∷ x.0.words) ∷ rest) p
line_read key p x e = keyed_found key p x.0 x.1 (told_found kind_of (any_text.keyed_at key p) x e)

-- ---- a keyword and as many words

-- a line of a keyword and as many words was read
pub record IsCountedRead (key : List ℕ) (many : ℕ) (p : LinesLeft) (w : WordsLeft) (q : LinesLeft) : Type 0 where
  pub count : length w.words ≡ many
  pub spelled : (rest : List Line) → AreLeft rest q → AreLeft ((key ∷ w.words) ∷ rest) p

pub counted_found : (key : List ℕ) (many : ℕ) (p : LinesLeft) (w : WordsLeft) (q : LinesLeft) → counted_at key many p ≡ Ok (w, q)
    → IsCountedRead key many p w q
unfolding counted_at
counted_found key many p w q e =
    let line = bind_found (keyed_at key p) (λ line. has_words many line.0 >>= λ counted. Ok line) (w, q) e in
    let counted = bind_found (has_words many line.0.0) (λ counted. Ok line.0) (w, q) line.2 in
    subst (λ (r : WordsLeft × LinesLeft). IsCountedRead key many p r.0 r.1) (found-same line.0 (w, q) counted.2) (record {
      count = has_words_found many line.0.0 counted.0 counted.1;
      spelled = line_read key p line.0 line.1;
    })

pub counted_again : (key : List ℕ) (many : ℕ) (p : LinesLeft) (words : Line) (rest : List Line) → is_word key ≡ true
    → list_all is_word words ≡ true → length words ≡ many
    → AreLeft ((key ∷ words) ∷ rest) p
    → IsReadAgain (counted_at key many p) (record { line = p.line; words = words }) rest
unfolding counted_at
counted_again key many p words rest keyword spelled count left =
    let line = keyed_again key p words rest keyword spelled left in
    (line.0, rw (line.1, has_words_again many p.line words count) refl, line.2)

-- ---- the first line and the last

pub version_found : (p q : LinesLeft) → version_at p ≡ Ok q → (rest : List Line) → AreLeft rest q → AreLeft (version_line ∷ rest) p
unfolding version_at
version_found p q e rest left =
    let line = bind_found (counted_at (codes "certificate") 1 p) (λ line. fixed_at (codes "1") line.0 >>= λ behind. Ok line.1) q e in
    let one = bind_found (fixed_at (codes "1") line.0.0) (λ behind. Ok line.0.1) q line.2 in
    let read = counted_found (codes "certificate") 1 p line.0.0 line.0.1 line.1 in
    let words = whole_line (codes "1" ∷ []) one.0.words line.0.0.words (fixed_found (codes "1") line.0.0 one.0 one.1) read.count in
    known_line (codes "certificate") p line.0.0.words (codes "1" ∷ []) line.0.1 q read.spelled words (found-same line.0.1 q one.2) rest left

pub version_again : (p : LinesLeft) (rest : List Line) → AreLeft (version_line ∷ rest) p
    → (q : LinesLeft) × (version_at p ≡ Ok q) × AreLeft rest q
unfolding version_at
version_again p rest left =
    let line = counted_again (codes "certificate") 1 p (codes "1" ∷ []) rest refl refl refl left in
    (line.0, rw (line.1, fixed_again (codes "1") p.line []) refl, line.2)

pub end_found : (p q : LinesLeft) → end_at p ≡ Ok q → (rest : List Line) → AreLeft rest q → AreLeft (end_line ∷ rest) p
unfolding end_at
end_found p q e rest left =
    let line = bind_found (counted_at (codes "end") 0 p) (λ line. Ok line.1) q e in
    let read = counted_found (codes "end") 0 p line.0.0 line.0.1 line.1 in
    known_line (codes "end") p line.0.0.words [] line.0.1 q read.spelled (nil_from_length line.0.0.words read.count)
    (found-same line.0.1 q line.2) rest left

pub end_again : (p : LinesLeft) (rest : List Line) → AreLeft (end_line ∷ rest) p → (q : LinesLeft) × (end_at p ≡ Ok q) × AreLeft rest q
unfolding end_at
end_again p rest left =
    let line = counted_again (codes "end") 0 p [] rest refl refl refl left in
    (line.0, rw line.1 refl, line.2)

pub closed_found : (p : LinesLeft) (u : Unit {0}) → closed_at p ≡ Ok u → AreLeft [] p
unfolding closed_at
closed_found p u e = closed_left p (test_found (is_closed p.lines) (AfterEnd, p.line) (Ok tt) u e).0

pub closed_again : (p : LinesLeft) → AreLeft [] p → closed_at p ≡ Ok tt
unfolding closed_at
closed_again p left = rw left.same refl

-- ---- sets

pub set_found : (key : List ℕ) (n : ℕ) (p : LinesLeft) (set : List ℕ) (q : LinesLeft) → set_at key n p ≡ Ok (set, q)
    → IsRead (IsSet n set) (members_line key set ∷ []) p q
unfolding set_at
set_found key n p set q e =
    let line = bind_found (keyed_at key p) (λ line. members_from n line.0.line 0 line.0.words >>= λ set. Ok (set, line.1)) (set, q) e in
    let members = bind_found (members_from n line.0.0.line 0 line.0.0.words) (λ set. Ok (set, line.0.1)) (set, q) line.2 in
    let read = set_members_found n line.0.0.line line.0.0.words members.0 members.1 in
    subst (λ (r : List ℕ × LinesLeft). IsRead (IsSet n r.0) (members_line key r.0 ∷ []) p r.1)
    (found-same (members.0, line.0.1) (set, q) members.2) (record {
      in_range = read.0;
      spelled = λ rest left. subst (λ (ws : Line). AreLeft ((key ∷ ws) ∷ rest) p) read.1 (line_read key p line.0 line.1 rest left);
    })

pub set_again : (key : List ℕ) (n : ℕ) (p : LinesLeft) (set : List ℕ) (rest : List Line) → is_word key ≡ true → IsSet n set
    → AreLeft (members_line key set ∷ rest) p → IsReadAgain (set_at key n p) set rest
unfolding set_at
set_again key n p set rest keyword in_range left =
    let line = keyed_again key p (numerals set) rest keyword (numerals_words set) left in
    (line.0, rw (line.1, set_members_again n p.line set in_range) refl, line.2)

-- a set that is there where it is needed
pub option_found : (key : List ℕ) (n : ℕ) (needed : Bool) (p : LinesLeft) (option : Option (List ℕ)) (q : LinesLeft)
    → option_at key n needed p ≡ Ok (option, q) → IsRead (IsRangedOption n needed option) (option_lines key option) p q
unfolding option_at
option_found key n false p option q e =
    subst (λ (r : Option (List ℕ) × LinesLeft). IsRead (IsRangedOption n false r.0) (option_lines key r.0) p r.1)
    (found-same (None, p) (option, q) e) (record { in_range = refl; spelled = λ rest left. left })
option_found key n true p option q e =
    let set = bind_found (set_at key n p) (λ set. Ok (Some set.0, set.1)) (option, q) e in
    let read = set_found key n p set.0.0 set.0.1 set.1 in
    subst (λ (r : Option (List ℕ) × LinesLeft). IsRead (IsRangedOption n true r.0) (option_lines key r.0) p r.1)
    (found-same (Some set.0.0, set.0.1) (option, q) set.2) (record { in_range = (refl, read.in_range); spelled = read.spelled })

pub option_again : (key : List ℕ) (n : ℕ) (needed : Bool) (p : LinesLeft) (option : Option (List ℕ)) (rest : List Line)
    → is_word key ≡ true → IsRangedOption n needed option → AreLeft (option_lines key option ++ rest) p
    → IsReadAgain (option_at key n needed p) option rest
unfolding option_at
option_again key n needed p None rest keyword in_range left = (p, rw in_range refl, left)
option_again key n needed p (Some set) rest keyword in_range left =
    let read = set_again key n p set rest keyword in_range.1 left in
    (read.0, rw (in_range.0, read.1) refl, read.2)

-- a `set` line of k members
pub counted_set_found : (n k : ℕ) (p : LinesLeft) (set : List ℕ) (q : LinesLeft) → counted_set_at n k p ≡ Ok (set, q)
    → IsRead (IsSet n set × (length set ≡ k)) (members_line (codes "set") set ∷ []) p q
unfolding counted_set_at
counted_set_found n k p set q e =
    let line = bind_found (counted_at (codes "set") k p) (λ line. members_from n line.0.line 0 line.0.words >>= λ set. Ok (set, line.1))
    (set, q) e in
    let members = bind_found (members_from n line.0.0.line 0 line.0.0.words) (λ set. Ok (set, line.0.1)) (set, q) line.2 in
    let read = set_members_found n line.0.0.line line.0.0.words members.0 members.1 in
    let counted = counted_found (codes "set") k p line.0.0 line.0.1 line.1 in
    subst (λ (r : List ℕ × LinesLeft). IsRead (IsSet n r.0 × (length r.0 ≡ k)) (members_line (codes "set") r.0 ∷ []) p r.1)
    (found-same (members.0, line.0.1) (set, q) members.2) (record {
      in_range = (read.0, sym (length-map members.0 (λ x. numeral (pos x))) ∙ sym (ap length read.1) ∙ counted.count);
      spelled = λ rest left. subst (λ (ws : Line). AreLeft ((codes "set" ∷ ws) ∷ rest) p) read.1 (counted.spelled rest left);
    })

pub counted_set_again : (n k : ℕ) (p : LinesLeft) (set : List ℕ) (rest : List Line) → IsSet n set → length set ≡ k
    → AreLeft (members_line (codes "set") set ∷ rest) p → IsReadAgain (counted_set_at n k p) set rest
unfolding counted_set_at
counted_set_again n k p set rest in_range size left =
    let line = counted_again (codes "set") k p (numerals set) rest refl (numerals_words set) (length-map set (λ x. numeral (pos x)) ∙ size)
    left in
    (line.0, rw (line.1, set_members_again n p.line set in_range) refl, line.2)

-- ---- parts of a split

pub part_found : (key : List ℕ) (n : ℕ) (p : LinesLeft) (part : List Weight) (q : LinesLeft) → part_at key n p ≡ Ok (part, q)
    → IsRead (IsRangedPart n part) (weights_line key part ∷ []) p q
unfolding part_at
part_found key n p part q e =
    let line = bind_found (counted_at key n p) (λ line. weights_at n line.0 >>= λ weights. Ok (weights.0, line.1)) (part, q) e in
    let weights = bind_found (weights_at n line.0.0) (λ weights. Ok (weights.0, line.0.1)) (part, q) line.2 in
    let low = neg_ℤ (pos largest_number) in
    let high = pos largest_number in
    let read = weights_found low high n line.0.0 weights.0.0 weights.0.1
    (told_found kind_of (any_text.weights_at low high n line.0.0) weights.0 weights.1) in
    let counted = counted_found key n p line.0.0 line.0.1 line.1 in
    let words = whole_line (map weight_word weights.0.0) weights.0.1.words line.0.0.words read.cut
    (counted.count ∙ sym (length-map weights.0.0 weight_word ∙ read.count)) in
    subst (λ (r : List Weight × LinesLeft). IsRead (IsRangedPart n r.0) (weights_line key r.0 ∷ []) p r.1)
    (found-same (weights.0.0, line.0.1) (part, q) weights.2) (record {
      in_range = record { size = read.count; weights = read.each };
      spelled = λ rest left. subst (λ (ws : Line). AreLeft ((key ∷ ws) ∷ rest) p) words (counted.spelled rest left);
    })

pub part_again : (key : List ℕ) (n : ℕ) (p : LinesLeft) (part : List Weight) (rest : List Line) → is_word key ≡ true → IsRangedPart n part
    → AreLeft (weights_line key part ∷ rest) p → IsReadAgain (part_at key n p) part rest
unfolding part_at
part_again key n p part rest keyword in_range left =
    let low = neg_ℤ (pos largest_number) in
    let high = pos largest_number in
    let line = counted_again key n p (map weight_word part) rest keyword (weights_words part) (length-map part weight_word ∙ in_range.size)
    left in
    let weights = subst (λ (k : ℕ). any_text.weights_at low high k (record { line = p.line; words = map weight_word part }) ≡ Ok (
      part,
      record { line = p.line; words = [] },
    ))
    in_range.size (weights_again low high p.line part in_range.weights) in
    (line.0, rw (line.1, weights) refl, line.2)

-- ---- the first line of a rung, and a level

pub rung_found : (k : ℕ) (p : LinesLeft) (weight : Weight) (q : LinesLeft) → rung_at k p ≡ Ok (weight, q)
    → IsRead (IsCertificateWeight weight) (rung_line k weight ∷ []) p q
unfolding rung_at
rung_found k p weight q e =
    let line = bind_found (counted_at (codes "rung") 2 p)
    (λ line. number_at (pos k) (pos k) line.0 >>= λ number. weight_at number.1 >>= λ weight. Ok (weight.0, line.1)) (weight, q) e in
    let number = bind_found (number_at (pos k) (pos k) line.0.0) (λ number. weight_at number.1 >>= λ weight. Ok (weight.0, line.0.1))
    (weight, q) line.2 in
    let last = bind_found (weight_at number.0.1) (λ weight. Ok (weight.0, line.0.1)) (weight, q) number.2 in
    let counted = counted_found (codes "rung") 2 p line.0.0 line.0.1 line.1 in
    let first = exact_found k line.0.0 number.0.0 number.0.1 number.1 in
    let second = weight_read number.0.1 last.0.0 last.0.1 last.1 in
    let words = whole_line (numeral (pos k) ∷ weight_word last.0.0 ∷ []) last.0.1.words line.0.0.words (then_words first second.cut)
    counted.count in
    subst (λ (r : Weight × LinesLeft). IsRead (IsCertificateWeight r.0) (rung_line k r.0 ∷ []) p r.1)
    (found-same (last.0.0, line.0.1) (weight, q) last.2) (record {
      in_range = second.valid;
      spelled = λ rest left. subst (λ (ws : Line). AreLeft ((codes "rung" ∷ ws) ∷ rest) p) words (counted.spelled rest left);
    })

pub rung_again : (k : ℕ) (p : LinesLeft) (weight : Weight) (rest : List Line) → IsCertificateWeight weight
    → AreLeft (rung_line k weight ∷ rest) p → IsReadAgain (rung_at k p) weight rest
unfolding rung_at
rung_again k p weight rest in_range left =
    let words = numeral (pos k) ∷ weight_word weight ∷ [] in
    let spelled = and_from (is_word (numeral (pos k))) (list_all is_word (weight_word weight ∷ [])) (numeral_word (pos k))
    (weights_words (weight ∷ [])) in
    let line = counted_again (codes "rung") 2 p words rest refl spelled refl left in
    let last = weight_at_again (neg_ℤ (pos largest_number)) (pos largest_number) p.line weight [] in_range in
    (line.0, rw (line.1, exact_again k p.line (weight_word weight ∷ []), last) refl, line.2)

pub level_found : (n : ℕ) (p : LinesLeft) (level : LevelLine) (q : LinesLeft) → level_at n p ≡ Ok (level, q)
    → IsRead (IsRangedLevel n level) (level_line level ∷ []) p q
unfolding level_at
level_found n p level q e =
    let line = bind_found (keyed_at (codes "level") p)
    (λ line. weight_at line.0 >>= λ weight. members_from n line.0.line 0 weight.1.words >>= λ cut. Ok
    (record { at = weight.0; cut = cut }, line.1)) (level, q) e in
    let weight = bind_found (weight_at line.0.0)
    (λ weight. members_from n line.0.0.line 0 weight.1.words >>= λ cut. Ok (record { at = weight.0; cut = cut }, line.0.1)) (level, q) line.2 in
    let members = bind_found (members_from n line.0.0.line 0 weight.0.1.words)
    (λ cut. Ok (record { at = weight.0.0; cut = cut }, line.0.1)) (level, q) weight.2 in
    let first = weight_read line.0.0 weight.0.0 weight.0.1 weight.1 in
    let set = set_members_found n line.0.0.line weight.0.1.words members.0 members.1 in
    let made : LevelLine = record { at = weight.0.0; cut = members.0 } in
    let words : line.0.0.words ≡ weight_word weight.0.0 ∷ numerals members.0 = then_words first.cut set.1 in
    subst (λ (r : LevelLine × LinesLeft). IsRead (IsRangedLevel n r.0) (level_line r.0 ∷ []) p r.1)
    (found-same (made, line.0.1) (level, q) members.2) (record {
      in_range = record { weight_in_range = first.valid; set_in_range = set.0 };
      spelled = λ rest left.
          subst (λ (ws : Line). AreLeft ((codes "level" ∷ ws) ∷ rest) p) words (line_read (codes "level") p line.0 line.1 rest left);
    })

pub level_again : (n : ℕ) (p : LinesLeft) (level : LevelLine) (rest : List Line) → IsRangedLevel n level
    → AreLeft (level_line level ∷ rest) p → IsReadAgain (level_at n p) level rest
unfolding level_at
level_again n p level rest in_range left =
    let spelled = and_from (is_word (weight_word level.at)) (list_all is_word (numerals level.cut)) (weight_word-word level.at)
    (numerals_words level.cut) in
    let line = keyed_again (codes "level") p (weight_word level.at ∷ numerals level.cut) rest refl spelled left in
    let weight = weight_at_again (neg_ℤ (pos largest_number)) (pos largest_number) p.line level.at (numerals level.cut) in_range.weight_in_range in
    (line.0, rw (line.1, weight, set_members_again n p.line level.cut in_range.set_in_range) refl, line.2)
