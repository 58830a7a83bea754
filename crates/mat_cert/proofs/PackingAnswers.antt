-- Unions, packings and covers: what is read is spelled so, and what is spelled so is read.
use Rattle.mat_cert.proofs.Common.{◌≡◌, ℕ, ◌≤◌, ◌<◌, ℤ, pos, Bool, true, false, eqb, Some, List, [], ◌∷◌, ◌++◌, length, map, Ok, refl, ap, sym, subst, ◌∙◌, arith, Option, codes, bytes_eq, nat_lt, bytes_eq-Decides, Weight, number_of, numeral, numerals, weight_word, end_line, members_line, WordsLeft}
use Rattle.mat_cert.proofs.Common.{LinesLeft, read_again, bind_found, size_again, AreLeft, LevelLine, most_elements, most_matroids, Certificate, union_of, pack_any, pack, cover_never, cover, IsRangedUnion, IsRangedPacking, IsRangedCover, IsRangedOption, level_line, sets_lines, option_lines}
use Rattle.mat_cert.proofs.Common.{union_at, bases_at, pack_at, never_at, covering_at, cover_at}
use Rattle.mat_words.specs.Reading as any_text
use Rattle.mat_cert.proofs.WordLaws.{has_words_found, has_words_again, whole_line, then_words, word_read, size_read}
use Rattle.mat_cert.proofs.LineLaws.{IsReadAgain, set_found, set_again, option_found, option_again}
use Rattle.mat_cert.proofs.ListLaws.{sets_found, sets_again, levels_found, levels_again}
use Rattle.mat_cert.proofs.HeaderLaws.{ladder_header_found, ladder_header_again, union_header_found, union_header_again, never_header_found}
use Rattle.mat_cert.proofs.HeaderLaws.{never_header_again}
use Rattle.mat_cert.proofs.AnswerReading.{IsCommandRead, answer_read, ranged_sets, by_word, by_test}

-- ---- union

pub union_found : (words : WordsLeft) (lines : LinesLeft) (answer : Certificate × LinesLeft) → union_at words lines ≡ Ok answer
    → IsCommandRead (codes "union") words lines answer
unfolding union_at
union_found words lines answer e =
    let header = bind_found {A = ℕ × ℕ × ℕ × Weight} _ _ _ e in
    let parts = bind_found _ _ _ header.2 in
    let levels = bind_found _ _ _ parts.2 in
    let n = header.0.0 in
    let m = header.0.1 in
    let weight = header.0.3 in
    let head = union_header_found words header.0 header.1 in
    let sets = sets_found (codes "part") n m lines parts.0.0 parts.0.1 parts.1 in
    let read = levels_found n header.0.2 parts.0.1 levels.0.0 levels.0.1 levels.1 in
    let behind = map level_line levels.0.0 ++ end_line ∷ [] in
    answer_read (codes "union") words lines answer (union_of n weight parts.0.0 levels.0.0) levels.0.1
    (numerals (n ∷ length parts.0.0 ∷ length levels.0.0 ∷ []) ++ weight_word weight ∷ []) (sets_lines (codes "part") parts.0.0 ++ behind) levels.2
    (record {
      few = head.in_range.0;
      weight_in_range = head.in_range.4;
      parts_in_range = ranged_sets n 1 most_matroids m parts.0.0 sets.in_range head.in_range.1 head.in_range.2;
      few_levels = omega (arith, read.in_range.0, head.in_range.3);
      levels_in_range = read.in_range.1;
    })
    (head.cut ∙ sym (ap (λ (k : ℕ). numerals (n ∷ k ∷ length levels.0.0 ∷ []) ++ weight_word weight ∷ []) sets.in_range.0
    ∙ ap (λ (k : ℕ). numerals (n ∷ m ∷ k ∷ []) ++ weight_word weight ∷ []) read.in_range.0))
    refl (λ left. sets.spelled behind (read.spelled (end_line ∷ []) left))

pub union_again : (line n : ℕ) (weight : Weight) (parts : List (List ℕ)) (levels : List LevelLine) (p : LinesLeft)
    → IsRangedUnion n weight parts levels
    → AreLeft (sets_lines (codes "part") parts ++ (map level_line levels ++ end_line ∷ [])) p
    → IsReadAgain (union_at (record {
      line = line;
      words = numerals (n ∷ length parts ∷ length levels ∷ []) ++ weight_word weight ∷ [];
    }) p) (union_of n weight parts levels) (end_line ∷ [])
unfolding union_at
union_again line n weight parts levels p ranged left =
    let in_range = ranged.parts_in_range in
    let sets = sets_again (codes "part") n p parts (map level_line levels ++ end_line ∷ []) refl in_range.each left in
    let read = levels_again n sets.0 levels (end_line ∷ []) ranged.levels_in_range sets.2 in
    let header = union_header_again line n (length parts) (length levels) weight ranged.few in_range.enough in_range.no_more ranged.few_levels
    ranged.weight_in_range in
    (read.0, rw (header, sets.1, read.1) refl, read.2)

-- ---- pack

-- a number of bases was read behind the number of elements
bases_found : (all : WordsLeft) (n : ℕ) (words : WordsLeft) (lines : LinesLeft) (answer : Certificate × LinesLeft) → n ≤ most_elements
    → all.words ≡ numeral (pos n) ∷ words.words → length all.words ≡ 2 → bases_at n words lines ≡ Ok answer
    → IsCommandRead (codes "pack") all lines answer
unfolding bases_at
bases_found all n words lines answer few front two e =
    let many = bind_found _ _ _ e in
    let bases = bind_found _ _ _ many.2 in
    let cut = bind_found _ _ _ bases.2 in
    let number = size_read 0 n words many.0.0 many.0.1 many.1 in
    let sets = sets_found (codes "base") n many.0.0 lines bases.0.0 bases.0.1 bases.1 in
    let set = set_found (codes "cut") n bases.0.1 cut.0.0 cut.0.1 cut.1 in
    let behind = members_line (codes "cut") cut.0.0 ∷ end_line ∷ [] in
    let spelling = whole_line (numerals (n ∷ many.0.0 ∷ [])) many.0.1.words all.words (then_words front number.cut) two in
    answer_read (codes "pack") all lines answer (pack n bases.0.0 cut.0.0) cut.0.1 (numerals (n ∷ length bases.0.0 ∷ []))
    (sets_lines (codes "base") bases.0.0 ++ behind) cut.2 (record {
      few = few;
      bases_in_range = ranged_sets n 0 n many.0.0 bases.0.0 sets.in_range number.least number.most;
      cut_in_range = set.in_range;
    })
    (spelling ∙ sym (ap (λ (k : ℕ). numerals (n ∷ k ∷ [])) sets.in_range.0)) refl (λ left. sets.spelled behind (set.spelled (end_line ∷ []) left))

pub pack_found : (words : WordsLeft) (lines : LinesLeft) (answer : Certificate × LinesLeft) → pack_at words lines ≡ Ok answer
    → IsCommandRead (codes "pack") words lines answer
unfolding pack_at
pack_found words lines answer e =
    let counted = bind_found _ _ _ e in
    let count = bind_found {A = ℕ × WordsLeft} _ _ _ counted.2 in
    let word = bind_found _ _ _ count.2 in
    let n = count.0.0 in
    let two = has_words_found 2 words counted.0 counted.1 in
    let first = size_read 0 most_elements words n count.0.1 count.1 in
    let second = word_read count.0.1 word.0.0 word.0.1 word.1 in
    by_word word.0.0 (codes "any") (Ok (pack_any n, lines)) (bases_at n count.0.1 lines) answer
    (λ any h.
    let spelling = whole_line (numeral (pos n) ∷ word.0.0 ∷ []) word.0.1.words words.words (then_words first.cut second) two in
    answer_read (codes "pack") words lines answer (pack_any n) lines (numeral (pos n) ∷ codes "any" ∷ []) (end_line ∷ []) h first.most
    (spelling ∙ ap (λ (t : List ℕ). numeral (pos n) ∷ t ∷ []) any) refl (λ left. left))
    (λ h. bases_found words n count.0.1 lines answer first.most first.cut two h) word.2

pub pack_any_again : (line n : ℕ) (p : LinesLeft) → n ≤ most_elements → AreLeft (end_line ∷ []) p
    → IsReadAgain (pack_at (record { line = line; words = numeral (pos n) ∷ codes "any" ∷ [] }) p) (pack_any n) (end_line ∷ [])
unfolding pack_at any_text.word_at
pack_any_again line n p few left =
    let counted = has_words_again 2 line (numeral (pos n) ∷ codes "any" ∷ []) refl in
    let count = size_again 0 most_elements line n (codes "any" ∷ []) (omega arith) few in
    (p, rw (counted, count) refl, left)

abbrev none_read : Option ℤ
none_read = number_of (codes "any")

abbrev some_read : ℤ → Option ℤ
some_read z = Some z

-- a numeral is not this word
not_any : (k : ℕ) → bytes_eq (numeral (pos k)) (codes "any") ≡ false
not_any k = by (bytes_eq (numeral (pos k)) (codes "any")) (λ h. (bytes_eq-Decides (numeral (pos k)) (codes "any")).0 h)
  where
    nothing : none_read ≡ some_read (pos k) → ⊥
    nothing e = cc

    differ : numeral (pos k) ≡ codes "any" → ⊥
    differ same = nothing (sym (ap number_of same) ∙ read_again (pos k))

    by : (test : Bool) → (test ≡ true → numeral (pos k) ≡ codes "any") → test ≡ false
    by true is = absurd (differ (is refl))
    by false is = refl

pub pack_again : (line n : ℕ) (bases : List (List ℕ)) (cut : List ℕ) (p : LinesLeft) → IsRangedPacking n bases cut
    → AreLeft (sets_lines (codes "base") bases ++ members_line (codes "cut") cut ∷ end_line ∷ []) p
    → IsReadAgain (pack_at (record { line = line; words = numerals (n ∷ length bases ∷ []) }) p) (pack n bases cut) (end_line ∷ [])
unfolding pack_at bases_at any_text.word_at
pack_again line n bases cut p ranged left =
    let in_range = ranged.bases_in_range in
    let sets = sets_again (codes "base") n p bases (members_line (codes "cut") cut ∷ end_line ∷ []) refl in_range.each left in
    let set = set_again (codes "cut") n sets.0 cut (end_line ∷ []) refl ranged.cut_in_range sets.2 in
    let counted = has_words_again 2 line (numerals (n ∷ length bases ∷ [])) refl in
    let count = size_again 0 most_elements line n (numeral (pos (length bases)) ∷ []) (omega arith) ranged.few in
    let many = size_again 0 n line (length bases) [] (omega arith) in_range.no_more in
    (set.0, rw (counted, count, not_any (length bases), many, sets.1, set.1) refl, set.2)

-- ---- cover

never_found : (words : WordsLeft) (lines : LinesLeft) (answer : Certificate × LinesLeft) → never_at words lines ≡ Ok answer
    → IsCommandRead (codes "cover") words lines answer
unfolding never_at
never_found words lines answer e =
    let header = bind_found _ _ _ e in
    let head = never_header_found words header.0 header.1 in
    answer_read (codes "cover") words lines answer (cover_never header.0.0 header.0.1) lines
    (numeral (pos header.0.0) ∷ codes "never" ∷ numeral (pos header.0.1) ∷ []) (end_line ∷ []) header.2 head.in_range head.cut refl (λ left. left)

covering_found : (words : WordsLeft) (lines : LinesLeft) (answer : Certificate × LinesLeft) → covering_at words lines ≡ Ok answer
    → IsCommandRead (codes "cover") words lines answer
unfolding covering_at
covering_found words lines answer e =
    let header = bind_found {A = ℕ × ℕ} _ _ _ e in
    let parts = bind_found _ _ _ header.2 in
    let cut = bind_found _ _ _ parts.2 in
    let n = header.0.0 in
    let c = header.0.1 in
    let head = ladder_header_found words header.0 header.1 in
    let sets = sets_found (codes "part") n c lines parts.0.0 parts.0.1 parts.1 in
    let option = option_found (codes "cut") n (nat_lt 0 c) parts.0.1 cut.0.0 cut.0.1 cut.1 in
    let behind = option_lines (codes "cut") cut.0.0 ++ end_line ∷ [] in
    answer_read (codes "cover") words lines answer (cover n parts.0.0 cut.0.0) cut.0.1 (numerals (n ∷ length parts.0.0 ∷ []))
    (sets_lines (codes "part") parts.0.0 ++ behind) cut.2 (record {
      few = head.in_range.0;
      sets_in_range = ranged_sets n 0 n c parts.0.0 sets.in_range (omega arith) head.in_range.1;
      cut_in_range = subst (λ (k : ℕ). IsRangedOption n (nat_lt 0 k) cut.0.0) (sym sets.in_range.0) option.in_range;
    })
    (head.cut ∙ sym (ap (λ (k : ℕ). numerals (n ∷ k ∷ [])) sets.in_range.0))
    refl (λ left. sets.spelled behind (option.spelled (end_line ∷ []) left))

pub cover_found : (words : WordsLeft) (lines : LinesLeft) (answer : Certificate × LinesLeft) → cover_at words lines ≡ Ok answer
    → IsCommandRead (codes "cover") words lines answer
unfolding cover_at
cover_found words lines answer e =
    by_test (eqb (length words.words) 3) (never_at words lines) (covering_at words lines) answer (never_found words lines answer)
    (covering_found words lines answer) e

pub cover_never_again : (line n x : ℕ) (p : LinesLeft) → n ≤ most_elements → x < n → AreLeft (end_line ∷ []) p
    → IsReadAgain (cover_at (record { line = line; words = numeral (pos n) ∷ codes "never" ∷ numeral (pos x) ∷ [] }) p) (cover_never n x)
    (end_line ∷ [])
unfolding cover_at never_at
cover_never_again line n x p few below left = (p, rw (never_header_again line n x few below) refl, left)

pub cover_again : (line n : ℕ) (sets : List (List ℕ)) (cut : Option (List ℕ)) (p : LinesLeft) → IsRangedCover n sets cut
    → AreLeft (sets_lines (codes "part") sets ++ (option_lines (codes "cut") cut ++ end_line ∷ [])) p
    → IsReadAgain (cover_at (record { line = line; words = numerals (n ∷ length sets ∷ []) }) p) (cover n sets cut) (end_line ∷ [])
unfolding cover_at covering_at
cover_again line n sets cut p ranged left =
    let in_range = ranged.sets_in_range in
    let read = sets_again (codes "part") n p sets (option_lines (codes "cut") cut ++ end_line ∷ []) refl in_range.each left in
    let option = option_again (codes "cut") n (nat_lt 0 (length sets)) read.0 cut (end_line ∷ []) refl ranged.cut_in_range read.2 in
    let header = ladder_header_again line n (length sets) ranged.few in_range.no_more in
    (option.0, rw (header, read.1, option.1) refl, option.2)
