-- What it is that an answer was read behind its command, and that it is read again.
use Rattle.mat_cert.proofs.Common.{◌≡◌, Bool, true, false, cond, ℕ, ◌≤◌, List, [], ◌∷◌, ◌++◌, length, Result, Ok, refl, ap, sym, subst, ◌∙◌, bytes_eq, and_from, and_parts, bytes_eq-Decides, IsSet, Line, is_word, end_line, WordsLeft, LinesLeft, AreLeft, found, found-same, Fault, Certificate}
use Rattle.mat_cert.proofs.Common.{AreRangedSets, IsRanged, certificate_lines, header_line, version_line}
use Rattle.std.specs.List.{All, list_all}

-- an answer was read from the words behind its command on
pub record IsCommandRead (command : List ℕ) (words : WordsLeft) (lines : LinesLeft) (answer : Certificate × LinesLeft) : Type 0 where
  pub ranged : IsRanged answer.0
  pub spelled : AreLeft (end_line ∷ []) answer.1
      → (more : List Line) × AreLeft more lines × (certificate_lines answer.0 ≡ version_line ∷ header_line command words.words ∷ more)

-- an answer was read: its header, and the lines behind that
pub answer_read : (command : List ℕ) (words : WordsLeft) (lines : LinesLeft) (answer : Certificate × LinesLeft) (c : Certificate)
    (q : LinesLeft) (spelling : Line) (more : List Line)
    → found {F = Fault} (c, q) ≡ found answer → IsRanged c → words.words ≡ spelling
    → certificate_lines c ≡ version_line ∷ header_line command spelling ∷ more → (AreLeft (end_line ∷ []) q → AreLeft more lines)
    → IsCommandRead command words lines answer
answer_read command words lines answer c q spelling more read ranged cut begins spelled =
    subst (IsCommandRead command words lines) (found-same (c, q) answer read) (record {
      ranged = ranged;
      spelled = λ left. (more, spelled left, begins ∙ ap (λ (t : Line). version_line ∷ header_line command t ∷ more) (sym cut));
    })

-- as many sets as a header says are in range
pub ranged_sets : (n least most many : ℕ) (sets : List (List ℕ)) → (length sets ≡ many) × All (IsSet n) sets → least ≤ many → many ≤ most
    → AreRangedSets n least most sets
ranged_sets n least most many sets read enough few = record {
  enough = subst (λ (k : ℕ). least ≤ k) (sym read.0) enough;
  no_more = subst (λ (k : ℕ). k ≤ most) (sym read.0) few;
  each = read.1;
}

-- what was read where a word is tested: it is that word, or another
pub by_word : {B : Type 0} {P : Type 0} (word name : List ℕ) (first second : Result B Fault) (y : B) → (word ≡ name → first ≡ Ok y → P)
    → (second ≡ Ok y → P) → cond (bytes_eq word name) first second ≡ Ok y → P
by_word {B} {P} word name first second y same other e = by (bytes_eq word name) (λ h. (bytes_eq-Decides word name).0 h) e
  where
    by : (test : Bool) → (test ≡ true → word ≡ name) → cond test first second ≡ Ok y → P
    by true is h = same (is refl) h
    by false is h = other h

-- what was read where a number of words is tested
pub by_test : {B : Type 0} {P : Type 0} (test : Bool) (first second : Result B Fault) (y : B) → (first ≡ Ok y → P) → (second ≡ Ok y → P)
    → cond test first second ≡ Ok y → P
by_test true first second y held failed e = held e
by_test false first second y held failed e = failed e

-- words in front of words
pub words_append : (first second : Line) → list_all is_word first ≡ true → list_all is_word second ≡ true
    → list_all is_word (first ++ second) ≡ true
words_append [] second one two = two
words_append (word ∷ first) second one two =
    let both = and_parts (is_word word) (list_all is_word first) one in
    and_from (is_word word) (list_all is_word (first ++ second)) both.0 (words_append first second both.1 two)
