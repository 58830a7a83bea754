-- The lines of a text: what is read is spelled so, and what is spelled so is read.
use Rattle.mat_words.proofs.Common.{◌≡◌, ℕ, ◌+◌, ◌<◌, true, false, not, cond, eqb, List, [], ◌∷◌, length, Result, Ok, Err, refl, sym, ap, subst, ◌∙◌, arith, bytes_eq, ne_eqb, and_from, and_parts, not-false, eqb-true, nil_from_length, bytes_eq-Decides, Line, lines_of, text_of, is_newline, is_space}
use Rattle.mat_words.proofs.Common.{is_word, words_of, is_well_spaced, WordsLeft, LinesLeft, ◌>>=◌, Fault, line_from, line_at, word_at, keyed_at, is_closed}
use Rattle.std.specs.List.{list_all, join_with_byte}
use Rattle.mat_words.proofs.LineLemmas.{written_line}
use Rattle.mat_words.proofs.Splitting.{some_parts}
use Rattle.mat_words.proofs.WordLemmas.{joined_words, joined_laws}
use Rattle.mat_words.specs.declared.refusal.ReadingFault.TheVariants.{EndsEarly, BadByte, NoWord, UnknownWord}
use Rattle.mat_words.proofs.ReadingSteps.{found-same, bind_found, test_found, refused_found}
use Rattle.mat_words.proofs.WordReading.{word_found}

-- what is left of the text is the text of these lines
pub record AreLeft (lines : List Line) (p : LinesLeft) : Type 0 where
  pub same : p.lines ≡ lines_of (text_of lines)

-- a line was read
record IsLineRead (p : LinesLeft) (w : WordsLeft) (q : LinesLeft) : Type 0 where
  cut : p.lines ≡ join_with_byte 32 w.words ∷ q.lines
  some : 0 < length w.words
  words : list_all is_word w.words ≡ true

some_words : (line : List ℕ) → eqb (length line) 0 ≡ false → 0 < length (words_of line)
some_words [] h = absurd cc
some_words (b ∷ bs) h = some_parts is_space (b ∷ bs)

line_read : (p : LinesLeft) (w : WordsLeft) (q : LinesLeft) → line_at p ≡ Ok (w, q) → IsLineRead p w q
unfolding line_at
line_read p w q e = from p.lines refl e
  where
    from : (lines : List (List ℕ)) → p.lines ≡ lines → line_from p.line lines ≡ Ok (w, q) → IsLineRead p w q
    from [] is h = absurd cc
    from (l ∷ ls) is h =
        let read : Result (WordsLeft × LinesLeft) Fault = Ok
        (record { line = p.line; words = words_of l }, record { line = p.line + 1; lines = ls }) in
        let ended = refused_found (eqb (length ls) 0) (EndsEarly, p.line)
        (cond (not (is_well_spaced l)) (Err (BadByte, p.line)) (cond (eqb (length l) 0) (Err (NoWord, p.line)) read)) (w, q) h in
        let spaced = refused_found (not (is_well_spaced l)) (BadByte, p.line) (cond (eqb (length l) 0) (Err (NoWord, p.line)) read) (w, q)
        ended.1 in
        let some = refused_found (eqb (length l) 0) (NoWord, p.line) read (w, q) spaced.1 in
        let same = found-same (record { line = p.line; words = words_of l }, record { line = p.line + 1; lines = ls }) (w, q) some.1 in
        let well : is_well_spaced l ≡ true = not-false (is_well_spaced l) spaced.0 in
        let words : words_of l ≡ w.words = ap (λ (x : WordsLeft × LinesLeft). x.0.words) same in
        let rest : ls ≡ q.lines = ap (λ (x : WordsLeft × LinesLeft). x.1.lines) same in
        record {
          cut = is ∙ rw (← joined_words l, words, rest) refl;
          some = subst (λ (v : List (List ℕ)). 0 < length v) words (some_words l some.0);
          words = subst (λ (v : List (List ℕ)). list_all is_word v ≡ true) words well;
        }

-- a line that is read stands in front of the lines behind it
pub line_found : (p : LinesLeft) (w : WordsLeft) (q : LinesLeft) → line_at p ≡ Ok (w, q) → (rest : List Line) → AreLeft rest q
    → AreLeft (w.words ∷ rest) p
line_found p w q e rest left =
    let read = line_read p w q e in
    let written = (written_line w.words (text_of rest) read.some read.words).0 in
    record { same = read.cut ∙ ap (λ (t : List (List ℕ)). join_with_byte 32 w.words ∷ t) left.same ∙ sym written }

-- a line that stands in front is read
pub line_again : (p : LinesLeft) (words : Line) (rest : List Line) → 0 < length words → list_all is_word words ≡ true
    → AreLeft (words ∷ rest) p
    → (q : LinesLeft) × (line_at p ≡ Ok (record { line = p.line; words = words }, q)) × AreLeft rest q
unfolding line_at
line_again p words rest some spelled left =
    let written = (written_line words (text_of rest) some spelled).0 in
    let laws = joined_laws words some spelled in
    let more : eqb (length (lines_of (text_of rest))) 0 ≡ false = ne_eqb (length (lines_of (text_of rest))) 0
    (λ e. omega (arith, some_parts is_newline (text_of rest))) in
    let full : eqb (length (join_with_byte 32 words)) 0 ≡ false = ne_eqb (length (join_with_byte 32 words)) 0 (λ e. omega (arith, laws.1)) in (
      record { line = p.line + 1; lines = lines_of (text_of rest) },
      rw (left.same, written, more, laws.0, spelled, full) refl,
      record { same = refl },
    )

-- a line that begins with a word was read as a line
keyed_line : (key : List ℕ) (p : LinesLeft) (w : WordsLeft) (q : LinesLeft) → keyed_at key p ≡ Ok (w, q)
    → (line : WordsLeft) × (line_at p ≡ Ok (line, q)) × (line.words ≡ key ∷ w.words)
unfolding keyed_at
keyed_line key p w q e =
    let line = bind_found (line_at p) (λ line. word_at line.0
    >>= λ word. cond (bytes_eq word.0 key) (Ok (word.1, line.1)) (Err (UnknownWord, p.line))) (w, q) e in
    let word = bind_found (word_at line.0.0) (λ word. cond (bytes_eq word.0 key) (Ok (word.1, line.0.1)) (Err (UnknownWord, p.line))) (w, q)
    line.2 in
    let test = test_found (bytes_eq word.0.0 key) (UnknownWord, p.line) (Ok (word.0.1, line.0.1)) (w, q) word.2 in
    let same = found-same (word.0.1, line.0.1) (w, q) test.1 in
    let cut = word_found line.0.0 word.0.0 word.0.1 word.1 in
    let is_key : word.0.0 ≡ key = (bytes_eq-Decides word.0.0 key).0 test.0 in
    let words : word.0.1.words ≡ w.words = ap (λ (x : WordsLeft × LinesLeft). x.0.words) same in
    let behind : line.0.1 ≡ q = ap (λ (x : WordsLeft × LinesLeft). x.1) same in
    (line.0.0, subst (λ (x : LinesLeft). line_at p ≡ Ok (line.0.0, x)) behind line.1, cut ∙ rw (is_key, words) refl)

-- a line that begins with a word, which is read, stands in front of the lines behind it
pub keyed_found : (key : List ℕ) (p : LinesLeft) (w : WordsLeft) (q : LinesLeft) → keyed_at key p ≡ Ok (w, q) → (rest : List Line)
    → AreLeft rest q → AreLeft ((key ∷ w.words) ∷ rest) p
keyed_found key p w q e rest left =
    let line = keyed_line key p w q e in
    subst (λ (v : Line). AreLeft (v ∷ rest) p) line.2 (line_found p line.0 q line.1 rest left)

-- so it does where its words are known to be these, and what is left behind it
pub known_line : (key : List ℕ) (p : LinesLeft) (words known : Line) (q behind : LinesLeft)
    → ((rest : List Line) → AreLeft rest q → AreLeft ((key ∷ words) ∷ rest) p) → words ≡ known → q ≡ behind
    → (rest : List Line) → AreLeft rest behind → AreLeft ((key ∷ known) ∷ rest) p
known_line key p words known q behind spelled same_words same_rest rest left =
    let there : AreLeft rest q = subst (λ (x : LinesLeft). AreLeft rest x) (sym same_rest) left in
    subst (λ (v : Line). AreLeft ((key ∷ v) ∷ rest) p) same_words (spelled rest there)

-- the words behind its first are words
pub keyed_words : (key : List ℕ) (p : LinesLeft) (w : WordsLeft) (q : LinesLeft) → keyed_at key p ≡ Ok (w, q)
    → list_all is_word w.words ≡ true
keyed_words key p w q e =
    let line = keyed_line key p w q e in
    let all : list_all is_word (key ∷ w.words) ≡ true = subst (λ (v : Line). list_all is_word v ≡ true) line.2
    (line_read p line.0 q line.1).words in
    (and_parts (is_word key) (list_all is_word w.words) all).1

-- a line that begins with a word, which stands in front, is read
pub keyed_again : (key : List ℕ) (p : LinesLeft) (words : Line) (rest : List Line) → is_word key ≡ true → list_all is_word words ≡ true
    → AreLeft ((key ∷ words) ∷ rest) p
    → (q : LinesLeft) × (keyed_at key p ≡ Ok (record { line = p.line; words = words }, q)) × AreLeft rest q
unfolding keyed_at word_at
keyed_again key p words rest keyword spelled left =
    let line = line_again p (key ∷ words) rest (omega arith) (and_from (is_word key) (list_all is_word words) keyword spelled) left in
    let test : bytes_eq key key ≡ true = (bytes_eq-Decides key key).1 refl in
    (line.0, rw (line.1, test) refl, line.2)

-- nothing is left of a text that is closed
pub closed_left : (p : LinesLeft) → is_closed p.lines ≡ true → AreLeft [] p
closed_left p closed = record { same = one_empty p.lines closed }
  where
    one_empty : (lines : List (List ℕ)) → is_closed lines ≡ true → lines ≡ [] ∷ []
    one_empty [] e = absurd cc
    one_empty (line ∷ lines) e =
        let both = and_parts (eqb (length line) 0) (eqb (length lines) 0) e in
        rw (nil_from_length line (eqb-true (length line) 0 both.0), nil_from_length lines (eqb-true (length lines) 0 both.1)) refl
