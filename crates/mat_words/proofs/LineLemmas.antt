-- The lines of a text: a text is cut behind its first line, and a text that is written line by line has those lines.
use Rattle.mat_words.proofs.Common.{◌≡◌, ◌≢◌, ℕ, ◌<◌, true, false, List, [], ◌∷◌, ◌++◌, map, length, refl, sym, ap, ◌∙◌, arith, inl, inr, ◌⊎◌, ne_eqb, eq-eqb, cases_eq, append_assoc, append-nil, append_cancel_right, All-nil, All-cons, All-head, All-tail, All-weaker, slice_split_at}
use Rattle.mat_words.proofs.Common.{join_with_byte-slice_split, is_newline, lines_of, text_of, HasNoNewline, AreLines, IsFirstLine, is_word, words_of}
use Rattle.std.specs.List.{list_all, join_with_byte}
use Rattle.mat_words.proofs.WordLemmas.{words_again, joined_no_newline}

-- a line that stands in front of a text is its first line
pub first_line : (line rest : List ℕ) → HasNoNewline line → lines_of (line ++ 10 ∷ rest) ≡ line ∷ lines_of rest
first_line line rest h = slice_split_at is_newline line 10 rest
    (All-weaker (λ b. b ≢ 10) (λ b. is_newline b ≡ false) (λ b ne. ne_eqb b 10 ne) line h) refl

-- a text has no byte 10, or is cut behind its first line
pub cut_or_last : (text : List ℕ) → ((HasNoNewline text) × (lines_of text ≡ text ∷ [])) ⊎
    ((before : List ℕ) × (after : List ℕ) × IsFirstLine text before after)
cut_or_last [] = inl (All-nil (λ b. b ≢ 10), refl)
cut_or_last (b ∷ bs) =
    elim (cases_eq b 10) [
      | inl e ↦ inr ([], bs, record { whole = rw e refl; first = All-nil (λ b. b ≢ 10); lines = rw (eq-eqb b 10 e) refl })
      | inr ne ↦ elim (cut_or_last bs) [
        | inl last ↦ inl (All-cons (λ b. b ≢ 10) b bs ne last.0, rw (ne_eqb b 10 ne, last.1) refl)
        | inr cut ↦ inr (
          b ∷ cut.0,
          cut.1,
          record {
            whole = ap (λ (t : List ℕ). b ∷ t) cut.2.whole;
            first = All-cons (λ b. b ≢ 10) b cut.0 ne cut.2.first;
            lines = rw (ne_eqb b 10 ne, cut.2.lines) refl;
          },
        )
      ]
    ]

-- texts with the same lines are the same
pub same_text : (first second : List ℕ) → lines_of first ≡ lines_of second → first ≡ second
same_text first second e = sym (join_with_byte-slice_split 10 first) ∙ ap (join_with_byte 10) e ∙ join_with_byte-slice_split 10 second

-- the text of two lists of lines is that of the first and then that of the second
pub text_of-append : (first second : List (List (List ℕ))) → text_of (first ++ second) ≡ text_of first ++ text_of second
text_of-append [] second = refl
text_of-append (words ∷ lines) second =
    ap (λ (t : List ℕ). join_with_byte 32 words ++ 10 ∷ t) (text_of-append lines second)
    ∙ sym (append_assoc (join_with_byte 32 words) (10 ∷ text_of lines) (text_of second))

-- a line that is written stands first in the text, whatever follows it
pub written_line : (words : List (List ℕ)) (rest : List ℕ) → 0 < length words → list_all is_word words ≡ true
    → (lines_of (join_with_byte 32 words ++ 10 ∷ rest) ≡ join_with_byte 32 words ∷ lines_of rest)
    × (words_of (join_with_byte 32 words) ≡ words)
written_line [] rest some h = absurd (omega arith)
written_line (w ∷ ws) rest some h = (first_line (join_with_byte 32 (w ∷ ws)) rest (joined_no_newline w ws h), (words_again w ws h).0)

-- the lines of a text that was written are those that were written, whatever follows it
pub written_lines : (lines : List (List (List ℕ))) (rest : List ℕ) → AreLines lines
    → lines_of (text_of lines ++ rest) ≡ map (join_with_byte 32) lines ++ lines_of rest
written_lines [] rest h = refl
written_lines (words ∷ lines) rest h =
    let here = All-head (λ (ws : List (List ℕ)). (0 < length ws) × (list_all is_word ws ≡ true)) words lines h in
    let after = All-tail (λ (ws : List (List ℕ)). (0 < length ws) × (list_all is_word ws ≡ true)) words lines h in
    ap lines_of (append_assoc (join_with_byte 32 words) (10 ∷ text_of lines) rest) ∙ (written_line words (text_of lines ++ rest) here.0 here.1).0
    ∙ ap (λ (t : List (List ℕ)). join_with_byte 32 words ∷ t) (written_lines lines rest after)

-- the words of lines that are joined are those words
words_back : (lines : List (List (List ℕ))) → AreLines lines → map words_of (map (join_with_byte 32) lines) ≡ lines
words_back [] h = refl
words_back (words ∷ lines) h =
    let here = All-head (λ (ws : List (List ℕ)). (0 < length ws) × (list_all is_word ws ≡ true)) words lines h in
    let after = All-tail (λ (ws : List (List ℕ)). (0 < length ws) × (list_all is_word ws ≡ true)) words lines h in
    rw ((written_line words [] here.0 here.1).1, words_back lines after) refl

-- the lines of a text that was written, with nothing after it
all_written : (lines : List (List (List ℕ))) → AreLines lines → lines_of (text_of lines) ≡ map (join_with_byte 32) lines ++ [] ∷ []
all_written lines h = ap lines_of (sym (append-nil (text_of lines))) ∙ written_lines lines [] h

-- different lists of lines have different texts
pub one_text : (first second : List (List (List ℕ))) → AreLines first → AreLines second → text_of first ≡ text_of second
    → first ≡ second
one_text first second p q e =
    let joined : map (join_with_byte 32) first ++ [] ∷ [] ≡ map (join_with_byte 32) second ++ [] ∷ [] = sym (all_written first p)
    ∙ ap lines_of e ∙ all_written second q in
    let same = append_cancel_right (map (join_with_byte 32) first) (map (join_with_byte 32) second) ([] ∷ []) joined in
    sym (words_back first p) ∙ ap (map words_of) same ∙ words_back second q
