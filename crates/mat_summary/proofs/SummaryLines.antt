-- The text of a line that was written in pieces, each of words behind spaces.
use Rattle.mat_summary.proofs.Common.{◌≡◌, ℕ, List, [], ◌∷◌, ◌++◌, ◌∙◌, sym, ap, append_assoc, Line, text_of, spaced}
use Rattle.std.proofs.lemmas.Grind.{flat_map-append}
use Rattle.mat_words.proofs.WrittenLines.{words_written}

-- three pieces are one
spaced_pieces : (word : List ℕ) (first second third : Line)
    → ((word ++ spaced first) ++ spaced second) ++ spaced third ≡ word ++ spaced (first ++ (second ++ third))
spaced_pieces word first second third =
    ap (λ (t : List ℕ). t ++ spaced third) (append_assoc word (spaced first) (spaced second))
    ∙ append_assoc word (spaced first ++ spaced second) (spaced third)
    ∙ ap (λ (t : List ℕ). word ++ t) (append_assoc (spaced first) (spaced second) (spaced third)
    ∙ ap (λ (t : List ℕ). spaced first ++ t) (sym (flat_map-append (λ v. 32 ∷ v) second third))
    ∙ sym (flat_map-append (λ v. 32 ∷ v) first (second ++ third)))

-- a line of a word and three pieces
pub line_of_pieces : (word : List ℕ) (first second third : Line) (one two three new : List ℕ)
    → one ≡ word ++ spaced first → two ≡ one ++ spaced second → three ≡ two ++ spaced third → new ≡ three ++ 10 ∷ []
    → new ≡ text_of ((word ∷ first ++ (second ++ third)) ∷ [])
line_of_pieces word first second third one two three new a b c d =
    words_written [] word (first ++ (second ++ third)) three new
    (c ∙ ap (λ (t : List ℕ). t ++ spaced third) (b ∙ ap (λ (t : List ℕ). t ++ spaced second) a) ∙ spaced_pieces word first second third) d
