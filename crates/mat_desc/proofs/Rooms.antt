-- The next matroid where there is room for it: what its keyword reads, with room for one fewer within it.
use Rattle.mat_desc.proofs.Common.{◌≡◌, ℕ, zero, suc, ◌<◌, ◌-◌, List, Some, Ok, refl, sym, subst, arith, WordsLeft, LinesLeft, Keyword, Naming, keyword_of, kind_at, matroid_within}
use Rattle.mat_words.specs.Reading as reading

within_more : (room : ℕ) (naming : Naming) (n : ℕ) (p : LinesLeft) (words : WordsLeft) (lines : LinesLeft) (first : List ℕ)
    (others : WordsLeft) (k : Keyword)
    → reading.line_at p ≡ Ok (words, lines) → reading.word_at words ≡ Ok (first, others) → keyword_of first ≡ Some k
    → matroid_within (suc room) naming n p ≡ kind_at (matroid_within room naming n) naming n p.line (Some k) others lines
unfolding matroid_within
within_more room naming n p words lines first others k a b e = rw (a, b, e) refl

pub within_is : (room : ℕ) (naming : Naming) (n : ℕ) (p : LinesLeft) (words : WordsLeft) (lines : LinesLeft) (first : List ℕ)
    (others : WordsLeft) (k : Keyword) → 0 < room
    → reading.line_at p ≡ Ok (words, lines) → reading.word_at words ≡ Ok (first, others) → keyword_of first ≡ Some k
    → matroid_within room naming n p ≡ kind_at (matroid_within (room - 1) naming n) naming n p.line (Some k) others lines
within_is zero naming n p words lines first others k some a b e = absurd (omega arith)
within_is (suc room) naming n p words lines first others k some a b e =
    let less : suc room - 1 ≡ room = omega arith in
    subst (λ r. matroid_within (suc room) naming n p ≡ kind_at (matroid_within r naming n) naming n p.line (Some k) others lines) (sym less)
    (within_more room naming n p words lines first others k a b e)
