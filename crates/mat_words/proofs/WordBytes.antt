-- A word is text.
use Rattle.mat_words.proofs.Common.{◌≡◌, ℕ, true, List, [], ◌∷◌, leb, ◌≤◌, arith, IsUtf8, IsAscii, and_parts, leb-true, is_letter, is_word}
use Rattle.std.specs.List.{list_all}
use Rattle.std.proofs.lemmas.Str.{IsUtf8-from_ascii}
use Rattle.std.proofs.lemmas.Str.Ascii.{IsAscii-nil, IsAscii-cons}

letters_ascii : (bs : List ℕ) → list_all is_letter bs ≡ true → IsAscii bs
letters_ascii [] h = IsAscii-nil
letters_ascii (b ∷ bs) h =
    let here = and_parts (is_letter b) (list_all is_letter bs) h in
    let most = and_parts (leb 33 b) (leb b 126) here.0 in
    let below : b ≤ 126 = leb-true b 126 most.1 in
    IsAscii-cons b bs (omega arith) (letters_ascii bs here.1)

-- a word is text
pub word_utf8 : (word : List ℕ) → is_word word ≡ true → IsUtf8 word
word_utf8 [] h = absurd cc
word_utf8 (b ∷ bs) h = IsUtf8-from_ascii (b ∷ bs) (letters_ascii (b ∷ bs) h)
