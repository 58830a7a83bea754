-- The end of a text.
use Rattle.mat_words.proofs.Common.{◌≡◌, ℕ, ◌<◌, Bool, true, false, cond, List, [], ◌∷◌, length, refl, ◌∙◌, arith, ◌==◌, ne_eqb, lines_of, is_newline, is_closed}
use Rattle.std.specs.List.{slice_split, onto_first}
use Rattle.mat_words.proofs.Splitting.{some_parts}

is_closed-cons : (b : ℕ) (newline : Bool) (parts : List (List ℕ)) → 0 < length parts
    → is_closed (cond newline ([] ∷ parts) (onto_first b parts)) ≡ false
is_closed-cons b newline [] some = absurd (omega arith)
is_closed-cons b true (w ∷ ws) some = ne_eqb (length (w ∷ ws)) 0 (λ e. omega arith)
is_closed-cons b false (w ∷ ws) some = rw (ne_eqb (length (b ∷ w)) 0 (λ e. omega arith)) refl

-- the lines of a text are closed where the text is empty
pub is_closed-lines_of : (text : List ℕ) → is_closed (lines_of text) ≡ (length text == 0)
is_closed-lines_of [] = refl
is_closed-lines_of (b ∷ bs) = is_closed-cons b (is_newline b) (slice_split is_newline bs) (some_parts is_newline bs)
    ∙ rw (ne_eqb (length (b ∷ bs)) 0 (λ e. omega arith)) refl

pub ruleset closing = (is_closed-lines_of)
