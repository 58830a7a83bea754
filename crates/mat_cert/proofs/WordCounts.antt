-- How many words are left of a line, as a loop cuts off one after the other.
use Rattle.mat_cert.proofs.Common.{◌≡◌, ℕ, ◌+◌, ◌<◌, ◌≤◌, true, false, eqb, List, length, sym, ◌∙◌, arith, Option, Some, None, ne_eqb, eq-eqb, parts_left, parts_of, is_space}
use Rattle.std.specs.Borrow.{Bor}
use Rattle.mat_words.proofs.Splitting.{some_parts}

-- too few words stand on the line
pub too_few_words : (many cut : ℕ) (words : List (List ℕ)) (rest : Option (Bor (List ℕ))) → rest ≡ None
    → length (parts_left rest) + cut ≡ length words → cut < many → false ≡ eqb (length words) many
too_few_words many cut words rest none count fewer =
    let here : length words ≡ cut = sym (rw none at count) ∙ omega arith in
    sym (ne_eqb (length words) many (λ e. omega arith))

-- as many words stand on the line
pub right_number_of_words : (many cut : ℕ) (words : List (List ℕ)) (rest : Option (Bor (List ℕ))) → rest ≡ None
    → length (parts_left rest) + cut ≡ length words → many ≤ cut → cut ≤ many → true ≡ eqb (length words) many
right_number_of_words many cut words rest none count least most =
    let here : length words ≡ cut = sym (rw none at count) ∙ omega arith in
    sym (eq-eqb (length words) many (omega arith))

-- too many words stand on the line
pub too_many_words : (many cut : ℕ) (words : List (List ℕ)) (rest : Option (Bor (List ℕ))) (more : Bor (List ℕ)) → rest ≡ Some more
    → length (parts_left rest) + cut ≡ length words → many ≤ cut → false ≡ eqb (length words) many
too_many_words many cut words rest more some count least =
    let here : length (parts_of more.now) + cut ≡ length words = rw some at count in
    let full = some_parts is_space more.now in
    sym (ne_eqb (length words) many (λ e. omega arith))
