-- The text that is written line by line: the lines of a list of items are those of one item after the other.
use Rattle.mat_desc.proofs.Common.{◌≡◌, ℕ, ◌+◌, ◌<◌, ◌≤◌, List, [], ◌∷◌, ◌++◌, length, map, min, take, get_or, sym, ap, ◌∙◌, refl, arith, pos, append_assoc, take_all, get_or-zip, length-zip, Line, text_of, numeral, end_line, spaced, text_of-append, item_written, words_written, version_line}
use Rattle.mat_desc.proofs.Common.{name_lines, Instance, Notation, header, body_lines, canonical_lines}
use Rattle.std.specs.List.{flat_map, zip}
use Rattle.std.proofs.lemmas.List.Concat.{flat_map_single}

-- ---- one line

-- words were written, each behind a space
pub all_written : (start : List ℕ) (words : Line) (n : ℕ) (out : List ℕ) → length words ≤ n
    → out ≡ start ++ spaced (take n words) → out ≡ start ++ spaced words
all_written start words n out done so_far = so_far ∙ ap (λ (ws : Line). start ++ spaced ws) (take_all n words done)

-- the line of a set and its cap was written
pub capped_written : (old key : List ℕ) (cap : ℕ) (words : Line) (out new : List ℕ)
    → out ≡ ((old ++ key) ++ 32 ∷ numeral (pos cap)) ++ spaced words → new ≡ out ++ 10 ∷ []
    → new ≡ old ++ text_of ((key ∷ numeral (pos cap) ∷ words) ∷ [])
capped_written old key cap words out new so_far last =
    words_written old key (numeral (pos cap) ∷ words) out new
    (so_far ∙ append_assoc (old ++ key) (32 ∷ numeral (pos cap)) (spaced words)) last

-- ---- many lines

-- lines were written behind others
pub both_written : (old out new : List ℕ) (first second : List Line) → out ≡ old ++ text_of first → new ≡ out ++ text_of second
    → new ≡ old ++ text_of (first ++ second)
both_written old out new first second one two =
    two ∙ ap (λ (t : List ℕ). t ++ text_of second) one ∙ append_assoc old (text_of first) (text_of second)
    ∙ ap (λ (t : List ℕ). old ++ t) (sym (text_of-append first second))

-- the text of the lines of each item
items_text : {A : Type 0} (f : A → List Line) (xs : List A) → flat_map (λ x. text_of (f x)) xs ≡ text_of (flat_map f xs)
items_text f [] = refl
items_text f (x ∷ xs) = ap (λ (t : List ℕ). text_of (f x) ++ t) (items_text f xs) ∙ sym (text_of-append (f x) (flat_map f xs))

-- the lines of all items were written
pub items_written : {A : Type 0} (f : A → List Line) (old : List ℕ) (xs : List A) (n : ℕ) (out : List ℕ) → length xs ≤ n
    → out ≡ old ++ flat_map (λ x. text_of (f x)) (take n xs) → out ≡ old ++ text_of (flat_map f xs)
items_written f old xs n out done so_far =
    so_far ∙ ap (λ t. old ++ flat_map (λ x. text_of (f x)) t) (take_all n xs done) ∙ ap (λ (t : List ℕ). old ++ t) (items_text f xs)

-- a line for each item was written
pub lines_written : {A : Type 0} (f : A → Line) (old : List ℕ) (xs : List A) (n : ℕ) (out : List ℕ) → length xs ≤ n
    → out ≡ old ++ flat_map (λ x. text_of (f x ∷ [])) (take n xs) → out ≡ old ++ text_of (map f xs)
lines_written f old xs n out done so_far =
    items_written (λ x. f x ∷ []) old xs n out done so_far ∙ ap (λ (ls : List Line). old ++ text_of ls) (flat_map_single f xs)

-- a line for one more pair of items was written
pub pair_written : {A B : Type 0} (f : A × B → Line) (old : List ℕ) (xs : List A) (ys : List B) (i : ℕ) (d : A) (e : B)
    (out new : List ℕ) → i < min (length xs) (length ys)
    → out ≡ old ++ flat_map (λ p. text_of (f p ∷ [])) (take i (zip xs ys)) → new ≡ out ++ text_of (f (get_or xs i d, get_or ys i e) ∷ [])
    → new ≡ old ++ flat_map (λ p. text_of (f p ∷ [])) (take (i + 1) (zip xs ys))
pair_written {A} {B} f old xs ys i d e out new inside so_far last =
    let within : i < length (zip xs ys) = rw (length-zip xs ys) inside in
    let at : get_or (zip xs ys) i (d, e) ≡ (get_or xs i d, get_or ys i e) =
    get_or-zip xs ys i (d, e) (omega (arith, inside)) (omega (arith, inside)) in
    item_written (λ p. text_of (f p ∷ [])) old (zip xs ys) i (d, e) out new within so_far
    (last ∙ ap (λ (p : A × B). out ++ text_of (f p ∷ [])) (sym at))

-- a line for each pair of items was written
pub pairs_written : {A B : Type 0} (f : A × B → Line) (old : List ℕ) (xs : List A) (ys : List B) (n : ℕ) (out : List ℕ)
    → min (length xs) (length ys) ≤ n
    → out ≡ old ++ flat_map (λ p. text_of (f p ∷ [])) (take n (zip xs ys)) → out ≡ old ++ text_of (map f (zip xs ys))
pairs_written f old xs ys n out done so_far = lines_written f old (zip xs ys) n out (rw (length-zip xs ys) done) so_far

-- a line for each item, with one of each of two further lists, was written
pub triples_written : {A B C : Type 0} (f : A × (B × C) → Line) (old : List ℕ) (xs : List A) (ys : List B) (zs : List C) (n : ℕ)
    (out : List ℕ) → min (length xs) (min (length ys) (length zs)) ≤ n
    → out ≡ old ++ flat_map (λ p. text_of (f p ∷ [])) (take n (zip xs (zip ys zs))) → out ≡ old ++ text_of (map f (zip xs (zip ys zs)))
triples_written f old xs ys zs n out done so_far = pairs_written f old xs (zip ys zs) n out (rw (length-zip ys zs) done) so_far

-- a line for one more item, with one of each of two further lists, was written
pub triple_written : {A B C : Type 0} (f : A × (B × C) → Line) (old : List ℕ) (xs : List A) (ys : List B) (zs : List C) (i : ℕ) (d : A)
    (e : B) (g : C) (out new : List ℕ)
    → i < min (length xs) (min (length ys) (length zs))
    → out ≡ old ++ flat_map (λ p. text_of (f p ∷ [])) (take i (zip xs (zip ys zs)))
    → new ≡ out ++ text_of (f (get_or xs i d, (get_or ys i e, get_or zs i g)) ∷ [])
    → new ≡ old ++ flat_map (λ p. text_of (f p ∷ [])) (take (i + 1) (zip xs (zip ys zs)))
triple_written {A} {B} {C} f old xs ys zs i d e g out new inside so_far last =
    let at : get_or (zip ys zs) i (e, g) ≡ (get_or ys i e, get_or zs i g) =
    get_or-zip ys zs i (e, g) (omega (arith, inside)) (omega (arith, inside)) in
    pair_written f old xs (zip ys zs) i d (e, g) out new (rw (length-zip ys zs) inside) so_far
    (last ∙ ap (λ (p : B × C). out ++ text_of (f (get_or xs i d, p) ∷ [])) (sym at))

-- ---- whole problems

-- a line and then the lines of two matroids were written
pub pair_written_out : (old one two new : List ℕ) (line : Line) (first second : List Line) → one ≡ old ++ text_of (line ∷ [])
    → two ≡ one ++ text_of first → new ≡ two ++ text_of second → new ≡ old ++ text_of (line ∷ (first ++ second))
pair_written_out old one two new line first second a b c =
    both_written old one new (line ∷ []) (first ++ second) a (both_written one two new first second b c)

-- a problem was written
pub problem_written : (notation : Notation) (instance : Instance) (one two three four new : List ℕ) → one ≡ text_of (version_line notation ∷ [])
    → two ≡ one ++ text_of (header notation instance ∷ []) → three ≡ two ++ text_of (name_lines notation)
    → four ≡ three ++ text_of (body_lines notation instance) → new ≡ four ++ text_of (end_line ∷ [])
    → new ≡ text_of (canonical_lines notation instance)
problem_written notation instance one two three four new a b c d e =
    let body = body_lines notation instance ++ end_line ∷ [] in
    let behind_notation : new ≡ three ++ text_of body = both_written three four new (body_lines notation instance) (end_line ∷ []) d e in
    let behind_header : new ≡ two ++ text_of (name_lines notation ++ body) = both_written two three new (name_lines notation) body c behind_notation in
    let behind_version : new ≡ one ++ text_of (header notation instance ∷ (name_lines notation ++ body)) =
    both_written one two new (header notation instance ∷ []) (name_lines notation ++ body) b behind_header in
    both_written [] one new (version_line notation ∷ []) (header notation instance ∷ (name_lines notation ++ body)) a behind_version
