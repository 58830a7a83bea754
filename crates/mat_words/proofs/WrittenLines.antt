-- The text of a line that is written word by word: behind the first word each further word stands behind a space. Where there is no memory
-- for a word, what stood there before them all still stands in front.
use Rattle.mat_words.proofs.Common.{◌≡◌, ℕ, ◌+◌, ◌<◌, ◌≤◌, List, [], ◌∷◌, ◌++◌, length, map, take, get_or, refl, sym, ap, ◌∙◌, arith, append_assoc, append-nil, length-append, flat_map_more, take_more, take_all, take-take, take_at, Line, text_of, spaced}
use Rattle.std.specs.List.{flat_map, join_with_byte}
use Rattle.std.proofs.lemmas.List.Folds.{flat_map-map}

-- words that are joined are the first and each further one behind a space
join_with_byte-cons : (w : List ℕ) (ws : Line) → join_with_byte 32 (w ∷ ws) ≡ w ++ spaced ws
join_with_byte-cons w [] = sym (append-nil w)
join_with_byte-cons w (v ∷ vs) = ap (λ (t : List ℕ). w ++ 32 ∷ t) (join_with_byte-cons v vs)

-- one more item was written
pub item_written : {A : Type 0} (g : A → List ℕ) (start : List ℕ) (xs : List A) (i : ℕ) (d : A) (out new : List ℕ) → i < length xs
    → out ≡ start ++ flat_map g (take i xs) → new ≡ out ++ g (get_or xs i d)
    → new ≡ start ++ flat_map g (take (i + 1) xs)
item_written g start xs i d out new inside so_far last =
    last ∙ ap (λ (t : List ℕ). t ++ g (get_or xs i d)) so_far ∙ flat_map_more g start (take i xs) (get_or xs i d)
    ∙ ap (λ t. start ++ flat_map g t) (sym (take_more xs i d inside))

-- the word for each item was written, behind a space
pub words_done : {A : Type 0} (f : A → List ℕ) (start : List ℕ) (xs : List A) (n : ℕ) (out : List ℕ) → length xs ≤ n
    → out ≡ start ++ flat_map (λ x. 32 ∷ f x) (take n xs) → out ≡ start ++ spaced (map f xs)
words_done f start xs n out done so_far =
    so_far ∙ ap (λ t. start ++ flat_map (λ x. 32 ∷ f x) t) (take_all n xs done)
    ∙ ap (λ (t : List ℕ). start ++ t) (sym (flat_map-map (λ w. 32 ∷ w) f xs))

-- a line of a keyword and words was written
pub words_written : (old key : List ℕ) (words : Line) (out new : List ℕ) → out ≡ (old ++ key) ++ spaced words → new ≡ out ++ 10 ∷ []
    → new ≡ old ++ text_of ((key ∷ words) ∷ [])
words_written old key words out new so_far last =
    last ∙ ap (λ (t : List ℕ). t ++ 10 ∷ []) (so_far ∙ append_assoc old key (spaced words)) ∙ append_assoc old (key ++ spaced words) (10 ∷ [])
    ∙ ap (λ (t : List ℕ). old ++ (t ++ 10 ∷ [])) (sym (join_with_byte-cons key words))

-- a line was written, word by word
pub line_written : {A : Type 0} (f : A → List ℕ) (old w : List ℕ) (xs : List A) (n : ℕ) (out new : List ℕ) → length xs ≤ n
    → out ≡ (old ++ w) ++ flat_map (λ x. 32 ∷ f x) (take n xs) → new ≡ out ++ 10 ∷ []
    → new ≡ old ++ text_of ((w ∷ map f xs) ∷ [])
line_written f old w xs n out new done so_far last =
    words_written old w (map f xs) out new (words_done f (old ++ w) xs n out done so_far) last

-- where nothing was written, what stood there still does
pub front_unchanged : (old new : List ℕ) → new ≡ old → take (length old) new ≡ old
front_unchanged old new same = ap (λ (t : List ℕ). take (length old) t) same ∙ take_all (length old) old (omega arith)

-- where the words so far are still in front, so is what stood there before them
pub front_kept : (old written out new : List ℕ) → out ≡ old ++ written → take (length out) new ≡ out → take (length old) new ≡ old
front_kept old written out new so_far kept =
    let longer : length old ≤ length out = omega (arith, ap length so_far, length-append old written) in
    sym (take-take (length old) (length out) new longer) ∙ ap (λ (t : List ℕ). take (length old) t) (kept ∙ so_far)
    ∙ take_at old written (length old) refl
