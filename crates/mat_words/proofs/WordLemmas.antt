-- The words of a line: the test of a well spaced line as one walk from left to right, the sentence that it decides, and lines that are
-- joined from words. The walk's state says whether a word is to begin at the next byte.
use Rattle.mat_words.proofs.Common.{◌≡◌, ◌≢◌, ℕ, zero, suc, ◌+◌, ◌-◌, ◌<◌, ◌≤◌, Bool, true, false, ◌&&◌, not, cond, eqb, leb, List, [], ◌∷◌, ◌++◌, length, get_or, take, drop, refl, sym, ap, subst, inl, inr, ◌∙◌, arith, zero-add, Option, Some, None, ne_eqb, eq-eqb, cases_eq, and_parts, and_from}
use Rattle.mat_words.proofs.Common.{leb-true, le-leb, common_steps, drop_more, drop_all, take_more, append_assoc, append-nil, length-take, All-from_recursion, slice_split_none, slice_split_at, join_with_byte-slice_split, HasNoNewline, is_space, is_letter, parts_of, is_word, words_of, is_well_spaced}
use Rattle.mat_words.proofs.Common.{IsWellSpaced}
use Rattle.std.specs.List.{onto_first, list_all, join_with_byte, AllByRecursion, slice_get}
use Rattle.std.specs.Option.{MatchOption}

-- the walk: whether what is left is words, where a word is to begin at its start, or may go on there
abbrev pub spaced_from : Bool → List ℕ → Bool
spaced_from start [] = not start
spaced_from start (b ∷ bs) = cond (is_space b) (not start && spaced_from true bs) (is_letter b && spaced_from false bs)

-- the parts of a list, the first of which may go on a word
abbrev pub goes_on : Bool → List (List ℕ) → Bool
goes_on start [] = true
goes_on true (w ∷ ws) = list_all is_word (w ∷ ws)
goes_on false (w ∷ ws) = list_all is_letter w && list_all is_word ws

-- one more byte before the first part
goes_on-onto : (b : ℕ) (start : Bool) (parts : List (List ℕ)) → goes_on start (onto_first b parts) ≡ is_letter b && goes_on false parts
goes_on-onto b true [] = grind arith
goes_on-onto b false [] = grind arith
goes_on-onto b true (w ∷ ws) = grind arith
goes_on-onto b false (w ∷ ws) = grind arith

-- where a word is to begin, the parts are words
goes_on-true : (parts : List (List ℕ)) → goes_on true parts ≡ list_all is_word parts
goes_on-true [] = refl
goes_on-true (w ∷ ws) = refl

-- the walk and the parts agree before a byte where they do after it
spaced_step : (space : Bool) (b : ℕ) (start : Bool) (rest : List (List ℕ)) (x y : Bool) → x ≡ goes_on true rest → y ≡ goes_on false rest
    → cond space (not start && x) (is_letter b && y) ≡ goes_on start (cond space ([] ∷ rest) (onto_first b rest))
spaced_step true b true rest x y p q = refl
spaced_step true b false rest x y p q = p ∙ goes_on-true rest
spaced_step false b start rest x y p q = ap (λ (v : Bool). is_letter b && v) q ∙ sym (goes_on-onto b start rest)

-- the walk says what the parts say
pub spaced_is : (start : Bool) (bs : List ℕ) → spaced_from start bs ≡ goes_on start (parts_of bs)
spaced_is true [] = refl
spaced_is false [] = refl
spaced_is start (b ∷ bs) = spaced_step (is_space b) b start (parts_of bs) (spaced_from true bs) (spaced_from false bs) (spaced_is true bs)
    (spaced_is false bs)

-- the walk over a whole line is the test
well_spaced_is : (line : List ℕ) → 0 < length line → spaced_from true line ≡ is_well_spaced line
well_spaced_is [] lt = absurd (omega arith)
well_spaced_is (b ∷ bs) lt = spaced_is true (b ∷ bs) ∙ goes_on-true (parts_of (b ∷ bs))

-- no word ends here
pub stops_at_space : (line : List ℕ) (i : ℕ) → i < length line → get_or line i 0 ≡ 32
    → spaced_from true (drop i line) ≡ spaced_from true line → false ≡ is_well_spaced line
stops_at_space line i lt here so_far =
    let cut : drop i line ≡ get_or line i 0 ∷ drop (i + 1) line = drop_more line i 0 lt in
    let one : spaced_from true (drop i line) ≡ false = rw (cut, here) refl in
    sym one ∙ so_far ∙ well_spaced_is line (omega arith)

-- a byte that stands in no word
pub stops_at_other : (line : List ℕ) (i : ℕ) (start : Bool) → i < length line → get_or line i 0 ≢ 32
    → is_letter (get_or line i 0) ≡ false
    → spaced_from start (drop i line) ≡ spaced_from true line → false ≡ is_well_spaced line
stops_at_other line i start lt space letter so_far =
    let cut : drop i line ≡ get_or line i 0 ∷ drop (i + 1) line = drop_more line i 0 lt in
    let apart : eqb (get_or line i 0) 32 ≡ false = grind (arith, common_steps) in
    let one : spaced_from start (drop i line) ≡ false = rw (cut, apart, letter) refl in
    sym one ∙ so_far ∙ well_spaced_is line (omega arith)

-- at the end of the line
pub at_line_end : (line : List ℕ) (i : ℕ) (start : Bool) → length line ≤ i → spaced_from start (drop i line) ≡ spaced_from true line
    → cond start (eqb (length line) 0) true ≡ is_well_spaced line
at_line_end [] i true le so_far = refl
at_line_end [] i false le so_far = refl
at_line_end (b ∷ bs) i true le so_far =
    let one : spaced_from true (drop i (b ∷ bs)) ≡ false = rw (drop_all i (b ∷ bs) le) refl in
    let some : eqb (length (b ∷ bs)) 0 ≡ false = ne_eqb (length (b ∷ bs)) 0 (λ e. omega arith) in
    some ∙ sym one ∙ so_far ∙ well_spaced_is (b ∷ bs) (omega arith)
at_line_end (b ∷ bs) i false le so_far =
    let one : spaced_from false (drop i (b ∷ bs)) ≡ true = rw (drop_all i (b ∷ bs) le) refl in
    sym one ∙ so_far ∙ well_spaced_is (b ∷ bs) (omega arith)

-- ---- the walk along a text, whose lines are not cut yet

-- the walk has come to place i of the text, whatever the line holds behind it
abbrev pub IsWalked : List ℕ → ℕ → Bool → Type 0
IsWalked text i start = (rest : List ℕ) → spaced_from true (take i text ++ rest) ≡ spaced_from start rest

-- the walk goes on by one byte as it goes on from that byte
walk_on : (text : List ℕ) (i : ℕ) (start next : Bool) → i < length text → IsWalked text i start
    → ((rest : List ℕ) → spaced_from start (get_or text i 0 ∷ rest) ≡ spaced_from next rest) → IsWalked text (i + 1) next
walk_on text i start next lt so_far step rest =
    ap (λ (front : List ℕ). spaced_from true (front ++ rest)) (take_more text i 0 lt)
    ∙ ap (spaced_from true) (append_assoc (take i text) (get_or text i 0 ∷ []) rest) ∙ so_far (get_or text i 0 ∷ rest) ∙ step rest

-- over a byte of a word
pub walk_letter : (text : List ℕ) (i : ℕ) (start : Bool) → i < length text → is_letter (get_or text i 0) ≡ true → IsWalked text i start
    → IsWalked text (i + 1) false
walk_letter text i start lt letter so_far =
    let low : 33 ≤ get_or text i 0 = leb-true 33 (get_or text i 0) (and_parts (leb 33 (get_or text i 0)) (leb (get_or text i 0) 126) letter).0 in
    let apart : eqb (get_or text i 0) 32 ≡ false = ne_eqb (get_or text i 0) 32 (λ e. omega arith) in
    walk_on text i start false lt so_far (λ rest. rw (apart, letter) refl)

-- over a space behind a word
pub walk_space : (text : List ℕ) (i : ℕ) → i < length text → get_or text i 0 ≡ 32 → IsWalked text i false → IsWalked text (i + 1) true
walk_space text i lt space so_far = walk_on text i false true lt so_far (λ rest. rw space refl)

-- where a word ends, what was walked over is a well spaced line that isn't empty
pub walk_ends : (text : List ℕ) (i : ℕ) → IsWalked text i false → (is_well_spaced (take i text) ≡ true) × (0 < i)
walk_ends text i so_far =
    let walked : spaced_from true (take i text) ≡ true = ap (spaced_from true) (sym (append-nil (take i text))) ∙ so_far [] in
    let line = some_line (take i text) walked in
    (line.0, omega (arith, line.1, length-take i text))
  where
    some_line : (line : List ℕ) → spaced_from true line ≡ true → (is_well_spaced line ≡ true) × (0 < length line)
    some_line [] h = absurd cc
    some_line (b ∷ bs) h = (sym (well_spaced_is (b ∷ bs) (omega arith)) ∙ h, omega arith)

-- ---- words that are joined

-- the bytes of a word are no space and no byte 10
letters_apart : (stop : ℕ) → stop ≤ 32 → (w : List ℕ) → list_all is_letter w ≡ true → AllByRecursion (λ x. eqb x stop ≡ false) w
letters_apart stop le [] h = tt
letters_apart stop le (b ∷ bs) h =
    let p = and_parts (is_letter b) (list_all is_letter bs) h in
    let low : 33 ≤ b = leb-true 33 b (and_parts (leb 33 b) (leb b 126) p.0).0 in
    (ne_eqb b stop (λ e. omega arith), letters_apart stop le bs p.1)

-- a word has letters alone
pub word_letters : (w : List ℕ) → is_word w ≡ true → list_all is_letter w ≡ true
word_letters [] h = absurd cc
word_letters (b ∷ bs) h = h

-- the parts of words that are joined are those words
parts_again : (w : List ℕ) (ws : List (List ℕ)) → list_all is_word (w ∷ ws) ≡ true → parts_of (join_with_byte 32 (w ∷ ws)) ≡ w ∷ ws
parts_again w [] h =
    let p = and_parts (is_word w) true h in
    slice_split_none is_space w (All-from_recursion (λ x. is_space x ≡ false) w (letters_apart 32 (omega arith) w (word_letters w p.0)))
parts_again w (v ∷ vs) h =
    let p = and_parts (is_word w) (list_all is_word (v ∷ vs)) h in
    slice_split_at is_space w 32 (join_with_byte 32 (v ∷ vs))
    (All-from_recursion (λ x. is_space x ≡ false) w (letters_apart 32 (omega arith) w (word_letters w p.0))) refl
    ∙ ap (λ (t : List (List ℕ)). w ∷ t) (parts_again v vs p.1)

-- the words of a line that is joined from words are those words, and it isn't empty
pub words_again : (w : List ℕ) (ws : List (List ℕ)) → list_all is_word (w ∷ ws) ≡ true
    → (words_of (join_with_byte 32 (w ∷ ws)) ≡ w ∷ ws) × (0 < length (join_with_byte 32 (w ∷ ws)))
words_again [] ws h = absurd cc
words_again (b ∷ bs) [] h = (parts_again (b ∷ bs) [] h, omega arith)
words_again (b ∷ bs) (v ∷ vs) h = (parts_again (b ∷ bs) (v ∷ vs) h, omega arith)

-- what stands in neither of two lists stands in none of their join
apart_append : (xs ys : List ℕ) → AllByRecursion (λ x. eqb x 10 ≡ false) xs → AllByRecursion (λ x. eqb x 10 ≡ false) ys
    → AllByRecursion (λ x. eqb x 10 ≡ false) (xs ++ ys)
apart_append [] ys p q = q
apart_append (x ∷ xs) ys p q = (p.0, apart_append xs ys p.1 q)

-- no byte 10 stands in a line that is joined from words
joined_apart : (w : List ℕ) (ws : List (List ℕ)) → list_all is_word (w ∷ ws) ≡ true
    → AllByRecursion (λ x. eqb x 10 ≡ false) (join_with_byte 32 (w ∷ ws))
joined_apart w [] h = letters_apart 10 (omega arith) w (word_letters w (and_parts (is_word w) true h).0)
joined_apart w (v ∷ vs) h =
    let p = and_parts (is_word w) (list_all is_word (v ∷ vs)) h in
    apart_append w (32 ∷ join_with_byte 32 (v ∷ vs)) (letters_apart 10 (omega arith) w (word_letters w p.0)) (refl, joined_apart v vs p.1)

-- the test of a byte 10 as a fact
no_newline : (xs : List ℕ) → AllByRecursion (λ x. eqb x 10 ≡ false) xs → AllByRecursion (λ x. x ≢ 10) xs
no_newline [] h = tt
no_newline (x ∷ xs) h = (λ e. absurd (cc (eq-eqb x 10 e, h.0)), no_newline xs h.1)

-- the same, in the words of the law
pub joined_no_newline : (w : List ℕ) (ws : List (List ℕ)) → list_all is_word (w ∷ ws) ≡ true → HasNoNewline (join_with_byte 32 (w ∷ ws))
joined_no_newline w ws h = All-from_recursion (λ x. x ≢ 10) (join_with_byte 32 (w ∷ ws))
    (no_newline (join_with_byte 32 (w ∷ ws)) (joined_apart w ws h))

-- a line is its words, joined
pub joined_words : (line : List ℕ) → join_with_byte 32 (words_of line) ≡ line
joined_words [] = refl
joined_words (b ∷ bs) = join_with_byte-slice_split 32 (b ∷ bs)

-- a line that is joined from words is well spaced
pub joined_well_spaced : (w : List ℕ) (ws : List (List ℕ)) → list_all is_word (w ∷ ws) ≡ true
    → is_well_spaced (join_with_byte 32 (w ∷ ws)) ≡ true
joined_well_spaced w ws h = rw (words_again w ws h).0 h

-- what holds of a line that is joined from one or more words
pub joined_laws : (words : List (List ℕ)) → 0 < length words → list_all is_word words ≡ true
    → (words_of (join_with_byte 32 words) ≡ words) × (0 < length (join_with_byte 32 words))
    × (is_well_spaced (join_with_byte 32 words) ≡ true) × HasNoNewline (join_with_byte 32 words)
joined_laws [] some h = absurd (omega arith)
joined_laws (w ∷ ws) some h = ((words_again w ws h).0, (words_again w ws h).1, joined_well_spaced w ws h, joined_no_newline w ws h)

-- ---- the sentence of a well spaced line

-- the sentence of what is left of a line: where a word is to begin, there is a byte, and it is no space
record IsSpacedFrom (start : Bool) (bs : List ℕ) : Type 0 where
  pub printable : (k : ℕ) → k < length bs → (32 ≤ get_or bs k 0) × (get_or bs k 0 ≤ 126)
  pub some : start ≡ true → 0 < length bs
  pub first : start ≡ true → get_or bs 0 0 ≢ 32
  pub last : 0 < length bs → get_or bs (length bs - 1) 0 ≢ 32
  pub single : (k : ℕ) → suc k < length bs → get_or bs k 0 ≡ 32 → get_or bs (suc k) 0 ≢ 32

-- what holds of the first place and of each one after it
at_each : (P : ℕ → Type 0) → P 0 → ((k : ℕ) → P (suc k)) → (k : ℕ) → P k
at_each P here after zero = here
at_each P here after (suc k) = after k

-- the last byte, with a byte put before
last_on : (b : ℕ) (bs : List ℕ) → 0 < length bs → get_or (b ∷ bs) (length (b ∷ bs) - 1) 0 ≡ get_or bs (length bs - 1) 0
last_on b [] some = absurd (omega arith)
last_on b (c ∷ cs) some =
    let e : length (b ∷ c ∷ cs) - 1 ≡ suc (length (c ∷ cs) - 1) = omega arith in
    ap (λ (k : ℕ). get_or (b ∷ c ∷ cs) k 0) e

-- it is no space where neither a lone byte nor the last of the others is
last_of : (b : ℕ) (bs : List ℕ) → (length bs ≡ 0 → b ≢ 32) → (0 < length bs → get_or bs (length bs - 1) 0 ≢ 32)
    → get_or (b ∷ bs) (length (b ∷ bs) - 1) 0 ≢ 32
last_of b [] alone more = alone refl
last_of b (c ∷ cs) alone more = λ e. more (omega arith) (sym (last_on b (c ∷ cs) (omega arith)) ∙ e)

-- a byte before what is left
said_before : (start next : Bool) (b : ℕ) (bs : List ℕ) → IsSpacedFrom next bs → 32 ≤ b → b ≤ 126 → (start ≡ true → b ≢ 32)
    → (length bs ≡ 0 → b ≢ 32) → (b ≡ 32 → next ≡ true) → IsSpacedFrom start (b ∷ bs)
said_before start next b bs rest low high first alone space = record {
  printable = at_each (λ k. k < length (b ∷ bs) → (32 ≤ get_or (b ∷ bs) k 0) × (get_or (b ∷ bs) k 0 ≤ 126)) (λ lt. (low, high))
      (λ k lt. rest.printable k (omega arith));
  some = λ e. omega arith;
  first = first;
  last = λ lt. last_of b bs alone rest.last;
  single = at_each (λ k. suc k < length (b ∷ bs) → get_or (b ∷ bs) k 0 ≡ 32 → get_or (b ∷ bs) (suc k) 0 ≢ 32)
      (λ lt e. rest.first (space e)) (λ k lt e. rest.single k (omega arith) e);
}

-- no word is to begin where the walk went on over a space
not_start : (start : Bool) → not start ≡ true → start ≡ true → ⊥
not_start true h e = absurd cc
not_start false h e = absurd cc

-- what the test of a letter says
letter_bounds : (b : ℕ) → is_letter b ≡ true → (33 ≤ b) × (b ≤ 126)
letter_bounds b h = let p = and_parts (leb 33 b) (leb b 126) h in (leb-true 33 b p.0, leb-true b 126 p.1)

-- what the walk accepts is as the sentence says
walk_says : (start : Bool) (bs : List ℕ) → spaced_from start bs ≡ true → IsSpacedFrom start bs
walk_says true [] h = absurd cc
walk_says false [] h = record {
  printable = λ k lt. absurd (omega arith);
  some = λ e. absurd cc;
  first = λ e. absurd cc;
  last = λ lt. absurd (omega arith);
  single = λ k lt. absurd (omega arith);
}
walk_says start (b ∷ bs) h =
    elim (cases_eq b 32) [
      | inl e ↦
          let p = and_parts (not start) (spaced_from true bs) (rw (eq-eqb b 32 e) at h) in
          let rest = walk_says true bs p.1 in
          said_before start true b bs rest (omega arith) (omega arith) (λ at_start. absurd (not_start start p.0 at_start))
          (λ none. absurd (omega (arith, rest.some refl))) (λ space. refl)
      | inr ne ↦
          let p = and_parts (is_letter b) (spaced_from false bs) (rw (ne_eqb b 32 ne) at h) in
          let bounds = letter_bounds b p.0 in
          said_before start false b bs (walk_says false bs p.1) (omega (arith, bounds.0)) bounds.1 (λ at_start. ne) (λ none. ne)
          (λ space. absurd (ne space))
    ]

-- what is left after a byte
said_after : (start next : Bool) (b : ℕ) (bs : List ℕ) → IsSpacedFrom start (b ∷ bs) → (next ≡ true → b ≡ 32) → IsSpacedFrom next bs
said_after start next b [] whole space = record {
  printable = λ k lt. absurd (omega arith);
  some = λ e. absurd (whole.last (omega arith) (space e));
  first = λ e. absurd (whole.last (omega arith) (space e));
  last = λ lt. absurd (omega arith);
  single = λ k lt. absurd (omega arith);
}
said_after start next b (c ∷ cs) whole space = record {
  printable = λ k lt. whole.printable (suc k) (omega arith);
  some = λ e. omega arith;
  first = λ e. whole.single 0 (omega arith) (space e);
  last = λ lt e. whole.last (omega arith) (last_on b (c ∷ cs) (omega arith) ∙ e);
  single = λ k lt. whole.single (suc k) (omega arith);
}

-- the walk may go on over a space where no word is to begin
no_start : (start : Bool) → (start ≡ true → ⊥) → not start ≡ true
no_start true h = absurd (h refl)
no_start false h = refl

-- the walk accepts what is as the sentence says
walk_accepts : (start : Bool) (bs : List ℕ) → IsSpacedFrom start bs → spaced_from start bs ≡ true
walk_accepts true [] whole = absurd (omega (arith, whole.some refl))
walk_accepts false [] whole = refl
walk_accepts start (b ∷ bs) whole =
    elim (cases_eq b 32) [
      | inl e ↦ rw (eq-eqb b 32 e) (and_from (not start) (spaced_from true bs) (no_start start (λ at_start. whole.first at_start e))
          (walk_accepts true bs (said_after start true b bs whole (λ t. e))))
      | inr ne ↦
          let bounds = whole.printable 0 (omega arith) in
          let low : 33 ≤ b = omega (arith, bounds.0) in
          rw (ne_eqb b 32 ne) (and_from (is_letter b) (spaced_from false bs)
          (and_from (leb 33 b) (leb b 126) (le-leb 33 b low) (le-leb b 126 bounds.1))
          (walk_accepts false bs (said_after start false b bs whole (λ t. absurd cc))))
    ]

-- a well spaced line is as the sentence says
pub well_spaced_says : (line : List ℕ) → is_well_spaced line ≡ true → IsWellSpaced line
well_spaced_says [] h = record {
  printable = λ k lt. absurd (omega arith);
  first = λ lt. absurd (omega arith);
  last = λ lt. absurd (omega arith);
  single = λ k lt. absurd (omega arith);
}
well_spaced_says (b ∷ bs) h =
    let whole = walk_says true (b ∷ bs) (well_spaced_is (b ∷ bs) (omega arith) ∙ h) in
    record {
      printable = whole.printable;
      first = λ lt. whole.first refl;
      last = whole.last;
      single = λ k lt space. let e : suc k ≡ k + 1 =
          omega arith in subst (λ (j : ℕ). get_or (b ∷ bs) j 0 ≢ 32) e (whole.single k (omega arith) space);
    }

-- a line that is as the sentence says is well spaced
pub well_spaced_from : (line : List ℕ) → IsWellSpaced line → is_well_spaced line ≡ true
well_spaced_from [] whole = refl
well_spaced_from (b ∷ bs) whole =
    sym (well_spaced_is (b ∷ bs) (omega arith)) ∙ walk_accepts true (b ∷ bs) (record {
      printable = whole.printable;
      some = λ e. omega arith;
      first = λ e. whole.first (omega arith);
      last = whole.last;
      single = λ k lt space. let e : k + 1 ≡ suc k =
          omega arith in subst (λ (j : ℕ). get_or (b ∷ bs) j 0 ≢ 32) e (whole.single k (omega arith) space);
    })

-- ---- the word at a place

-- k words of the line stand before the rest
pub record IsPassed (line rest : List ℕ) (k : ℕ) : Type 0 where
  pub count : length (words_of line) ≡ k + length (parts_of rest)
  pub same : (j : ℕ) → slice_get (words_of line) (k + j) ≡ slice_get (parts_of rest) j

-- at the start none does
pub none_passed : (line : List ℕ) → 0 < length line → IsPassed line line 0
none_passed [] some = absurd (omega arith)
none_passed (b ∷ bs) some = record { count = omega arith; same = λ j. rw zero-add refl }

-- one more word is passed
pub word_passed : (line rest w after : List ℕ) (k : ℕ) → parts_of rest ≡ w ∷ parts_of after → IsPassed line rest k
    → IsPassed line after (k + 1)
word_passed line rest w after k e so_far = record {
  count = so_far.count ∙ rw e (omega arith);
  same = λ j. let shift : k + 1 + j ≡ k + suc j = omega arith in rw shift (so_far.same (suc j) ∙ rw e refl);
}

-- the rest is the last word
pub last_passed : (line rest w : List ℕ) (k i : ℕ) → parts_of rest ≡ w ∷ [] → IsPassed line rest k → k < i
    → length (words_of line) ≤ i
last_passed line rest w k i e so_far lt =
    let n : length (words_of line) ≡ k + 1 = so_far.count ∙ rw e refl in
    omega arith

-- the first word of the rest is the k-th of the line
pub word_found : {X : Type 0} (f : X → List ℕ) (o : Option X) (line rest w : List ℕ) (k i : ℕ)
    → MatchOption o (parts_of rest ≡ w ∷ []) (λ x. parts_of rest ≡ w ∷ parts_of (f x)) → IsPassed line rest k → k ≡ i
    → slice_get (words_of line) i ≡ Some w
word_found f None line rest w k i e so_far same = let at : k + 0 ≡ i = omega arith in sym (ap (slice_get (words_of line)) at) ∙ so_far.same 0
    ∙ rw e refl
word_found f (Some x) line rest w k i e so_far same = let at : k + 0 ≡ i = omega arith in sym (ap (slice_get (words_of line)) at)
    ∙ so_far.same 0 ∙ rw e refl
