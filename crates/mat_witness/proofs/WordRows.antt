-- Items that stand in a row on a line, each as one or more words: what is read is spelled so, and what is spelled so is read.
use Rattle.mat_witness.proofs.Common.{◌≡◌, ℕ, zero, suc, ◌<◌, ◌+◌, ◌*◌, ◌-◌, arith, pos, List, [], ◌∷◌, ◌++◌, length, Result, Ok, refl, sym, ap, subst, ◌∙◌, append_assoc, All-nil, All-cons, All-head, All-tail, AllBelow, Line, numeral, numerals, WordsLeft, ◌>>=◌, repeat_at, found-same, bind_found}
use Rattle.mat_witness.proofs.Common.{told_again, with_front, repeat_more, repeat_refused, repeat_done, below_again, Fails, CertRefusal, Fault, kind_of, below_at, below_read, pair_at}
use Rattle.std.specs.List.{All, flat_map}
use Rattle.mat_words.specs.Reading as any_text

-- one item was read
pub record IsWordsRead (InRange : Type 0) (words : Line) (w q : WordsLeft) : Type 0 where
  pub in_range : InRange
  pub cut : w.words ≡ words ++ q.words

-- as many items were read
pub record AreWordsRead {A : Type 0} (IsIn : A → Type 0) (many : ℕ) (items : List A) (words : Line) (w q : WordsLeft) : Type 0 where
  pub count : length items ≡ many
  pub each : All IsIn items
  pub cut : w.words ≡ words ++ q.words

-- a list of items is spelled item by item
pub record IsSpelling {A : Type 0} (spelled : A → Line) (spelling : List A → Line) : Type 0 where
  pub none : spelling [] ≡ []
  pub more : (x : A) (xs : List A) → spelling (x ∷ xs) ≡ spelled x ++ spelling xs

-- one item more, in front of those behind it
row_cut : {A : Type 0} (spelled : A → Line) (spelling : List A → Line) → IsSpelling spelled spelling → (x : A) (xs : List A)
    (words between after : Line) → words ≡ spelled x ++ between → between ≡ spelling xs ++ after → words ≡ spelling (x ∷ xs) ++ after
row_cut spelled spelling law x xs words between after first others =
    first ∙ ap (λ (t : Line). spelled x ++ t) others ∙ sym (append_assoc (spelled x) (spelling xs) after)
    ∙ ap (λ (t : Line). t ++ after) (sym (law.more x xs))

pub row_found : {A : Type 0} (reader : WordsLeft → Result (A × WordsLeft) Fault) (IsIn : A → Type 0) (spelled : A → Line)
    (spelling : List A → Line) → IsSpelling spelled spelling
    → ((w : WordsLeft) (x : A) (q : WordsLeft) → reader w ≡ Ok (x, q) → IsWordsRead (IsIn x) (spelled x) w q)
    → (many : ℕ) (w : WordsLeft) (items : List A) (q : WordsLeft) → repeat_at reader many w ≡ Ok (items, q)
    → AreWordsRead IsIn many items (spelling items) w q
unfolding repeat_at
row_found {A} reader IsIn spelled spelling law one zero w items q e =
    subst (λ (r : List A × WordsLeft). AreWordsRead IsIn 0 r.0 (spelling r.0) w r.1) (found-same ([], w) (items, q) e)
    (record { count = refl; each = All-nil IsIn; cut = rw law.none refl })
row_found {A} reader IsIn spelled spelling law one (suc many) w items q e =
    let first = bind_found (reader w) (λ first. repeat_at reader many first.1 >>= λ others. Ok (first.0 ∷ others.0, others.1)) (items, q) e in
    let others = bind_found (repeat_at reader many first.0.1) (λ others. Ok (first.0.0 ∷ others.0, others.1)) (items, q) first.2 in
    let here = one w first.0.0 first.0.1 first.1 in
    let rest = row_found reader IsIn spelled spelling law one many first.0.1 others.0.0 others.0.1 others.1 in
    subst (λ (r : List A × WordsLeft). AreWordsRead IsIn (suc many) r.0 (spelling r.0) w r.1)
    (found-same (first.0.0 ∷ others.0.0, others.0.1) (items, q) others.2) (record {
      count = ap suc rest.count;
      each = All-cons IsIn first.0.0 others.0.0 here.in_range rest.each;
      cut = row_cut spelled spelling law first.0.0 others.0.0 w.words first.0.1.words others.0.1.words here.cut rest.cut;
    })

pub row_again : {A : Type 0} (reader : WordsLeft → Result (A × WordsLeft) Fault) (IsIn : A → Type 0) (spelled : A → Line)
    (spelling : List A → Line) → IsSpelling spelled spelling
    → ((n : ℕ) (x : A) (rest : Line) → IsIn x
    → reader (record { line = n; words = spelled x ++ rest }) ≡ Ok (x, record { line = n; words = rest }))
    → (n : ℕ) (items : List A) (rest : Line) → All IsIn items
    → repeat_at reader (length items) (record { line = n; words = spelling items ++ rest }) ≡ Ok (items, record { line = n; words = rest })
unfolding repeat_at
row_again reader IsIn spelled spelling law one n [] rest each = rw law.none refl
row_again reader IsIn spelled spelling law one n (x ∷ xs) rest each =
    let words : spelling (x ∷ xs) ++ rest ≡ spelled x ++ (spelling xs ++ rest) =
    ap (λ (t : Line). t ++ rest) (law.more x xs) ∙ append_assoc (spelled x) (spelling xs) rest in
    let first = one n x (spelling xs ++ rest) (All-head IsIn x xs each) in
    let others = row_again reader IsIn spelled spelling law one n xs rest (All-tail IsIn x xs each) in
    rw (words, first, others) refl

-- ---- as a loop reads them

-- all words that are left of a line, of which one more was read
pub all_more : (bound : ℕ) (front : List ℕ) (s : WordsLeft) (x : ℕ) (after : WordsLeft) (total : Result (List ℕ × WordsLeft) Fault)
    → below_at bound s ≡ Ok (x, after) → with_front front (repeat_at (below_at bound) (length s.words) s) ≡ total
    → with_front (front ++ x ∷ []) (repeat_at (below_at bound) (length after.words) after) ≡ total
all_more bound front s x after total read so_far =
    let count : length s.words ≡ suc (length after.words) = ap length (below_read bound s x after read).cut in
    let left : length s.words - 0 ≡ length s.words = omega arith in
    let next : length s.words - (0 + 1) ≡ length after.words = omega (arith, count) in
    let so_far_left : with_front front (repeat_at (below_at bound) (length s.words - 0) s) ≡ total = rw left so_far in
    rw next at (repeat_more (below_at bound) front (length s.words) 0 s x after total (omega (arith, count)) read so_far_left)

-- fewer words are left
pub all_shorter : (bound : ℕ) (s : WordsLeft) (x : ℕ) (after : WordsLeft) → below_at bound s ≡ Ok (x, after)
    → length after.words < length s.words
all_shorter bound s x after read =
    let count : length s.words ≡ suc (length after.words) = ap length (below_read bound s x after read).cut in
    omega (arith, count)

-- the next of them is no number
pub all_fail : (bound : ℕ) (refusal : CertRefusal) (front : List ℕ) (s : WordsLeft) (total : Result (List ℕ × WordsLeft) Fault)
    → 0 < length s.words → Fails refusal (below_at bound s) → with_front front (repeat_at (below_at bound) (length s.words) s) ≡ total
    → Fails refusal total
all_fail bound refusal front s total some failed so_far =
    let left : length s.words - 0 ≡ length s.words = omega arith in
    repeat_refused (below_at bound) refusal front (length s.words) 0 s total some failed (rw left so_far)

-- none is left
pub all_done : (bound : ℕ) (front : List ℕ) (s : WordsLeft) (total : Result (List ℕ × WordsLeft) Fault) → s.words ≡ []
    → with_front front (repeat_at (below_at bound) (length s.words) s) ≡ total → total ≡ Ok (front, s)
all_done bound front s total none so_far =
    let left : length s.words - 0 ≡ length s.words = omega arith in
    let count : length s.words ≡ 0 = ap length none in
    repeat_done (below_at bound) front (length s.words) 0 s total (omega (arith, count)) (rw left so_far)

-- ---- numbers below a bound

AllBelow-each : (n : ℕ) (xs : List ℕ) → All (λ x. x < n) xs → AllBelow n xs
AllBelow-each n [] each = tt
AllBelow-each n (x ∷ xs) each = (All-head (λ (y : ℕ). y < n) x xs each, AllBelow-each n xs (All-tail (λ (y : ℕ). y < n) x xs each))

each-AllBelow : (n : ℕ) (xs : List ℕ) → AllBelow n xs → All (λ x. x < n) xs
each-AllBelow n [] below = All-nil (λ (y : ℕ). y < n)
each-AllBelow n (x ∷ xs) below = All-cons (λ (y : ℕ). y < n) x xs below.0 (each-AllBelow n xs below.1)

below_spelling : IsSpelling (λ x. numeral (pos x) ∷ []) numerals
below_spelling = record { none = refl; more = λ x xs. refl }

-- as many numbers were read
pub record AreBelowRead (bound many : ℕ) (w : WordsLeft) (xs : List ℕ) (q : WordsLeft) : Type 0 where
  pub count : length xs ≡ many
  pub below : AllBelow bound xs
  pub cut : w.words ≡ numerals xs ++ q.words

pub numbers_found : (bound many : ℕ) (w : WordsLeft) (xs : List ℕ) (q : WordsLeft) → repeat_at (below_at bound) many w ≡ Ok (xs, q)
    → AreBelowRead bound many w xs q
numbers_found bound many w xs q e =
    let read = row_found (below_at bound) (λ x. x < bound) (λ x. numeral (pos x) ∷ []) numerals below_spelling
    (λ w x q e. let one = below_read bound w x q e in record { in_range = one.most; cut = one.cut }) many w xs q e in
    record { count = read.count; below = AllBelow-each bound xs read.each; cut = read.cut }

below_at_again : (bound n x : ℕ) (rest : Line) → x < bound
    → below_at bound (record { line = n; words = numeral (pos x) ∷ rest }) ≡ Ok (x, record { line = n; words = rest })
below_at_again bound n x rest lt =
    told_again kind_of (any_text.below_at bound (record { line = n; words = numeral (pos x) ∷ rest })) (x, record { line = n; words = rest })
    (below_again bound n x rest lt)

pub numbers_again : (bound n : ℕ) (xs : List ℕ) (rest : Line) → AllBelow bound xs
    → repeat_at (below_at bound) (length xs) (record { line = n; words = numerals xs ++ rest }) ≡ Ok (xs, record { line = n; words = rest })
numbers_again bound n xs rest below =
    row_again (below_at bound) (λ x. x < bound) (λ x. numeral (pos x) ∷ []) numerals below_spelling
    (λ n x rest lt. below_at_again bound n x rest lt) n xs rest (each-AllBelow bound xs below)

-- ---- pairs of an edge and a vertex

-- both numbers of a pair
abbrev pub both : ℕ × ℕ → List ℕ
both pair = pair.0 ∷ pair.1 ∷ []

-- the pairs, as the words of a line
abbrev pub pairs_words : List (ℕ × ℕ) → Line
pairs_words pairs = numerals (flat_map (λ pair. pair.0 ∷ pair.1 ∷ []) pairs)

abbrev pub IsPairIn : ℕ → ℕ → ℕ × ℕ → Type 0
IsPairIn n vertices pair = (pair.0 < n) × (pair.1 < vertices)

pairs_spelling : IsSpelling (λ pair. numerals (both pair)) pairs_words
pairs_spelling = record { none = refl; more = λ x xs. refl }

pair_found : (n vertices : ℕ) (w : WordsLeft) (pair : ℕ × ℕ) (q : WordsLeft) → pair_at n vertices w ≡ Ok (pair, q)
    → IsWordsRead (IsPairIn n vertices pair) (numerals (both pair)) w q
unfolding pair_at
pair_found n vertices w pair q e =
    let edge = bind_found (below_at n w) (λ edge. below_at vertices edge.1 >>= λ vertex. Ok ((edge.0, vertex.0), vertex.1)) (pair, q) e in
    let vertex = bind_found (below_at vertices edge.0.1) (λ vertex. Ok ((edge.0.0, vertex.0), vertex.1)) (pair, q) edge.2 in
    let first = below_read n w edge.0.0 edge.0.1 edge.1 in
    let second = below_read vertices edge.0.1 vertex.0.0 vertex.0.1 vertex.1 in
    subst (λ (r : (ℕ × ℕ) × WordsLeft). IsWordsRead (IsPairIn n vertices r.0) (numerals (both r.0)) w r.1)
    (found-same ((edge.0.0, vertex.0.0), vertex.0.1) (pair, q) vertex.2) (record {
      in_range = (first.most, second.most);
      cut = first.cut ∙ ap (λ (t : Line). numeral (pos edge.0.0) ∷ t) second.cut;
    })

pair_again : (n vertices line : ℕ) (pair : ℕ × ℕ) (rest : Line) → IsPairIn n vertices pair
    → pair_at n vertices (record { line = line; words = numerals (both pair) ++ rest }) ≡ Ok (pair, record { line = line; words = rest })
unfolding pair_at
pair_again n vertices line pair rest inside =
    rw (below_at_again n line pair.0 (numeral (pos pair.1) ∷ rest) inside.0, below_at_again vertices line pair.1 rest inside.1) refl

pub pairs_found : (n vertices many : ℕ) (w : WordsLeft) (pairs : List (ℕ × ℕ)) (q : WordsLeft)
    → repeat_at (pair_at n vertices) many w ≡ Ok (pairs, q) → AreWordsRead (IsPairIn n vertices) many pairs (pairs_words pairs) w q
pairs_found n vertices many w pairs q e =
    row_found (pair_at n vertices) (IsPairIn n vertices) (λ pair. numerals (both pair)) pairs_words pairs_spelling (pair_found n vertices)
    many w pairs q e

pub pairs_again : (n vertices line : ℕ) (pairs : List (ℕ × ℕ)) (rest : Line) → All (IsPairIn n vertices) pairs
    → repeat_at (pair_at n vertices) (length pairs) (record { line = line; words = pairs_words pairs ++ rest })
    ≡ Ok (pairs, record { line = line; words = rest })
pairs_again n vertices line pairs rest each =
    row_again (pair_at n vertices) (IsPairIn n vertices) (λ pair. numerals (both pair)) pairs_words pairs_spelling (pair_again n vertices)
    line pairs rest each

pub length-pairs_words : (pairs : List (ℕ × ℕ)) → length (pairs_words pairs) ≡ 2 * length pairs
length-pairs_words [] = refl
length-pairs_words (pair ∷ pairs) =
    let rest = length-pairs_words pairs in
    omega (arith, rest)
