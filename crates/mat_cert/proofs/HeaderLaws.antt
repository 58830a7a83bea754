-- The headers of certificates: what is read is spelled so, and what is spelled so is read.
use Rattle.mat_cert.proofs.Common.{◌≡◌, ℕ, ◌≤◌, ◌<◌, pos, neg_ℤ, [], ◌∷◌, ◌++◌, Ok, refl, ap, subst, ◌∙◌, arith, codes, Weight, numeral, numerals, weight_word, Line, WordsLeft, found-same, bind_found, size_again, below_again, weight_at_again, most_colours, most_rows, most_columns, most_vertices}
use Rattle.mat_cert.proofs.Common.{most_elements, largest_number, most_matroids, most_trees, most_levels, IsCertificateWeight, IsVertexCount, AreRangedNone}
use Rattle.mat_cert.specs.HeaderReading.{ladder_header_at, union_header_at, never_header_at, trees_header_at, none_at}
use Rattle.mat_cert.specs.HeaderReading.{classes_header_at, entered_header_at, rainbow_header_at, assign_header_at}
use Rattle.mat_cert.proofs.WordLaws.{has_words_found, has_words_again, whole_line, then_words, fixed_found, fixed_again, size_read, below_read, weight_read}

-- a header was read: what it says is in range, and its words are these
pub record IsHeaderRead (InRange : Type 0) (spelling : Line) (words : WordsLeft) : Type 0 where
  pub in_range : InRange
  pub cut : words.words ≡ spelling

-- ---- two numbers: a ladder, or as many sets as there are elements at most

abbrev pub IsLadderHeader : WordsLeft → ℕ × ℕ → Type 0
IsLadderHeader words h = IsHeaderRead ((h.0 ≤ most_elements) × (h.1 ≤ h.0)) (numerals (h.0 ∷ h.1 ∷ [])) words

pub ladder_header_found : (words : WordsLeft) (h : ℕ × ℕ) → ladder_header_at words ≡ Ok h → IsLadderHeader words h
unfolding ladder_header_at
ladder_header_found words h e =
    let counted = bind_found _ _ _ e in
    let count = bind_found _ _ _ counted.2 in
    let last = bind_found _ _ _ count.2 in
    let first = size_read 0 most_elements words count.0.0 count.0.1 count.1 in
    let second = size_read 0 count.0.0 count.0.1 last.0.0 last.0.1 last.1 in
    subst (IsLadderHeader words) (found-same (count.0.0, last.0.0) h last.2) (record {
      in_range = (first.most, second.most);
      cut = whole_line (numerals (count.0.0 ∷ last.0.0 ∷ [])) last.0.1.words words.words (then_words first.cut second.cut)
          (has_words_found 2 words counted.0 counted.1);
    })

pub ladder_header_again : (line n k : ℕ) → n ≤ most_elements → k ≤ n
    → ladder_header_at (record { line = line; words = numerals (n ∷ k ∷ []) }) ≡ Ok (n, k)
unfolding ladder_header_at
ladder_header_again line n k few last =
    rw (
      has_words_again 2 line (numerals (n ∷ k ∷ [])) refl,
      size_again 0 most_elements line n (numeral (pos k) ∷ []) (omega arith) few,
      size_again 0 n line k [] (omega arith) last,
    ) refl

-- ---- union

abbrev pub IsUnionHeader : WordsLeft → ℕ × ℕ × ℕ × Weight → Type 0
IsUnionHeader words h =
    IsHeaderRead ((h.0 ≤ most_elements) × (1 ≤ h.1) × (h.1 ≤ most_matroids) × (h.2 ≤ most_levels) × IsCertificateWeight h.3)
    (numerals (h.0 ∷ h.1 ∷ h.2 ∷ []) ++ weight_word h.3 ∷ []) words

pub union_header_found : (words : WordsLeft) (h : ℕ × ℕ × ℕ × Weight) → union_header_at words ≡ Ok h → IsUnionHeader words h
unfolding union_header_at
union_header_found words h e =
    let counted = bind_found _ _ _ e in
    let count = bind_found _ _ _ counted.2 in
    let parts = bind_found _ _ _ count.2 in
    let levels = bind_found _ _ _ parts.2 in
    let weight = bind_found _ _ _ levels.2 in
    let first = size_read 0 most_elements words count.0.0 count.0.1 count.1 in
    let second = size_read 1 most_matroids count.0.1 parts.0.0 parts.0.1 parts.1 in
    let third = size_read 0 most_levels parts.0.1 levels.0.0 levels.0.1 levels.1 in
    let fourth = weight_read levels.0.1 weight.0.0 weight.0.1 weight.1 in
    subst (IsUnionHeader words) (found-same (count.0.0, parts.0.0, levels.0.0, weight.0.0) h weight.2) (record {
      in_range = (first.most, second.least, second.most, third.most, fourth.valid);
      cut = whole_line (numerals (count.0.0 ∷ parts.0.0 ∷ levels.0.0 ∷ []) ++ weight_word weight.0.0 ∷ []) weight.0.1.words words.words
          (then_words first.cut (then_words second.cut (then_words third.cut fourth.cut))) (has_words_found 4 words counted.0 counted.1);
    })

pub union_header_again : (line n m l : ℕ) (weight : Weight) → n ≤ most_elements → 1 ≤ m → m ≤ most_matroids → l ≤ most_levels
    → IsCertificateWeight weight
    → union_header_at (record { line = line; words = numerals (n ∷ m ∷ l ∷ []) ++ weight_word weight ∷ [] }) ≡ Ok (n, m, l, weight)
unfolding union_header_at
union_header_again line n m l weight few some small least in_range =
    rw (
      has_words_again 4 line (numerals (n ∷ m ∷ l ∷ []) ++ weight_word weight ∷ []) refl,
      size_again 0 most_elements line n (numerals (m ∷ l ∷ []) ++ weight_word weight ∷ []) (omega arith) few,
      size_again 1 most_matroids line m (numerals (l ∷ []) ++ weight_word weight ∷ []) some small,
      size_again 0 most_levels line l (weight_word weight ∷ []) (omega arith) least,
      weight_at_again (neg_ℤ (pos largest_number)) (pos largest_number) line weight [] in_range,
    ) refl

-- ---- elements that nothing covers

abbrev pub IsNeverHeader : WordsLeft → ℕ × ℕ → Type 0
IsNeverHeader words h =
    IsHeaderRead ((h.0 ≤ most_elements) × (h.1 < h.0)) (numeral (pos h.0) ∷ codes "never" ∷ numeral (pos h.1) ∷ []) words

pub never_header_found : (words : WordsLeft) (h : ℕ × ℕ) → never_header_at words ≡ Ok h → IsNeverHeader words h
unfolding never_header_at
never_header_found words h e =
    let counted = bind_found _ _ _ e in
    let count = bind_found _ _ _ counted.2 in
    let fixed = bind_found _ _ _ count.2 in
    let last = bind_found _ _ _ fixed.2 in
    let first = size_read 0 most_elements words count.0.0 count.0.1 count.1 in
    let second = fixed_found (codes "never") count.0.1 fixed.0 fixed.1 in
    let third = below_read count.0.0 fixed.0 last.0.0 last.0.1 last.1 in
    subst (IsNeverHeader words) (found-same (count.0.0, last.0.0) h last.2) (record {
      in_range = (first.most, third.most);
      cut = whole_line (numeral (pos count.0.0) ∷ codes "never" ∷ numeral (pos last.0.0) ∷ []) last.0.1.words words.words
          (then_words first.cut (then_words second third.cut)) (has_words_found 3 words counted.0 counted.1);
    })

pub never_header_again : (line n x : ℕ) → n ≤ most_elements → x < n
    → never_header_at (record { line = line; words = numeral (pos n) ∷ codes "never" ∷ numeral (pos x) ∷ [] }) ≡ Ok (n, x)
unfolding never_header_at
never_header_again line n x few below =
    rw (
      has_words_again 3 line (numeral (pos n) ∷ codes "never" ∷ numeral (pos x) ∷ []) refl,
      size_again 0 most_elements line n (codes "never" ∷ numeral (pos x) ∷ []) (omega arith) few,
      fixed_again (codes "never") line (numeral (pos x) ∷ []),
      below_again n line x [] below,
    ) refl

-- ---- trees that are there

abbrev pub IsTreesHeader : WordsLeft → ℕ × ℕ → Type 0
IsTreesHeader words h = IsHeaderRead ((h.0 ≤ most_elements) × (1 ≤ h.1) × (h.1 ≤ most_trees)) (numerals (h.0 ∷ h.1 ∷ [])) words

pub trees_header_found : (words : WordsLeft) (h : ℕ × ℕ) → trees_header_at words ≡ Ok h → IsTreesHeader words h
unfolding trees_header_at
trees_header_found words h e =
    let counted = bind_found _ _ _ e in
    let count = bind_found _ _ _ counted.2 in
    let many = bind_found _ _ _ count.2 in
    let first = size_read 0 most_elements words count.0.0 count.0.1 count.1 in
    let second = size_read 1 most_trees count.0.1 many.0.0 many.0.1 many.1 in
    subst (IsTreesHeader words) (found-same (count.0.0, many.0.0) h many.2) (record {
      in_range = (first.most, second.least, second.most);
      cut = whole_line (numerals (count.0.0 ∷ many.0.0 ∷ [])) many.0.1.words words.words (then_words first.cut second.cut)
          (has_words_found 2 words counted.0 counted.1);
    })

pub trees_header_again : (line n k : ℕ) → n ≤ most_elements → 1 ≤ k → k ≤ most_trees
    → trees_header_at (record { line = line; words = numerals (n ∷ k ∷ []) }) ≡ Ok (n, k)
unfolding trees_header_at
trees_header_again line n k few some small =
    rw (
      has_words_again 2 line (numerals (n ∷ k ∷ [])) refl,
      size_again 0 most_elements line n (numeral (pos k) ∷ []) (omega arith) few,
      size_again 1 most_trees line k [] some small,
    ) refl

-- ---- trees that are not there

abbrev IsNoneRead : WordsLeft → ℕ × ℕ × ℕ × WordsLeft → Type 0
IsNoneRead words h =
    IsHeaderRead (AreRangedNone h.0 h.1 h.2) (numerals (h.0 ∷ h.1 ∷ []) ++ codes "none" ∷ numeral (pos h.2) ∷ h.3.words) words

none_found : (words : WordsLeft) (h : ℕ × ℕ × ℕ × WordsLeft) → none_at words ≡ Ok h → IsNoneRead words h
unfolding none_at
none_found words h e =
    let count = bind_found _ _ _ e in
    let many = bind_found _ _ _ count.2 in
    let fixed = bind_found _ _ _ many.2 in
    let last = bind_found _ _ _ fixed.2 in
    let first = size_read 0 most_elements words count.0.0 count.0.1 count.1 in
    let second = size_read 1 most_trees count.0.1 many.0.0 many.0.1 many.1 in
    let third = fixed_found (codes "none") many.0.1 fixed.0 fixed.1 in
    let fourth = size_read 1 most_vertices fixed.0 last.0.0 last.0.1 last.1 in
    subst (IsNoneRead words) (found-same (count.0.0, many.0.0, last.0.0, last.0.1) h last.2) (record {
      in_range = record {
        few = first.most;
        some_trees = second.least;
        few_trees = second.most;
        vertices_in_range = record { some = fourth.least; few = fourth.most };
      };
      cut = then_words first.cut (then_words second.cut (then_words third fourth.cut));
    })

none_again : (line n k v : ℕ) (rest : Line) → AreRangedNone n k v
    → none_at (record { line = line; words = numerals (n ∷ k ∷ []) ++ codes "none" ∷ numeral (pos v) ∷ rest })
    ≡ Ok (n, k, v, record { line = line; words = rest })
unfolding none_at
none_again line n k v rest in_range =
    rw (
      size_again 0 most_elements line n (numeral (pos k) ∷ codes "none" ∷ numeral (pos v) ∷ rest) (omega arith) in_range.few,
      size_again 1 most_trees line k (codes "none" ∷ numeral (pos v) ∷ rest) in_range.some_trees in_range.few_trees,
      fixed_again (codes "none") line (numeral (pos v) ∷ rest),
      size_again 1 most_vertices line v rest in_range.vertices_in_range.some in_range.vertices_in_range.few,
    ) refl

abbrev pub IsClassesHeader : WordsLeft → ℕ × ℕ × ℕ × ℕ → Type 0
IsClassesHeader words h =
    IsHeaderRead (AreRangedNone h.0 h.1 h.2 × (1 ≤ h.3) × (h.3 ≤ h.2))
    (numerals (h.0 ∷ h.1 ∷ []) ++ codes "none" ∷ numerals (h.2 ∷ h.3 ∷ [])) words

pub classes_header_found : (words : WordsLeft) (h : ℕ × ℕ × ℕ × ℕ) → classes_header_at words ≡ Ok h → IsClassesHeader words h
unfolding classes_header_at
classes_header_found words h e =
    let counted = bind_found _ _ _ e in
    let none = bind_found _ _ _ counted.2 in
    let last = bind_found _ _ _ none.2 in
    let first = none_found words none.0 none.1 in
    let second = size_read 1 none.0.2 none.0.3 last.0.0 last.0.1 last.1 in
    subst (IsClassesHeader words) (found-same (none.0.0, none.0.1, none.0.2, last.0.0) h last.2) (record {
      in_range = (first.in_range, second.least, second.most);
      cut = whole_line (numerals (none.0.0 ∷ none.0.1 ∷ []) ++ codes "none" ∷ numerals (none.0.2 ∷ last.0.0 ∷ [])) last.0.1.words words.words
          (first.cut ∙ ap (λ (t : Line). numerals (none.0.0 ∷ none.0.1 ∷ []) ++ codes "none" ∷ numeral (pos none.0.2) ∷ t) second.cut)
          (has_words_found 5 words counted.0 counted.1);
    })

pub classes_header_again : (line n k v q : ℕ) → AreRangedNone n k v → 1 ≤ q → q ≤ v
    → classes_header_at (record { line = line; words = numerals (n ∷ k ∷ []) ++ codes "none" ∷ numerals (v ∷ q ∷ []) }) ≡ Ok (n, k, v, q)
unfolding classes_header_at
classes_header_again line n k v q in_range some few =
    rw (
      has_words_again 5 line (numerals (n ∷ k ∷ []) ++ codes "none" ∷ numerals (v ∷ q ∷ [])) refl,
      none_again line n k v (numeral (pos q) ∷ []) in_range,
      size_again 1 v line q [] some few,
    ) refl

abbrev pub IsEnteredHeader : WordsLeft → ℕ × ℕ × ℕ → Type 0
IsEnteredHeader words h =
    IsHeaderRead (AreRangedNone h.0 h.1 h.2) (numerals (h.0 ∷ h.1 ∷ []) ++ codes "none" ∷ numeral (pos h.2) ∷ []) words

pub entered_header_found : (words : WordsLeft) (h : ℕ × ℕ × ℕ) → entered_header_at words ≡ Ok h → IsEnteredHeader words h
unfolding entered_header_at
entered_header_found words h e =
    let counted = bind_found _ _ _ e in
    let none = bind_found _ _ _ counted.2 in
    let first = none_found words none.0 none.1 in
    subst (IsEnteredHeader words) (found-same (none.0.0, none.0.1, none.0.2) h none.2) (record {
      in_range = first.in_range;
      cut = whole_line (numerals (none.0.0 ∷ none.0.1 ∷ []) ++ codes "none" ∷ numeral (pos none.0.2) ∷ []) none.0.3.words words.words
          first.cut (has_words_found 4 words counted.0 counted.1);
    })

pub entered_header_again : (line n k v : ℕ) → AreRangedNone n k v
    → entered_header_at (record { line = line; words = numerals (n ∷ k ∷ []) ++ codes "none" ∷ numeral (pos v) ∷ [] }) ≡ Ok (n, k, v)
unfolding entered_header_at
entered_header_again line n k v in_range =
    rw (
      has_words_again 4 line (numerals (n ∷ k ∷ []) ++ codes "none" ∷ numeral (pos v) ∷ []) refl,
      none_again line n k v [] in_range,
    ) refl

-- ---- four numbers: a ladder in a coloured graph, or in a table

abbrev pub IsRainbowHeader : WordsLeft → ℕ × ℕ × ℕ × ℕ → Type 0
IsRainbowHeader words h =
    IsHeaderRead ((h.0 ≤ most_elements) × (h.1 ≤ h.0) × IsVertexCount h.2 × (h.3 ≤ most_colours))
    (numerals (h.0 ∷ h.1 ∷ h.2 ∷ h.3 ∷ [])) words

pub rainbow_header_found : (words : WordsLeft) (h : ℕ × ℕ × ℕ × ℕ) → rainbow_header_at words ≡ Ok h → IsRainbowHeader words h
unfolding rainbow_header_at
rainbow_header_found words h e =
    let counted = bind_found _ _ _ e in
    let count = bind_found _ _ _ counted.2 in
    let last = bind_found _ _ _ count.2 in
    let vertices = bind_found _ _ _ last.2 in
    let colours = bind_found _ _ _ vertices.2 in
    let first = size_read 0 most_elements words count.0.0 count.0.1 count.1 in
    let second = size_read 0 count.0.0 count.0.1 last.0.0 last.0.1 last.1 in
    let third = size_read 1 most_vertices last.0.1 vertices.0.0 vertices.0.1 vertices.1 in
    let fourth = size_read 0 most_colours vertices.0.1 colours.0.0 colours.0.1 colours.1 in
    subst (IsRainbowHeader words) (found-same (count.0.0, last.0.0, vertices.0.0, colours.0.0) h colours.2) (record {
      in_range = (first.most, second.most, record { some = third.least; few = third.most }, fourth.most);
      cut = whole_line (numerals (count.0.0 ∷ last.0.0 ∷ vertices.0.0 ∷ colours.0.0 ∷ [])) colours.0.1.words words.words
          (then_words first.cut (then_words second.cut (then_words third.cut fourth.cut))) (has_words_found 4 words counted.0 counted.1);
    })

pub rainbow_header_again : (line n k v c : ℕ) → n ≤ most_elements → k ≤ n → IsVertexCount v → c ≤ most_colours
    → rainbow_header_at (record { line = line; words = numerals (n ∷ k ∷ v ∷ c ∷ []) }) ≡ Ok (n, k, v, c)
unfolding rainbow_header_at
rainbow_header_again line n k v c few last vertices colours =
    rw (
      has_words_again 4 line (numerals (n ∷ k ∷ v ∷ c ∷ [])) refl,
      size_again 0 most_elements line n (numerals (k ∷ v ∷ c ∷ [])) (omega arith) few,
      size_again 0 n line k (numerals (v ∷ c ∷ [])) (omega arith) last,
      size_again 1 most_vertices line v (numerals (c ∷ [])) vertices.some vertices.few,
      size_again 0 most_colours line c [] (omega arith) colours,
    ) refl

abbrev pub IsAssignHeader : WordsLeft → ℕ × ℕ × ℕ × ℕ → Type 0
IsAssignHeader words h =
    IsHeaderRead ((h.0 ≤ most_elements) × (h.1 ≤ h.0) × (h.2 ≤ most_rows) × (h.3 ≤ most_columns))
    (numerals (h.0 ∷ h.1 ∷ h.2 ∷ h.3 ∷ [])) words

pub assign_header_found : (words : WordsLeft) (h : ℕ × ℕ × ℕ × ℕ) → assign_header_at words ≡ Ok h → IsAssignHeader words h
unfolding assign_header_at
assign_header_found words h e =
    let counted = bind_found _ _ _ e in
    let count = bind_found _ _ _ counted.2 in
    let last = bind_found _ _ _ count.2 in
    let rows = bind_found _ _ _ last.2 in
    let columns = bind_found _ _ _ rows.2 in
    let first = size_read 0 most_elements words count.0.0 count.0.1 count.1 in
    let second = size_read 0 count.0.0 count.0.1 last.0.0 last.0.1 last.1 in
    let third = size_read 0 most_rows last.0.1 rows.0.0 rows.0.1 rows.1 in
    let fourth = size_read 0 most_columns rows.0.1 columns.0.0 columns.0.1 columns.1 in
    subst (IsAssignHeader words) (found-same (count.0.0, last.0.0, rows.0.0, columns.0.0) h columns.2) (record {
      in_range = (first.most, second.most, third.most, fourth.most);
      cut = whole_line (numerals (count.0.0 ∷ last.0.0 ∷ rows.0.0 ∷ columns.0.0 ∷ [])) columns.0.1.words words.words
          (then_words first.cut (then_words second.cut (then_words third.cut fourth.cut))) (has_words_found 4 words counted.0 counted.1);
    })

pub assign_header_again : (line n k r c : ℕ) → n ≤ most_elements → k ≤ n → r ≤ most_rows → c ≤ most_columns
    → assign_header_at (record { line = line; words = numerals (n ∷ k ∷ r ∷ c ∷ []) }) ≡ Ok (n, k, r, c)
unfolding assign_header_at
assign_header_again line n k r c few last rows columns =
    rw (
      has_words_again 4 line (numerals (n ∷ k ∷ r ∷ c ∷ [])) refl,
      size_again 0 most_elements line n (numerals (k ∷ r ∷ c ∷ [])) (omega arith) few,
      size_again 0 n line k (numerals (r ∷ c ∷ [])) (omega arith) last,
      size_again 0 most_rows line r (numerals (c ∷ [])) (omega arith) rows,
      size_again 0 most_columns line c [] (omega arith) columns,
    ) refl
