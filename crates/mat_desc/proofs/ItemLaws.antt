-- A line for each item: what is read is spelled so, and what is spelled so is read.
use Rattle.mat_desc.proofs.Common.{◌≡◌, ℕ, suc, ◌<◌, ◌≤◌, ◌^◌, pos, true, List, [], ◌∷◌, length, map, Ok, None, refl, ap, subst, ◌∙◌, arith, codes, neg_ℤ, and_from, All-nil, All-cons, All-head, All-tail, is_word, numeral, weight_word, numeral_word, Line, repeat_at, WordsLeft, LinesLeft, Weight}
use Rattle.mat_desc.proofs.Common.{most_digits, largest_weight, Naming, word_for, IsNaming, keyed_at, below_at, weight_at, ended_at, ends_at, member_at, ends_line_at, column_at, binary_at, weighted_at, coloured_edge_at, IsWeight, IsPairBelow, ends_line, column_line, weighted_line}
use Rattle.mat_desc.proofs.Common.{coloured_edge_line, found-same, bind_found, below_again, weight_at_again, AreLeft, keyed_again, IsItemRead, items_found, IsGraph-pairs, IsColumn, IsBinaryMatrix-columns}
use Rattle.std.specs.List.{All, list_all, zip}
use Rattle.mat_words.proofs.WeightLemmas.{weight_word-word}
use Rattle.mat_words.specs.Binary.{binary}
use Rattle.mat_words.proofs.BinaryLaws.{binary_word, binary_again}
use Rattle.mat_desc.proofs.Told.{cut_then, below_found, binary_found, weight_found, ended_found, ended_again, keyed_found}
use Rattle.mat_desc.proofs.NotationLaws.{member_found, member_again, word_for-word}
use Rattle.mat_sets.specs.Graphs.{IsGraph}
use Rattle.mat_gf2.specs.Columns.{IsBinaryMatrix}

-- ---- edges, columns, arcs and cells

-- two words were read as numbers, one below each bound
record AreEndsRead (naming : Naming) (first_bound second_bound : ℕ) (w : WordsLeft) (ends : ℕ × ℕ) (q : WordsLeft) : Type 0 where
  valid : IsPairBelow first_bound second_bound ends
  cut : w.words ≡ word_for naming ends.0 ∷ word_for naming ends.1 ∷ q.words

ends_found : (naming : Naming) (a b : ℕ) → IsNaming a naming → IsNaming b naming → (w : WordsLeft) (ends : ℕ × ℕ) (q : WordsLeft)
    → ends_at naming a b w ≡ Ok (ends, q) → AreEndsRead naming a b w ends q
unfolding ends_at
ends_found naming a b a_named b_named w ends q e =
    let first = bind_found (member_at naming a w) _ (ends, q) e in
    let second = bind_found (member_at naming b first.0.1) _ (ends, q) first.2 in
    let same = found-same ((first.0.0, second.0.0), second.0.1) (ends, q) second.2 in
    let one = member_found naming a a_named w first.0.0 first.0.1 first.1 in
    let two = member_found naming b b_named first.0.1 second.0.0 second.0.1 second.1 in
    subst (λ (r : (ℕ × ℕ) × WordsLeft). AreEndsRead naming a b w r.0 r.1) same
    (record {
      valid = (one.most, two.most);
      cut = cut_then (word_for naming first.0.0) w.words first.0.1.words
          (word_for naming second.0.0 ∷ second.0.1.words) one.cut two.cut;
    })

ends_again : (naming : Naming) (a b : ℕ) → IsNaming a naming → IsNaming b naming → (n : ℕ) (ends : ℕ × ℕ) (words : Line)
    → IsPairBelow a b ends
    → ends_at naming a b (record { line = n; words = word_for naming ends.0 ∷ word_for naming ends.1 ∷ words })
    ≡ Ok (ends, record { line = n; words = words })
unfolding ends_at
ends_again naming a b a_named b_named n ends words valid =
    rw (member_again naming a a_named n ends.0 (word_for naming ends.1 ∷ words) valid.0, member_again naming b b_named n ends.1 words valid.1) refl

ends_words : (naming : Naming) (a b : ℕ) → IsNaming a naming → IsNaming b naming → (ends : ℕ × ℕ) (words : Line) → IsPairBelow a b ends
    → list_all is_word words ≡ true → list_all is_word (word_for naming ends.0 ∷ word_for naming ends.1 ∷ words) ≡ true
ends_words naming a b a_named b_named ends words valid h =
    let second = and_from (is_word (word_for naming ends.1)) (list_all is_word words) (word_for-word naming b b_named ends.1 valid.1) h in
    and_from (is_word (word_for naming ends.0)) (list_all is_word (word_for naming ends.1 ∷ words))
    (word_for-word naming a a_named ends.0 valid.0) second

pub ends_line_found : (naming : Naming) (key : List ℕ) (v : ℕ) → IsNaming v naming → (p : LinesLeft) (ends : ℕ × ℕ) (q : LinesLeft)
    → ends_line_at naming key v p ≡ Ok (ends, q)
    → IsItemRead (ends_line naming key) (IsPairBelow v v) p ends q
unfolding ends_line_at
ends_line_found naming key v named p ends q e =
    let line = bind_found (keyed_at key p) _ (ends, q) e in
    let both = bind_found (ends_at naming v v line.0.0) _ (ends, q) line.2 in
    let end = bind_found (ended_at both.0.1) _ (ends, q) both.2 in
    let same = found-same (both.0.0, line.0.1) (ends, q) end.2 in
    let read = ends_found naming v v named named line.0.0 both.0.0 both.0.1 both.1 in
    let last = ended_found both.0.1 end.0 end.1 in
    subst (λ (r : (ℕ × ℕ) × LinesLeft). IsItemRead (ends_line naming key) (IsPairBelow v v) p r.0 r.1) same (record {
      valid = read.valid;
      spelled = λ rest left.
          subst (λ (ws : Line). AreLeft ((key ∷ ws) ∷ rest) p) (read.cut ∙ rw last refl)
          (keyed_found key p line.0.0 line.0.1 line.1 rest left);
    })

pub ends_line_again : (naming : Naming) (key : List ℕ) (v : ℕ) → IsNaming v naming → is_word key ≡ true
    → (p : LinesLeft) (ends : ℕ × ℕ) (rest : List Line)
    → IsPairBelow v v ends
    → AreLeft (ends_line naming key ends ∷ rest) p → (q : LinesLeft) × (ends_line_at naming key v p ≡ Ok (ends, q)) × AreLeft rest q
unfolding ends_line_at
ends_line_again naming key v named keyword p ends rest valid left =
    let line = keyed_again key p (word_for naming ends.0 ∷ word_for naming ends.1 ∷ []) rest keyword
    (ends_words naming v v named named ends [] valid refl) left in
    (line.0, rw (line.1, ends_again naming v v named named p.line ends [] valid, ended_again p.line) refl, line.2)

-- edges or arcs that are read are those of a graph
pub ends_lines_sound : (key : List ℕ) (v many : ℕ) (p : LinesLeft) (edges : List (ℕ × ℕ)) (q : LinesLeft) → many < 2 ^ 32
    → repeat_at (ends_line_at None key v) many p ≡ Ok (edges, q) → IsGraph v edges
ends_lines_sound key v many p edges q few e =
    let read = items_found (ends_line_at None key v) (ends_line None key) (IsPairBelow v v) (ends_line_found None key v tt) many p edges q e in
    IsGraph-pairs v edges (omega (arith, read.count, few)) read.each

pub column_found : (dim : ℕ) (p : LinesLeft) (column : ℕ) (q : LinesLeft) → column_at dim p ≡ Ok (column, q)
    → IsItemRead (column_line dim) (IsColumn dim) p column q
unfolding column_at
column_found dim p column q e =
    let line = bind_found (keyed_at (codes "column") p) _ (column, q) e in
    let word = bind_found (binary_at dim line.0.0) _ (column, q) line.2 in
    let end = bind_found (ended_at word.0.1) _ (column, q) word.2 in
    let same = found-same (word.0.0, line.0.1) (column, q) end.2 in
    let read = binary_found dim line.0.0 word.0.0 word.0.1 word.1 in
    let last = ended_found word.0.1 end.0 end.1 in
    let words : line.0.0.words ≡ binary dim word.0.0 ∷ [] = cut_then (binary dim word.0.0) line.0.0.words word.0.1.words [] read.cut last in
    subst (λ (r : ℕ × LinesLeft). IsItemRead (column_line dim) (IsColumn dim) p r.0 r.1) same (record {
      valid = read.below;
      spelled = λ rest left.
          subst (λ (ws : Line). AreLeft ((codes "column" ∷ ws) ∷ rest) p) words
          (keyed_found (codes "column") p line.0.0 line.0.1 line.1 rest left);
    })

pub column_again : (dim : ℕ) → 1 ≤ dim → (p : LinesLeft) (column : ℕ) (rest : List Line) → IsColumn dim column
    → AreLeft (column_line dim column ∷ rest) p → (q : LinesLeft) × (column_at dim p ≡ Ok (column, q)) × AreLeft rest q
unfolding column_at
column_again dim some p column rest valid left =
    let word : list_all is_word (binary dim column ∷ []) ≡ true =
    and_from (is_word (binary dim column)) true (binary_word dim column some) refl in
    let line = keyed_again (codes "column") p (binary dim column ∷ []) rest refl word left in
    (line.0, rw (line.1, binary_again dim p.line column [] valid, ended_again p.line) refl, line.2)

-- columns that are read meet the conditions of a matroid of columns
pub columns_sound : (dim many : ℕ) (p : LinesLeft) (columns : List ℕ) (q : LinesLeft) → 1 ≤ dim → dim ≤ most_digits → many < 2 ^ 32
    → repeat_at (column_at dim) many p ≡ Ok (columns, q) → IsBinaryMatrix dim columns
columns_sound dim many p columns q some most few e =
    let read = items_found (column_at dim) (column_line dim) (IsColumn dim) (column_found dim) many p columns q e in
    IsBinaryMatrix-columns dim columns some (omega arith) (omega (arith, read.count, few)) read.each

-- an edge, an arc or a cell with a weight
abbrev pub IsWeighted : ℕ → ℕ → (ℕ × ℕ) × Weight → Type 0
IsWeighted a b item = IsPairBelow a b item.0 × IsWeight item.1

pub weighted_found : (naming : Naming) (key : List ℕ) (a b : ℕ) → IsNaming a naming → IsNaming b naming
    → (p : LinesLeft) (item : (ℕ × ℕ) × Weight) (q : LinesLeft)
    → weighted_at naming key a b p ≡ Ok (item, q) → IsItemRead (weighted_line naming key) (IsWeighted a b) p item q
unfolding weighted_at
weighted_found naming key a b a_named b_named p item q e =
    let line = bind_found (keyed_at key p) _ (item, q) e in
    let ends = bind_found (ends_at naming a b line.0.0) _ (item, q) line.2 in
    let weight = bind_found (weight_at ends.0.1) _ (item, q) ends.2 in
    let end = bind_found (ended_at weight.0.1) _ (item, q) weight.2 in
    let same = found-same ((ends.0.0, weight.0.0), line.0.1) (item, q) end.2 in
    let read = ends_found naming a b a_named b_named line.0.0 ends.0.0 ends.0.1 ends.1 in
    let number = weight_found ends.0.1 weight.0.0 weight.0.1 weight.1 in
    let last = ended_found weight.0.1 end.0 end.1 in
    subst (λ (r : ((ℕ × ℕ) × Weight) × LinesLeft). IsItemRead (weighted_line naming key) (IsWeighted a b) p r.0 r.1) same (record {
      valid = (read.valid, number.valid);
      spelled = λ rest left. subst (λ (ws : Line). AreLeft ((key ∷ ws) ∷ rest) p) (read.cut ∙ rw (number.cut, last) refl)
          (keyed_found key p line.0.0 line.0.1 line.1 rest left);
    })

pub weighted_again : (naming : Naming) (key : List ℕ) (a b : ℕ) → IsNaming a naming → IsNaming b naming → is_word key ≡ true
    → (p : LinesLeft) (item : (ℕ × ℕ) × Weight) (rest : List Line) → IsWeighted a b item
    → AreLeft (weighted_line naming key item ∷ rest) p → (q : LinesLeft) × (weighted_at naming key a b p ≡ Ok (item, q)) × AreLeft rest q
unfolding weighted_at
weighted_again naming key a b a_named b_named keyword p item rest valid left =
    let last_word = and_from (is_word (weight_word item.1)) true (weight_word-word item.1) refl in
    let line = keyed_again key p (word_for naming item.0.0 ∷ word_for naming item.0.1 ∷ weight_word item.1 ∷ []) rest keyword
    (ends_words naming a b a_named b_named item.0 (weight_word item.1 ∷ []) valid.0 last_word) left in (
      line.0,
      rw (
        line.1,
        ends_again naming a b a_named b_named p.line item.0 (weight_word item.1 ∷ []) valid.0,
        weight_at_again (neg_ℤ (pos largest_weight))
            (pos largest_weight) p.line item.1 [] valid.1,
        ended_again p.line,
      ) refl,
      line.2,
    )

-- an edge with a colour and a weight
abbrev pub IsColoured : ℕ → ℕ → (ℕ × ℕ) × (ℕ × Weight) → Type 0
IsColoured v c item = IsPairBelow v v item.0 × (item.1.0 < c) × IsWeight item.1.1

pub coloured_edge_found : (naming : Naming) (v c : ℕ) → IsNaming v naming → (p : LinesLeft) (item : (ℕ × ℕ) × (ℕ × Weight))
    (q : LinesLeft)
    → coloured_edge_at naming v c p ≡ Ok (item, q) → IsItemRead (coloured_edge_line naming) (IsColoured v c) p item q
unfolding coloured_edge_at
coloured_edge_found naming v c named p item q e =
    let line = bind_found (keyed_at (codes "edge") p) _ (item, q) e in
    let ends = bind_found (ends_at naming v v line.0.0) _ (item, q) line.2 in
    let colour = bind_found (below_at c ends.0.1) _ (item, q) ends.2 in
    let weight = bind_found (weight_at colour.0.1) _ (item, q) colour.2 in
    let end = bind_found (ended_at weight.0.1) _ (item, q) weight.2 in
    let same = found-same ((ends.0.0, (colour.0.0, weight.0.0)), line.0.1) (item, q) end.2 in
    let read = ends_found naming v v named named line.0.0 ends.0.0 ends.0.1 ends.1 in
    let hue = below_found c ends.0.1 colour.0.0 colour.0.1 colour.1 in
    let number = weight_found colour.0.1 weight.0.0 weight.0.1 weight.1 in
    let last = ended_found weight.0.1 end.0 end.1 in
    subst (λ (r : ((ℕ × ℕ) × (ℕ × Weight)) × LinesLeft). IsItemRead (coloured_edge_line naming) (IsColoured v c) p r.0 r.1) same (record {
      valid = (read.valid, hue.most, number.valid);
      spelled = λ rest left. subst (λ (ws : Line). AreLeft ((codes "edge" ∷ ws) ∷ rest) p)
          (read.cut ∙ rw (hue.cut, number.cut, last) refl) (keyed_found (codes "edge") p line.0.0 line.0.1 line.1 rest left);
    })

pub coloured_edge_again : (naming : Naming) (v c : ℕ) → IsNaming v naming → (p : LinesLeft) (item : (ℕ × ℕ) × (ℕ × Weight))
    (rest : List Line) → IsColoured v c item
    → AreLeft (coloured_edge_line naming item ∷ rest) p → (q : LinesLeft) × (coloured_edge_at naming v c p ≡ Ok (item, q)) × AreLeft rest q
unfolding coloured_edge_at
coloured_edge_again naming v c named p item rest valid left =
    let last_word : list_all is_word (weight_word item.1.1 ∷ []) ≡ true =
    and_from (is_word (weight_word item.1.1)) true (weight_word-word item.1.1) refl in
    let tail_words : list_all is_word (numeral (pos item.1.0) ∷ weight_word item.1.1 ∷ []) ≡ true =
    and_from (is_word (numeral (pos item.1.0))) (list_all is_word (weight_word item.1.1 ∷ [])) (numeral_word (pos item.1.0)) last_word in
    let behind = numeral (pos item.1.0) ∷ weight_word item.1.1 ∷ [] in
    let line = keyed_again (codes "edge") p (word_for naming item.0.0 ∷ word_for naming item.0.1 ∷ behind) rest refl
    (ends_words naming v v named named item.0 behind valid.0 tail_words) left in (
      line.0,
      rw (
        line.1,
        ends_again naming v v named named p.line item.0 (numeral (pos item.1.0) ∷ weight_word item.1.1 ∷ []) valid.0,
        below_again c p.line
            item.1.0 (weight_word item.1.1 ∷ []) valid.1,
        weight_at_again (neg_ℤ (pos largest_weight)) (pos largest_weight) p.line item.1.1 []
            valid.2,
        ended_again p.line,
      ) refl,
      line.2,
    )

-- ---- lists side by side

pub All-map : {A B : Type 0} (P : A → Type 0) (Q : B → Type 0) (f : A → B) → ((x : A) → P x → Q (f x)) → (xs : List A)
    → All P xs → All Q (map f xs)
All-map P Q f h [] all = All-nil Q
All-map P Q f h (x ∷ xs) all = All-cons Q (f x) (map f xs) (h x (All-head P x xs all)) (All-map P Q f h xs (All-tail P x xs all))

pub All-zip : {A B : Type 0} (P : A → Type 0) (Q : B → Type 0) (xs : List A) (ys : List B) → All P xs → All Q ys
    → length ys ≡ length xs → All (λ (item : A × B). P item.0 × Q item.1) (zip xs ys)
All-zip {A} {B} P Q [] [] p q same = All-nil (λ (item : A × B). P item.0 × Q item.1)
All-zip P Q [] (y ∷ ys) p q same = absurd (omega arith)
All-zip P Q (x ∷ xs) [] p q same = absurd (omega arith)
All-zip {A} {B} P Q (x ∷ xs) (y ∷ ys) p q same =
    All-cons (λ (item : A × B). P item.0 × Q item.1) (x, y) (zip xs ys) (All-head P x xs p, All-head Q y ys q)
    (All-zip P Q xs ys (All-tail P x xs p) (All-tail Q y ys q) (omega arith))

pub zip-parts : {A B : Type 0} (items : List (A × B)) → zip (map (λ (item : A × B). item.0) items) (map (λ (item : A × B). item.1)
    items) ≡ items
zip-parts [] = refl
zip-parts {A} {B} (item ∷ items) = ap (λ (t : List (A × B)). item ∷ t) (zip-parts items)

pub length-map_same : {A B : Type 0} (f : A → B) (xs : List A) → length (map f xs) ≡ length xs
length-map_same f [] = refl
length-map_same f (x ∷ xs) = ap suc (length-map_same f xs)
