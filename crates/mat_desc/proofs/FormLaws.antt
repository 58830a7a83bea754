-- The lines of a problem, form by form: what is read is spelled so, and what is spelled so is read.
use Rattle.mat_desc.proofs.Common.{◌<◌, ◌≡◌, ℕ, ◌≤◌, ◌^◌, Bool, true, false, cond, List, [], ◌∷◌, ◌++◌, length, map, pos, Option, Some, None, Ok, refl, sym, ap, subst, ◌∙◌, arith, codes, bytes_eq, neg_ℤ, and_from, append-nil, bytes_eq-Decides, is_word, numeral, weight_word, Line, Weight, most_sets}
use Rattle.mat_desc.proofs.Common.{largest_weight, most_vertices, most_elements, most_matroids, Form, repeat_at, WordsLeft, LinesLeft, Version, Naming, IsNaming, word_for, Notation, numbers, names, element_naming, vertex_naming, IsNotationFor, WrittenInstance, size_at, below_at, member_at}
use Rattle.mat_desc.proofs.Common.{next_weights_at, ended_at, keyed_at, weights_at, notation_at, header_root_at, root_at, ends_line_at, weighted_at, coloured_edge_at, matroid_at, two_matroids_at, pair_at, list_at, Tree, graph_at, rooted_at, coloured_at, table_at, form_of, form_at, Instance, pair}
use Rattle.mat_desc.proofs.Common.{list, graph, rooted, coloured, table, end_line, version_line, name_lines, root_words, root_lines, ends_line, weighted_line, coloured_edge_line, IsPairBelow, IsWeight, AreWeights, IsValid, InstanceLines, found-same, bind_found, numeral_word, numerals_words}
use Rattle.mat_desc.proofs.Common.{size_again, below_again, weights_again, weights_words, AreLeft, keyed_again, All-weaker, firsts-zip, seconds-zip, items_found, items_again}
use Rattle.std.specs.List.{list_all}
use Rattle.mat_desc.specs.declared.read.keywords.Form.TheVariants as forms
use Rattle.mat_desc.specs.declared.read.keywords.Version.TheVariants as versions
use Rattle.mat_desc.proofs.Told.{cut_then, count_line, ended_found, ended_again, size_found, below_found, weights_found, keyed_found}
use Rattle.mat_desc.proofs.NotationLaws.{version_for, member_found, member_again, word_for-word, notation_found, notation_again}
use Rattle.mat_desc.proofs.MatroidLaws.{matroid_found, matroid_again}
use Rattle.mat_desc.proofs.MatroidRows.{matroids_found, matroids_again}
use Rattle.std.specs.List.{All, zip}
use Rattle.mat_desc.proofs.Columns.{length-zip_same, edges-zip, colours-zip, weights-zip}
use Rattle.mat_desc.proofs.ItemLaws.{ends_line_found, ends_line_again, IsWeighted, weighted_found, weighted_again}
use Rattle.mat_desc.proofs.ItemLaws.{IsColoured, coloured_edge_found, coloured_edge_again, All-map, All-zip, zip-parts, length-map_same}

-- ---- weights

-- a weights line was read
record IsWeightsLineRead (n : ℕ) (p : LinesLeft) (weights : List Weight) (q : LinesLeft) : Type 0 where
  count : length weights ≡ n
  valid : n ≤ most_elements → AreWeights weights
  spelled : (rest : List Line) → AreLeft rest q → AreLeft ((codes "weights" ∷ map weight_word weights) ∷ rest) p

weights_line_found : (n : ℕ) (p : LinesLeft) (weights : List Weight) (q : LinesLeft) → weights_at n p ≡ Ok (weights, q)
    → IsWeightsLineRead n p weights q
unfolding weights_at
weights_line_found n p weights q e =
    let line = bind_found (keyed_at (codes "weights") p) _ (weights, q) e in
    let all = bind_found (next_weights_at n line.0.0) _ (weights, q) line.2 in
    let end = bind_found (ended_at all.0.1) _ (weights, q) all.2 in
    let same = found-same (all.0.0, line.0.1) (weights, q) end.2 in
    let read = weights_found n line.0.0 all.0.0 all.0.1 all.1 in
    let last = ended_found all.0.1 end.0 end.1 in
    let one : IsWeightsLineRead n p all.0.0 line.0.1 = record {
      count = read.count;
      valid = λ few. (omega (arith, read.count), read.each);
      spelled = λ rest left. subst (λ (ws : Line). AreLeft ((codes "weights" ∷ ws) ∷ rest) p)
          (weights_words_only all.0.0 line.0.0.words all.0.1.words read.cut last)
          (keyed_found (codes "weights") p line.0.0 line.0.1 line.1 rest left);
    } in
    subst (λ (r : List Weight × LinesLeft). IsWeightsLineRead n p r.0 r.1) same one
  where
    weights_words_only : (all : List Weight) (words after : List (List ℕ)) → words ≡ map weight_word all ++ after → after ≡ []
        → words ≡ map weight_word all
    weights_words_only all words after cut none = cut ∙ rw none (append-nil (map weight_word all))

weights_line_again : (p : LinesLeft) (weights : List Weight) (rest : List Line) → AreWeights weights
    → AreLeft ((codes "weights" ∷ map weight_word weights) ∷ rest) p
    → (q : LinesLeft) × (weights_at (length weights) p ≡ Ok (weights, q)) × AreLeft rest q
unfolding weights_at
weights_line_again p weights rest valid left =
    let line = keyed_again (codes "weights") p (map weight_word weights) rest refl (weights_words weights) left in
    (line.0, rw (line.1, weights_again (neg_ℤ (pos largest_weight)) (pos largest_weight) p.line weights valid.1, ended_again p.line) refl, line.2)

-- ---- forms

-- the word that names a form
abbrev pub form_spelling : Form → List ℕ
form_spelling forms.Pair = codes "pair"
form_spelling forms.List = codes "list"
form_spelling forms.Graph = codes "graph"
form_spelling forms.Rooted = codes "rooted"
form_spelling forms.Coloured = codes "coloured"
form_spelling forms.Table = codes "table"

some_form : (a b : Form) → Some a ≡ Some b → a ≡ b
some_form a b e = cc

word_equal : (word key : List ℕ) → bytes_eq word key ≡ true → word ≡ key
word_equal word key e = (bytes_eq-Decides word key).0 e

-- the choice among the words of the forms
abbrev choice : Bool → Bool → Bool → Bool → Bool → Bool → Option Form
choice a b c d e f = cond a (Some forms.Pair) (cond b (Some forms.List)
    (cond c (Some forms.Graph) (cond d (Some forms.Rooted) (cond e (Some forms.Coloured) (cond f (Some forms.Table) None)))))

pub form_found : (word : List ℕ) (form : Form) → form_of word ≡ Some form → word ≡ form_spelling form
form_found word form is = first (bytes_eq word (codes "pair")) (bytes_eq word (codes "list")) (bytes_eq word (codes "graph"))
    (bytes_eq word (codes "rooted")) (bytes_eq word (codes "coloured")) (bytes_eq word (codes "table"))
    (word_equal word (codes "pair")) (word_equal word (codes "list")) (word_equal word (codes "graph")) (word_equal word (codes "rooted"))
    (word_equal word (codes "coloured")) (word_equal word (codes "table")) is
  where
    first : (a b c d e f : Bool) → (a ≡ true → word ≡ codes "pair") → (b ≡ true → word ≡ codes "list")
        → (c ≡ true → word ≡ codes "graph") → (d ≡ true → word ≡ codes "rooted") → (e ≡ true → word ≡ codes "coloured")
        → (f ≡ true → word ≡ codes "table")
        → choice a b c d e f ≡ Some form → word ≡ form_spelling form
    first true b c d e f p q r s t u h = p refl ∙ ap form_spelling (some_form forms.Pair form h)
    first false true c d e f p q r s t u h = q refl ∙ ap form_spelling (some_form forms.List form h)
    first false false true d e f p q r s t u h = r refl ∙ ap form_spelling (some_form forms.Graph form h)
    first false false false true e f p q r s t u h = s refl ∙ ap form_spelling (some_form forms.Rooted form h)
    first false false false false true f p q r s t u h = t refl ∙ ap form_spelling (some_form forms.Coloured form h)
    first false false false false false true p q r s t u h = u refl ∙ ap form_spelling (some_form forms.Table form h)
    first false false false false false false p q r s t u h = absurd cc

pub form_of-form_spelling : (form : Form) → form_of (form_spelling form) ≡ Some form
form_of-form_spelling forms.Pair = refl
form_of-form_spelling _ = refl

pub form_word : (form : Form) → is_word (form_spelling form) ≡ true
form_word forms.Pair = refl
form_word _ = refl

-- a problem and what stands for its elements and its vertices
abbrev pub written_as : Instance → Notation → WrittenInstance
written_as instance notation = record { instance = instance; notation = notation }

-- a problem was read from the words behind the form's word on
pub record IsFormRead (version : Version) (form : Form) (words : WordsLeft) (lines : LinesLeft) (read : WrittenInstance) (q : LinesLeft) : Type 0 where
  pub valid : IsValid read.instance
  pub notated : IsNotationFor read.instance read.notation
  pub same : version ≡ version_for read.notation
  pub spelled : AreLeft (end_line ∷ []) q → (more : List Line) × AreLeft more lines × InstanceLines read.notation read.instance
      (version_line read.notation ∷ (form_spelling form ∷ words.words) ∷ more)

-- names of so many numbers are those of as many
naming_of : (naming : Naming) (n m : ℕ) → m ≡ n → IsNaming n naming → IsNaming m naming
naming_of naming n m same lawful = subst (λ (k : ℕ). IsNaming k naming) (sym same) lawful

-- numbers of elements and of vertices are small
elements_fit : (n : ℕ) → n ≤ most_elements → n < 2 ^ 32
elements_fit n few = omega arith

vertices_fit : (v : ℕ) → v ≤ most_vertices → v < 2 ^ 32
vertices_fit v few = omega arith

no_vertices : 0 < 2 ^ 32
no_vertices = omega arith

-- as many as are few are few
at_most : (x y most : ℕ) → x ≡ y → y ≤ most → x ≤ most
at_most x y most same le = subst (λ (k : ℕ). k ≤ most) (sym same) le

-- two matroids that were read were read one after the other
two_found : (naming : Naming) (n : ℕ) (p : LinesLeft) (read : (Tree × Tree) × LinesLeft) → two_matroids_at naming n p ≡ Ok read
    → (first second : Tree × LinesLeft) × (matroid_at naming n p ≡ Ok first) × (matroid_at naming n first.1 ≡ Ok second)
    × (((first.0, second.0), second.1) ≡ read)
unfolding two_matroids_at
two_found naming n p read e =
    let first = bind_found (matroid_at naming n p) _ read e in
    let second = bind_found (matroid_at naming n first.0.1) _ read first.2 in
    (first.0, second.0, first.1, second.1, found-same ((first.0.0, second.0.0), second.0.1) read second.2)

pair_found : (version : Version) (words : WordsLeft) (lines : LinesLeft) (read : WrittenInstance) (q : LinesLeft)
    → pair_at version words lines ≡ Ok (read, q) → IsFormRead version forms.Pair words lines read q
unfolding pair_at
pair_found version words lines read q e =
    let count = bind_found (size_at 0 most_elements words) _ (read, q) e in
    let end = bind_found (ended_at count.0.1) _ (read, q) count.2 in
    let notation = bind_found (notation_at version count.0.0 0 lines) _ (read, q) end.2 in
    let naming = element_naming notation.0.0 in
    let weights = bind_found (weights_at count.0.0 notation.0.1) _ (read, q) notation.2 in
    let matroids = bind_found (two_matroids_at naming count.0.0 weights.0.1) _ (read, q) weights.2 in
    let both = two_found naming count.0.0 weights.0.1 matroids.0 matroids.1 in
    let first = both.0 in
    let second = both.1 in
    let same : (written_as (pair weights.0.0 first.0 second.0) notation.0.0, second.1) ≡ (read, q) =
    ap (λ (m : (Tree × Tree) × LinesLeft). (written_as (pair weights.0.0 m.0.0 m.0.1) notation.0.0, m.1)) both.4
    ∙ found-same (written_as (pair weights.0.0 matroids.0.0.0 matroids.0.0.1) notation.0.0, matroids.0.1) (read, q) matroids.2 in
    let number = size_found 0 most_elements words count.0.0 count.0.1 count.1 in
    let last = ended_found count.0.1 end.0 end.1 in
    let named = notation_found version count.0.0 0 (elements_fit count.0.0 number.most) no_vertices lines notation.0.0 notation.0.1 notation.1 in
    let all = weights_line_found count.0.0 notation.0.1 weights.0.0 weights.0.1 weights.1 in
    let one = matroid_found naming count.0.0 named.elements weights.0.1 first.0 first.1 both.2 in
    let two = matroid_found naming count.0.0 named.elements first.1 second.0 second.1 both.3 in
    let line : words.words ≡ numeral (pos (length weights.0.0)) ∷ [] =
    count_line count.0.0 (length weights.0.0) words.words count.0.1.words number.cut last all.count in
    let whole : IsFormRead version forms.Pair words lines (written_as (pair weights.0.0 first.0 second.0) notation.0.0) second.1 = record {
      valid = (all.valid number.most, rw all.count one.valid, rw all.count two.valid);
      notated = (naming_of naming count.0.0 (length weights.0.0) all.count named.elements, named.vertices);
      same = named.same;
      spelled = λ left.
          let behind = two.spelled (end_line ∷ []) left in
          let before = one.spelled behind.0 behind.1 in
          let body : List Line = (codes "weights" ∷ map weight_word weights.0.0) ∷ before.0 in
          let more : List Line = name_lines notation.0.0 ++ body in
          let header = ap (λ (t : Line). version_line notation.0.0 ∷ (codes "pair" ∷ t) ∷ more) line in
          (more, named.spelled body (all.spelled before.0 before.1), (before.0, behind.0, header, before.2, behind.2));
    } in
    subst (λ (r : WrittenInstance × LinesLeft). IsFormRead version forms.Pair words lines r.0 r.1) same whole

list_found : (version : Version) (words : WordsLeft) (lines : LinesLeft) (read : WrittenInstance) (q : LinesLeft)
    → list_at version words lines ≡ Ok (read, q) → IsFormRead version forms.List words lines read q
unfolding list_at
list_found version words lines read q e =
    let count = bind_found (size_at 0 most_elements words) _ (read, q) e in
    let many = bind_found (size_at 1 most_matroids count.0.1) _ (read, q) count.2 in
    let end = bind_found (ended_at many.0.1) _ (read, q) many.2 in
    let notation = bind_found (notation_at version count.0.0 0 lines) _ (read, q) end.2 in
    let naming = element_naming notation.0.0 in
    let weights = bind_found (weights_at count.0.0 notation.0.1) _ (read, q) notation.2 in
    let matroids = bind_found (repeat_at (matroid_at naming count.0.0) many.0.0 weights.0.1) _ (read, q) weights.2 in
    let same = found-same (written_as (list weights.0.0 matroids.0.0) notation.0.0, matroids.0.1) (read, q) matroids.2 in
    let number = size_found 0 most_elements words count.0.0 count.0.1 count.1 in
    let length_read = size_found 1 most_matroids count.0.1 many.0.0 many.0.1 many.1 in
    let last = ended_found many.0.1 end.0 end.1 in
    let named = notation_found version count.0.0 0 (elements_fit count.0.0 number.most) no_vertices lines notation.0.0 notation.0.1 notation.1 in
    let all = weights_line_found count.0.0 notation.0.1 weights.0.0 weights.0.1 weights.1 in
    let rows = matroids_found naming count.0.0 named.elements many.0.0 weights.0.1 matroids.0.0 matroids.0.1 matroids.1 in
    let line : words.words ≡ numeral (pos (length weights.0.0)) ∷ numeral (pos (length matroids.0.0)) ∷ [] =
    number.cut ∙ rw (length_read.cut, last, all.count, rows.count) refl in
    subst (λ (r : WrittenInstance × LinesLeft). IsFormRead version forms.List words lines r.0 r.1) same (record {
      valid = (all.valid number.most, omega (arith, rows.count, length_read.least), at_most (length matroids.0.0) many.0.0 most_matroids rows.count length_read.most, rw all.count rows.each);
      notated = (naming_of naming count.0.0 (length weights.0.0) all.count named.elements, named.vertices);
      same = named.same;
      spelled = λ left.
          let behind = rows.spelled (end_line ∷ []) left in
          let body : List Line = (codes "weights" ∷ map weight_word weights.0.0) ∷ behind.0 in
          let more : List Line = name_lines notation.0.0 ++ body in
          let header = ap (λ (t : Line). version_line notation.0.0 ∷ (codes "list" ∷ t) ∷ more) line in
          (more, named.spelled body (all.spelled behind.0 behind.1), (behind.0, header, behind.2));
    })

graph_found : (version : Version) (words : WordsLeft) (lines : LinesLeft) (read : WrittenInstance) (q : LinesLeft)
    → graph_at version words lines ≡ Ok (read, q) → IsFormRead version forms.Graph words lines read q
unfolding graph_at
graph_found version words lines read q e =
    let vertices = bind_found (size_at 1 most_vertices words) _ (read, q) e in
    let many = bind_found (size_at 0 most_elements vertices.0.1) _ (read, q) vertices.2 in
    let end = bind_found (ended_at many.0.1) _ (read, q) many.2 in
    let notation = bind_found (notation_at version many.0.0 vertices.0.0 lines) _ (read, q) end.2 in
    let naming = vertex_naming notation.0.0 in
    let edges = bind_found (repeat_at (ends_line_at naming (codes "edge") vertices.0.0) many.0.0 notation.0.1) _ (read, q) notation.2 in
    let same = found-same (written_as (graph vertices.0.0 edges.0.0) notation.0.0, edges.0.1) (read, q) edges.2 in
    let v = size_found 1 most_vertices words vertices.0.0 vertices.0.1 vertices.1 in
    let m = size_found 0 most_elements vertices.0.1 many.0.0 many.0.1 many.1 in
    let last = ended_found many.0.1 end.0 end.1 in
    let named = notation_found version many.0.0 vertices.0.0 (elements_fit many.0.0 m.most) (vertices_fit vertices.0.0 v.most) lines notation.0.0 notation.0.1 notation.1 in
    let items = items_found (ends_line_at naming (codes "edge") vertices.0.0) (ends_line naming (codes "edge"))
    (IsPairBelow vertices.0.0 vertices.0.0) (ends_line_found naming (codes "edge") vertices.0.0 named.vertices) many.0.0 notation.0.1
    edges.0.0 edges.0.1 edges.1 in
    let line : words.words ≡ numeral (pos vertices.0.0) ∷ numeral (pos (length edges.0.0)) ∷ [] = v.cut ∙ rw (m.cut, last, items.count) refl in
    subst (λ (r : WrittenInstance × LinesLeft). IsFormRead version forms.Graph words lines r.0 r.1) same (record {
      valid = (v.least, v.most, (at_most (length edges.0.0) many.0.0 most_elements items.count m.most, items.each));
      notated = (naming_of (element_naming notation.0.0) many.0.0 (length edges.0.0) items.count named.elements, named.vertices);
      same = named.same;
      spelled = λ left.
          let body : List Line = map (ends_line naming (codes "edge")) edges.0.0 ++ end_line ∷ [] in
          let more : List Line = name_lines notation.0.0 ++ body in
          let header = ap (λ (t : Line). version_line notation.0.0 ∷ (codes "graph" ∷ t) ∷ more) line in
          (more, named.spelled body (items.spelled (end_line ∷ []) left), header);
    })

-- items of a pair and a weight, as two lists
record AreColumns (naming : Naming) (a b : ℕ) (key : List ℕ) (many : ℕ) (lines : LinesLeft) (pairs : List (ℕ × ℕ)) (weights : List Weight)
    (q : LinesLeft) : Type 0 where
  count : length pairs ≡ many
  as_many : length weights ≡ length pairs
  pairs_valid : All (IsPairBelow a b) pairs
  weights_valid : All IsWeight weights
  spelled : AreLeft (end_line ∷ []) q → AreLeft (map (weighted_line naming key) (zip pairs weights) ++ end_line ∷ []) lines

columns_found : (naming : Naming) (a b : ℕ) → IsNaming a naming → IsNaming b naming → (key : List ℕ) (many : ℕ) (lines : LinesLeft)
    (items : List ((ℕ × ℕ) × Weight)) (q : LinesLeft)
    → repeat_at (weighted_at naming key a b) many lines ≡ Ok (items, q)
    → AreColumns naming a b key many lines (map (λ (item : (ℕ × ℕ) × Weight). item.0) items)
    (map (λ (item : (ℕ × ℕ) × Weight). item.1) items) q
columns_found naming a b first_named second_named key many lines items q e =
    let read = items_found (weighted_at naming key a b) (weighted_line naming key) (IsWeighted a b)
    (weighted_found naming key a b first_named second_named) many lines items q e in
    let firsts = length-map_same (λ (item : (ℕ × ℕ) × Weight). item.0) items in
    let seconds = length-map_same (λ (item : (ℕ × ℕ) × Weight). item.1) items in
    record {
      count = firsts ∙ read.count;
      as_many = seconds ∙ sym firsts;
      pairs_valid = All-map (IsWeighted a b) (IsPairBelow a b) (λ (item : (ℕ × ℕ) × Weight). item.0) (λ item valid. valid.0) items read.each;
      weights_valid = All-map (IsWeighted a b) IsWeight (λ (item : (ℕ × ℕ) × Weight). item.1) (λ item valid. valid.1) items read.each;
      spelled = λ left. subst (λ (t : List ((ℕ × ℕ) × Weight)). AreLeft (map (weighted_line naming key) t ++ end_line ∷ []) lines)
          (sym (zip-parts items)) (read.spelled (end_line ∷ []) left);
    }

columns_again : (naming : Naming) (a b : ℕ) → IsNaming a naming → IsNaming b naming → (key : List ℕ) → is_word key ≡ true
    → (lines : LinesLeft) (pairs : List (ℕ × ℕ)) (weights : List Weight) → All (IsPairBelow a b) pairs → All IsWeight weights
    → length weights ≡ length pairs
    → AreLeft (map (weighted_line naming key) (zip pairs weights) ++ end_line ∷ []) lines
    → (q : LinesLeft) × (repeat_at (weighted_at naming key a b) (length pairs) lines ≡ Ok (zip pairs weights, q)) × AreLeft (end_line ∷ []) q
columns_again naming a b first_named second_named key keyword lines pairs weights pairs_valid weights_valid same left =
    let read = items_again (weighted_at naming key a b) (weighted_line naming key) (IsWeighted a b)
    (weighted_again naming key a b first_named second_named keyword) lines
    (zip pairs weights) (end_line ∷ []) (All-zip (IsPairBelow a b) IsWeight pairs weights pairs_valid weights_valid same) left in (
      read.0,
      subst (λ (k : ℕ). repeat_at (weighted_at naming key a b) k lines ≡ Ok (zip pairs weights, read.0))
          (length-zip_same pairs weights same) read.1,
      read.2,
    )

-- ---- the root

-- the root was read, in the form line or in its own
record IsRootRead (notation : Notation) (v : ℕ) (before behind : WordsLeft) (p : LinesLeft) (root : ℕ) (q : LinesLeft) : Type 0 where
  below : root < v
  words : before.words ≡ root_words notation root ++ behind.words
  spelled : (rest : List Line) → AreLeft rest q → AreLeft (root_lines notation root ++ rest) p

root_found : (version : Version) (notation : Notation) (v : ℕ) → version ≡ version_for notation → IsNaming v (vertex_naming notation)
    → (before : WordsLeft) (known : Option ℕ) (behind : WordsLeft) → header_root_at version v before ≡ Ok (known, behind)
    → (p : LinesLeft) (root : ℕ) (q : LinesLeft) → root_at (vertex_naming notation) v known p ≡ Ok (root, q)
    → IsRootRead notation v before behind p root q
unfolding header_root_at root_at
root_found versions.One numbers v is lawful before known behind e p root q f =
    let word = bind_found (below_at v before) _ (known, behind) e in
    let same = found-same (Some word.0.0, word.0.1) (known, behind) word.2 in
    let from : root_at None v (Some word.0.0) p ≡ Ok (root, q) =
    subst (λ (o : Option ℕ). root_at None v o p ≡ Ok (root, q)) (sym (ap (λ (x : Option ℕ × WordsLeft). x.0) same)) f in
    let there = found-same (word.0.0, p) (root, q) from in
    let read = below_found v before word.0.0 word.0.1 word.1 in
    let rest : word.0.1 ≡ behind = ap (λ (x : Option ℕ × WordsLeft). x.1) same in
    let whole : IsRootRead numbers v before behind p word.0.0 p = record {
      below = read.most;
      words = read.cut ∙ ap (λ (w : WordsLeft). numeral (pos word.0.0) ∷ w.words) rest;
      spelled = λ more left. left;
    } in
    subst (λ (x : ℕ × LinesLeft). IsRootRead numbers v before behind p x.0 x.1) there whole
root_found versions.One (names elements vertices) v is lawful before known behind e p root q f = absurd cc
root_found versions.Two numbers v is lawful before known behind e p root q f = absurd cc
root_found versions.Two (names elements vertices) v is lawful before known behind e p root q f =
    let none : Option ℕ = None in
    let same = found-same (none, before) (known, behind) e in
    let from : root_at (Some vertices) v none p ≡ Ok (root, q) =
    subst (λ (o : Option ℕ). root_at (Some vertices) v o p ≡ Ok (root, q)) (sym (ap (λ (x : Option ℕ × WordsLeft). x.0) same)) f in
    let line = bind_found (keyed_at (codes "root") p) _ (root, q) from in
    let word = bind_found (member_at (Some vertices) v line.0.0) _ (root, q) line.2 in
    let end = bind_found (ended_at word.0.1) _ (root, q) word.2 in
    let there = found-same (word.0.0, line.0.1) (root, q) end.2 in
    let read = member_found (Some vertices) v lawful line.0.0 word.0.0 word.0.1 word.1 in
    let last = ended_found word.0.1 end.0 end.1 in
    let whole : IsRootRead (names elements vertices) v before behind p word.0.0 line.0.1 = record {
      below = read.most;
      words = ap (λ (x : Option ℕ × WordsLeft). x.1.words) same;
      spelled = λ more left. subst (λ (ws : Line). AreLeft ((codes "root" ∷ ws) ∷ more) p)
          (cut_then (word_for (Some vertices) word.0.0) line.0.0.words word.0.1.words [] read.cut last)
          (keyed_found (codes "root") p line.0.0 line.0.1 line.1 more left);
    } in
    subst (λ (x : ℕ × LinesLeft). IsRootRead (names elements vertices) v before behind p x.0 x.1) there whole

-- what is known of the root from the form line
abbrev known_root : Notation → ℕ → Option ℕ
known_root numbers root = Some root
known_root (names elements vertices) root = None

header_root_again : (notation : Notation) (v n root : ℕ) → root < v
    → header_root_at (version_for notation) v (record { line = n; words = root_words notation root })
    ≡ Ok (known_root notation root, record { line = n; words = [] })
unfolding header_root_at
header_root_again numbers v n root lt = rw (below_again v n root [] lt) refl
header_root_again (names elements vertices) v n root lt = refl

root_again : (notation : Notation) (v : ℕ) → IsNaming v (vertex_naming notation) → (p : LinesLeft) (root : ℕ) (rest : List Line) → root < v
    → AreLeft (root_lines notation root ++ rest) p
    → (q : LinesLeft) × (root_at (vertex_naming notation) v (known_root notation root) p ≡ Ok (root, q)) × AreLeft rest q
unfolding root_at
root_again numbers v lawful p root rest lt left = (p, refl, left)
root_again (names elements vertices) v lawful p root rest lt left =
    let word = word_for (Some vertices) root in
    let is : list_all is_word (word ∷ []) ≡ true = and_from (is_word word) true (word_for-word (Some vertices) v lawful root lt) refl in
    let line = keyed_again (codes "root") p (word ∷ []) rest refl is left in
    (line.0, rw (line.1, member_again (Some vertices) v lawful p.line root [] lt, ended_again p.line) refl, line.2)

root_words-words : (notation : Notation) (root : ℕ) → list_all is_word (root_words notation root) ≡ true
root_words-words numbers root = numerals_words (root ∷ [])
root_words-words (names elements vertices) root = refl

rooted_found : (version : Version) (words : WordsLeft) (lines : LinesLeft) (read : WrittenInstance) (q : LinesLeft)
    → rooted_at version words lines ≡ Ok (read, q) → IsFormRead version forms.Rooted words lines read q
unfolding rooted_at
rooted_found version words lines read q e =
    let vertices = bind_found (size_at 1 most_vertices words) _ (read, q) e in
    let many = bind_found (size_at 0 most_elements vertices.0.1) _ (read, q) vertices.2 in
    let known = bind_found (header_root_at version vertices.0.0 many.0.1) _ (read, q) many.2 in
    let end = bind_found (ended_at known.0.1) _ (read, q) known.2 in
    let notation = bind_found (notation_at version many.0.0 vertices.0.0 lines) _ (read, q) end.2 in
    let naming = vertex_naming notation.0.0 in
    let root = bind_found (root_at naming vertices.0.0 known.0.0 notation.0.1) _ (read, q) notation.2 in
    let arcs = bind_found (repeat_at (weighted_at naming (codes "arc") vertices.0.0 vertices.0.0) many.0.0 root.0.1) _ (read, q) root.2 in
    let pairs = map (λ (arc : (ℕ × ℕ) × Weight). arc.0) arcs.0.0 in
    let costs = map (λ (arc : (ℕ × ℕ) × Weight). arc.1) arcs.0.0 in
    let same = found-same (written_as (rooted vertices.0.0 root.0.0 pairs costs) notation.0.0, arcs.0.1) (read, q) arcs.2 in
    let v = size_found 1 most_vertices words vertices.0.0 vertices.0.1 vertices.1 in
    let m = size_found 0 most_elements vertices.0.1 many.0.0 many.0.1 many.1 in
    let last = ended_found known.0.1 end.0 end.1 in
    let named = notation_found version many.0.0 vertices.0.0 (elements_fit many.0.0 m.most) (vertices_fit vertices.0.0 v.most) lines notation.0.0 notation.0.1 notation.1 in
    let r = root_found version notation.0.0 vertices.0.0 named.same named.vertices many.0.1 known.0.0 known.0.1 known.1 notation.0.1
    root.0.0 root.0.1 root.1 in
    let items = columns_found naming vertices.0.0 vertices.0.0 named.vertices named.vertices (codes "arc") many.0.0 root.0.1
    arcs.0.0 arcs.0.1 arcs.1 in
    let from : many.0.1.words ≡ root_words notation.0.0 root.0.0 =
    r.words ∙ ap (λ (t : Line). root_words notation.0.0 root.0.0 ++ t) last ∙ append-nil (root_words notation.0.0 root.0.0) in
    let line : words.words ≡ numeral (pos vertices.0.0) ∷ numeral (pos (length pairs)) ∷ root_words notation.0.0 root.0.0 =
    v.cut ∙ rw (m.cut, from, items.count) refl in
    subst (λ (x : WrittenInstance × LinesLeft). IsFormRead version forms.Rooted words lines x.0 x.1) same (record {
      valid = (v.least, v.most, r.below, (at_most (length pairs) many.0.0 most_elements items.count m.most, items.pairs_valid), items.as_many, items.weights_valid);
      notated = (naming_of (element_naming notation.0.0) many.0.0 (length pairs) items.count named.elements, named.vertices);
      same = named.same;
      spelled = λ left.
          let arc_lines : List Line = map (weighted_line naming (codes "arc")) (zip pairs costs) ++ end_line ∷ [] in
          let body : List Line = root_lines notation.0.0 root.0.0 ++ arc_lines in
          let more : List Line = name_lines notation.0.0 ++ body in
          let header = ap (λ (t : Line). version_line notation.0.0 ∷ (codes "rooted" ∷ t) ∷ more) line in
          (more, named.spelled body (r.spelled arc_lines (items.spelled left)), header);
    })

table_found : (version : Version) (words : WordsLeft) (lines : LinesLeft) (read : WrittenInstance) (q : LinesLeft)
    → table_at version words lines ≡ Ok (read, q) → IsFormRead version forms.Table words lines read q
unfolding table_at
table_found version words lines read q e =
    let rows = bind_found (size_at 0 most_sets words) _ (read, q) e in
    let columns = bind_found (size_at 0 most_sets rows.0.1) _ (read, q) rows.2 in
    let many = bind_found (size_at 0 most_elements columns.0.1) _ (read, q) columns.2 in
    let end = bind_found (ended_at many.0.1) _ (read, q) many.2 in
    let notation = bind_found (notation_at version many.0.0 0 lines) _ (read, q) end.2 in
    let cells = bind_found (repeat_at (weighted_at None (codes "cell") rows.0.0 columns.0.0) many.0.0 notation.0.1) _ (read, q) notation.2 in
    let pairs = map (λ (cell : (ℕ × ℕ) × Weight). cell.0) cells.0.0 in
    let weights = map (λ (cell : (ℕ × ℕ) × Weight). cell.1) cells.0.0 in
    let same = found-same (written_as (table rows.0.0 columns.0.0 pairs weights) notation.0.0, cells.0.1) (read, q) cells.2 in
    let r = size_found 0 most_sets words rows.0.0 rows.0.1 rows.1 in
    let c = size_found 0 most_sets rows.0.1 columns.0.0 columns.0.1 columns.1 in
    let m = size_found 0 most_elements columns.0.1 many.0.0 many.0.1 many.1 in
    let last = ended_found many.0.1 end.0 end.1 in
    let named = notation_found version many.0.0 0 (elements_fit many.0.0 m.most) no_vertices lines notation.0.0 notation.0.1 notation.1 in
    let items = columns_found None rows.0.0 columns.0.0 tt tt (codes "cell") many.0.0 notation.0.1 cells.0.0 cells.0.1 cells.1 in
    let line : words.words ≡ numeral (pos rows.0.0) ∷ numeral (pos columns.0.0) ∷ numeral (pos (length pairs)) ∷ [] =
    r.cut ∙ rw (c.cut, m.cut, last, items.count) refl in
    subst (λ (x : WrittenInstance × LinesLeft). IsFormRead version forms.Table words lines x.0 x.1) same (record {
      valid = (
        r.most,
        c.most,
        (at_most (length pairs) many.0.0 most_elements items.count m.most, items.pairs_valid),
        items.as_many,
        items.weights_valid,
      );
      notated = (naming_of (element_naming notation.0.0) many.0.0 (length pairs) items.count named.elements, named.vertices);
      same = named.same;
      spelled = λ left.
          let body : List Line = map (weighted_line None (codes "cell")) (zip pairs weights) ++ end_line ∷ [] in
          let more : List Line = name_lines notation.0.0 ++ body in
          let header = ap (λ (t : Line). version_line notation.0.0 ∷ (codes "table" ∷ t) ∷ more) line in
          (more, named.spelled body (items.spelled left), header);
    })

-- items of a pair, a colour and a weight, as three lists
record AreColouredColumns (naming : Naming) (v c many : ℕ) (lines : LinesLeft) (edges : List (ℕ × ℕ)) (colours : List ℕ) (weights : List Weight)
    (q : LinesLeft) : Type 0 where
  count : length edges ≡ many
  as_many_colours : length colours ≡ length edges
  as_many_weights : length weights ≡ length edges
  edges_valid : All (IsPairBelow v v) edges
  colours_valid : All (λ colour. colour < c) colours
  weights_valid : All IsWeight weights
  spelled : AreLeft (end_line ∷ []) q → AreLeft (map (coloured_edge_line naming) (zip edges (zip colours weights)) ++ end_line ∷ []) lines

zip-three_parts : (items : List ((ℕ × ℕ) × (ℕ × Weight))) → zip (map (λ (item : (ℕ × ℕ) × (ℕ × Weight)). item.0) items)
    (zip (map (λ (item : (ℕ × ℕ) × (ℕ × Weight)). item.1.0) items)
    (map (λ (item : (ℕ × ℕ) × (ℕ × Weight)). item.1.1) items)) ≡ items
zip-three_parts [] = refl
zip-three_parts (item ∷ items) = ap (λ (t : List ((ℕ × ℕ) × (ℕ × Weight))). item ∷ t) (zip-three_parts items)

coloured_columns_found : (naming : Naming) (v c : ℕ) → IsNaming v naming → (many : ℕ) (lines : LinesLeft)
    (items : List ((ℕ × ℕ) × (ℕ × Weight))) (q : LinesLeft)
    → repeat_at (coloured_edge_at naming v c) many lines ≡ Ok (items, q)
    → AreColouredColumns naming v c many lines (map (λ (item : (ℕ × ℕ) × (ℕ × Weight)). item.0) items)
    (map (λ (item : (ℕ × ℕ) × (ℕ × Weight)). item.1.0) items) (map (λ (item : (ℕ × ℕ) × (ℕ × Weight)). item.1.1) items) q
coloured_columns_found naming v c lawful many lines items q e =
    let read = items_found (coloured_edge_at naming v c) (coloured_edge_line naming) (IsColoured v c)
    (coloured_edge_found naming v c lawful) many lines items q e in
    let firsts = length-map_same (λ (item : (ℕ × ℕ) × (ℕ × Weight)). item.0) items in
    let seconds = length-map_same (λ (item : (ℕ × ℕ) × (ℕ × Weight)). item.1.0) items in
    let thirds = length-map_same (λ (item : (ℕ × ℕ) × (ℕ × Weight)). item.1.1) items in
    record {
      count = firsts ∙ read.count;
      as_many_colours = seconds ∙ sym firsts;
      as_many_weights = thirds ∙ sym firsts;
      edges_valid = All-map (IsColoured v c) (IsPairBelow v v) (λ (item : (ℕ × ℕ) × (ℕ × Weight)). item.0) (λ item valid. valid.0)
          items read.each;
      colours_valid = All-map (IsColoured v c) (λ colour. colour < c) (λ (item : (ℕ × ℕ) × (ℕ × Weight)). item.1.0)
          (λ item valid. valid.1) items read.each;
      weights_valid = All-map (IsColoured v c) IsWeight (λ (item : (ℕ × ℕ) × (ℕ × Weight)). item.1.1) (λ item valid. valid.2) items
          read.each;
      spelled = λ left. subst (λ (t : List ((ℕ × ℕ) × (ℕ × Weight))). AreLeft (map (coloured_edge_line naming) t ++ end_line ∷ []) lines)
          (sym (zip-three_parts items)) (read.spelled (end_line ∷ []) left);
    }

coloured_columns_again : (naming : Naming) (v c : ℕ) → IsNaming v naming → (lines : LinesLeft) (edges : List (ℕ × ℕ)) (colours : List ℕ) (weights : List Weight)
    → All (IsPairBelow v v) edges → All (λ colour. colour < c) colours → All IsWeight weights
    → length colours ≡ length edges → length weights ≡ length edges
    → AreLeft (map (coloured_edge_line naming) (zip edges (zip colours weights)) ++ end_line ∷ []) lines
    → (q : LinesLeft) × (repeat_at (coloured_edge_at naming v c) (length edges) lines ≡ Ok (zip edges (zip colours weights), q)) × AreLeft
    (end_line ∷ []) q
coloured_columns_again naming v c lawful lines edges colours weights edges_valid colours_valid weights_valid one two left =
    let inner = length-zip_same colours weights (two ∙ sym one) in
    let pairs = All-zip (λ colour. colour < c) IsWeight colours weights colours_valid weights_valid (two ∙ sym one) in
    let triples = All-zip (IsPairBelow v v) (λ (item : ℕ × Weight). (item.0 < c) × IsWeight item.1) edges (zip colours weights)
    edges_valid pairs (inner ∙ one) in
    let valid = All-weaker (λ (item : (ℕ × ℕ) × (ℕ × Weight)). IsPairBelow v v item.0 × ((item.1.0 < c) × IsWeight item.1.1))
    (IsColoured v c) (λ item h. (h.0, h.1.0, h.1.1)) (zip edges (zip colours weights)) triples in
    let read = items_again (coloured_edge_at naming v c) (coloured_edge_line naming) (IsColoured v c) (coloured_edge_again naming v c lawful) lines
    (zip edges (zip colours weights)) (end_line ∷ []) valid left in (
      read.0,
      subst (λ (k : ℕ). repeat_at (coloured_edge_at naming v c) k lines ≡ Ok (zip edges (zip colours weights), read.0))
          (length-zip_same edges (zip colours weights) (inner ∙ one)) read.1,
      read.2,
    )

coloured_found : (version : Version) (words : WordsLeft) (lines : LinesLeft) (read : WrittenInstance) (q : LinesLeft)
    → coloured_at version words lines ≡ Ok (read, q) → IsFormRead version forms.Coloured words lines read q
unfolding coloured_at
coloured_found version words lines read q e =
    let vertices = bind_found (size_at 1 most_vertices words) _ (read, q) e in
    let many = bind_found (size_at 0 most_elements vertices.0.1) _ (read, q) vertices.2 in
    let colours = bind_found (size_at 0 most_sets many.0.1) _ (read, q) many.2 in
    let end = bind_found (ended_at colours.0.1) _ (read, q) colours.2 in
    let notation = bind_found (notation_at version many.0.0 vertices.0.0 lines) _ (read, q) end.2 in
    let naming = vertex_naming notation.0.0 in
    let edges = bind_found (repeat_at (coloured_edge_at naming vertices.0.0 colours.0.0) many.0.0 notation.0.1) _ (read, q) notation.2 in
    let pairs = map (λ (edge : (ℕ × ℕ) × (ℕ × Weight)). edge.0) edges.0.0 in
    let colour_of = map (λ (edge : (ℕ × ℕ) × (ℕ × Weight)). edge.1.0) edges.0.0 in
    let weights = map (λ (edge : (ℕ × ℕ) × (ℕ × Weight)). edge.1.1) edges.0.0 in
    let same = found-same (written_as (coloured vertices.0.0 colours.0.0 pairs colour_of weights) notation.0.0, edges.0.1) (read, q) edges.2 in
    let v = size_found 1 most_vertices words vertices.0.0 vertices.0.1 vertices.1 in
    let m = size_found 0 most_elements vertices.0.1 many.0.0 many.0.1 many.1 in
    let c = size_found 0 most_sets many.0.1 colours.0.0 colours.0.1 colours.1 in
    let last = ended_found colours.0.1 end.0 end.1 in
    let named = notation_found version many.0.0 vertices.0.0 (elements_fit many.0.0 m.most) (vertices_fit vertices.0.0 v.most) lines notation.0.0 notation.0.1 notation.1 in
    let items = coloured_columns_found naming vertices.0.0 colours.0.0 named.vertices many.0.0 notation.0.1 edges.0.0 edges.0.1 edges.1 in
    let line : words.words ≡ numeral (pos vertices.0.0) ∷ numeral (pos (length pairs)) ∷ numeral (pos colours.0.0) ∷ [] =
    v.cut ∙ rw (m.cut, c.cut, last, items.count) refl in
    subst (λ (x : WrittenInstance × LinesLeft). IsFormRead version forms.Coloured words lines x.0 x.1) same (record {
      valid = (
        v.least,
        v.most,
        c.most,
        (at_most (length pairs) many.0.0 most_elements items.count m.most, items.edges_valid),
        items.as_many_colours,
        items.colours_valid,
        items.as_many_weights,
        items.weights_valid,
      );
      notated = (naming_of (element_naming notation.0.0) many.0.0 (length pairs) items.count named.elements, named.vertices);
      same = named.same;
      spelled = λ left.
          let body : List Line = map (coloured_edge_line naming) (zip pairs (zip colour_of weights)) ++ end_line ∷ [] in
          let more : List Line = name_lines notation.0.0 ++ body in
          let header = ap (λ (t : Line). version_line notation.0.0 ∷ (codes "coloured" ∷ t) ∷ more) line in
          (more, named.spelled body (items.spelled left), header);
    })

pub any_form_found : (version : Version) (line : ℕ) (form : Form) (words : WordsLeft) (lines : LinesLeft) (read : WrittenInstance) (q : LinesLeft)
    → form_at version line (Some form) words lines ≡ Ok (read, q) → IsFormRead version form words lines read q
any_form_found version line forms.Pair words lines read q e = pair_found version words lines read q e
any_form_found version line forms.List words lines read q e = list_found version words lines read q e
any_form_found version line forms.Graph words lines read q e = graph_found version words lines read q e
any_form_found version line forms.Rooted words lines read q e = rooted_found version words lines read q e
any_form_found version line forms.Coloured words lines read q e = coloured_found version words lines read q e
any_form_found version line forms.Table words lines read q e = table_found version words lines read q e

-- ---- what is spelled is read

-- lines that spell a problem: the form line, whose words behind the form's word and the lines behind it are read as the problem
pub record IsFormSpelled (notation : Notation) (instance : Instance) (lines : List Line) : Type 0 where
  pub form : Form
  pub words : Line
  pub more : List Line
  pub cut : lines ≡ version_line notation ∷ (form_spelling form ∷ words) ∷ more
  pub are_words : list_all is_word words ≡ true
  pub again : (n : ℕ) (p : LinesLeft) → AreLeft more p
      → (q : LinesLeft) × (form_at (version_for notation) n (Some form) (record { line = n; words = words }) p
      ≡ Ok (written_as instance notation, q)) × AreLeft (end_line ∷ []) q

pub any_form_spelled : (notation : Notation) (instance : Instance) (lines : List Line) → IsValid instance → IsNotationFor instance notation
    → InstanceLines notation instance lines → IsFormSpelled notation instance lines
unfolding pair_at two_matroids_at list_at graph_at rooted_at coloured_at table_at
any_form_spelled notation (pair weights first second) lines valid notated spelled = record {
  form = forms.Pair;
  words = numeral (pos (length weights)) ∷ [];
  more = name_lines notation ++ (codes "weights" ∷ map weight_word weights) ∷ spelled.0;
  cut = spelled.2;
  are_words = numerals_words (length weights ∷ []);
  again = λ n p left.
      let naming = element_naming notation in
      let number = size_again 0 most_elements n (length weights) [] (omega arith) (omega (arith, valid.0.0)) in
      let named = notation_again notation (length weights) 0 notated.0 notated.1 p ((codes "weights" ∷ map weight_word weights) ∷ spelled.0) left in
      let all = weights_line_again named.0 weights spelled.0 valid.0 named.2 in
      let one = matroid_again naming (length weights) notated.0 all.0 first spelled.0 spelled.1 valid.1 spelled.3 all.2 in
      let two = matroid_again naming (length weights) notated.0 one.0 second spelled.1 (end_line ∷ []) valid.2 spelled.4 one.2 in
      (two.0, rw (number, ended_again n, named.1, all.1, one.1, two.1) refl, two.2);
}
any_form_spelled notation (list weights matroids) lines valid notated spelled = record {
  form = forms.List;
  words = numeral (pos (length weights)) ∷ numeral (pos (length matroids)) ∷ [];
  more = name_lines notation ++ (codes "weights" ∷ map weight_word weights) ∷ spelled.0;
  cut = spelled.1;
  are_words = numerals_words (length weights ∷ length matroids ∷ []);
  again = λ n p left.
      let number = size_again 0 most_elements n (length weights) (numeral (pos (length matroids)) ∷ []) (omega arith) (omega (arith, valid.0.0)) in
      let many = size_again 1 most_matroids n (length matroids) [] valid.1 (omega (arith, valid.2)) in
      let named = notation_again notation (length weights) 0 notated.0 notated.1 p ((codes "weights" ∷ map weight_word weights) ∷ spelled.0) left in
      let all = weights_line_again named.0 weights spelled.0 valid.0 named.2 in
      let read = matroids_again (element_naming notation) (length weights) notated.0 all.0 matroids spelled.0 (end_line ∷ []) valid.3 spelled.2
      all.2 in
      (read.0, rw (number, many, ended_again n, named.1, all.1, read.1) refl, read.2);
}
any_form_spelled notation (graph vertices edges) lines valid notated spelled = record {
  form = forms.Graph;
  words = numeral (pos vertices) ∷ numeral (pos (length edges)) ∷ [];
  more = name_lines notation ++ (map (ends_line (vertex_naming notation) (codes "edge")) edges ++ end_line ∷ []);
  cut = spelled;
  are_words = numerals_words (vertices ∷ length edges ∷ []);
  again = λ n p left.
      let naming = vertex_naming notation in
      let number = size_again 1 most_vertices n vertices (numeral (pos (length edges)) ∷ []) valid.0 (omega (arith, valid.1)) in
      let many = size_again 0 most_elements n (length edges) [] (omega arith) (omega (arith, valid.2.0)) in
      let named = notation_again notation (length edges) vertices notated.0 notated.1 p
      (map (ends_line naming (codes "edge")) edges ++ end_line ∷ []) left in
      let read = items_again (ends_line_at naming (codes "edge") vertices) (ends_line naming (codes "edge")) (IsPairBelow vertices vertices)
      (ends_line_again naming (codes "edge") vertices notated.1 refl) named.0 edges (end_line ∷ []) valid.2.1 named.2 in
      (read.0, rw (number, many, ended_again n, named.1, read.1) refl, read.2);
}
any_form_spelled notation (rooted vertices root arcs costs) lines valid notated spelled = record {
  form = forms.Rooted;
  words = numeral (pos vertices) ∷ numeral (pos (length arcs)) ∷ root_words notation root;
  more = name_lines notation
      ++ (root_lines notation root ++ (map (weighted_line (vertex_naming notation) (codes "arc")) (zip arcs costs) ++ end_line ∷ []));
  cut = spelled;
  are_words =
      and_from (is_word (numeral (pos vertices))) (list_all is_word (numeral (pos (length arcs)) ∷ root_words notation root))
      (numeral_word (pos vertices)) (and_from (is_word (numeral (pos (length arcs)))) (list_all is_word (root_words notation root))
      (numeral_word (pos (length arcs))) (root_words-words notation root));
  again = λ n p left.
      let naming = vertex_naming notation in
      let arc_lines : List Line = map (weighted_line naming (codes "arc")) (zip arcs costs) ++ end_line ∷ [] in
      let number = size_again 1 most_vertices n vertices (numeral (pos (length arcs)) ∷ root_words notation root) valid.0
      (omega (arith, valid.1)) in
      let many = size_again 0 most_elements n (length arcs) (root_words notation root) (omega arith) (omega (arith, valid.3.0)) in
      let known = header_root_again notation vertices n root valid.2 in
      let named = notation_again notation (length arcs) vertices notated.0 notated.1 p (root_lines notation root ++ arc_lines) left in
      let from = root_again notation vertices notated.1 named.0 root arc_lines valid.2 named.2 in
      let read = columns_again naming vertices vertices notated.1 notated.1 (codes "arc") refl from.0 arcs costs valid.3.1 valid.5 valid.4
      from.2 in (
        read.0,
        rw (
          number,
          many,
          known,
          ended_again n,
          named.1,
          from.1,
          read.1,
          firsts-zip arcs costs valid.4,
          seconds-zip arcs costs valid.4,
        ) refl,
        read.2,
      );
}
any_form_spelled notation (coloured vertices colours edges colour_of weights) lines valid notated spelled = record {
  form = forms.Coloured;
  words = numeral (pos vertices) ∷ numeral (pos (length edges)) ∷ numeral (pos colours) ∷ [];
  more = name_lines notation ++ (map (coloured_edge_line (vertex_naming notation)) (zip edges (zip colour_of weights)) ++ end_line ∷ []);
  cut = spelled;
  are_words = numerals_words (vertices ∷ length edges ∷ colours ∷ []);
  again = λ n p left.
      let naming = vertex_naming notation in
      let number = size_again 1 most_vertices n vertices (numeral (pos (length edges)) ∷ numeral (pos colours) ∷ []) valid.0
      (omega (arith, valid.1)) in
      let many = size_again 0 most_elements n (length edges) (numeral (pos colours) ∷ []) (omega arith) (omega (arith, valid.3.0)) in
      let hues = size_again 0 most_sets n colours [] (omega arith) (omega (arith, valid.2)) in
      let named = notation_again notation (length edges) vertices notated.0 notated.1 p
      (map (coloured_edge_line naming) (zip edges (zip colour_of weights)) ++ end_line ∷ []) left in
      let read = coloured_columns_again naming vertices colours notated.1 named.0 edges colour_of weights valid.3.1 valid.5 valid.7
      valid.4 valid.6 named.2 in (
        read.0,
        rw (
          number,
          many,
          hues,
          ended_again n,
          named.1,
          read.1,
          edges-zip edges colour_of weights valid.4 valid.6,
          colours-zip edges colour_of weights valid.4 valid.6,
          weights-zip edges colour_of weights valid.4 valid.6,
        ) refl,
        read.2,
      );
}
any_form_spelled notation (table rows columns cells weights) lines valid notated spelled = record {
  form = forms.Table;
  words = numeral (pos rows) ∷ numeral (pos columns) ∷ numeral (pos (length cells)) ∷ [];
  more = name_lines notation ++ (map (weighted_line None (codes "cell")) (zip cells weights) ++ end_line ∷ []);
  cut = spelled;
  are_words = numerals_words (rows ∷ columns ∷ length cells ∷ []);
  again = λ n p left.
      let down = size_again 0 most_sets n rows (numeral (pos columns) ∷ numeral (pos (length cells)) ∷ []) (omega arith)
      (omega (arith, valid.0)) in
      let across = size_again 0 most_sets n columns (numeral (pos (length cells)) ∷ []) (omega arith) (omega (arith, valid.1)) in
      let many = size_again 0 most_elements n (length cells) [] (omega arith) (omega (arith, valid.2.0)) in
      let named = notation_again notation (length cells) 0 notated.0 notated.1 p
      (map (weighted_line None (codes "cell")) (zip cells weights) ++ end_line ∷ []) left in
      let read = columns_again None rows columns tt tt (codes "cell") refl named.0 cells weights valid.2.1 valid.4 valid.3 named.2 in (
        read.0,
        rw (
          down,
          across,
          many,
          ended_again n,
          named.1,
          read.1,
          firsts-zip cells weights valid.3,
          seconds-zip cells weights valid.3,
        ) refl,
        read.2,
      );
}
