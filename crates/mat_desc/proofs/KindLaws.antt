-- The kinds of a matroid: the word that each keyword is, and, of the kinds that are made of no other matroid, that what is read behind the
-- keyword is spelled so.
use Rattle.mat_desc.proofs.Common.{◌≡◌, ℕ, suc, ◌≤◌, Bool, true, false, cond, List, [], ◌∷◌, ◌++◌, length, map, pos, Option, Some, None, Ok, refl, ap, subst, ◌∙◌, arith, codes, bytes_eq, bytes_eq-Decides, numeral, Line, Tree, uniform, partition, laminar, graphic, gf2, depth, Naming, IsNaming}
use Rattle.mat_desc.proofs.Common.{most_sets, most_digits, most_vertices, most_elements, Keyword, WordsLeft, LinesLeft, repeat_at, size_at, ended_at, classes_at, nested_sets_at, uniform_at, partition_at, laminar_at, ends_line_at, graphic_at, column_at, gf2_at, keyword_of, IsPairBelow, IsValidTree}
use Rattle.mat_desc.proofs.Common.{MatroidLines, ends_line, column_line, found-same, bind_found, AreLeft, items_found, IsColumn}
use Rattle.mat_desc.specs.declared.read.keywords.Keyword.TheVariants as keywords
use Rattle.mat_desc.proofs.Told.{cut_then, count_line, ended_found, size_found}
use Rattle.mat_desc.proofs.ClassLaws.{classes_read, classes_valid}
use Rattle.mat_desc.proofs.NestedSetLaws.{nested_sets_read, nested_sets_valid}
use Rattle.mat_desc.proofs.ItemLaws.{ends_line_found, column_found}

-- ---- keywords

-- the word that a keyword is
abbrev pub spelling_of : Keyword → List ℕ
spelling_of keywords.Uniform = codes "uniform"
spelling_of keywords.Partition = codes "partition"
spelling_of keywords.Laminar = codes "laminar"
spelling_of keywords.Graphic = codes "graphic"
spelling_of keywords.Transversal = codes "transversal"
spelling_of keywords.Gammoid = codes "gammoid"
spelling_of keywords.Gf2 = codes "gf2"
spelling_of keywords.Dual = codes "dual"
spelling_of keywords.Truncate = codes "truncate"
spelling_of keywords.Restrict = codes "restrict"
spelling_of keywords.Contract = codes "contract"
spelling_of keywords.Union = codes "union"

some_same : (a b : Keyword) → Some a ≡ Some b → a ≡ b
some_same a b e = cc

-- a keyword was chosen: the first one, where the word is its spelling, or one of the others
chosen : (word : List ℕ) (first keyword : Keyword) (others : Option Keyword) → (others ≡ Some keyword → word ≡ spelling_of keyword)
    → cond (bytes_eq word (spelling_of first)) (Some first) others ≡ Some keyword → word ≡ spelling_of keyword
chosen word first keyword others later is = by_test (bytes_eq word (spelling_of first)) (bytes_eq-Decides word (spelling_of first)).0 is
  where
    by_test : (test : Bool) → (test ≡ true → word ≡ spelling_of first) → cond test (Some first) others ≡ Some keyword
        → word ≡ spelling_of keyword
    by_test true equal e = equal refl ∙ ap spelling_of (some_same first keyword e)
    by_test false equal e = later e

none_chosen : (word : List ℕ) (keyword : Keyword) → None ≡ Some keyword → word ≡ spelling_of keyword
none_chosen word keyword e = absurd cc

pub keyword_found : (word : List ℕ) (keyword : Keyword) → keyword_of word ≡ Some keyword → word ≡ spelling_of keyword
keyword_found word keyword is =
    chosen word keywords.Uniform keyword _ (chosen word keywords.Partition keyword _ (chosen word keywords.Laminar keyword _
    (chosen word keywords.Graphic keyword _ (chosen word keywords.Transversal keyword _ (chosen word keywords.Gammoid keyword _
    (chosen word keywords.Gf2 keyword _ (chosen word keywords.Dual keyword _ (chosen word keywords.Truncate keyword _
    (chosen word keywords.Restrict keyword _ (chosen word keywords.Contract keyword _ (chosen word keywords.Union keyword _
    (none_chosen word keyword)))))))))))) is

-- ---- one kind

-- A matroid was read from the words behind its keyword on. In it there is room for so many matroids within one another.
pub record IsKindRead (naming : Naming) (room n : ℕ) (keyword : Keyword) (words : WordsLeft) (lines : LinesLeft) (tree : Tree)
    (q : LinesLeft) : Type 0 where
  pub valid : IsValidTree n tree × (depth tree ≤ suc room)
  pub spelled : (rest : List Line) → AreLeft rest q → (more : List Line) × AreLeft more lines × MatroidLines naming tree
      ((spelling_of keyword ∷ words.words) ∷ more) rest

pub uniform_found : (naming : Naming) (room n : ℕ) (words : WordsLeft) (lines : LinesLeft) (tree : Tree) (q : LinesLeft)
    → uniform_at n words lines ≡ Ok (tree, q) → IsKindRead naming room n keywords.Uniform words lines tree q
unfolding uniform_at
uniform_found naming room n words lines tree q e =
    let cap = bind_found (size_at 0 most_elements words) _ (tree, q) e in
    let end = bind_found (ended_at cap.0.1) _ (tree, q) cap.2 in
    let same = found-same (uniform n cap.0.0, lines) (tree, q) end.2 in
    let number = size_found 0 most_elements words cap.0.0 cap.0.1 cap.1 in
    let last = ended_found cap.0.1 end.0 end.1 in
    let line : words.words ≡ numeral (pos cap.0.0) ∷ [] = cut_then (numeral (pos cap.0.0)) words.words cap.0.1.words [] number.cut last in
    let one : IsKindRead naming room n keywords.Uniform words lines (uniform n cap.0.0) lines = record {
      valid = ((refl, omega (arith, number.most)), omega arith);
      spelled = λ rest left. (rest, left, ap (λ (t : Line). (codes "uniform" ∷ t) ∷ rest) line);
    } in
    subst (λ (r : Tree × LinesLeft). IsKindRead naming room n keywords.Uniform words lines r.0 r.1) same one

pub partition_found : (naming : Naming) (room n : ℕ) → IsNaming n naming → (words : WordsLeft) (lines : LinesLeft) (tree : Tree) (q : LinesLeft)
    → partition_at naming n words lines ≡ Ok (tree, q) → IsKindRead naming room n keywords.Partition words lines tree q
unfolding partition_at
partition_found naming room n named words lines tree q e =
    let many = bind_found (size_at 0 most_sets words) _ (tree, q) e in
    let end = bind_found (ended_at many.0.1) _ (tree, q) many.2 in
    let classes = bind_found (classes_at naming n many.0.0 [] lines) _ (tree, q) end.2 in
    let same = found-same (partition n classes.0.0 classes.0.1, classes.0.2) (tree, q) classes.2 in
    let number = size_found 0 most_sets words many.0.0 many.0.1 many.1 in
    let last = ended_found many.0.1 end.0 end.1 in
    let read = classes_read naming n named many.0.0 [] lines classes.0.0 classes.0.1 classes.0.2 classes.1 in
    let few : many.0.0 ≤ most_sets = omega (arith, number.most) in
    let line : words.words ≡ numeral (pos (length classes.0.0)) ∷ [] =
    count_line many.0.0 (length classes.0.0) words.words many.0.1.words number.cut last read.count in
    let one : IsKindRead naming room n keywords.Partition words lines (partition n classes.0.0 classes.0.1) classes.0.2 = record {
      valid = ((refl, classes_valid naming n many.0.0 lines classes.0.0 classes.0.1 classes.0.2 few read), omega arith);
      spelled = λ rest left.
          let behind = read.spelled rest left in
          (behind.0, behind.2, (behind.0, ap (λ (t : Line). (codes "partition" ∷ t) ∷ behind.0) line, behind.1));
    } in
    subst (λ (r : Tree × LinesLeft). IsKindRead naming room n keywords.Partition words lines r.0 r.1) same one

pub laminar_found : (naming : Naming) (room n : ℕ) → IsNaming n naming → (words : WordsLeft) (lines : LinesLeft) (tree : Tree) (q : LinesLeft)
    → laminar_at naming n words lines ≡ Ok (tree, q) → IsKindRead naming room n keywords.Laminar words lines tree q
unfolding laminar_at
laminar_found naming room n named words lines tree q e =
    let many = bind_found (size_at 0 most_sets words) _ (tree, q) e in
    let end = bind_found (ended_at many.0.1) _ (tree, q) many.2 in
    let sets = bind_found (nested_sets_at naming n many.0.0 [] lines) _ (tree, q) end.2 in
    let same = found-same (laminar n sets.0.0 sets.0.1, sets.0.2) (tree, q) sets.2 in
    let number = size_found 0 most_sets words many.0.0 many.0.1 many.1 in
    let last = ended_found many.0.1 end.0 end.1 in
    let read = nested_sets_read naming n named many.0.0 [] lines sets.0.0 sets.0.1 sets.0.2 sets.1 in
    let few : many.0.0 ≤ most_sets = omega (arith, number.most) in
    let line : words.words ≡ numeral (pos (length sets.0.0)) ∷ [] =
    count_line many.0.0 (length sets.0.0) words.words many.0.1.words number.cut last read.count in
    let one : IsKindRead naming room n keywords.Laminar words lines (laminar n sets.0.0 sets.0.1) sets.0.2 = record {
      valid = ((refl, nested_sets_valid naming n many.0.0 lines sets.0.0 sets.0.1 sets.0.2 few read), omega arith);
      spelled = λ rest left.
          let behind = read.spelled rest left in
          (behind.0, behind.2, (behind.0, ap (λ (t : Line). (codes "laminar" ∷ t) ∷ behind.0) line, behind.1));
    } in
    subst (λ (r : Tree × LinesLeft). IsKindRead naming room n keywords.Laminar words lines r.0 r.1) same one

pub graphic_found : (naming : Naming) (room n : ℕ) (words : WordsLeft) (lines : LinesLeft) (tree : Tree) (q : LinesLeft)
    → graphic_at n words lines ≡ Ok (tree, q) → IsKindRead naming room n keywords.Graphic words lines tree q
unfolding graphic_at
graphic_found naming room n words lines tree q e =
    let vertices = bind_found (size_at 1 most_vertices words) _ (tree, q) e in
    let end = bind_found (ended_at vertices.0.1) _ (tree, q) vertices.2 in
    let edges = bind_found (repeat_at (ends_line_at None (codes "edge") vertices.0.0) n lines) _ (tree, q) end.2 in
    let same = found-same (graphic vertices.0.0 edges.0.0, edges.0.1) (tree, q) edges.2 in
    let number = size_found 1 most_vertices words vertices.0.0 vertices.0.1 vertices.1 in
    let last = ended_found vertices.0.1 end.0 end.1 in
    let read = items_found (ends_line_at None (codes "edge") vertices.0.0) (ends_line None (codes "edge")) (IsPairBelow vertices.0.0 vertices.0.0)
    (ends_line_found None (codes "edge") vertices.0.0 tt) n lines edges.0.0 edges.0.1 edges.1 in
    let line : words.words ≡ numeral (pos vertices.0.0) ∷ [] = cut_then (numeral (pos vertices.0.0)) words.words vertices.0.1.words []
    number.cut last in
    let one : IsKindRead naming room n keywords.Graphic words lines (graphic vertices.0.0 edges.0.0) edges.0.1 = record {
      valid = ((read.count, number.least, omega (arith, number.most), read.each), omega arith);
      spelled = λ rest left.
          let more : List Line = map (ends_line None (codes "edge")) edges.0.0 ++ rest in
          (more, read.spelled rest left, ap (λ (t : Line). (codes "graphic" ∷ t) ∷ more) line);
    } in
    subst (λ (r : Tree × LinesLeft). IsKindRead naming room n keywords.Graphic words lines r.0 r.1) same one

pub gf2_found : (naming : Naming) (room n : ℕ) (words : WordsLeft) (lines : LinesLeft) (tree : Tree) (q : LinesLeft)
    → gf2_at n words lines ≡ Ok (tree, q) → IsKindRead naming room n keywords.Gf2 words lines tree q
unfolding gf2_at
gf2_found naming room n words lines tree q e =
    let dim = bind_found (size_at 1 most_digits words) _ (tree, q) e in
    let end = bind_found (ended_at dim.0.1) _ (tree, q) dim.2 in
    let columns = bind_found (repeat_at (column_at dim.0.0) n lines) _ (tree, q) end.2 in
    let same = found-same (gf2 dim.0.0 columns.0.0, columns.0.1) (tree, q) columns.2 in
    let number = size_found 1 most_digits words dim.0.0 dim.0.1 dim.1 in
    let last = ended_found dim.0.1 end.0 end.1 in
    let read = items_found (column_at dim.0.0) (column_line dim.0.0) (IsColumn dim.0.0) (column_found dim.0.0) n lines columns.0.0 columns.0.1
    columns.1 in
    let line : words.words ≡ numeral (pos dim.0.0) ∷ [] = cut_then (numeral (pos dim.0.0)) words.words dim.0.1.words [] number.cut last in
    let one : IsKindRead naming room n keywords.Gf2 words lines (gf2 dim.0.0 columns.0.0) columns.0.1 = record {
      valid = ((read.count, number.least, omega (arith, number.most), read.each), omega arith);
      spelled = λ rest left.
          let more : List Line = map (column_line dim.0.0) columns.0.0 ++ rest in
          (more, read.spelled rest left, ap (λ (t : Line). (codes "gf2" ∷ t) ∷ more) line);
    } in
    subst (λ (r : Tree × LinesLeft). IsKindRead naming room n keywords.Gf2 words lines r.0 r.1) same one
