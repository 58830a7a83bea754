-- The lines of a matroid: what is read is spelled so, and what is spelled so is read. The laws of the lines of one matroid are over any reader
-- that is right for the matroids within it, in which fewer stand within one another. So each is right, by induction on that number.
use Rattle.mat_desc.proofs.Common.{◌≡◌, ℕ, zero, suc, ◌≤◌, true, List, [], ◌∷◌, ◌++◌, length, map, pos, Option, Some, None, Result, Ok, refl, sym, ap, subst, ◌∙◌, arith, codes, and_from, is_word, numeral, numerals, numeral_word, Tree, Trees, uniform, partition, laminar, graphic, transversal}
use Rattle.mat_desc.proofs.Common.{gammoid, gf2, dual, truncate, restrict, contract, union, no_trees, more_trees, tree_count, trees_from, depth, greatest_depth, Line, Naming, words_for, IsNaming, most_sets, most_digits, deepest, most_vertices, most_elements, most_matroids, Keyword, WordsLeft}
use Rattle.mat_desc.proofs.Common.{LinesLeft, ◌>>=◌, repeat_at, Fault, line_at, word_at, size_at, ended_at, elements_at, uniform_at, partition_at, laminar_at, ends_line_at, graphic_at, column_at, gf2_at, TreeReader, dual_at, truncate_at, restrict_at, contract_at, union_at, keyword_of, kind_at}
use Rattle.mat_desc.proofs.Common.{matroid_within, matroid_at, IsPairBelow, IsValidTree, IsValidMatroid, AreClasses, AreNestedSets, AreValidTrees, MatroidLines, TreeLines, ends_line, column_line, found-same, bind_found, size_again, numerals_words, AreLeft, line_again, items_again, IsColumn}
use Rattle.std.specs.List.{list_all}
use Rattle.mat_sets.specs.Families.{multiplicity}
use Rattle.mat_desc.specs.declared.read.keywords.Keyword.TheVariants as keywords
use Rattle.mat_words.specs.Reading.{word_at as word_read}
use Rattle.mat_desc.proofs.Told.{cut_then, word_found, ended_found, ended_again, size_found, line_found}
use Rattle.mat_desc.proofs.NotationLaws.{words_for-words}
use Rattle.mat_desc.proofs.ElementLaws.{elements_found, Lists-read, IsSet-read, listed_below, set_again}
use Rattle.mat_desc.proofs.ClassLaws.{classes_again}
use Rattle.mat_desc.proofs.NestedSetLaws.{nested_sets_again}
use Rattle.mat_desc.proofs.ItemLaws.{ends_line_again, column_again}
use Rattle.mat_desc.proofs.KindLaws.{spelling_of, keyword_found, IsKindRead, uniform_found, partition_found, laminar_found, graphic_found, gf2_found}
use Rattle.mat_desc.proofs.LinkedKindLaws.{transversal_found, transversal_again, gammoid_found, gammoid_again}

-- a matroid was read, in which at most so many matroids stand within one another
pub record IsMatroidRead (naming : Naming) (room n : ℕ) (p : LinesLeft) (tree : Tree) (q : LinesLeft) : Type 0 where
  pub valid : IsValidTree n tree × (depth tree ≤ room)
  pub spelled : (rest : List Line) → AreLeft rest q → (lines : List Line) × AreLeft lines p × MatroidLines naming tree lines rest

-- what a reader reads is spelled so
abbrev ReadsSpelled : Naming → ℕ → ℕ → TreeReader → Type 0
ReadsSpelled naming room n reader = (p : LinesLeft) (tree : Tree) (q : LinesLeft) → reader p ≡ Ok (tree, q) → IsMatroidRead naming room n p tree q

-- what is spelled is read so by a reader
abbrev SpelledIsRead : Naming → ℕ → ℕ → TreeReader → Type 0
SpelledIsRead naming room n reader = (p : LinesLeft) (tree : Tree) (lines rest : List Line) → IsValidTree n tree → depth tree ≤ room
    → MatroidLines naming tree lines rest → AreLeft lines p
    → (q : LinesLeft) × (reader p ≡ Ok (tree, q)) × AreLeft rest q

-- ---- what is read is spelled

-- what was read, and the matroid that is made of it
abbrev made_of : (Tree → Tree) → Tree × LinesLeft → Result (Tree × LinesLeft) Fault
made_of made t = Ok (made t.0, t.1)

-- a matroid was read behind the line of one that is made of it
made_found : (naming : Naming) (room n : ℕ) (keyword : Keyword) (made : Tree → Tree) (inner : TreeReader) → ReadsSpelled naming room n inner
    → ((t : Tree) → IsValidTree n t → IsValidTree n (made t))
    → ((t : Tree) → depth (made t) ≡ suc (depth t)) → (words : WordsLeft)
    → ((t : Tree) (more rest : List Line) → MatroidLines naming t more rest
    → MatroidLines naming (made t) ((spelling_of keyword ∷ words.words) ∷ more) rest)
    → (lines : LinesLeft) (tree : Tree) (q : LinesLeft) → (inner lines >>= made_of made) ≡ Ok (tree, q)
    → IsKindRead naming room n keyword words lines tree q
made_found naming room n keyword made inner right valid deeper words line lines tree q e =
    let t = bind_found (inner lines) _ (tree, q) e in
    let same = found-same (made t.0.0, t.0.1) (tree, q) t.2 in
    let read = right lines t.0.0 t.0.1 t.1 in
    let one : IsKindRead naming room n keyword words lines (made t.0.0) t.0.1 = record {
      valid = (valid t.0.0 read.valid.0, omega (arith, deeper t.0.0, read.valid.1));
      spelled = λ rest left. let behind = read.spelled rest left in (behind.0, behind.1, line t.0.0 behind.0 rest behind.2);
    } in
    subst (λ (r : Tree × LinesLeft). IsKindRead naming room n keyword words lines r.0 r.1) same one

dual_found : (naming : Naming) (room n : ℕ) (inner : TreeReader) → ReadsSpelled naming room n inner
    → (words : WordsLeft) (lines : LinesLeft) (tree : Tree) (q : LinesLeft) → dual_at inner words lines ≡ Ok (tree, q)
    → IsKindRead naming room n keywords.Dual words lines tree q
unfolding dual_at
dual_found naming room n inner right words lines tree q e =
    let end = bind_found (ended_at words) _ (tree, q) e in
    let last = ended_found words end.0 end.1 in
    made_found naming room n keywords.Dual dual inner right (λ t valid. valid) (λ t. refl) words
    (λ t more rest spelled. (more, ap (λ (w : Line). (codes "dual" ∷ w) ∷ more) last, spelled)) lines tree q end.2

truncate_found : (naming : Naming) (room n : ℕ) (inner : TreeReader) → ReadsSpelled naming room n inner
    → (words : WordsLeft) (lines : LinesLeft) (tree : Tree) (q : LinesLeft) → truncate_at inner words lines ≡ Ok (tree, q)
    → IsKindRead naming room n keywords.Truncate words lines tree q
unfolding truncate_at
truncate_found naming room n inner right words lines tree q e =
    let cap = bind_found (size_at 0 most_elements words) _ (tree, q) e in
    let end = bind_found (ended_at cap.0.1) _ (tree, q) cap.2 in
    let number = size_found 0 most_elements words cap.0.0 cap.0.1 cap.1 in
    let line = cut_then (numeral (pos cap.0.0)) words.words cap.0.1.words [] number.cut (ended_found cap.0.1 end.0 end.1) in
    made_found naming room n keywords.Truncate (truncate cap.0.0) inner right (λ t valid. (omega (arith, number.most), valid)) (λ t. refl) words
    (λ t more rest spelled. (more, ap (λ (w : Line). (codes "truncate" ∷ w) ∷ more) line, spelled)) lines tree q end.2

restrict_found : (naming : Naming) (room n : ℕ) → IsNaming n naming → (inner : TreeReader) → ReadsSpelled naming room n inner
    → (words : WordsLeft) (lines : LinesLeft) (tree : Tree) (q : LinesLeft) → restrict_at inner naming n words lines ≡ Ok (tree, q)
    → IsKindRead naming room n keywords.Restrict words lines tree q
unfolding restrict_at
restrict_found naming room n named inner right words lines tree q e =
    let kept = bind_found (elements_at naming n [] words) _ (tree, q) e in
    let read = elements_found naming n named words.line [] [] words.words kept.0.0 kept.0.1 kept.1 in
    let lists = Lists-read naming n [] words.words kept.0.0 kept.0.1 read in
    let in_range = IsSet-read naming n [] words.words kept.0.0 kept.0.1 read in
    made_found naming room n keywords.Restrict (restrict kept.0.0) inner right (λ t valid. (in_range, valid)) (λ t. refl) words
    (λ t more rest spelled. (read.xs, more, lists, ap (λ (w : Line). (codes "restrict" ∷ w) ∷ more) read.cut, spelled)) lines tree q kept.2

contract_found : (naming : Naming) (room n : ℕ) → IsNaming n naming → (inner : TreeReader) → ReadsSpelled naming room n inner
    → (words : WordsLeft) (lines : LinesLeft) (tree : Tree) (q : LinesLeft) → contract_at inner naming n words lines ≡ Ok (tree, q)
    → IsKindRead naming room n keywords.Contract words lines tree q
unfolding contract_at
contract_found naming room n named inner right words lines tree q e =
    let away = bind_found (elements_at naming n [] words) _ (tree, q) e in
    let read = elements_found naming n named words.line [] [] words.words away.0.0 away.0.1 away.1 in
    let lists = Lists-read naming n [] words.words away.0.0 away.0.1 read in
    let in_range = IsSet-read naming n [] words.words away.0.0 away.0.1 read in
    made_found naming room n keywords.Contract (contract away.0.0) inner right (λ t valid. (in_range, valid)) (λ t. refl) words
    (λ t more rest spelled. (read.xs, more, lists, ap (λ (w : Line). (codes "contract" ∷ w) ∷ more) read.cut, spelled)) lines tree q away.2

-- matroids were read one after the other, in each of which at most so many stand within one another
record AreTreesRead (naming : Naming) (room n many : ℕ) (p : LinesLeft) (ts : Trees) (q : LinesLeft) : Type 0 where
  count : tree_count ts ≡ many
  valid : AreValidTrees n ts × (greatest_depth ts ≤ room)
  spelled : (rest : List Line) → AreLeft rest q → (lines : List Line) × AreLeft lines p × TreeLines naming ts lines rest

trees_found : (naming : Naming) (room n many : ℕ) (inner : TreeReader) → ReadsSpelled naming room n inner
    → (p : LinesLeft) (trees : List Tree) (q : LinesLeft)
    → repeat_at inner many p ≡ Ok (trees, q) → AreTreesRead naming room n many p (trees_from trees) q
unfolding repeat_at
trees_found naming room n zero inner right p trees q e =
    let same = found-same ([], p) (trees, q) e in
    subst (λ (r : List Tree × LinesLeft). AreTreesRead naming room n 0 p (trees_from r.0) r.1) same
    (record { count = refl; valid = (tt, omega arith); spelled = λ rest left. (rest, left, refl) })
trees_found naming room n (suc many) inner right p trees q e =
    let first = bind_found (inner p) _ (trees, q) e in
    let others = bind_found (repeat_at inner many first.0.1) _ (trees, q) first.2 in
    let same = found-same (first.0.0 ∷ others.0.0, others.0.1) (trees, q) others.2 in
    let here = right p first.0.0 first.0.1 first.1 in
    let more = trees_found naming room n many inner right first.0.1 others.0.0 others.0.1 others.1 in
    subst (λ (r : List Tree × LinesLeft). AreTreesRead naming room n (suc many) p (trees_from r.0) r.1) same (record {
      count = ap suc more.count;
      valid = ((here.valid.0, more.valid.0), omega (arith, here.valid.1, more.valid.1));
      spelled = λ rest left.
          let behind = more.spelled rest left in
          let lines = here.spelled behind.0 behind.1 in
          (lines.0, lines.1, (behind.0, lines.2, behind.2));
    })

union_found : (naming : Naming) (room n : ℕ) (inner : TreeReader) → ReadsSpelled naming room n inner
    → (words : WordsLeft) (lines : LinesLeft) (tree : Tree) (q : LinesLeft) → union_at inner words lines ≡ Ok (tree, q)
    → IsKindRead naming room n keywords.Union words lines tree q
unfolding union_at
union_found naming room n inner right words lines tree q e =
    let many = bind_found (size_at 1 most_matroids words) _ (tree, q) e in
    let end = bind_found (ended_at many.0.1) _ (tree, q) many.2 in
    let trees = bind_found (repeat_at inner many.0.0 lines) _ (tree, q) end.2 in
    let ts = trees_from trees.0.0 in
    let same = found-same (union ts, trees.0.1) (tree, q) trees.2 in
    let number = size_found 1 most_matroids words many.0.0 many.0.1 many.1 in
    let read = trees_found naming room n many.0.0 inner right lines trees.0.0 trees.0.1 trees.1 in
    let line = cut_then (numeral (pos many.0.0)) words.words many.0.1.words [] number.cut (ended_found many.0.1 end.0 end.1) in
    let one : IsKindRead naming room n keywords.Union words lines (union ts) trees.0.1 = record {
      valid = ((omega (arith, read.count, number.least), omega (arith, read.count, number.most), read.valid.0), omega (arith, read.valid.1));
      spelled = λ rest left.
          let behind = read.spelled rest left in
          let first = ap (λ (w : Line). (codes "union" ∷ w) ∷ behind.0) (line ∙ ap (λ k. numeral (pos k) ∷ []) (sym read.count)) in
          (behind.0, behind.1, (behind.0, first, behind.2));
    } in
    subst (λ (r : Tree × LinesLeft). IsKindRead naming room n keywords.Union words lines r.0 r.1) same one

kind_found : (naming : Naming) (room n : ℕ) → IsNaming n naming → (line : ℕ) (inner : TreeReader) → ReadsSpelled naming room n inner
    → (keyword : Keyword) (words : WordsLeft) (lines : LinesLeft) (tree : Tree) (q : LinesLeft)
    → kind_at inner naming n line (Some keyword) words lines ≡ Ok (tree, q) → IsKindRead naming room n keyword words lines tree q
kind_found naming room n named line inner right keywords.Uniform words lines tree q e = uniform_found naming room n words lines tree q e
kind_found naming room n named line inner right keywords.Partition words lines tree q e = partition_found naming room n named words lines tree q e
kind_found naming room n named line inner right keywords.Laminar words lines tree q e = laminar_found naming room n named words lines tree q e
kind_found naming room n named line inner right keywords.Graphic words lines tree q e = graphic_found naming room n words lines tree q e
kind_found naming room n named line inner right keywords.Transversal words lines tree q e = transversal_found naming room n named words lines tree q e
kind_found naming room n named line inner right keywords.Gammoid words lines tree q e = gammoid_found naming room n words lines tree q e
kind_found naming room n named line inner right keywords.Gf2 words lines tree q e = gf2_found naming room n words lines tree q e
kind_found naming room n named line inner right keywords.Dual words lines tree q e = dual_found naming room n inner right words lines tree q e
kind_found naming room n named line inner right keywords.Truncate words lines tree q e = truncate_found naming room n inner right words lines tree q e
kind_found naming room n named line inner right keywords.Restrict words lines tree q e =
    restrict_found naming room n named inner right words lines tree q e
kind_found naming room n named line inner right keywords.Contract words lines tree q e =
    contract_found naming room n named inner right words lines tree q e
kind_found naming room n named line inner right keywords.Union words lines tree q e = union_found naming room n inner right words lines tree q e

-- the next matroid, where `inner` reads a matroid within it
abbrev node_at : TreeReader → Naming → ℕ → TreeReader
node_at inner naming n p = line_at p >>= λ line. word_at line.0 >>= λ word. kind_at inner naming n p.line (keyword_of word.0) word.1 line.1

node_found : (naming : Naming) (room n : ℕ) → IsNaming n naming → (inner : TreeReader) → ReadsSpelled naming room n inner
    → ReadsSpelled naming (suc room) n (node_at inner naming n)
node_found naming room n named inner right p tree q e =
    let line = bind_found (line_at p) _ (tree, q) e in
    let word = bind_found (word_at line.0.0) _ (tree, q) line.2 in
    kind word.0.0 word.0.1 line.0.0 line.0.1 (keyword_of word.0.0) refl word.2 (word_found line.0.0 word.0.0 word.0.1 word.1)
    (line_found p line.0.0 line.0.1 line.1)
  where
    kind : (first : List ℕ) (words line : WordsLeft) (lines : LinesLeft) (o : Option Keyword) → keyword_of first ≡ o
        → kind_at inner naming n p.line o words lines ≡ Ok (tree, q)
        → line.words ≡ first ∷ words.words → ((rest : List Line) → AreLeft rest lines → AreLeft (line.words ∷ rest) p)
        → IsMatroidRead naming (suc room) n p tree q
    kind first words line lines None is h cut written = absurd cc
    kind first words line lines (Some keyword) is h cut written =
        let read = kind_found naming room n named p.line inner right keyword words lines tree q h in
        let whole : line.words ≡ spelling_of keyword ∷ words.words = cut ∙ ap (λ (t : List ℕ). t ∷ words.words)
        (keyword_found first keyword is) in
        record {
          valid = read.valid;
          spelled = λ rest left.
              let behind = read.spelled rest left in (
                (spelling_of keyword ∷ words.words) ∷ behind.0,
                subst (λ (t : Line). AreLeft (t ∷ behind.0) p) whole
                    (written behind.0 behind.1),
                behind.2,
              );
        }

within_found : (room : ℕ) (naming : Naming) (n : ℕ) → IsNaming n naming → (p : LinesLeft) (tree : Tree) (q : LinesLeft)
    → matroid_within room naming n p ≡ Ok (tree, q)
    → IsMatroidRead naming room n p tree q
unfolding matroid_within
within_found zero naming n named p tree q e = let line = bind_found (line_at p) _ (tree, q) e in absurd (cc line.2)
within_found (suc room) naming n named p tree q e =
    node_found naming room n named (matroid_within room naming n)
    (λ lines t rest h. within_found room naming n named lines t rest h) p tree q e

pub matroid_found : (naming : Naming) (n : ℕ) → IsNaming n naming → (p : LinesLeft) (tree : Tree) (q : LinesLeft)
    → matroid_at naming n p ≡ Ok (tree, q) → IsMatroidRead naming deepest n p tree q
matroid_found naming n named p tree q e = within_found deepest naming n named p tree q e

-- ---- what is spelled is read

trees_again : (naming : Naming) (room n : ℕ) (inner : TreeReader) → SpelledIsRead naming room n inner
    → (p : LinesLeft) (ts : Trees) (lines rest : List Line)
    → AreValidTrees n ts → greatest_depth ts ≤ room → TreeLines naming ts lines rest → AreLeft lines p
    → (q : LinesLeft) × (trees : List Tree) × (repeat_at inner (tree_count ts) p ≡ Ok (trees, q)) × (trees_from trees ≡ ts) × AreLeft rest q
unfolding repeat_at
trees_again naming room n inner right p no_trees lines rest valid shallow spelled left =
    (p, [], refl, refl, subst (λ (ls : List Line). AreLeft ls p) spelled left)
trees_again naming room n inner right p (more_trees t ts) lines rest valid shallow spelled left =
    let first = right p t lines spelled.0 valid.0 (omega (arith, shallow)) spelled.1 left in
    let others = trees_again naming room n inner right first.0 ts spelled.0 rest valid.1 (omega (arith, shallow)) spelled.2 first.2 in
    (others.0, t ∷ others.1, rw (first.1, others.2) refl, ap (more_trees t) others.3, others.4)

node_again : (naming : Naming) (room n : ℕ) → IsNaming n naming → (inner : TreeReader) → SpelledIsRead naming room n inner
    → SpelledIsRead naming (suc room) n (node_at inner naming n)
unfolding word_read uniform_at partition_at laminar_at graphic_at gf2_at dual_at truncate_at restrict_at contract_at union_at multiplicity
node_again naming room n named inner right p (uniform m cap) lines rest valid shallow spelled left =
    let number_word : list_all is_word (codes "uniform" ∷ numeral (pos cap) ∷ []) ≡ true =
    and_from (is_word (numeral (pos cap))) true (numeral_word (pos cap)) refl in
    let line = line_again p (codes "uniform" ∷ numeral (pos cap) ∷ []) rest (omega arith) number_word
    (subst (λ (ls : List Line). AreLeft ls p) spelled left) in
    let number = size_again 0 most_elements p.line cap [] (omega arith) (omega (arith, valid.1)) in
    (line.0, rw (line.1, number, ended_again p.line, valid.0) refl, line.2)
node_again naming room n named inner right p (partition m classes caps) lines rest valid shallow spelled left =
    let ranged : AreClasses n classes caps = valid.1 in
    let number_word : list_all is_word (codes "partition" ∷ numeral (pos (length classes)) ∷ []) ≡ true =
    and_from (is_word (numeral (pos (length classes)))) true (numeral_word (pos (length classes))) refl in
    let line = line_again p (codes "partition" ∷ numeral (pos (length classes)) ∷ []) spelled.0 (omega arith) number_word
    (subst (λ (ls : List Line). AreLeft ls p) spelled.1 left) in
    let number = size_again 0 most_sets p.line (length classes) [] (omega arith) (omega (arith, ranged.few)) in
    let read = classes_again naming n named [] line.0 classes caps spelled.0 rest ranged.caps_small ranged.sets
    (λ x. omega (arith, ranged.disjoint.once x)) spelled.2 line.2 in
    (read.0, rw (line.1, number, ended_again p.line, read.1, valid.0) refl, read.2)
node_again naming room n named inner right p (laminar m sets caps) lines rest valid shallow spelled left =
    let ranged : AreNestedSets n sets caps = valid.1 in
    let number_word : list_all is_word (codes "laminar" ∷ numeral (pos (length sets)) ∷ []) ≡ true =
    and_from (is_word (numeral (pos (length sets)))) true (numeral_word (pos (length sets))) refl in
    let line = line_again p (codes "laminar" ∷ numeral (pos (length sets)) ∷ []) spelled.0 (omega arith) number_word
    (subst (λ (ls : List Line). AreLeft ls p) spelled.1 left) in
    let number = size_again 0 most_sets p.line (length sets) [] (omega arith) (omega (arith, ranged.few)) in
    let read = nested_sets_again naming n named [] line.0 sets caps spelled.0 rest ranged.caps_small ranged.sets_inside ranged.family
    spelled.2 line.2 in
    (read.0, rw (line.1, number, ended_again p.line, read.1, valid.0) refl, read.2)
node_again naming room n named inner right p (graphic vertices edges) lines rest valid shallow spelled left =
    let number_word : list_all is_word (codes "graphic" ∷ numeral (pos vertices) ∷ []) ≡ true =
    and_from (is_word (numeral (pos vertices))) true (numeral_word (pos vertices)) refl in
    let line = line_again p (codes "graphic" ∷ numeral (pos vertices) ∷ []) (map (ends_line None (codes "edge")) edges ++ rest) (omega arith)
    number_word (subst (λ (ls : List Line). AreLeft ls p) spelled left) in
    let number = size_again 1 most_vertices p.line vertices [] valid.1 (omega (arith, valid.2)) in
    let read = items_again (ends_line_at None (codes "edge") vertices) (ends_line None (codes "edge")) (IsPairBelow vertices vertices)
    (ends_line_again None (codes "edge") vertices tt refl) line.0 edges rest valid.3 line.2 in
    (read.0, rw (line.1, number, ended_again p.line, ← valid.0, read.1) refl, read.2)
node_again naming room n named inner right p (transversal m family) lines rest valid shallow spelled left =
    let words : Line = codes "transversal" ∷ numeral (pos (length family)) ∷ [] in
    let line = line_again p words spelled.0 (omega arith) (numerals_words (length family ∷ []))
    (subst (λ (ls : List Line). AreLeft ls p) spelled.1 left) in
    let read = transversal_again naming n named p.line m family line.0 spelled.0 rest valid spelled.2 line.2 in
    (read.0, rw (line.1, read.1) refl, read.2)
node_again naming room n named inner right p (gammoid vertices arcs sources targets) lines rest valid shallow spelled left =
    let xs = spelled.0 in
    let words : Line = codes "gammoid" ∷ numeral (pos vertices) ∷ numeral (pos (length arcs)) ∷ [] in
    let more = (codes "sources" ∷ numerals xs) ∷ (codes "targets" ∷ numerals targets) ∷ (map (ends_line None (codes "arc")) arcs ++ rest) in
    let line = line_again p words more (omega arith) (numerals_words (vertices ∷ length arcs ∷ []))
    (subst (λ (ls : List Line). AreLeft ls p) spelled.2 left) in
    let read = gammoid_again n p.line vertices arcs sources targets xs line.0 rest valid spelled.1 line.2 in
    (read.0, rw (line.1, read.1) refl, read.2)
node_again naming room n named inner right p (gf2 dim columns) lines rest valid shallow spelled left =
    let number_word : list_all is_word (codes "gf2" ∷ numeral (pos dim) ∷ []) ≡ true =
    and_from (is_word (numeral (pos dim))) true (numeral_word (pos dim)) refl in
    let line = line_again p (codes "gf2" ∷ numeral (pos dim) ∷ []) (map (column_line dim) columns ++ rest) (omega arith) number_word
    (subst (λ (ls : List Line). AreLeft ls p) spelled left) in
    let number = size_again 1 most_digits p.line dim [] valid.1 (omega (arith, valid.2)) in
    let read = items_again (column_at dim) (column_line dim) (IsColumn dim) (column_again dim valid.1) line.0 columns rest valid.3 line.2 in
    (read.0, rw (line.1, number, ended_again p.line, ← valid.0, read.1) refl, read.2)
node_again naming room n named inner right p (dual t) lines rest valid shallow spelled left =
    let line = line_again p (codes "dual" ∷ []) spelled.0 (omega arith) refl (subst (λ (ls : List Line). AreLeft ls p) spelled.1 left) in
    let within = right line.0 t spelled.0 rest valid (omega (arith, shallow)) spelled.2 line.2 in
    (within.0, rw (line.1, ended_again p.line, within.1) refl, within.2)
node_again naming room n named inner right p (truncate cap t) lines rest valid shallow spelled left =
    let number_word : list_all is_word (codes "truncate" ∷ numeral (pos cap) ∷ []) ≡ true =
    and_from (is_word (numeral (pos cap))) true (numeral_word (pos cap)) refl in
    let line = line_again p (codes "truncate" ∷ numeral (pos cap) ∷ []) spelled.0 (omega arith) number_word
    (subst (λ (ls : List Line). AreLeft ls p) spelled.1 left) in
    let number = size_again 0 most_elements p.line cap [] (omega arith) (omega (arith, valid.0)) in
    let within = right line.0 t spelled.0 rest valid.1 (omega (arith, shallow)) spelled.2 line.2 in
    (within.0, rw (line.1, number, ended_again p.line, within.1) refl, within.2)
node_again naming room n named inner right p (restrict kept t) lines rest valid shallow spelled left =
    let xs = spelled.0 in
    let words = words_for-words naming n named xs (listed_below n xs kept valid.0 spelled.2) in
    let line = line_again p (codes "restrict" ∷ words_for naming xs) spelled.1 (omega arith) words
    (subst (λ (ls : List Line). AreLeft ls p) spelled.3 left) in
    let set = set_again naming n named p.line [] kept xs valid.0 spelled.2 (λ x h. refl) in
    let within = right line.0 t spelled.1 rest valid.1 (omega (arith, shallow)) spelled.4 line.2 in
    (within.0, rw (line.1, set, within.1) refl, within.2)
node_again naming room n named inner right p (contract away t) lines rest valid shallow spelled left =
    let xs = spelled.0 in
    let words = words_for-words naming n named xs (listed_below n xs away valid.0 spelled.2) in
    let line = line_again p (codes "contract" ∷ words_for naming xs) spelled.1 (omega arith) words
    (subst (λ (ls : List Line). AreLeft ls p) spelled.3 left) in
    let set = set_again naming n named p.line [] away xs valid.0 spelled.2 (λ x h. refl) in
    let within = right line.0 t spelled.1 rest valid.1 (omega (arith, shallow)) spelled.4 line.2 in
    (within.0, rw (line.1, set, within.1) refl, within.2)
node_again naming room n named inner right p (union ts) lines rest valid shallow spelled left =
    let words : Line = codes "union" ∷ numeral (pos (tree_count ts)) ∷ [] in
    let line = line_again p words spelled.0 (omega arith) (numerals_words (tree_count ts ∷ []))
    (subst (λ (ls : List Line). AreLeft ls p) spelled.1 left) in
    let number = size_again 1 most_matroids p.line (tree_count ts) [] valid.0 (omega (arith, valid.1)) in
    let read = trees_again naming room n inner right line.0 ts spelled.0 rest valid.2 (omega (arith, shallow)) spelled.2 line.2 in
    (read.0, rw (line.1, number, ended_again p.line, read.2, read.3) refl, read.4)

-- a matroid stands in itself
depth_some : (tree : Tree) → 1 ≤ depth tree
depth_some (uniform m cap) = omega arith
depth_some _ = omega arith

within_again : (room : ℕ) (naming : Naming) (n : ℕ) → IsNaming n naming → SpelledIsRead naming room n (matroid_within room naming n)
unfolding matroid_within
within_again zero naming n named p tree lines rest valid shallow spelled left = absurd (omega (arith, shallow, depth_some tree))
within_again (suc room) naming n named p tree lines rest valid shallow spelled left =
    node_again naming room n named (matroid_within room naming n) (within_again room naming n named) p tree lines rest valid shallow spelled left

pub matroid_again : (naming : Naming) (n : ℕ) → IsNaming n naming → (p : LinesLeft) (tree : Tree) (lines rest : List Line)
    → IsValidMatroid n tree → MatroidLines naming tree lines rest
    → AreLeft lines p
    → (q : LinesLeft) × (matroid_at naming n p ≡ Ok (tree, q)) × AreLeft rest q
matroid_again naming n named p tree lines rest valid spelled left = within_again deepest naming n named p tree lines rest valid.0 valid.1 spelled left
