-- Spanning trees and arborescences, and what excludes them: what is read is spelled so, and what is spelled so is read.
use Rattle.mat_cert.proofs.Common.{◌≡◌, ℕ, ◌≤◌, pos, neg_ℤ, eqb, cond, List, [], ◌∷◌, ◌++◌, length, Result, Ok, Err, refl, ap, sym, subst, ◌∙◌, arith, codes, bytes_eq, IsSet, Weight, Line, numeral, numerals, weight_word, end_line, members_line, weights_line, WordsLeft, LinesLeft, ◌>>=◌, found-same}
use Rattle.mat_cert.proofs.Common.{bind_found, size_again, weight_at_again, AreLeft, UnknownWord, Fault, largest_number, most_vertices, most_elements, most_trees, Certificate, trees, trees_none, arbor, unreached, disjoint, disjoint_none, AreRangedTrees, AreRangedSets, AreRangedNone}
use Rattle.mat_cert.proofs.Common.{IsRangedArborescence, IsRangedUnreached, sets_lines, found_trees_at, classes_at, trees_at, arbor_at, unreached_at, arborescence_at, entered_at, disjoint_at}
use Rattle.mat_words.specs.Reading as any_text
use Rattle.mat_cert.proofs.WordLaws.{has_words_found, has_words_again, whole_line, then_words, word_read, size_read, weight_read}
use Rattle.mat_cert.proofs.LineLaws.{IsReadAgain, set_found, set_again, part_found, part_again}
use Rattle.mat_cert.proofs.ListLaws.{sets_found, sets_again}
use Rattle.mat_cert.proofs.HeaderLaws.{trees_header_found, trees_header_again, classes_header_found, classes_header_again}
use Rattle.mat_cert.proofs.HeaderLaws.{entered_header_found, entered_header_again}
use Rattle.mat_cert.proofs.AnswerReading.{IsCommandRead, answer_read, ranged_sets, by_word, by_test}

-- ---- trees that are there

-- the number of elements and the trees were read
record AreTreesRead (words : WordsLeft) (p : LinesLeft) (found : ℕ × List (List ℕ) × LinesLeft) : Type 0 where
  in_range : AreRangedTrees found.0 found.1
  cut : words.words ≡ numerals (found.0 ∷ length found.1 ∷ [])
  spelled : (rest : List Line) → AreLeft rest found.2 → AreLeft (sets_lines (codes "tree") found.1 ++ rest) p

trees_read : (words : WordsLeft) (p : LinesLeft) (found : ℕ × List (List ℕ) × LinesLeft) → found_trees_at words p ≡ Ok found
    → AreTreesRead words p found
unfolding found_trees_at
trees_read words p found e =
    let header = bind_found {A = ℕ × ℕ} _ _ _ e in
    let sets = bind_found _ _ _ header.2 in
    let n = header.0.0 in
    let head = trees_header_found words header.0 header.1 in
    let read = sets_found (codes "tree") n header.0.1 p sets.0.0 sets.0.1 sets.1 in
    subst (AreTreesRead words p) (found-same (n, sets.0.0, sets.0.1) found sets.2) (record {
      in_range = record {
        few = head.in_range.0;
        sets_in_range = ranged_sets n 1 most_trees header.0.1 sets.0.0 read.in_range head.in_range.1 head.in_range.2;
      };
      cut = head.cut ∙ sym (ap (λ (k : ℕ). numerals (n ∷ k ∷ [])) read.in_range.0);
      spelled = read.spelled;
    })

trees_read_again : (line n : ℕ) (sets : List (List ℕ)) (p : LinesLeft) (rest : List Line) → AreRangedTrees n sets
    → AreLeft (sets_lines (codes "tree") sets ++ rest) p
    → (q : LinesLeft) × (found_trees_at (record { line = line; words = numerals (n ∷ length sets ∷ []) }) p ≡ Ok (n, sets, q)) × AreLeft rest q
unfolding found_trees_at
trees_read_again line n sets p rest ranged left =
    let in_range = ranged.sets_in_range in
    let read = sets_again (codes "tree") n p sets rest refl in_range.each left in
    let header = trees_header_again line n (length sets) ranged.few in_range.enough in_range.no_more in
    (read.0, rw (header, read.1) refl, read.2)

-- ---- trees

classes_found : (words : WordsLeft) (lines : LinesLeft) (answer : Certificate × LinesLeft) → classes_at words lines ≡ Ok answer
    → IsCommandRead (codes "trees") words lines answer
unfolding classes_at
classes_found words lines answer e =
    let header = bind_found {A = ℕ × ℕ × ℕ × ℕ} _ _ _ e in
    let classes = bind_found _ _ _ header.2 in
    let n = header.0.0 in
    let k = header.0.1 in
    let v = header.0.2 in
    let q = header.0.3 in
    let head = classes_header_found words header.0 header.1 in
    let sets = sets_found (codes "class") v q lines classes.0.0 classes.0.1 classes.1 in
    answer_read (codes "trees") words lines answer (trees_none n k v classes.0.0) classes.0.1
    (numerals (n ∷ k ∷ []) ++ codes "none" ∷ numerals (v ∷ length classes.0.0 ∷ []))
    (sets_lines (codes "class") classes.0.0 ++ end_line ∷ []) classes.2
    (head.in_range.0, ranged_sets v 1 v q classes.0.0 sets.in_range head.in_range.1 head.in_range.2)
    (head.cut ∙ sym (ap (λ (i : ℕ). numerals (n ∷ k ∷ []) ++ codes "none" ∷ numerals (v ∷ i ∷ [])) sets.in_range.0))
    refl (sets.spelled (end_line ∷ []))

pub trees_found : (words : WordsLeft) (lines : LinesLeft) (answer : Certificate × LinesLeft) → trees_at words lines ≡ Ok answer
    → IsCommandRead (codes "trees") words lines answer
unfolding trees_at
trees_found words lines answer e =
    by_test (eqb (length words.words) 5) (classes_at words lines)
    (found_trees_at words lines >>= λ found. Ok (trees found.0 found.1, found.2)) answer (classes_found words lines answer) there e
  where
    there : (found_trees_at words lines >>= λ found. Ok (trees found.0 found.1, found.2)) ≡ Ok answer
        → IsCommandRead (codes "trees") words lines answer
    there h =
        let found = bind_found _ _ _ h in
        let read = trees_read words lines found.0 found.1 in
        answer_read (codes "trees") words lines answer (trees found.0.0 found.0.1) found.0.2 (numerals (found.0.0 ∷ length found.0.1 ∷ []))
        (sets_lines (codes "tree") found.0.1 ++ end_line ∷ []) found.2 read.in_range read.cut refl (read.spelled (end_line ∷ []))

pub trees_again : (line n : ℕ) (sets : List (List ℕ)) (p : LinesLeft) → AreRangedTrees n sets
    → AreLeft (sets_lines (codes "tree") sets ++ end_line ∷ []) p
    → IsReadAgain (trees_at (record { line = line; words = numerals (n ∷ length sets ∷ []) }) p) (trees n sets) (end_line ∷ [])
unfolding trees_at
trees_again line n sets p ranged left =
    let read = trees_read_again line n sets p (end_line ∷ []) ranged left in
    (read.0, rw read.1 refl, read.2)

pub trees_none_again : (line n k v : ℕ) (classes : List (List ℕ)) (p : LinesLeft) → AreRangedNone n k v → AreRangedSets v 1 v classes
    → AreLeft (sets_lines (codes "class") classes ++ end_line ∷ []) p
    → IsReadAgain (trees_at (record {
      line = line;
      words = numerals (n ∷ k ∷ []) ++ codes "none" ∷ numerals (v ∷ length classes ∷ []);
    }) p) (trees_none n k v classes) (end_line ∷ [])
unfolding trees_at classes_at
trees_none_again line n k v classes p ranged in_range left =
    let sets = sets_again (codes "class") v p classes (end_line ∷ []) refl in_range.each left in
    let header = classes_header_again line n k v (length classes) ranged in_range.enough in_range.no_more in
    (sets.0, rw (header, sets.1) refl, sets.2)

-- ---- arborescence

-- an arborescence was read behind the number of arcs and `tree`
arbor_found : (all : WordsLeft) (n : ℕ) (words : WordsLeft) (lines : LinesLeft) (answer : Certificate × LinesLeft) → n ≤ most_elements
    → all.words ≡ numeral (pos n) ∷ codes "tree" ∷ words.words → length all.words ≡ 3 → arbor_at n words lines ≡ Ok answer
    → IsCommandRead (codes "arborescence") all lines answer
unfolding arbor_at
arbor_found all n words lines answer few front three e =
    let cost = bind_found _ _ _ e in
    let arcs = bind_found _ _ _ cost.2 in
    let first = bind_found _ _ _ arcs.2 in
    let second = bind_found _ _ _ first.2 in
    let number = weight_read words cost.0.0 cost.0.1 cost.1 in
    let set = set_found (codes "set") n lines arcs.0.0 arcs.0.1 arcs.1 in
    let one = part_found (codes "first") n arcs.0.1 first.0.0 first.0.1 first.1 in
    let two = part_found (codes "second") n first.0.1 second.0.0 second.0.1 second.1 in
    let last = weights_line (codes "second") second.0.0 ∷ end_line ∷ [] in
    let behind = weights_line (codes "first") first.0.0 ∷ last in
    let spelling = whole_line (numeral (pos n) ∷ codes "tree" ∷ weight_word cost.0.0 ∷ []) cost.0.1.words all.words
    (front ∙ ap (λ (t : Line). numeral (pos n) ∷ codes "tree" ∷ t) number.cut) three in
    answer_read (codes "arborescence") all lines answer (arbor n cost.0.0 arcs.0.0 first.0.0 second.0.0) second.0.1
    (numeral (pos n) ∷ codes "tree" ∷ weight_word cost.0.0 ∷ []) (members_line (codes "set") arcs.0.0 ∷ behind) second.2 (record {
      few = few;
      cost_in_range = number.valid;
      arcs_in_range = set.in_range;
      first_in_range = one.in_range;
      second_in_range = two.in_range;
    })
    spelling refl (λ left. set.spelled behind (one.spelled last (two.spelled (end_line ∷ []) left)))

-- a set that is not reached was read behind the number of arcs and `unreached`
unreached_found : (all : WordsLeft) (n : ℕ) (words : WordsLeft) (lines : LinesLeft) (answer : Certificate × LinesLeft) → n ≤ most_elements
    → all.words ≡ numeral (pos n) ∷ codes "unreached" ∷ words.words → length all.words ≡ 3 → unreached_at n words lines ≡ Ok answer
    → IsCommandRead (codes "arborescence") all lines answer
unfolding unreached_at
unreached_found all n words lines answer few front three e =
    let vertices = bind_found {A = ℕ × WordsLeft} _ _ _ e in
    let set = bind_found _ _ _ vertices.2 in
    let v = vertices.0.0 in
    let number = size_read 1 most_vertices words v vertices.0.1 vertices.1 in
    let read = set_found (codes "vertices") v lines set.0.0 set.0.1 set.1 in
    let spelling = whole_line (numeral (pos n) ∷ codes "unreached" ∷ numeral (pos v) ∷ []) vertices.0.1.words all.words
    (front ∙ ap (λ (t : Line). numeral (pos n) ∷ codes "unreached" ∷ t) number.cut) three in
    answer_read (codes "arborescence") all lines answer (unreached n v set.0.0) set.0.1 (numeral (pos n) ∷ codes "unreached" ∷ numeral (pos v) ∷ [])
    (members_line (codes "vertices") set.0.0 ∷ end_line ∷ []) set.2 (record {
      few = few;
      vertices_in_range = record { some = number.least; few = number.most };
      set_in_range = read.in_range;
    })
    spelling refl (read.spelled (end_line ∷ []))

pub arborescence_found : (words : WordsLeft) (lines : LinesLeft) (answer : Certificate × LinesLeft) → arborescence_at words lines ≡ Ok answer
    → IsCommandRead (codes "arborescence") words lines answer
unfolding arborescence_at
arborescence_found words lines answer e =
    let counted = bind_found _ _ _ e in
    let count = bind_found {A = ℕ × WordsLeft} _ _ _ counted.2 in
    let word = bind_found _ _ _ count.2 in
    let n = count.0.0 in
    let three = has_words_found 3 words counted.0 counted.1 in
    let first = size_read 0 most_elements words n count.0.1 count.1 in
    let second = word_read count.0.1 word.0.0 word.0.1 word.1 in
    let front : (name : List ℕ) → word.0.0 ≡ name → words.words ≡ numeral (pos n) ∷ name ∷ word.0.1.words = λ name same.
    then_words first.cut second ∙ ap (λ (t : List ℕ). numeral (pos n) ∷ t ∷ word.0.1.words) same in
    let rest : Result (Certificate × LinesLeft) Fault = cond (bytes_eq word.0.0 (codes "unreached")) (unreached_at n word.0.1 lines)
    (Err (UnknownWord, words.line)) in
    by_word word.0.0 (codes "tree") (arbor_at n word.0.1 lines) rest answer
    (λ same h. arbor_found words n word.0.1 lines answer first.most (front (codes "tree") same) three h)
    (λ h. by_word word.0.0 (codes "unreached") (unreached_at n word.0.1 lines) (Err (UnknownWord, words.line)) answer
    (λ same g. unreached_found words n word.0.1 lines answer first.most (front (codes "unreached") same) three g) (λ g. absurd cc) h) word.2

pub arbor_again : (line n : ℕ) (cost : Weight) (arcs : List ℕ) (first second : List Weight) (p : LinesLeft)
    → IsRangedArborescence n cost arcs first second
    → AreLeft
    (members_line (codes "set") arcs ∷ weights_line (codes "first") first ∷ weights_line (codes "second") second ∷ end_line ∷ []) p
    → IsReadAgain (arborescence_at (record { line = line; words = numeral (pos n) ∷ codes "tree" ∷ weight_word cost ∷ [] }) p)
    (arbor n cost arcs first second) (end_line ∷ [])
unfolding arborescence_at arbor_at any_text.word_at
arbor_again line n cost arcs first second p ranged left =
    let last = weights_line (codes "second") second ∷ end_line ∷ [] in
    let set = set_again (codes "set") n p arcs (weights_line (codes "first") first ∷ last) refl ranged.arcs_in_range left in
    let one = part_again (codes "first") n set.0 first last refl ranged.first_in_range set.2 in
    let two = part_again (codes "second") n one.0 second (end_line ∷ []) refl ranged.second_in_range one.2 in
    let counted = has_words_again 3 line (numeral (pos n) ∷ codes "tree" ∷ weight_word cost ∷ []) refl in
    let count = size_again 0 most_elements line n (codes "tree" ∷ weight_word cost ∷ []) (omega arith) ranged.few in
    let number = weight_at_again (neg_ℤ (pos largest_number)) (pos largest_number) line cost [] ranged.cost_in_range in
    (two.0, rw (counted, count, number, set.1, one.1, two.1) refl, two.2)

pub unreached_again : (line n v : ℕ) (set : List ℕ) (p : LinesLeft) → IsRangedUnreached n v set
    → AreLeft (members_line (codes "vertices") set ∷ end_line ∷ []) p
    → IsReadAgain (arborescence_at (record { line = line; words = numeral (pos n) ∷ codes "unreached" ∷ numeral (pos v) ∷ [] }) p)
    (unreached n v set) (end_line ∷ [])
unfolding arborescence_at unreached_at any_text.word_at
unreached_again line n v set p ranged left =
    let read = set_again (codes "vertices") v p set (end_line ∷ []) refl ranged.set_in_range left in
    let counted = has_words_again 3 line (numeral (pos n) ∷ codes "unreached" ∷ numeral (pos v) ∷ []) refl in
    let count = size_again 0 most_elements line n (codes "unreached" ∷ numeral (pos v) ∷ []) (omega arith) ranged.few in
    let number = size_again 1 most_vertices line v [] ranged.vertices_in_range.some ranged.vertices_in_range.few in
    (read.0, rw (counted, count, number, read.1) refl, read.2)

-- ---- disjoint

entered_found : (words : WordsLeft) (lines : LinesLeft) (answer : Certificate × LinesLeft) → entered_at words lines ≡ Ok answer
    → IsCommandRead (codes "disjoint") words lines answer
unfolding entered_at
entered_found words lines answer e =
    let header = bind_found {A = ℕ × ℕ × ℕ} _ _ _ e in
    let set = bind_found _ _ _ header.2 in
    let n = header.0.0 in
    let k = header.0.1 in
    let v = header.0.2 in
    let head = entered_header_found words header.0 header.1 in
    let read = set_found (codes "vertices") v lines set.0.0 set.0.1 set.1 in
    answer_read (codes "disjoint") words lines answer (disjoint_none n k v set.0.0) set.0.1
    (numerals (n ∷ k ∷ []) ++ codes "none" ∷ numeral (pos v) ∷ []) (members_line (codes "vertices") set.0.0 ∷ end_line ∷ []) set.2
    (head.in_range, read.in_range) head.cut refl (read.spelled (end_line ∷ []))

pub disjoint_found : (words : WordsLeft) (lines : LinesLeft) (answer : Certificate × LinesLeft) → disjoint_at words lines ≡ Ok answer
    → IsCommandRead (codes "disjoint") words lines answer
unfolding disjoint_at
disjoint_found words lines answer e =
    by_test (eqb (length words.words) 4) (entered_at words lines)
    (found_trees_at words lines >>= λ found. Ok (disjoint found.0 found.1, found.2)) answer (entered_found words lines answer) there e
  where
    there : (found_trees_at words lines >>= λ found. Ok (disjoint found.0 found.1, found.2)) ≡ Ok answer
        → IsCommandRead (codes "disjoint") words lines answer
    there h =
        let found = bind_found _ _ _ h in
        let read = trees_read words lines found.0 found.1 in
        answer_read (codes "disjoint") words lines answer (disjoint found.0.0 found.0.1) found.0.2 (numerals (found.0.0 ∷ length found.0.1 ∷ []))
        (sets_lines (codes "tree") found.0.1 ++ end_line ∷ []) found.2 read.in_range read.cut refl (read.spelled (end_line ∷ []))

pub disjoint_again : (line n : ℕ) (sets : List (List ℕ)) (p : LinesLeft) → AreRangedTrees n sets
    → AreLeft (sets_lines (codes "tree") sets ++ end_line ∷ []) p
    → IsReadAgain (disjoint_at (record { line = line; words = numerals (n ∷ length sets ∷ []) }) p) (disjoint n sets) (end_line ∷ [])
unfolding disjoint_at
disjoint_again line n sets p ranged left =
    let read = trees_read_again line n sets p (end_line ∷ []) ranged left in
    (read.0, rw read.1 refl, read.2)

pub disjoint_none_again : (line n k v : ℕ) (set : List ℕ) (p : LinesLeft) → AreRangedNone n k v → IsSet v set
    → AreLeft (members_line (codes "vertices") set ∷ end_line ∷ []) p
    → IsReadAgain (disjoint_at (record { line = line; words = numerals (n ∷ k ∷ []) ++ codes "none" ∷ numeral (pos v) ∷ [] }) p)
    (disjoint_none n k v set) (end_line ∷ [])
unfolding disjoint_at entered_at
disjoint_none_again line n k v set p ranged in_range left =
    let read = set_again (codes "vertices") v p set (end_line ∷ []) refl in_range left in
    let header = entered_header_again line n k v ranged in
    (read.0, rw (header, read.1) refl, read.2)
