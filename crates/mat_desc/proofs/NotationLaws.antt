-- Names of elements and of vertices, and the words that stand for numbers: what is read is spelled so, and what is spelled so is read.
use Rattle.mat_desc.proofs.Common.{◌≡◌, ℕ, zero, suc, ◌-◌, ◌+◌, ◌≤◌, ◌<◌, ◌^◌, true, cond, List, [], ◌∷◌, ◌++◌, length, get_or, pos, Option, Some, None, Result, Ok, Err, refl, sym, ap, subst, ◌∙◌, arith, codes, nat_lt, and_from, and_parts, append_assoc, append-nil, length-append, length_push}
use Rattle.mat_desc.proofs.Common.{AllBelow, WordsLeft, LinesLeft, Line, longest_name, is_name, name_index, is_among, AreNames, is_word, AreLeft, keyed_again, name_index-found, name_index-at, is_among-later, is_name-short, is_name-parts, name_word, names_words, no_names, names-push, numeral_word}
use Rattle.mat_desc.proofs.Common.{found-same, bind_found, refused_found, below_again, word_again, Version, NameSpelling, Repeated, Fails, Fault, refusal_of, vertex_name_lines, name_lines, Naming, word_for, words_for, IsNaming, Notation, numbers, names, element_naming, vertex_naming, keyed_at}
use Rattle.mat_desc.proofs.Common.{word_at, ended_at, named_as, member_at, names_from, names_line_at, vertex_names_at, notation_at}
use Rattle.std.specs.List.{list_all}
use Rattle.std.proofs.Math.Seq.{get_or-append_seam}
use Rattle.mat_words.specs.Reading as reading
use Rattle.mat_words.specs.declared.refusal.{ReadingFault.{ReadingFault}, Refusal.{Refusal}}
use Rattle.mat_words.specs.declared.refusal.Refusal.TheVariants as readings
use Rattle.mat_desc.specs.declared.read.keywords.Version.TheVariants as versions
use Rattle.mat_desc.proofs.Told.{keyed_found, keyed_words, word_found, word_line, below_found, ended_found, ended_again}

-- ---- a number, by its numeral or by its name

-- a word was read as a number below n: it is the word for the number
pub record IsMemberRead (naming : Naming) (n : ℕ) (w : WordsLeft) (x : ℕ) (q : WordsLeft) : Type 0 where
  pub cut : w.words ≡ word_for naming x ∷ q.words
  pub most : x < n
  pub line : q.line ≡ w.line

-- a name that was found is at this place
pub named_found : (rest : WordsLeft) (o : Option ℕ) (x : ℕ) (q : WordsLeft) → named_as rest o ≡ Ok (x, q) → (o ≡ Some x) × (rest ≡ q)
named_found rest None x q e = absurd cc
named_found rest (Some y) x q e =
    let same = found-same (y, rest) (x, q) e in
    (ap (λ (p : ℕ × WordsLeft). Some p.0) same, ap (λ (p : ℕ × WordsLeft). p.1) same)

pub member_found : (naming : Naming) (n : ℕ) → IsNaming n naming → (w : WordsLeft) (x : ℕ) (q : WordsLeft)
    → member_at naming n w ≡ Ok (x, q) → IsMemberRead naming n w x q
unfolding member_at
member_found None n is w x q e =
    let read = below_found n w x q e in
    record { cut = read.cut; most = read.most; line = read.line }
member_found (Some listed) n is w x q e =
    let word = bind_found (word_at w) (λ word. named_as word.1 (name_index listed word.0)) (x, q) e in
    let named = named_found word.0.1 (name_index listed word.0.0) x q word.2 in
    let there = name_index-found listed word.0.0 x named.0 in
    record {
      cut = word_found w word.0.0 word.0.1 word.1 ∙ rw (there.1, named.1) refl;
      most = subst (λ (k : ℕ). x < k) is.1 there.0;
      line = sym (ap (λ (p : WordsLeft). p.line) named.1) ∙ word_line w word.0.0 word.0.1 word.1;
    }

pub member_again : (naming : Naming) (n : ℕ) → IsNaming n naming → (line x : ℕ) (words : List (List ℕ)) → x < n
    → member_at naming n (record { line = line; words = word_for naming x ∷ words }) ≡ Ok (x, record { line = line; words = words })
unfolding member_at
member_again None n is line x words lt = rw (below_again n line x words lt) refl
member_again (Some listed) n is line x words lt =
    let inside : x < length listed = subst (λ (k : ℕ). x < k) (sym is.1) lt in
    rw (word_again line (get_or listed x []) words, name_index-at listed x is.0.different inside) refl

-- the word for a number is a word
pub word_for-word : (naming : Naming) (n : ℕ) → IsNaming n naming → (x : ℕ) → x < n → is_word (word_for naming x) ≡ true
word_for-word None n is x lt = numeral_word (pos x)
word_for-word (Some listed) n is x lt = name_word listed x is.0.each (subst (λ (k : ℕ). x < k) (sym is.1) lt)

pub words_for-words : (naming : Naming) (n : ℕ) → IsNaming n naming → (xs : List ℕ) → AllBelow n xs
    → list_all is_word (words_for naming xs) ≡ true
words_for-words naming n is [] below = refl
words_for-words naming n is (x ∷ xs) below =
    and_from (is_word (word_for naming x)) (list_all is_word (words_for naming xs)) (word_for-word naming n is x below.0)
    (words_for-words naming n is xs below.1)

-- ---- names that are listed

-- the first of some words is a word, and so are those behind it
pub words_cut : (words : List (List ℕ)) (word : List ℕ) (after : List (List ℕ)) → words ≡ word ∷ after → list_all is_word words ≡ true
    → (is_word word ≡ true) × (list_all is_word after ≡ true)
words_cut words word after cut spelled =
    and_parts (is_word word) (list_all is_word after) (subst (λ (ws : List (List ℕ)). list_all is_word ws ≡ true) cut spelled)

-- as many names were read behind those that are listed
record AreNamesRead (many : ℕ) (listed : List (List ℕ)) (p : WordsLeft) (all : List (List ℕ)) (q : WordsLeft) : Type 0 where
  added : List (List ℕ)
  cut : p.words ≡ added ++ q.words
  count : length added ≡ many
  whole : all ≡ listed ++ added
  lawful : AreNames all

-- one more name in front
name_more : (many : ℕ) (listed : List (List ℕ)) (word : List ℕ) (p after : WordsLeft) (all : List (List ℕ)) (q : WordsLeft)
    → p.words ≡ word ∷ after.words → AreNamesRead many (listed ++ word ∷ []) after all q → AreNamesRead (suc many) listed p all q
name_more many listed word p after all q cut read = record {
  added = word ∷ read.added;
  cut = cut ∙ ap (λ (ws : List (List ℕ)). word ∷ ws) read.cut;
  count = ap suc read.count;
  whole = read.whole ∙ append_assoc listed (word ∷ []) read.added;
  lawful = read.lawful;
}

names_found : (many : ℕ) (listed : List (List ℕ)) (p : WordsLeft) (all : List (List ℕ)) (q : WordsLeft) → AreNames listed
    → length listed + many < 2 ^ 32 → list_all is_word p.words ≡ true → names_from many listed p ≡ Ok (all, q)
    → AreNamesRead many listed p all q
unfolding names_from
names_found zero listed p all q lawful few words e =
    let same = found-same (listed, p) (all, q) e in
    subst (λ (r : List (List ℕ) × WordsLeft). AreNamesRead 0 listed p r.0 r.1) same
    (record { added = []; cut = refl; count = refl; whole = sym (append-nil listed); lawful = lawful })
names_found (suc many) listed p all q lawful few words e =
    let word = bind_found (word_at p) _ (all, q) e in
    let short = refused_found (nat_lt longest_name (length word.0.0)) (NameSpelling, p.line) _ (all, q) word.2 in
    let fresh = refused_found (is_among listed word.0.0) (Repeated, p.line) _ (all, q) short.1 in
    let cut : p.words ≡ word.0.0 ∷ word.0.1.words = word_found p word.0.0 word.0.1 word.1 in
    let parts = words_cut p.words word.0.0 word.0.1.words cut words in
    let longer : length (listed ++ word.0.0 ∷ []) ≡ length listed + 1 = length_push listed word.0.0 in
    let pushed = names-push listed word.0.0 lawful (is_name-short word.0.0 parts.0 short.0) fresh.0 (omega arith) in
    name_more many listed word.0.0 p word.0.1 all q cut
    (names_found many (listed ++ word.0.0 ∷ []) word.0.1 all q pushed (omega arith) parts.1 fresh.1)

names_again : (line : ℕ) (listed added : List (List ℕ)) → AreNames (listed ++ added)
    → names_from (length added) listed (record { line = line; words = added })
    ≡ Ok (listed ++ added, record { line = line; words = [] })
unfolding names_from
names_again line listed [] lawful = rw (append-nil listed) refl
names_again line listed (word ∷ added) lawful =
    let whole : (listed ++ word ∷ []) ++ added ≡ listed ++ word ∷ added = append_assoc listed (word ∷ []) added in
    let many : length (listed ++ word ∷ added) ≡ length listed + suc (length added) = length-append listed (word ∷ added) in
    let name : is_name word ≡ true = subst (λ (w : List ℕ). is_name w ≡ true) (get_or-append_seam listed word added [])
    (lawful.each (length listed) [] (omega arith)) in
    let rest = names_again line (listed ++ word ∷ []) added (subst AreNames (sym whole) lawful) in
    rw (word_again line word added, (is_name-parts word name).1, is_among-later listed added word lawful.different)
    (rest ∙ ap (λ (all : List (List ℕ)). Ok (all, record { line = line; words = [] })) whole)

-- as many names were read, which stand in these lines
pub record AreListed (lines : List (List ℕ) → List Line) (many : ℕ) (p : LinesLeft) (listed : List (List ℕ)) (q : LinesLeft) : Type 0 where
  pub count : length listed ≡ many
  pub lawful : AreNames listed
  pub spelled : (rest : List Line) → AreLeft rest q → AreLeft (lines listed ++ rest) p

-- the line of this keyword and names
abbrev pub names_lines : List ℕ → List (List ℕ) → List Line
names_lines key listed = (key ∷ listed) ∷ []

pub names_line_found : (key : List ℕ) (many : ℕ) → many < 2 ^ 32 → (p : LinesLeft) (listed : List (List ℕ)) (q : LinesLeft)
    → names_line_at key many p ≡ Ok (listed, q) → AreListed (names_lines key) many p listed q
unfolding names_line_at
names_line_found key many few p listed q e =
    let line = bind_found (keyed_at key p) _ (listed, q) e in
    let all = bind_found (names_from many [] line.0.0) _ (listed, q) line.2 in
    let end = bind_found (ended_at all.0.1) _ (listed, q) all.2 in
    let same = found-same (all.0.0, line.0.1) (listed, q) end.2 in
    let read = names_found many [] line.0.0 all.0.0 all.0.1 no_names (omega (arith, few)) (keyed_words key p line.0.0 line.0.1 line.1) all.1 in
    let none : all.0.1.words ≡ [] = ended_found all.0.1 end.0 end.1 in
    let words : line.0.0.words ≡ all.0.0 = read.cut ∙ rw none (append-nil read.added) ∙ sym read.whole in
    let one : AreListed (names_lines key) many p all.0.0 line.0.1 = record {
      count = ap length read.whole ∙ read.count;
      lawful = read.lawful;
      spelled = λ rest left. subst (λ (ws : Line). AreLeft ((key ∷ ws) ∷ rest) p) words
          (keyed_found key p line.0.0 line.0.1 line.1 rest left);
    } in
    subst (λ (r : List (List ℕ) × LinesLeft). AreListed (names_lines key) many p r.0 r.1) same one

names_line_again : (key : List ℕ) → is_word key ≡ true → (many : ℕ) (listed : List (List ℕ)) → AreNames listed → length listed ≡ many
    → (p : LinesLeft) (rest : List Line) → AreLeft ((key ∷ listed) ∷ rest) p
    → (q : LinesLeft) × (names_line_at key many p ≡ Ok (listed, q)) × AreLeft rest q
unfolding names_line_at
names_line_again key keyword many listed lawful count p rest left =
    let line = keyed_again key p listed rest keyword (names_words listed lawful.each) left in
    (line.0, rw (← count, line.1, names_again p.line [] listed lawful, ended_again p.line) refl, line.2)

-- ---- the names of vertices

pub vertex_names_found : (v : ℕ) → v < 2 ^ 32 → (p : LinesLeft) (listed : List (List ℕ)) (q : LinesLeft)
    → vertex_names_at v p ≡ Ok (listed, q) → AreListed vertex_name_lines v p listed q
unfolding vertex_names_at
vertex_names_found zero few p listed q e =
    subst (λ (r : List (List ℕ) × LinesLeft). AreListed vertex_name_lines 0 p r.0 r.1) (found-same ([], p) (listed, q) e)
    (record { count = refl; lawful = no_names; spelled = λ rest left. left })
vertex_names_found (suc v) few p listed q e = some listed (names_line_found (codes "vertices") (suc v) few p listed q e)
  where
    some : (all : List (List ℕ)) → AreListed (names_lines (codes "vertices")) (suc v) p all q → AreListed vertex_name_lines (suc v) p all q
    some [] read = let none : 0 ≡ suc v = read.count in absurd (omega arith)
    some (name ∷ all) read = record { count = read.count; lawful = read.lawful; spelled = read.spelled }

vertex_names_again : (v : ℕ) (listed : List (List ℕ)) → AreNames listed → length listed ≡ v → (p : LinesLeft) (rest : List Line)
    → AreLeft (vertex_name_lines listed ++ rest) p
    → (q : LinesLeft) × (vertex_names_at v p ≡ Ok (listed, q)) × AreLeft rest q
unfolding vertex_names_at
vertex_names_again zero [] lawful count p rest left = (p, refl, left)
vertex_names_again zero (name ∷ listed) lawful count p rest left = absurd (omega arith)
vertex_names_again (suc v) [] lawful count p rest left = absurd (omega arith)
vertex_names_again (suc v) (name ∷ listed) lawful count p rest left =
    names_line_again (codes "vertices") refl (suc v) (name ∷ listed) lawful count p rest left

-- ---- the notation of a problem

-- the version with this notation
abbrev pub version_for : Notation → Version
version_for numbers = versions.One
version_for (names elements vertices) = versions.Two

-- the notation of so many elements and vertices were read
pub record IsNotationRead (version : Version) (n v : ℕ) (p : LinesLeft) (notation : Notation) (q : LinesLeft) : Type 0 where
  pub elements : IsNaming n (element_naming notation)
  pub vertices : IsNaming v (vertex_naming notation)
  pub same : version ≡ version_for notation
  pub spelled : (rest : List Line) → AreLeft rest q → AreLeft (name_lines notation ++ rest) p

pub notation_found : (version : Version) (n v : ℕ) → n < 2 ^ 32 → v < 2 ^ 32 → (p : LinesLeft) (notation : Notation) (q : LinesLeft)
    → notation_at version n v p ≡ Ok (notation, q) → IsNotationRead version n v p notation q
unfolding notation_at
notation_found versions.One n v many_elements many_vertices p notation q e =
    subst (λ (r : Notation × LinesLeft). IsNotationRead versions.One n v p r.0 r.1) (found-same (numbers, p) (notation, q) e)
    (record { elements = tt; vertices = tt; same = refl; spelled = λ rest left. left })
notation_found versions.Two n v many_elements many_vertices p notation q e =
    let first = bind_found (names_line_at (codes "elements") n p) _ (notation, q) e in
    let second = bind_found (vertex_names_at v first.0.1) _ (notation, q) first.2 in
    let same = found-same (names first.0.0 second.0.0, second.0.1) (notation, q) second.2 in
    let one = names_line_found (codes "elements") n many_elements p first.0.0 first.0.1 first.1 in
    let two = vertex_names_found v many_vertices first.0.1 second.0.0 second.0.1 second.1 in
    subst (λ (r : Notation × LinesLeft). IsNotationRead versions.Two n v p r.0 r.1) same
    (record {
      elements = (one.lawful, one.count);
      vertices = (two.lawful, two.count);
      same = refl;
      spelled = λ rest left. one.spelled (vertex_name_lines second.0.0 ++ rest) (two.spelled rest left);
    })

pub notation_again : (notation : Notation) (n v : ℕ) → IsNaming n (element_naming notation) → IsNaming v (vertex_naming notation)
    → (p : LinesLeft) (rest : List Line) → AreLeft (name_lines notation ++ rest) p
    → (q : LinesLeft) × (notation_at (version_for notation) n v p ≡ Ok (notation, q)) × AreLeft rest q
unfolding notation_at
notation_again numbers n v elements vertices p rest left = (p, refl, left)
notation_again (names elements vertices) n v is_elements is_vertices p rest left =
    let first = names_line_again (codes "elements") refl n elements is_elements.0 is_elements.1 p (vertex_name_lines vertices ++ rest) left in
    let second = vertex_names_again v vertices is_vertices.0 is_vertices.1 first.0 rest first.2 in
    (second.0, rw (first.1, second.1) refl, second.2)

-- ---- names as a loop reads them

module _ (many i : ℕ) (listed : List (List ℕ)) (p : WordsLeft) (total : Result (List (List ℕ) × WordsLeft) Fault)
    (so_far : names_from (many - i) listed p ≡ total) where
  -- the next word is there
  pub names_next : (word : List ℕ) (q : WordsLeft) → i < many → reading.word_at p ≡ Ok (word, q)
      → total ≡ cond (nat_lt longest_name (length word)) (Err (NameSpelling, p.line))
      (cond (is_among listed word) (Err (Repeated, p.line)) (names_from (many - (i + 1)) (listed ++ word ∷ []) q))
  unfolding names_from
  names_next word q lt read =
      let left : many - i ≡ suc (many - (i + 1)) = omega arith in
      sym so_far ∙ rw (left, read) refl

  -- the next word is missing
  pub names_fail : (refusal : Refusal ReadingFault) → i < many → reading.Fails refusal (reading.word_at p) → Fails (refusal_of refusal) total
  unfolding names_from
  names_fail readings.Memory lt failed = tt
  names_fail (readings.Fault kind line) lt failed =
      let left : many - i ≡ suc (many - (i + 1)) = omega arith in
      sym so_far ∙ rw (left, failed) refl

  -- all names are read
  pub names_done : many ≤ i → total ≡ Ok (listed, p)
  unfolding names_from
  names_done le =
      let left : many - i ≡ 0 = omega arith in
      sym so_far ∙ rw left refl
