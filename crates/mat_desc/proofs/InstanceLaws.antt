-- Whole descriptions: a text that is read spells the problem that was read, and a text that spells a problem is read as that problem.
use Rattle.mat_desc.proofs.Common.{◌≡◌, ℕ, Bool, true, false, cond, Result, List, [], ◌∷◌, Option, Some, None, Ok, refl, sym, ap, subst, ◌∙◌, arith, codes, bytes_eq, and_from, bytes_eq-Decides, Line, lines_of, text_of, is_word, TooManyLines, Form, Version, WordsLeft, LinesLeft, is_closed, ◌>>=◌}
use Rattle.mat_desc.proofs.Common.{Fault, WrittenInstance, line_at, word_at, ended_at, keyed_at, version_of, version_named, version_at, end_at, closed_at, ending_at, form_of, form_at, instance_at, description_at, written_of, read_of, named_of, Instance, Notation, numbers, names, IsNotationFor}
use Rattle.mat_desc.proofs.Common.{NamedInstance, named_by, end_line, version_line, InstanceLines, Spells, SpellsNamed, IsValid, found, found-same, bind_found, test_found, same_text, AreLeft, line_again, keyed_again, known_line, closed_left}
use Rattle.std.specs.List.{list_all}
use Rattle.mat_desc.specs.declared.read.keywords.Version.TheVariants as versions
use Rattle.mat_words.specs.Reading.{word_at as word_read}
use Rattle.mat_desc.proofs.Told.{word_found, ended_found, ended_again, line_found, keyed_found}
use Rattle.mat_desc.proofs.NotationLaws.{version_for}
use Rattle.mat_desc.proofs.FormLaws.{form_spelling, form_found, form_of-form_spelling, form_word, written_as, any_form_found, any_form_spelled}

-- ---- the lines round a problem

-- the word of a version
abbrev version_spelling : Version → List ℕ
version_spelling versions.One = codes "1"
version_spelling versions.Two = codes "2"

some_version : (a b : Version) → Some a ≡ Some b → a ≡ b
some_version a b e = cc

version_word_found : (word : List ℕ) (version : Version) → version_of word ≡ Some version → word ≡ version_spelling version
version_word_found word version is =
    choose (bytes_eq word (codes "1")) (bytes_eq word (codes "2")) (bytes_eq-Decides word (codes "1")).0 (bytes_eq-Decides word (codes "2")).0 is
  where
    choose : (a b : Bool) → (a ≡ true → word ≡ codes "1") → (b ≡ true → word ≡ codes "2")
        → cond a (Some versions.One) (cond b (Some versions.Two) None) ≡ Some version → word ≡ version_spelling version
    choose true b p q h = p refl ∙ ap version_spelling (some_version versions.One version h)
    choose false true p q h = q refl ∙ ap version_spelling (some_version versions.Two version h)
    choose false false p q h = absurd cc

-- a version that was named, with no word behind it
version_named_found : (line : ℕ) (o : Option Version) (words : WordsLeft) (lines : LinesLeft) (version : Version) (q : LinesLeft)
    → version_named line o words lines ≡ Ok (version, q) → (o ≡ Some version) × (words.words ≡ []) × (lines ≡ q)
version_named_found line None words lines version q e = absurd cc
version_named_found line (Some named) words lines version q e =
    let end = bind_found (ended_at words) _ (version, q) e in
    let same = found-same (named, lines) (version, q) end.2 in (
      ap (λ (x : Version × LinesLeft). Some x.0) same,
      ended_found words end.0 end.1,
      ap (λ (x : Version × LinesLeft). x.1) same,
    )

version_line-spelling : (notation : Notation) → version_line notation ≡ codes "matroids" ∷ version_spelling (version_for notation) ∷ []
version_line-spelling numbers = refl
version_line-spelling (names elements vertices) = refl

version_found : (p : LinesLeft) (version : Version) (q : LinesLeft) → version_at p ≡ Ok (version, q) → (notation : Notation)
    → version ≡ version_for notation → (rest : List Line) → AreLeft rest q → AreLeft (version_line notation ∷ rest) p
unfolding version_at
version_found p version q e notation is rest left =
    let line = bind_found (keyed_at (codes "matroids") p) _ (version, q) e in
    let word = bind_found (word_at line.0.0) _ (version, q) line.2 in
    let named = version_named_found p.line (version_of word.0.0) word.0.1 line.0.1 version q word.2 in
    let one : word.0.0 ≡ version_spelling (version_for notation) =
    version_word_found word.0.0 version named.0 ∙ ap version_spelling is in
    let words : line.0.0.words ≡ version_spelling (version_for notation) ∷ [] =
    word_found line.0.0 word.0.0 word.0.1 word.1 ∙ rw (one, named.1) refl in
    let whole : AreLeft ((codes "matroids" ∷ version_spelling (version_for notation) ∷ []) ∷ rest) p =
    known_line (codes "matroids") p line.0.0.words (version_spelling (version_for notation) ∷ []) line.0.1 q
    (keyed_found (codes "matroids") p line.0.0 line.0.1 line.1) words named.2 rest left in
    subst (λ (first : Line). AreLeft (first ∷ rest) p) (sym (version_line-spelling notation)) whole

version_again : (notation : Notation) (p : LinesLeft) (rest : List Line) → AreLeft (version_line notation ∷ rest) p
    → (q : LinesLeft) × (version_at p ≡ Ok (version_for notation, q)) × AreLeft rest q
unfolding version_at word_read
version_again numbers p rest left =
    let line = keyed_again (codes "matroids") p (codes "1" ∷ []) rest refl refl left in
    (line.0, rw (line.1, ended_again p.line) refl, line.2)
version_again (names elements vertices) p rest left =
    let line = keyed_again (codes "matroids") p (codes "2" ∷ []) rest refl refl left in
    (line.0, rw (line.1, ended_again p.line) refl, line.2)

end_found : (p q : LinesLeft) → end_at p ≡ Ok q → (rest : List Line) → AreLeft rest q → AreLeft (end_line ∷ rest) p
unfolding end_at
end_found p q e rest left =
    let line = bind_found (keyed_at (codes "end") p) _ q e in
    let end = bind_found (ended_at line.0.0) _ q line.2 in
    known_line (codes "end") p line.0.0.words [] line.0.1 q (keyed_found (codes "end") p line.0.0 line.0.1 line.1)
    (ended_found line.0.0 end.0 end.1) (found-same line.0.1 q end.2) rest left

end_again : (p : LinesLeft) (rest : List Line) → AreLeft (end_line ∷ rest) p → (q : LinesLeft) × (end_at p ≡ Ok q) × AreLeft rest q
unfolding end_at
end_again p rest left =
    let line = keyed_again (codes "end") p [] rest refl refl left in
    (line.0, rw (line.1, ended_again p.line) refl, line.2)

closed_found : (p : LinesLeft) (u : Unit {0}) → closed_at p ≡ Ok u → AreLeft [] p
unfolding closed_at
closed_found p u e = closed_left p (test_found (is_closed p.lines) (TooManyLines, p.line) _ u e).0

closed_again : (p : LinesLeft) → AreLeft [] p → closed_at p ≡ Ok tt
unfolding closed_at
closed_again p left = rw left.same refl

-- ---- whole texts

-- a problem was read from its form line on
record IsInstanceRead (version : Version) (p : LinesLeft) (read : WrittenInstance) (q : LinesLeft) : Type 0 where
  valid : IsValid read.instance
  notated : IsNotationFor read.instance read.notation
  same : version ≡ version_for read.notation
  spelled : AreLeft (end_line ∷ []) q → (lines : List Line) × AreLeft lines p
      × InstanceLines read.notation read.instance (version_line read.notation ∷ lines)

instance_found : (version : Version) (p : LinesLeft) (read : WrittenInstance) (q : LinesLeft) → instance_at version p ≡ Ok (read, q)
    → IsInstanceRead version p read q
unfolding instance_at
instance_found version p read q e =
    let line = bind_found (line_at p) _ (read, q) e in
    let word = bind_found (word_at line.0.0) _ (read, q) line.2 in
    form word.0.0 word.0.1 line.0.0 line.0.1 (form_of word.0.0) refl word.2 (word_found line.0.0 word.0.0 word.0.1 word.1)
    (line_found p line.0.0 line.0.1 line.1)
  where
    form : (first : List ℕ) (words line : WordsLeft) (lines : LinesLeft) (o : Option Form) → form_of first ≡ o
        → form_at version p.line o words lines ≡ Ok (read, q)
        → line.words ≡ first ∷ words.words → ((rest : List Line) → AreLeft rest lines → AreLeft (line.words ∷ rest) p)
        → IsInstanceRead version p read q
    form first words line lines None is h cut written = absurd cc
    form first words line lines (Some named) is h cut written =
        let form_read = any_form_found version p.line named words lines read q h in
        let whole : line.words ≡ form_spelling named ∷ words.words = cut ∙ ap (λ (t : List ℕ). t ∷ words.words)
        (form_found first named is) in
        record {
          valid = form_read.valid;
          notated = form_read.notated;
          same = form_read.same;
          spelled = λ left.
              let behind = form_read.spelled left in (
                (form_spelling named ∷ words.words) ∷ behind.0,
                subst (λ (t : Line). AreLeft (t ∷ behind.0) p) whole (written behind.0 behind.1),
                behind.2,
              );
        }

-- a text that is read spells the problem that was read, with the notation that was read
pub description_found : (text : List ℕ) (read : WrittenInstance) → written_of text ≡ Ok read
    → (s : Spells text read.instance) × (s.notation ≡ read.notation)
unfolding description_at ending_at
description_found text read e =
    let p : LinesLeft = record { line = 1; lines = lines_of text } in
    let form = bind_found (version_at p) _ read e in
    let body = bind_found (instance_at form.0.0 form.0.1) _ read form.2 in
    let ending = bind_found (ending_at body.0.1) _ read body.2 in
    let rest = bind_found (end_at body.0.1) _ ending.0 ending.1 in
    let same = found-same body.0.0 read ending.2 in
    let problem = instance_found form.0.0 form.0.1 body.0.0 body.0.1 body.1 in
    let ended = end_found body.0.1 rest.0 rest.1 [] (closed_found rest.0 ending.0 rest.2) in
    let behind = problem.spelled ended in
    let whole = version_found p form.0.0 form.0.1 form.1 body.0.0.notation problem.same behind.0 behind.1 in
    let spelled : Spells text body.0.0.instance = record {
      valid = problem.valid;
      notation = body.0.0.notation;
      notated = problem.notated;
      lines = version_line body.0.0.notation ∷ behind.0;
      spelled = behind.2;
      whole = same_text text (text_of (version_line body.0.0.notation ∷ behind.0)) whole.same;
    } in
    subst (λ (r : WrittenInstance). (s : Spells text r.instance) × (s.notation ≡ r.notation)) same (spelled, refl)

instance_again : (notation : Notation) (p : LinesLeft) (instance : Instance) (lines : List Line) → IsValid instance → IsNotationFor instance notation
    → InstanceLines notation instance lines → AreLeft lines p
    → (form : LinesLeft) × (q : LinesLeft) × (version_at p ≡ Ok (version_for notation, form))
    × (instance_at (version_for notation) form ≡ Ok (written_as instance notation, q)) × AreLeft (end_line ∷ []) q
unfolding instance_at word_read
instance_again notation p instance lines valid notated spelled left =
    let form = any_form_spelled notation instance lines valid notated spelled in
    let head = version_again notation p ((form_spelling form.form ∷ form.words) ∷ form.more)
    (subst (λ (ls : List Line). AreLeft ls p) form.cut left) in
    let words = and_from (is_word (form_spelling form.form)) (list_all is_word form.words) (form_word form.form) form.are_words in
    let line = line_again head.0 (form_spelling form.form ∷ form.words) form.more (omega arith) words head.2 in
    let read = form.again head.0.line line.0 line.2 in
    (head.0, read.0, head.1, rw (line.1, form_of-form_spelling form.form, read.1) refl, read.2)

-- a text that spells a problem is read as that problem with the notation of its lines
pub description_again : (text : List ℕ) (instance : Instance) (s : Spells text instance)
    → written_of text ≡ Ok (written_as instance s.notation)
unfolding description_at ending_at
description_again text instance s =
    let p : LinesLeft = record { line = 1; lines = lines_of text } in
    let left : AreLeft s.lines p = record { same = ap lines_of s.whole } in
    let read = instance_again s.notation p instance s.lines s.valid s.notated s.spelled left in
    let end = end_again read.1 [] read.4 in
    rw (read.2, read.3, end.1, closed_again end.0 end.2) refl

-- ---- the problem alone, and the problem with its names

-- the problem of a description
abbrev pub problem_of : Result WrittenInstance Fault → Result Instance Fault
problem_of reading = reading >>= λ read. Ok read.instance

-- the problem of a description with its names
abbrev pub named_problem_of : Result WrittenInstance Fault → Result NamedInstance Fault
named_problem_of reading = reading >>= λ read. Ok (named_by read.notation read.instance)

pub read_found : (text : List ℕ) (instance : Instance) → read_of text ≡ Ok instance → Spells text instance
read_found text instance e =
    let read = bind_found (written_of text) (λ read. found read.instance) instance e in
    subst (λ (i : Instance). Spells text i) (found-same read.0.instance instance read.2) (description_found text read.0 read.1).0

pub read_again : (text : List ℕ) (instance : Instance) → Spells text instance → read_of text ≡ Ok instance
read_again text instance s = ap problem_of (description_again text instance s)

-- a text that spells a problem gives it the names that its notation make
spelled_by : (text : List ℕ) (notation : Notation) (instance : Instance) (s : Spells text instance) → s.notation ≡ notation
    → SpellsNamed text (named_by notation instance)
spelled_by text numbers instance s same = record { spells = s; named = ap (λ (l : Notation). named_by l instance) (sym same) }
spelled_by text (names elements vertices) instance s same =
    record { spells = s; named = ap (λ (l : Notation). named_by l instance) (sym same) }

pub named_found : (text : List ℕ) (problem : NamedInstance) → named_of text ≡ Ok problem → SpellsNamed text problem
named_found text problem e =
    let read = bind_found (written_of text) (λ read. found (named_by read.notation read.instance)) problem e in
    let spelled = description_found text read.0 read.1 in
    subst (λ (x : NamedInstance). SpellsNamed text x) (found-same (named_by read.0.notation read.0.instance) problem read.2)
    (spelled_by text read.0.notation read.0.instance spelled.0 spelled.1)

pub named_again : (text : List ℕ) (problem : NamedInstance) → SpellsNamed text problem → named_of text ≡ Ok problem
named_again text problem s =
    ap named_problem_of (description_again text problem.instance s.spells) ∙ ap (λ (x : NamedInstance). found x) (sym s.named)
