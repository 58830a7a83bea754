-- Whole certificates: a text that is read is the text of the certificate that was read, which is in range, and the text of a certificate in
-- range is read as that certificate.
use Rattle.mat_cert.proofs.Common.{◌≡◌, ℕ, pos, true, cond, List, [], ◌∷◌, ◌++◌, length, map, ◌⊎◌, inl, inr, Result, Ok, Err, IfOk, refl, sym, ap, subst, ◌∙◌, codes, bytes_eq, Line, lines_of, text_of, is_word, numeral, numerals, weight_word, end_line, members_line, weights_line, WordsLeft}
use Rattle.mat_cert.proofs.Common.{LinesLeft, found-same, bind_found, numerals_words, weights_words, same_text, AreLeft, keyed_again, Gives, Certificate, IsRanged, certificate_lines, certificate_text, header_line, last_rung, version_line, level_line, option_lines, sets_lines, rungs_lines}
use Rattle.mat_cert.proofs.Common.{plain_rung_lines, priced_rung_lines, CertRefusal, Fault, version_at, answer_of_command, answer_at, certificate_at, read_of}
use Rattle.std.specs.List.{list_all}
use Rattle.mat_words.specs.Reading as any_text
use Rattle.mat_words.specs.declared.refusal.Refusal.TheVariants as refusals
use Rattle.mat_cert.specs.Certificates as certificates
use Rattle.mat_cert.proofs.WordLaws.{word_read}
use Rattle.mat_cert.proofs.LineLaws.{IsReadAgain, line_read, version_found, version_again, end_found, end_again, closed_found, closed_again}
use Rattle.mat_cert.proofs.AnswerReading.{IsCommandRead, by_word, words_append}
use Rattle.mat_cert.proofs.LadderAnswers.{intersect_found, intersect_again, best_found, best_again, rainbow_found, rainbow_again, assign_found}
use Rattle.mat_cert.proofs.LadderAnswers.{assign_again}
use Rattle.mat_cert.proofs.PackingAnswers.{union_found, union_again, pack_found, pack_any_again, pack_again, cover_found, cover_never_again}
use Rattle.mat_cert.proofs.PackingAnswers.{cover_again}
use Rattle.mat_cert.proofs.SpanningAnswers.{trees_found, trees_again, trees_none_again, arborescence_found, arbor_again, unreached_again}
use Rattle.mat_cert.proofs.SpanningAnswers.{disjoint_found, disjoint_again, disjoint_none_again}

-- ---- an answer that was read

-- what is read behind a command
abbrev Reading : Type 0
Reading = Result (Certificate × LinesLeft) Fault

-- the command is this one, or one of those that are tested behind it
this_or : {command : List ℕ} {words : WordsLeft} {lines : LinesLeft} {answer : Certificate × LinesLeft} (name : List ℕ)
    {first second : Reading}
    → (first ≡ Ok answer → IsCommandRead name words lines answer) → (second ≡ Ok answer → IsCommandRead command words lines answer)
    → cond (bytes_eq command name) first second ≡ Ok answer → IsCommandRead command words lines answer
this_or {command} {words} {lines} {answer} name {first} {second} this others e =
    by_word command name first second answer
    (λ same h. subst (λ (word : List ℕ). IsCommandRead word words lines answer) (sym same) (this h)) others e

command_found : (command : List ℕ) (words : WordsLeft) (lines : LinesLeft) (answer : Certificate × LinesLeft)
    → answer_of_command command words lines ≡ Ok answer → IsCommandRead command words lines answer
unfolding answer_of_command
command_found command words lines answer e =
    this_or (codes "intersect") (intersect_found words lines answer)
    (this_or (codes "best") (best_found words lines answer)
    (this_or (codes "union") (union_found words lines answer)
    (this_or (codes "pack") (pack_found words lines answer)
    (this_or (codes "cover") (cover_found words lines answer)
    (this_or (codes "trees") (trees_found words lines answer)
    (this_or (codes "arborescence") (arborescence_found words lines answer)
    (this_or (codes "disjoint") (disjoint_found words lines answer)
    (this_or (codes "rainbow") (rainbow_found words lines answer)
    (this_or (codes "assign") (assign_found words lines answer)
    (λ h. absurd cc)))))))))) e

-- an answer was read from its header line on
record IsAnswerRead (p : LinesLeft) (answer : Certificate × LinesLeft) : Type 0 where
  ranged : IsRanged answer.0
  spelled : AreLeft (end_line ∷ []) answer.1
      → (more : List Line) × AreLeft more p × (certificate_lines answer.0 ≡ version_line ∷ more)

answer_found : (p : LinesLeft) (answer : Certificate × LinesLeft) → answer_at p ≡ Ok answer → IsAnswerRead p answer
unfolding answer_at
answer_found p answer e =
    let line = bind_found {A = WordsLeft × LinesLeft} _ _ _ e in
    let command = bind_found {A = List ℕ × WordsLeft} _ _ _ line.2 in
    let read = command_found command.0.0 command.0.1 line.0.1 answer command.2 in
    let words : line.0.0.words ≡ command.0.0 ∷ command.0.1.words = word_read line.0.0 command.0.0 command.0.1 command.1 in
    record {
      ranged = read.ranged;
      spelled = λ left.
          let behind = read.spelled left in (
            header_line command.0.0 command.0.1.words ∷ behind.0,
            subst (λ (ws : Line). AreLeft ((codes "answer" ∷ ws) ∷ behind.0) p) words
                (line_read (codes "answer") p line.0 line.1 behind.0 behind.1),
            behind.2,
          );
    }

-- ---- whole texts

pub certificate_found : (text : List ℕ) (c : Certificate) → read_of text ≡ Ok c → IsRanged c × (text ≡ certificate_text c)
unfolding certificate_at certificate_text
certificate_found text c e =
    let p : LinesLeft = record { line = 1; lines = lines_of text } in
    let head = bind_found {A = LinesLeft} _ _ _ e in
    let answer = bind_found {A = Certificate × LinesLeft} _ _ _ head.2 in
    let rest = bind_found {A = LinesLeft} _ _ _ answer.2 in
    let closed = bind_found {A = Unit {0}} _ _ _ rest.2 in
    let read = answer_found head.0 answer.0 answer.1 in
    let behind = read.spelled (end_found answer.0.1 rest.0 rest.1 [] (closed_found rest.0 closed.0 closed.1)) in
    let whole = version_found p head.0 head.1 behind.0 behind.1 in
    let text_is : text ≡ text_of (certificate_lines answer.0.0) = same_text text (text_of (version_line ∷ behind.0)) whole.same
    ∙ ap text_of (sym behind.2) in
    subst (λ (made : Certificate). IsRanged made × (text ≡ text_of (certificate_lines made))) (found-same answer.0.0 c closed.2)
    (read.ranged, text_is)

-- ---- a certificate that is read again

-- the lines behind the version are read as an answer
abbrev IsAnsweredAgain : Certificate → LinesLeft → Type 0
IsAnsweredAgain c p = (head : LinesLeft) × (q : LinesLeft) × (version_at p ≡ Ok head) × (answer_at head ≡ Ok (c, q)) × AreLeft (end_line ∷ []) q

-- it is so where it is behind the command
answered_again : (command : List ℕ) (words : Line) (more : List Line) (c : Certificate) (p : LinesLeft)
    → list_all is_word (command ∷ words) ≡ true
    → ((line : ℕ) (lines : LinesLeft) → AreLeft more lines
    → IsReadAgain (answer_of_command command (record { line = line; words = words }) lines) c (end_line ∷ []))
    → AreLeft (version_line ∷ header_line command words ∷ more) p → IsAnsweredAgain c p
unfolding answer_at any_text.word_at
answered_again command words more c p spelled reads left =
    let head = version_again p (header_line command words ∷ more) left in
    let line = keyed_again (codes "answer") head.0 (command ∷ words) more refl spelled head.2 in
    let answer = reads head.0.line line.0 line.2 in
    (head.0, answer.0, head.1, rw (line.1, answer.1) refl, answer.2)

answer_again : (c : Certificate) → IsRanged c → (p : LinesLeft) → AreLeft (certificate_lines c) p → IsAnsweredAgain c p
unfolding answer_of_command
answer_again (certificates.intersect n rungs cut) ranged p left =
    answered_again (codes "intersect") (numerals (n ∷ last_rung rungs ∷ []))
    (rungs_lines priced_rung_lines 0 rungs ++ members_line (codes "cut") cut ∷ end_line ∷ []) (certificates.intersect n rungs cut) p
    (numerals_words (n ∷ last_rung rungs ∷ [])) (λ line lines here. intersect_again line n rungs cut lines ranged here) left
answer_again (certificates.best n rungs) ranged p left =
    answered_again (codes "best") (numerals (n ∷ last_rung rungs ∷ [])) (rungs_lines plain_rung_lines 0 rungs ++ end_line ∷ [])
    (certificates.best n rungs) p (numerals_words (n ∷ last_rung rungs ∷ [])) (λ line lines here. best_again line n rungs lines ranged here) left
answer_again (certificates.union_of n weight parts levels) ranged p left =
    let front = n ∷ length parts ∷ length levels ∷ [] in
    answered_again (codes "union") (numerals front ++ weight_word weight ∷ [])
    (sets_lines (codes "part") parts ++ (map level_line levels ++ end_line ∷ [])) (certificates.union_of n weight parts levels) p
    (words_append (numerals front) (weight_word weight ∷ []) (numerals_words front) (weights_words (weight ∷ [])))
    (λ line lines here. union_again line n weight parts levels lines ranged here) left
answer_again (certificates.pack_any n) ranged p left =
    answered_again (codes "pack") (numeral (pos n) ∷ codes "any" ∷ []) (end_line ∷ []) (certificates.pack_any n) p
    (words_append (numerals (n ∷ [])) (codes "any" ∷ []) (numerals_words (n ∷ [])) refl)
    (λ line lines here. pack_any_again line n lines ranged here) left
answer_again (certificates.pack n bases cut) ranged p left =
    answered_again (codes "pack") (numerals (n ∷ length bases ∷ []))
    (sets_lines (codes "base") bases ++ members_line (codes "cut") cut ∷ end_line ∷ []) (certificates.pack n bases cut) p
    (numerals_words (n ∷ length bases ∷ [])) (λ line lines here. pack_again line n bases cut lines ranged here) left
answer_again (certificates.cover_never n x) ranged p left =
    answered_again (codes "cover") (numeral (pos n) ∷ codes "never" ∷ numeral (pos x) ∷ []) (end_line ∷ []) (certificates.cover_never n x) p
    (words_append (numerals (n ∷ [])) (codes "never" ∷ numerals (x ∷ [])) (numerals_words (n ∷ [])) (numerals_words (x ∷ [])))
    (λ line lines here. cover_never_again line n x lines ranged.0 ranged.1 here) left
answer_again (certificates.cover n sets cut) ranged p left =
    answered_again (codes "cover") (numerals (n ∷ length sets ∷ []))
    (sets_lines (codes "part") sets ++ (option_lines (codes "cut") cut ++ end_line ∷ [])) (certificates.cover n sets cut) p
    (numerals_words (n ∷ length sets ∷ [])) (λ line lines here. cover_again line n sets cut lines ranged here) left
answer_again (certificates.trees n sets) ranged p left =
    answered_again (codes "trees") (numerals (n ∷ length sets ∷ [])) (sets_lines (codes "tree") sets ++ end_line ∷ [])
    (certificates.trees n sets) p (numerals_words (n ∷ length sets ∷ [])) (λ line lines here. trees_again line n sets lines ranged here) left
answer_again (certificates.trees_none n k v classes) ranged p left =
    let front = n ∷ k ∷ [] in
    let back = v ∷ length classes ∷ [] in
    answered_again (codes "trees") (numerals front ++ codes "none" ∷ numerals back) (sets_lines (codes "class") classes ++ end_line ∷ [])
    (certificates.trees_none n k v classes) p
    (words_append (numerals front) (codes "none" ∷ numerals back) (numerals_words front) (numerals_words back))
    (λ line lines here. trees_none_again line n k v classes lines ranged.0 ranged.1 here) left
answer_again (certificates.arbor n cost arcs first second) ranged p left =
    answered_again (codes "arborescence") (numeral (pos n) ∷ codes "tree" ∷ weight_word cost ∷ [])
    (members_line (codes "set") arcs ∷ weights_line (codes "first") first ∷ weights_line (codes "second") second ∷ end_line ∷ [])
    (certificates.arbor n cost arcs first second) p
    (words_append (numerals (n ∷ [])) (codes "tree" ∷ weight_word cost ∷ []) (numerals_words (n ∷ [])) (weights_words (cost ∷ [])))
    (λ line lines here. arbor_again line n cost arcs first second lines ranged here) left
answer_again (certificates.unreached n v set) ranged p left =
    answered_again (codes "arborescence") (numeral (pos n) ∷ codes "unreached" ∷ numeral (pos v) ∷ [])
    (members_line (codes "vertices") set ∷ end_line ∷ []) (certificates.unreached n v set) p
    (words_append (numerals (n ∷ [])) (codes "unreached" ∷ numerals (v ∷ [])) (numerals_words (n ∷ [])) (numerals_words (v ∷ [])))
    (λ line lines here. unreached_again line n v set lines ranged here) left
answer_again (certificates.disjoint n sets) ranged p left =
    answered_again (codes "disjoint") (numerals (n ∷ length sets ∷ [])) (sets_lines (codes "tree") sets ++ end_line ∷ [])
    (certificates.disjoint n sets) p (numerals_words (n ∷ length sets ∷ [])) (λ line lines here. disjoint_again line n sets lines ranged here)
    left
answer_again (certificates.disjoint_none n k v set) ranged p left =
    let front = n ∷ k ∷ [] in
    answered_again (codes "disjoint") (numerals front ++ codes "none" ∷ numeral (pos v) ∷ [])
    (members_line (codes "vertices") set ∷ end_line ∷ []) (certificates.disjoint_none n k v set) p
    (words_append (numerals front) (codes "none" ∷ numerals (v ∷ [])) (numerals_words front) (numerals_words (v ∷ [])))
    (λ line lines here. disjoint_none_again line n k v set lines ranged.0 ranged.1 here) left
answer_again (certificates.rainbow n v c rungs cut missing) ranged p left =
    let numbers = n ∷ last_rung rungs ∷ v ∷ c ∷ [] in
    answered_again (codes "rainbow") (numerals numbers)
    (rungs_lines priced_rung_lines 0 rungs ++ members_line (codes "cut") cut ∷ (option_lines (codes "colours") missing ++ end_line ∷ []))
    (certificates.rainbow n v c rungs cut missing) p (numerals_words numbers)
    (λ line lines here. rainbow_again line n v c rungs cut missing lines ranged here) left
answer_again (certificates.assign n r c rungs cut) ranged p left =
    let numbers = n ∷ last_rung rungs ∷ r ∷ c ∷ [] in
    answered_again (codes "assign") (numerals numbers)
    (rungs_lines priced_rung_lines 0 rungs ++ members_line (codes "cut") cut ∷ end_line ∷ []) (certificates.assign n r c rungs cut) p
    (numerals_words numbers) (λ line lines here. assign_again line n r c rungs cut lines ranged here) left

pub certificate_again : (text : List ℕ) (c : Certificate) → IsRanged c → text ≡ certificate_text c → read_of text ≡ Ok c
unfolding certificate_at certificate_text
certificate_again text c ranged whole =
    let p : LinesLeft = record { line = 1; lines = lines_of text } in
    let left : AreLeft (certificate_lines c) p = record { same = ap lines_of whole } in
    let read = answer_again c ranged p left in
    let end = end_again read.1 [] read.4 in
    rw (read.2, read.3, end.1, closed_again end.0 end.2) refl

-- ---- any text

abbrev answered : Certificate → Result Certificate Fault
answered c = Ok c

abbrev refused : Fault → Result Certificate Fault
refused fault = Err fault

same_certificate : (first second : Certificate) → answered first ≡ answered second → first ≡ second
same_certificate first second e = cc

same_fault : (first second : Fault) → refused first ≡ refused second → first ≡ second
same_fault first second e = cc

-- different certificates in range have different texts
pub one_certificate : (first second : Certificate) → IsRanged first → IsRanged second → certificate_text first ≡ certificate_text second
    → first ≡ second
one_certificate first second one two e =
    same_certificate first second (sym (certificate_again (certificate_text first) first one refl)
    ∙ certificate_again (certificate_text first) second two e)

pub either : (text : List ℕ) → ((c : Certificate) × IsRanged c × (text ≡ certificate_text c)) ⊎
    ((fault : Fault) × (read_of text ≡ Err fault))
either text = from (read_of text) refl
  where
    from : (r : Result Certificate Fault) → read_of text ≡ r
        → ((c : Certificate) × IsRanged c × (text ≡ certificate_text c)) ⊎ ((fault : Fault) × (read_of text ≡ Err fault))
    from (Ok c) e = let found = certificate_found text c e in inl (c, found.0, found.1)
    from (Err fault) e = inr (fault, e)

pub never_both : (c : Certificate) (fault : Fault) → IsRanged c → read_of (certificate_text c) ≡ Err fault → ⊥
never_both c fault ranged e = apart (sym (certificate_again (certificate_text c) c ranged refl) ∙ e)
  where
    apart : answered c ≡ refused fault → ⊥
    apart h = cc

pub one_fault : (text : List ℕ) (first second : Fault) → read_of text ≡ Err first → read_of text ≡ Err second → first ≡ second
one_fault text first second d e = same_fault first second (sym d ∙ e)

-- ---- what a call gives

pub gives_found : {X : Type 0} (view : X → Certificate) (text : List ℕ) (result : Result X CertRefusal) → Gives view result (read_of text)
    → IfOk result (λ x. text ≡ certificate_text (view x))
gives_found view text (Ok x) gives = (certificate_found text (view x) gives).1
gives_found view text (Err refusal) gives = tt

pub gives_ranged : {X : Type 0} (view : X → Certificate) (text : List ℕ) (result : Result X CertRefusal) → Gives view result (read_of text)
    → IfOk result (λ x. IsRanged (view x))
gives_ranged view text (Ok x) gives = (certificate_found text (view x) gives).0
gives_ranged view text (Err refusal) gives = tt

pub gives_only : {X : Type 0} (view : X → Certificate) (text : List ℕ) (result : Result X CertRefusal) → Gives view result (read_of text)
    → (c : Certificate) → IsRanged c → text ≡ certificate_text c → Gives view result (Ok c)
gives_only view text (Ok x) gives c ranged whole = sym (certificate_again text c ranged whole) ∙ gives
gives_only view text (Err refusals.Memory) gives c ranged whole = tt
gives_only view text (Err (refusals.Fault kind line)) gives c ranged whole = sym (certificate_again text c ranged whole) ∙ gives
