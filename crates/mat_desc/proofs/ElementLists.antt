-- The elements of a line, as a loop reads them.
use Rattle.mat_desc.proofs.Common.{◌≡◌, ℕ, ◌<◌, true, false, List, [], ◌∷◌, length, Some, None, Result, Ok, Err, pos, sym, subst, arith, is_member, with_one, numeral, name_index, WordsLeft, bind_found, Repeated, Fails, DescRefusal, Fault, Naming, word_at, member_at, elements_from}
use Rattle.mat_words.specs.declared.refusal.Refusal.TheVariants as refusals
use Rattle.mat_desc.proofs.Told.{word_found, word_line, below_found}
use Rattle.mat_desc.proofs.NotationLaws.{named_found}

-- one word was taken
record IsWordTaken (w q : WordsLeft) : Type 0 where
  word : List ℕ
  cut : w.words ≡ word ∷ q.words
  line : q.line ≡ w.line

-- an element takes one word, whatever names there are
member_taken : (naming : Naming) (n : ℕ) (w : WordsLeft) (x : ℕ) (q : WordsLeft) → member_at naming n w ≡ Ok (x, q) → IsWordTaken w q
unfolding member_at
member_taken None n w x q e = let t = below_found n w x q e in record { word = numeral (pos x); cut = t.cut; line = t.line }
member_taken (Some listed) n w x q e =
    let word = bind_found (word_at w) _ (x, q) e in
    subst (IsWordTaken w) (named_found word.0.1 (name_index listed word.0.0) x q word.2).1 (record {
      word = word.0.0;
      cut = word_found w word.0.0 word.0.1 word.1;
      line = word_line w word.0.0 word.0.1 word.1;
    })

-- the loop goes on
pub record GoesOn (naming : Naming) (end n : ℕ) (taken set : List ℕ) (words : List (List ℕ)) (x : ℕ) (q : WordsLeft)
    (total : Result (List ℕ × List ℕ) Fault) : Type 0 where
  pub shorter : length q.words < length words
  pub reads : elements_from naming end q.line (with_one taken x) (with_one set x) q.words ≡ total

pub elements_go_on : (naming : Naming) (end n : ℕ) (taken set : List ℕ) (words : List (List ℕ)) (x : ℕ) (q : WordsLeft)
    (total : Result (List ℕ × List ℕ) Fault)
    → member_at naming end (record { line = n; words = words }) ≡ Ok (x, q) → is_member x taken ≡ false
    → elements_from naming end n taken set words ≡ total → GoesOn naming end n taken set words x q total
unfolding elements_from
elements_go_on naming end n taken set [] x q total e fresh so_far =
    let t = member_taken naming end (record { line = n; words = [] }) x q e in absurd cc
elements_go_on naming end n taken set (word ∷ words) x q total e fresh so_far =
    let t = member_taken naming end (record { line = n; words = word ∷ words }) x q e in
    let same : words ≡ q.words = cc in
    record { shorter = rw same (omega arith); reads = rw t.line (rw (e, fresh, same) at so_far) }

-- an element that is taken already
pub elements_repeat : (naming : Naming) (end n : ℕ) (taken set : List ℕ) (words : List (List ℕ)) (x : ℕ) (q : WordsLeft)
    (total : Result (List ℕ × List ℕ) Fault)
    → member_at naming end (record { line = n; words = words }) ≡ Ok (x, q) → is_member x taken ≡ true
    → elements_from naming end n taken set words ≡ total → total ≡ Err (Repeated, n)
unfolding elements_from
elements_repeat naming end n taken set [] x q total e old so_far =
    let t = member_taken naming end (record { line = n; words = [] }) x q e in absurd cc
elements_repeat naming end n taken set (word ∷ words) x q total e old so_far = sym (rw (e, old) at so_far)

-- a word that is no element
pub elements_fail : (naming : Naming) (end n : ℕ) (taken set : List ℕ) (words : List (List ℕ)) (refusal : DescRefusal)
    (total : Result (List ℕ × List ℕ) Fault)
    → 0 < length words → Fails refusal (member_at naming end (record { line = n; words = words }))
    → elements_from naming end n taken set words ≡ total → Fails refusal total
unfolding elements_from
elements_fail naming end n taken set words refusals.Memory total some failed so_far = tt
elements_fail naming end n taken set [] (refusals.Fault kind line) total some failed so_far = absurd (omega arith)
elements_fail naming end n taken set (word ∷ words) (refusals.Fault kind line) total some failed so_far = sym (rw failed at so_far)

-- no word is left
pub elements_done : (naming : Naming) (end n : ℕ) (taken set : List ℕ) (total : Result (List ℕ × List ℕ) Fault)
    → elements_from naming end n taken set [] ≡ total → total ≡ Ok (set, taken)
unfolding elements_from
elements_done naming end n taken set total so_far = sym so_far
