-- The words of a line of a certificate: what is read is spelled so, and what is spelled so is read.
use Rattle.mat_cert.proofs.Common.{◌≡◌, ℕ, suc, ◌≤◌, ℤ, pos, neg_ℤ, true, false, cond, eqb, List, [], ◌∷◌, ◌++◌, length, Ok, Err, refl, sym, ap, subst, ◌∙◌, arith, ◌≤ℤ◌, nat_lt, bytes_eq, ints, eqb-true, eq-eqb, append-nil, length-append, bytes_eq-Decides, IsSet, RisesFrom, AllBelow, Weight}
use Rattle.mat_cert.proofs.Common.{numerals, numeral, WordsLeft, ◌>>=◌, found-same, bind_found, test_found, refused_found, told_found, told_again, IsSizeRead, IsBelowRead, IsWeightRead, word_found, number_found, number_at_again, size_found, below_found, below_again, weight_found, kind_of, NotRising}
use Rattle.mat_cert.proofs.Common.{UnknownWord, WrongCount, largest_number, word_at, fixed_at, has_words, number_at, size_at, below_at, weight_at, members_from}
use Rattle.mat_words.specs.Reading as any_text

-- ---- counted words

pub has_words_found : (many : ℕ) (w : WordsLeft) (u : Unit {0}) → has_words many w ≡ Ok u → length w.words ≡ many
unfolding has_words
has_words_found many w u e = eqb-true (length w.words) many (test_found (eqb (length w.words) many) (WrongCount, w.line) (Ok tt) u e).0

pub has_words_again : (many n : ℕ) (words : List (List ℕ)) → length words ≡ many
    → has_words many (record { line = n; words = words }) ≡ Ok tt
unfolding has_words
has_words_again many n words same = rw (eq-eqb (length words) many same) refl

-- words that were read from left to right are all words of a line that has no more
pub whole_line : (front after words : List (List ℕ)) → words ≡ front ++ after → length words ≡ length front → words ≡ front
whole_line front [] words cut count = cut ∙ append-nil front
whole_line front (v ∷ vs) words cut count =
    let more : length words ≡ length (front ++ v ∷ vs) = ap length cut in
    absurd (omega (arith, length-append front (v ∷ vs)))

-- one word more was read in front of others
pub then_words : {word : List ℕ} {words rest more : List (List ℕ)} → words ≡ word ∷ rest → rest ≡ more → words ≡ word ∷ more
then_words {word} cut next = cut ∙ ap (λ (t : List (List ℕ)). word ∷ t) next

-- ---- one word

pub word_read : (w : WordsLeft) (word : List ℕ) (q : WordsLeft) → word_at w ≡ Ok (word, q) → w.words ≡ word ∷ q.words
word_read w word q e = word_found w word q (told_found kind_of (any_text.word_at w) (word, q) e)

-- the word that had to be this one
pub fixed_found : (word : List ℕ) (w q : WordsLeft) → fixed_at word w ≡ Ok q → w.words ≡ word ∷ q.words
unfolding fixed_at
fixed_found word w q e =
    let next = bind_found (word_at w) (λ next. cond (bytes_eq next.0 word) (Ok next.1) (Err (UnknownWord, w.line))) q e in
    let test = test_found (bytes_eq next.0.0 word) (UnknownWord, w.line) (Ok next.0.1) q next.2 in
    let same : next.0.0 ≡ word = (bytes_eq-Decides next.0.0 word).0 test.0 in
    let rest : next.0.1 ≡ q = found-same next.0.1 q test.1 in
    word_read w next.0.0 next.0.1 next.1 ∙ rw (same, rest) refl

pub fixed_again : (word : List ℕ) (n : ℕ) (words : List (List ℕ))
    → fixed_at word (record { line = n; words = word ∷ words }) ≡ Ok (record { line = n; words = words })
unfolding fixed_at any_text.word_at
fixed_again word n words =
    let test : bytes_eq word word ≡ true = (bytes_eq-Decides word word).1 refl in
    rw test refl

-- ---- numbers

-- the number that has to be k
pub exact_found : (k : ℕ) (w : WordsLeft) (z : ℤ) (q : WordsLeft) → number_at (pos k) (pos k) w ≡ Ok (z, q)
    → w.words ≡ numeral (pos k) ∷ q.words
exact_found k w z q e =
    let read = number_found (pos k) (pos k) w z q (told_found kind_of (any_text.number_at (pos k) (pos k) w) (z, q) e) in
    let same : z ≡ pos k = one z k read.least read.most in
    subst (λ (y : ℤ). w.words ≡ numeral y ∷ q.words) same read.cut
  where
    one : (z : ℤ) (k : ℕ) → pos k ≤ℤ z → z ≤ℤ pos k → z ≡ pos k
    one z k least most = grind (arith, ints)

pub exact_again : (k n : ℕ) (words : List (List ℕ))
    → number_at (pos k) (pos k) (record { line = n; words = numeral (pos k) ∷ words }) ≡ Ok (pos k, record { line = n; words = words })
exact_again k n words =
    told_again kind_of (any_text.number_at (pos k) (pos k) (record { line = n; words = numeral (pos k) ∷ words }))
    (pos k, record { line = n; words = words })
    (number_at_again (pos k) (pos k) n (pos k) words (grind (arith, ints)) (grind (arith, ints)))

pub size_read : (least most : ℕ) (w : WordsLeft) (x : ℕ) (q : WordsLeft) → size_at least most w ≡ Ok (x, q) → IsSizeRead least most w x q
size_read least most w x q e = size_found least most w x q (told_found kind_of (any_text.size_at least most w) (x, q) e)

pub below_read : (bound : ℕ) (w : WordsLeft) (x : ℕ) (q : WordsLeft) → below_at bound w ≡ Ok (x, q) → IsBelowRead bound w x q
below_read bound w x q e = below_found bound w x q (told_found kind_of (any_text.below_at bound w) (x, q) e)

pub weight_read : (w : WordsLeft) (weight : Weight) (q : WordsLeft) → weight_at w ≡ Ok (weight, q)
    → IsWeightRead (neg_ℤ (pos largest_number)) (pos largest_number) w weight q
weight_read w weight q e =
    let low = neg_ℤ (pos largest_number) in
    let high = pos largest_number in
    weight_found low high w weight q (told_found kind_of (any_text.weight_at low high w) (weight, q) e)

-- ---- members

-- the words that were left were read as a set, of which no member is below `least`
record AreMembersRead (n least : ℕ) (words : List (List ℕ)) (set : List ℕ) : Type 0 where
  cut : words ≡ numerals set
  rises : RisesFrom least set
  below : AllBelow n set

members_found : (n line least : ℕ) (words : List (List ℕ)) (set : List ℕ) → members_from n line least words ≡ Ok set
    → AreMembersRead n least words set
unfolding members_from
members_found n line least [] set e =
    subst (λ (s : List ℕ). AreMembersRead n least [] s) (found-same [] set e) (record { cut = refl; rises = tt; below = tt })
members_found n line least (word ∷ words) set e =
    let member = bind_found (below_at n (record { line = line; words = word ∷ words }))
    (λ member. cond (nat_lt member.0 least) (Err (NotRising, line)) (members_from n line (suc member.0) words
    >>= λ others. Ok (member.0 ∷ others))) set e in
    let test = refused_found (nat_lt member.0.0 least) (NotRising, line)
    (members_from n line (suc member.0.0) words >>= λ others. Ok (member.0.0 ∷ others)) set member.2 in
    let others = bind_found (members_from n line (suc member.0.0) words) (λ others. Ok (member.0.0 ∷ others)) set test.1 in
    let first = below_read n (record { line = line; words = word ∷ words }) member.0.0 member.0.1 member.1 in
    let cut : word ∷ words ≡ numeral (pos member.0.0) ∷ member.0.1.words = first.cut in
    let behind : words ≡ member.0.1.words = cc in
    let more = members_found n line (suc member.0.0) words others.0 others.1 in
    subst (λ (s : List ℕ). AreMembersRead n least (word ∷ words) s) (found-same (member.0.0 ∷ others.0) set others.2)
    (record {
      cut = cut ∙ ap (λ (t : List (List ℕ)). numeral (pos member.0.0) ∷ t) (sym behind ∙ more.cut);
      rises = (not_below member.0.0 least test.0, more.rises);
      below = (first.most, more.below);
    })
  where
    not_below : (x least : ℕ) → nat_lt x least ≡ false → least ≤ x
    not_below x least test = grind arith

members_again : (n line least : ℕ) (set : List ℕ) → RisesFrom least set → AllBelow n set
    → members_from n line least (numerals set) ≡ Ok set
unfolding members_from
members_again n line least [] rises below = refl
members_again n line least (x ∷ xs) rises below =
    let above : nat_lt x least ≡ false = is_above x least rises.0 in
    rw (below_again n line x (numerals xs) below.0, above, members_again n line (suc x) xs rises.1 below.1) refl
  where
    is_above : (x least : ℕ) → least ≤ x → nat_lt x least ≡ false
    is_above x least le = grind arith

-- the same of a whole set
pub set_members_found : (n line : ℕ) (words : List (List ℕ)) (set : List ℕ) → members_from n line 0 words ≡ Ok set
    → IsSet n set × (words ≡ numerals set)
set_members_found n line words set e =
    let read = members_found n line 0 words set e in
    (record { rising = record { rises = read.rises }; below = read.below }, read.cut)

pub set_members_again : (n line : ℕ) (set : List ℕ) → IsSet n set → members_from n line 0 (numerals set) ≡ Ok set
set_members_again n line set in_range = members_again n line 0 set in_range.rising.rises in_range.below
