-- The words of a line are counted before they are read, and what this gives is the same where they are read first: the items that were read
-- are as many as the words of a line that has no others.
use Rattle.mat_cert.proofs.Common.{◌≡◌, ◌≢◌, ℕ, ◌+◌, ◌<◌, pos, neg_ℤ, List, [], length, map, Result, Ok, Err, refl, sym, ap, ◌∙◌, arith, codes, ne_eqb, eq-eqb, length-append, length-map, largest_number, Weight, WordsLeft, LinesLeft, numeral, Fails, ◌>>=◌, weight_word, weights_found, WrongCount}
use Rattle.mat_cert.proofs.Common.{CertRefusal, Fault, has_words, weights_at, members_from, keyed_at, counted_at, counted_set_at, part_at, all_members_at, all_weights_at}
use Rattle.mat_words.specs.Reading as any_text
use Rattle.mat_words.specs.declared.refusal.Refusal.TheVariants as refusals
use Rattle.mat_cert.proofs.WordLaws.{set_members_found}

-- ---- the count of a line, with what is read of its words

-- what was read, with the lines behind it
abbrev with_lines : {A : Type 0} → A → LinesLeft → Result (A × LinesLeft) Fault
with_lines x lines = Ok (x, lines)

pub part_is : (key : List ℕ) (n : ℕ) (p : LinesLeft)
    → part_at key n p ≡ (keyed_at key p >>= λ line. all_weights_at n line.0 >>= λ weights. with_lines weights line.1)
unfolding part_at counted_at all_weights_at
part_is key n p = from (keyed_at key p)
  where
    read : (q : LinesLeft) (r : Result (List Weight × WordsLeft) Fault)
        → (r >>= λ weights. with_lines weights.0 q) ≡ ((r >>= λ weights. Ok weights.0) >>= λ weights. with_lines weights q)
    read q (Ok weights) = refl
    read q (Err fault) = refl

    counted : (line : WordsLeft × LinesLeft) (r : Result (Unit {0}) Fault)
        → ((r >>= λ _. Ok line) >>= λ line. weights_at n line.0 >>= λ weights. with_lines weights.0 line.1)
        ≡ ((r >>= λ _. weights_at n line.0 >>= λ weights. Ok weights.0) >>= λ weights. with_lines weights line.1)
    counted line (Ok u) = read line.1 (weights_at n line.0)
    counted line (Err fault) = refl

    from : (r : Result (WordsLeft × LinesLeft) Fault)
        → ((r >>= λ line. has_words n line.0 >>= λ _. Ok line) >>= λ line. weights_at n line.0 >>= λ weights. with_lines weights.0 line.1)
        ≡ (r >>= λ line. (has_words n line.0 >>= λ _. weights_at n line.0 >>= λ weights. Ok weights.0) >>= λ weights. with_lines weights line.1)
    from (Ok line) = counted line (has_words n line.0)
    from (Err fault) = refl

pub counted_set_is : (n k : ℕ) (p : LinesLeft)
    → counted_set_at n k p ≡ (keyed_at (codes "set") p >>= λ line. all_members_at n k line.0 >>= λ set. with_lines set line.1)
unfolding counted_set_at counted_at all_members_at
counted_set_is n k p = from (keyed_at (codes "set") p)
  where
    counted : (line : WordsLeft × LinesLeft) (r : Result (Unit {0}) Fault)
        → ((r >>= λ _. Ok line) >>= λ line. members_from n line.0.line 0 line.0.words >>= λ set. with_lines set line.1)
        ≡ ((r >>= λ _. members_from n line.0.line 0 line.0.words) >>= λ set. with_lines set line.1)
    counted line (Ok u) = refl
    counted line (Err fault) = refl

    from : (r : Result (WordsLeft × LinesLeft) Fault)
        → ((r >>= λ line. has_words k line.0 >>= λ _. Ok line) >>= λ line. members_from n line.0.line 0 line.0.words >>= λ set. with_lines set line.1)
        ≡ (r >>= λ line. (has_words k line.0 >>= λ _. members_from n line.0.line 0 line.0.words) >>= λ set. with_lines set line.1)
    from (Ok line) = counted line (has_words k line.0)
    from (Err fault) = refl

-- ---- weights

weights_count : (n : ℕ) (w : WordsLeft) (weights : List Weight) (q : WordsLeft)
    → any_text.weights_at (neg_ℤ (pos largest_number)) (pos largest_number) n w ≡ Ok (weights, q)
    → length w.words ≡ n + length q.words
weights_count n w weights q e =
    let read = weights_found (neg_ℤ (pos largest_number)) (pos largest_number) n w weights q e in
    ap length read.cut ∙ length-append (map weight_word weights) q.words
    ∙ ap (λ (m : ℕ). m + length q.words) (length-map weights weight_word ∙ read.count)

-- no word is left behind the weights
pub weights_alone : (n : ℕ) (w : WordsLeft) (weights : List Weight) (q : WordsLeft)
    → any_text.weights_at (neg_ℤ (pos largest_number)) (pos largest_number) n w ≡ Ok (weights, q) → q.words ≡ []
    → all_weights_at n w ≡ Ok weights
unfolding all_weights_at has_words
weights_alone n w weights q e none =
    let count : length w.words ≡ n = omega (arith, weights_count n w weights q e, ap length none) in
    rw (eq-eqb (length w.words) n count, e) refl

-- words are left behind them
pub weights_followed : (n : ℕ) (w : WordsLeft) (weights : List Weight) (q : WordsLeft)
    → any_text.weights_at (neg_ℤ (pos largest_number)) (pos largest_number) n w ≡ Ok (weights, q) → 0 < length q.words
    → all_weights_at n w ≡ Err (WrongCount, w.line)
unfolding all_weights_at has_words
weights_followed n w weights q e some =
    let other : length w.words ≢ n = λ same. absurd (omega (arith, weights_count n w weights q e, same)) in
    rw (ne_eqb (length w.words) n other) refl

-- the words are not as many
pub weights_uncounted : (n : ℕ) (w : WordsLeft) (refusal : CertRefusal) → Fails refusal (has_words n w) → Fails refusal (all_weights_at n w)
unfolding all_weights_at
weights_uncounted n w refusals.Memory failed = tt
weights_uncounted n w (refusals.Fault kind line) failed = rw failed refl

-- they are, and one is no weight
pub weights_refused : (n : ℕ) (w : WordsLeft) (refusal : CertRefusal) (u : Unit {0}) → has_words n w ≡ Ok u
    → Fails refusal (weights_at n w) → Fails refusal (all_weights_at n w)
unfolding all_weights_at
weights_refused n w refusals.Memory u counted failed = tt
weights_refused n w (refusals.Fault kind line) u counted failed = rw (counted, failed) refl

-- ---- members of a set

members_count : (n : ℕ) (w : WordsLeft) (set : List ℕ) → members_from n w.line 0 w.words ≡ Ok set → length w.words ≡ length set
members_count n w set e = ap length (set_members_found n w.line w.words set e).1 ∙ length-map set (λ x. numeral (pos x))

-- as many as are needed
pub members_counted : (n k : ℕ) (w : WordsLeft) (set : List ℕ) → members_from n w.line 0 w.words ≡ Ok set → length set ≡ k
    → all_members_at n k w ≡ Ok set
unfolding all_members_at has_words
members_counted n k w set e same = rw (eq-eqb (length w.words) k (members_count n w set e ∙ same), e) refl

-- another number
pub members_miscounted : (n k : ℕ) (w : WordsLeft) (set : List ℕ) → members_from n w.line 0 w.words ≡ Ok set → length set ≢ k
    → all_members_at n k w ≡ Err (WrongCount, w.line)
unfolding all_members_at has_words
members_miscounted n k w set e other =
    rw (ne_eqb (length w.words) k (λ same. other (sym (members_count n w set e) ∙ same))) refl

-- the words are not as many
pub members_uncounted : (n k : ℕ) (w : WordsLeft) (refusal : CertRefusal) → Fails refusal (has_words k w)
    → Fails refusal (all_members_at n k w)
unfolding all_members_at
members_uncounted n k w refusals.Memory failed = tt
members_uncounted n k w (refusals.Fault kind line) failed = rw failed refl

-- they are, and one is no member
pub members_refused : (n k : ℕ) (w : WordsLeft) (refusal : CertRefusal) (u : Unit {0}) → has_words k w ≡ Ok u
    → Fails refusal (members_from n w.line 0 w.words) → Fails refusal (all_members_at n k w)
unfolding all_members_at
members_refused n k w refusals.Memory u counted failed = tt
members_refused n k w (refusals.Fault kind line) u counted failed = rw (counted, failed) refl
