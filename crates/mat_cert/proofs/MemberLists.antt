-- The members of a set on a line, as a loop reads them: the members so far, in front of those that are still read, are those that are read in all.
use Rattle.mat_cert.proofs.Common.{◌≡◌, ℕ, suc, ◌+◌, ◌<◌, ◌≤◌, pos, true, false, List, [], ◌∷◌, ◌++◌, length, Result, Ok, Err, refl, sym, ap, ◌∙◌, arith, append_assoc, nat_lt, ne_eqb, append-nil, AllBelow, with_one, numeral, WordsLeft, ◌>>=◌, NotRising, Fails, CertRefusal, Fault, below_at}
use Rattle.mat_cert.proofs.Common.{members_from}
use Rattle.mat_words.specs.declared.refusal.Refusal.TheVariants as refusals
use Rattle.mat_cert.proofs.WordLaws.{below_read}

abbrev ok : {A : Type 0} → A → Result A Fault
ok x = Ok x

-- a number above all members is put at the end
with_one-end : (set : List ℕ) (x : ℕ) → AllBelow x set → with_one set x ≡ set ++ x ∷ []
unfolding with_one
with_one-end [] x below = refl
with_one-end (y ∷ ys) x below =
    let above : nat_lt x y ≡ false = grind arith in
    rw (above, ne_eqb x y (λ e. omega (arith, below.0)), with_one-end ys x below.1) refl

AllBelow-end : (set : List ℕ) (n x : ℕ) → AllBelow n set → n ≤ x → AllBelow (x + 1) (set ++ x ∷ [])
AllBelow-end [] n x below le = (omega arith, tt)
AllBelow-end (y ∷ ys) n x below le = (omega (arith, below.0), AllBelow-end ys n x below.1 le)

AllBelow-wider : (set : List ℕ) (n x : ℕ) → AllBelow n set → n ≤ x → AllBelow x set
AllBelow-wider [] n x below le = tt
AllBelow-wider (y ∷ ys) n x below le = (omega (arith, below.0), AllBelow-wider ys n x below.1 le)

-- what was read before, in front of what is still read
abbrev pub with_members : List ℕ → Result (List ℕ) Fault → Result (List ℕ) Fault
with_members front reading = reading >>= λ others. Ok (front ++ others)

with_members-cons : (front : List ℕ) (member : ℕ) (reading : Result (List ℕ) Fault)
    → with_members front (reading >>= λ others. Ok (member ∷ others)) ≡ with_members (front ++ member ∷ []) reading
with_members-cons front member (Ok others) = ap ok (simp append_assoc)
with_members-cons front member (Err fault) = refl

-- the loop goes on
pub record GoesOn (bound : ℕ) (set : List ℕ) (words : List (List ℕ)) (x : ℕ) (q : WordsLeft) (total : Result (List ℕ) Fault) : Type 0 where
  pub shorter : length q.words < length words
  pub reads : with_members (with_one set x) (members_from bound q.line (x + 1) q.words) ≡ total
  pub below : AllBelow (x + 1) (with_one set x)

pub members_go_on : (bound n least : ℕ) (set : List ℕ) (words : List (List ℕ)) (x : ℕ) (q : WordsLeft) (total : Result (List ℕ) Fault)
    → below_at bound (record { line = n; words = words }) ≡ Ok (x, q) → least ≤ x → AllBelow least set
    → with_members set (members_from bound n least words) ≡ total → GoesOn bound set words x q total
unfolding members_from
members_go_on bound n least set [] x q total e rises below so_far = let read = below_read bound (record { line = n; words = [] }) x q e in absurd cc
members_go_on bound n least set (word ∷ words) x q total e rises below so_far =
    let read = below_read bound (record { line = n; words = word ∷ words }) x q e in
    let cut : word ∷ words ≡ numeral (pos x) ∷ q.words = read.cut in
    let same : words ≡ q.words = cc in
    let above : nat_lt x least ≡ false = grind arith in
    let end : with_one set x ≡ set ++ x ∷ [] = with_one-end set x (AllBelow-wider set least x below rises) in
    let next : suc x ≡ x + 1 = omega arith in
    record {
      shorter = rw same (omega arith);
      reads = rw (read.line, end) (sym (with_members-cons set x (members_from bound n (x + 1) q.words)) ∙ (rw (e, above, same, next) at so_far));
      below = rw end (AllBelow-end set least x below rises);
    }

-- a member that is not above the one before it
pub members_fall : (bound n least : ℕ) (set : List ℕ) (words : List (List ℕ)) (x : ℕ) (q : WordsLeft) (total : Result (List ℕ) Fault)
    → below_at bound (record { line = n; words = words }) ≡ Ok (x, q) → x < least
    → with_members set (members_from bound n least words) ≡ total → total ≡ Err (NotRising, n)
unfolding members_from
members_fall bound n least set [] x q total e falls so_far = let read = below_read bound (record { line = n; words = [] }) x q e in absurd cc
members_fall bound n least set (word ∷ words) x q total e falls so_far =
    let below : nat_lt x least ≡ true = grind arith in
    sym (rw (e, below) at so_far)

-- a word that is no member
pub members_fail : (bound n least : ℕ) (set : List ℕ) (words : List (List ℕ)) (refusal : CertRefusal) (total : Result (List ℕ) Fault)
    → 0 < length words → Fails refusal (below_at bound (record { line = n; words = words }))
    → with_members set (members_from bound n least words) ≡ total → Fails refusal total
unfolding members_from
members_fail bound n least set words refusals.Memory total some failed so_far = tt
members_fail bound n least set [] (refusals.Fault kind line) total some failed so_far = absurd (omega arith)
members_fail bound n least set (word ∷ words) (refusals.Fault kind line) total some failed so_far = sym (rw failed at so_far)

-- no word is left
pub members_done : (bound n least : ℕ) (set : List ℕ) (total : Result (List ℕ) Fault)
    → with_members set (members_from bound n least []) ≡ total → total ≡ Ok set
unfolding members_from
members_done bound n least set total so_far = sym so_far ∙ ap ok (append-nil set)
