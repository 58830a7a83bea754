-- Different numbers on a line, and the line of the targets: what is read is spelled so, and what is spelled so is read.
use Rattle.mat_desc.proofs.Common.{◌≡◌, ℕ, zero, suc, ◌<◌, ◌^◌, true, false, List, [], None, ◌∷◌, ◌++◌, length, pos, Ok, refl, ap, subst, ◌∙◌, arith, codes, eq-eqb, append-nil, is_member, with_one, AllBelow, AreDistinct, numeral, numerals, Line, Repeated, WordsLeft, LinesLeft, keyed_at, below_at}
use Rattle.mat_desc.proofs.Common.{ended_at, distinct_at, targets_at, set_line_at, found-same, bind_found, refused_found, below_again, numerals_words, AreLeft, keyed_again}
use Rattle.mat_desc.proofs.Told.{below_found, ended_found, ended_again, keyed_found}
use Rattle.mat_desc.proofs.ElementLaws.{fresh_first, later_free}
use Rattle.mat_desc.proofs.ItemLaws.{ends_lines_sound}
use Rattle.mat_desc.proofs.SetLineLaws.{set_line_found}

-- ---- different numbers

-- as many words were read as different numbers, none of them taken before
record AreDistinctRead (bound many : ℕ) (taken : List ℕ) (w : WordsLeft) (xs : List ℕ) (q : WordsLeft) : Type 0 where
  cut : w.words ≡ numerals xs ++ q.words
  count : length xs ≡ many
  below : AllBelow bound xs
  distinct : AreDistinct xs
  fresh : (x : ℕ) → is_member x xs ≡ true → is_member x taken ≡ false

distinct_found : (bound many : ℕ) (taken : List ℕ) (w : WordsLeft) (xs : List ℕ) (q : WordsLeft)
    → distinct_at bound many taken w ≡ Ok (xs, q)
    → AreDistinctRead bound many taken w xs q
unfolding distinct_at
distinct_found bound zero taken w xs q e =
    let same = found-same ([], w) (xs, q) e in
    subst (λ (r : List ℕ × WordsLeft). AreDistinctRead bound 0 taken w r.0 r.1) same
    (record { cut = refl; count = refl; below = tt; distinct = tt; fresh = λ x h. absurd cc })
distinct_found bound (suc many) taken w xs q e =
    let first = bind_found (below_at bound w) _ (xs, q) e in
    let test = refused_found (is_member first.0.0 taken) (Repeated, w.line)
    _ (xs, q) first.2 in
    let others = bind_found (distinct_at bound many (with_one taken first.0.0) first.0.1) _ (xs, q) test.1 in
    let same = found-same (first.0.0 ∷ others.0.0, others.0.1) (xs, q) others.2 in
    let number = below_found bound w first.0.0 first.0.1 first.1 in
    let more = distinct_found bound many (with_one taken first.0.0) first.0.1 others.0.0 others.0.1 others.1 in
    let parts = fresh_first first.0.0 others.0.0 taken test.0 more.fresh in
    subst (λ (r : List ℕ × WordsLeft). AreDistinctRead bound (suc many) taken w r.0 r.1) same (record {
      cut = number.cut ∙ ap (λ (t : List (List ℕ)). numeral (pos first.0.0) ∷ t) more.cut;
      count = ap suc more.count;
      below = (number.most, more.below);
      distinct = (parts.0, more.distinct);
      fresh = parts.1;
    })

distinct_again : (bound line : ℕ) (taken xs : List ℕ) → AreDistinct xs → AllBelow bound xs
    → ((x : ℕ) → is_member x xs ≡ true → is_member x taken ≡ false)
    → distinct_at bound (length xs) taken (record { line = line; words = numerals xs }) ≡ Ok (xs, record { line = line; words = [] })
unfolding distinct_at
distinct_again bound line taken [] distinct below fresh = refl
distinct_again bound line taken (x ∷ xs) distinct below fresh =
    let free : is_member x taken ≡ false = fresh x (rw (eq-eqb x x refl) refl) in
    let later = distinct_again bound line (with_one taken x) xs distinct.1 below.1 (later_free x xs taken distinct.0 fresh) in
    rw (below_again bound line x (numerals xs) below.0, free, later) refl

-- ---- the line of the targets

-- the line of the vertices of n elements was read
pub record AreTargetsRead (vertices n : ℕ) (p : LinesLeft) (targets : List ℕ) (q : LinesLeft) : Type 0 where
  pub count : length targets ≡ n
  pub below : AllBelow vertices targets
  pub distinct : AreDistinct targets
  pub spelled : (rest : List Line) → AreLeft rest q → AreLeft ((codes "targets" ∷ numerals targets) ∷ rest) p

pub targets_found : (vertices n : ℕ) (p : LinesLeft) (targets : List ℕ) (q : LinesLeft) → targets_at vertices n p ≡ Ok (targets, q)
    → AreTargetsRead vertices n p targets q
unfolding targets_at
targets_found vertices n p targets q e =
    let line = bind_found (keyed_at (codes "targets") p)
    _ (targets, q) e in
    let xs = bind_found (distinct_at vertices n [] line.0.0) _ (targets, q) line.2 in
    let end = bind_found (ended_at xs.0.1) _ (targets, q) xs.2 in
    let same = found-same (xs.0.0, line.0.1) (targets, q) end.2 in
    let read = distinct_found vertices n [] line.0.0 xs.0.0 xs.0.1 xs.1 in
    let last = ended_found xs.0.1 end.0 end.1 in
    let words : line.0.0.words ≡ numerals xs.0.0 = read.cut ∙ ap (λ (t : List (List ℕ)). numerals xs.0.0 ++ t) last ∙ append-nil
    (numerals xs.0.0) in
    subst (λ (r : List ℕ × LinesLeft). AreTargetsRead vertices n p r.0 r.1) same (record {
      count = read.count;
      below = read.below;
      distinct = read.distinct;
      spelled = λ rest left.
          subst (λ (ws : Line). AreLeft ((codes "targets" ∷ ws) ∷ rest) p) words
          (keyed_found (codes "targets") p line.0.0 line.0.1 line.1 rest left);
    })

pub targets_again : (vertices n : ℕ) (p : LinesLeft) (targets : List ℕ) (rest : List Line)
    → length targets ≡ n → AllBelow vertices targets → AreDistinct targets
    → AreLeft ((codes "targets" ∷ numerals targets) ∷ rest) p
    → (q : LinesLeft) × (targets_at vertices n p ≡ Ok (targets, q)) × AreLeft rest q
unfolding targets_at
targets_again vertices n p targets rest count below distinct left =
    let line = keyed_again (codes "targets") p (numerals targets) rest refl (numerals_words targets) left in
    let numbers = distinct_again vertices p.line [] targets distinct below (λ x h. refl) in
    (line.0, rw (line.1, ← count, numbers, ended_again p.line) refl, line.2)

-- ---- the parts of a gammoid

-- sources and targets that are read are vertices, and no two targets are equal
pub sources_inside : (key : List ℕ) (n : ℕ) (p : LinesLeft) (set : List ℕ) (q : LinesLeft) → set_line_at None key n p ≡ Ok (set, q)
    → AllBelow n set
sources_inside key n p set q e = (set_line_found None key n tt p set q e).in_range.below

pub targets_inside : (vertices n : ℕ) (p : LinesLeft) (targets : List ℕ) (q : LinesLeft)
    → targets_at vertices n p ≡ Ok (targets, q) → AllBelow vertices targets
targets_inside vertices n p targets q e = (targets_found vertices n p targets q e).below

pub targets_distinct : (vertices n : ℕ) (p : LinesLeft) (targets : List ℕ) (q : LinesLeft)
    → targets_at vertices n p ≡ Ok (targets, q) → AreDistinct targets
targets_distinct vertices n p targets q e = (targets_found vertices n p targets q e).distinct

pub targets_few : (vertices n : ℕ) (p : LinesLeft) (targets : List ℕ) (q : LinesLeft)
    → targets_at vertices n p ≡ Ok (targets, q) → n < 2 ^ 32 → length targets < 2 ^ 32
targets_few vertices n p targets q e few = let count = (targets_found vertices n p targets q e).count in omega arith

pub ruleset gammoid_building = (ends_lines_sound, sources_inside, targets_inside, targets_distinct, targets_few)
