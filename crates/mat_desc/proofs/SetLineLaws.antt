-- A line of a keyword and a set, and the set lines of a family: what is read is spelled so, and what is spelled so is read.
use Rattle.mat_desc.proofs.Common.{◌≤◌, ◌≡◌, ℕ, zero, suc, ◌<◌, ◌^◌, true, List, [], ◌∷◌, length, Ok, refl, ap, subst, arith, codes, All-nil, All-cons, All-head, All-tail, All-weaker, AllBelow, IsSet, is_word, Line, most_sets, LinesLeft, repeat_at, Naming, words_for, IsNaming, keyed_at, elements_at}
use Rattle.mat_desc.proofs.Common.{set_line_at, Lists, FamilyLines, listing_line, found-same, bind_found, AreLeft, keyed_again}
use Rattle.std.specs.List.{All}
use Rattle.mat_desc.proofs.Told.{keyed_found}
use Rattle.mat_desc.proofs.NotationLaws.{words_for-words}
use Rattle.mat_desc.proofs.ElementLaws.{elements_found, Lists-read, IsSet-read, listed_below, set_again}

-- ---- one line

-- a line of a keyword and a set was read
pub record IsSetRead (naming : Naming) (key : List ℕ) (n : ℕ) (p : LinesLeft) (set : List ℕ) (q : LinesLeft) : Type 0 where
  pub xs : List ℕ
  pub lists : Lists xs set
  pub in_range : IsSet n set
  pub spelled : (rest : List Line) → AreLeft rest q → AreLeft (listing_line naming key xs ∷ rest) p

pub set_line_found : (naming : Naming) (key : List ℕ) (n : ℕ) → IsNaming n naming → (p : LinesLeft) (set : List ℕ) (q : LinesLeft)
    → set_line_at naming key n p ≡ Ok (set, q) → IsSetRead naming key n p set q
unfolding set_line_at
set_line_found naming key n named p set q e =
    let line = bind_found (keyed_at key p) _ (set, q) e in
    let elements = bind_found (elements_at naming n [] line.0.0) _ (set, q) line.2 in
    let same = found-same (elements.0.0, line.0.1) (set, q) elements.2 in
    let read = elements_found naming n named line.0.0.line [] [] line.0.0.words elements.0.0 elements.0.1 elements.1 in
    let one : IsSetRead naming key n p elements.0.0 line.0.1 = record {
      xs = read.xs;
      lists = Lists-read naming n [] line.0.0.words elements.0.0 elements.0.1 read;
      in_range = IsSet-read naming n [] line.0.0.words elements.0.0 elements.0.1 read;
      spelled = λ rest left. subst (λ (ws : Line). AreLeft ((key ∷ ws) ∷ rest) p) read.cut
          (keyed_found key p line.0.0 line.0.1 line.1 rest left);
    } in
    subst (λ (r : List ℕ × LinesLeft). IsSetRead naming key n p r.0 r.1) same one

pub set_line_again : (naming : Naming) (key : List ℕ) (n : ℕ) → IsNaming n naming → is_word key ≡ true
    → (p : LinesLeft) (set xs : List ℕ) (rest : List Line)
    → IsSet n set → Lists xs set → AreLeft (listing_line naming key xs ∷ rest) p
    → (q : LinesLeft) × (set_line_at naming key n p ≡ Ok (set, q)) × AreLeft rest q
unfolding set_line_at
set_line_again naming key n named keyword p set xs rest in_range lists left =
    let words = words_for-words naming n named xs (listed_below n xs set in_range lists) in
    let line = keyed_again key p (words_for naming xs) rest keyword words left in
    let elements = set_again naming n named p.line [] set xs in_range lists (λ x h. refl) in
    (line.0, rw (line.1, elements) refl, line.2)

-- ---- the sets of a family

-- as many set lines were read
pub record IsFamilyRead (naming : Naming) (n many : ℕ) (p : LinesLeft) (family : List (List ℕ)) (q : LinesLeft) : Type 0 where
  pub count : length family ≡ many
  pub in_range : All (IsSet n) family
  pub spelled : (rest : List Line) → AreLeft rest q → (lines : List Line) × FamilyLines naming family lines rest × AreLeft lines p

pub family_found : (naming : Naming) (n : ℕ) → IsNaming n naming → (many : ℕ) (p : LinesLeft) (family : List (List ℕ)) (q : LinesLeft)
    → repeat_at (set_line_at naming (codes "set") n) many p ≡ Ok (family, q) → IsFamilyRead naming n many p family q
unfolding repeat_at
family_found naming n named zero p family q e =
    let same = found-same ([], p) (family, q) e in
    subst (λ (r : List (List ℕ) × LinesLeft). IsFamilyRead naming n 0 p r.0 r.1) same
    (record { count = refl; in_range = All-nil (IsSet n); spelled = λ rest left. (rest, refl, left) })
family_found naming n named (suc many) p family q e =
    let reader = set_line_at naming (codes "set") n in
    let first = bind_found (reader p) _ (family, q) e in
    let others = bind_found (repeat_at reader many first.0.1) _ (family, q) first.2 in
    let same = found-same (first.0.0 ∷ others.0.0, others.0.1) (family, q) others.2 in
    let one = set_line_found naming (codes "set") n named p first.0.0 first.0.1 first.1 in
    let more = family_found naming n named many first.0.1 others.0.0 others.0.1 others.1 in
    subst (λ (r : List (List ℕ) × LinesLeft). IsFamilyRead naming n (suc many) p r.0 r.1) same (record {
      count = ap suc more.count;
      in_range = All-cons (IsSet n) first.0.0 others.0.0 one.in_range more.in_range;
      spelled = λ rest left.
          let behind = more.spelled rest left in
          (listing_line naming (codes "set") one.xs ∷ behind.0, (one.xs, behind.0, one.lists, refl, behind.1), one.spelled behind.0 behind.2);
    })

pub family_again : (naming : Naming) (n : ℕ) → IsNaming n naming → (p : LinesLeft) (family : List (List ℕ)) (lines rest : List Line)
    → All (IsSet n) family → FamilyLines naming family lines rest → AreLeft lines p
    → (q : LinesLeft) × (repeat_at (set_line_at naming (codes "set") n) (length family) p ≡ Ok (family, q)) × AreLeft rest q
unfolding repeat_at
family_again naming n named p [] lines rest in_range spelled left = (p, refl, subst (λ (ls : List Line). AreLeft ls p) spelled left)
family_again naming n named p (set ∷ family) lines rest in_range spelled left =
    let here = subst (λ (ls : List Line). AreLeft ls p) spelled.3 left in
    let first = set_line_again naming (codes "set") n named refl p set spelled.0 spelled.1 (All-head (IsSet n) set family in_range) spelled.2 here in
    let others = family_again naming n named first.0 family spelled.1 rest (All-tail (IsSet n) set family in_range) spelled.4 first.2 in
    (others.0, rw (first.1, others.1) refl, others.2)

-- sets that are read are a family, of as many sets as were asked for
pub family_inside : (naming : Naming) (n : ℕ) → IsNaming n naming → (many : ℕ) (p : LinesLeft) (family : List (List ℕ)) (q : LinesLeft)
    → repeat_at (set_line_at naming (codes "set") n) many p ≡ Ok (family, q) → All (AllBelow n) family
family_inside naming n named many p family q e =
    All-weaker (IsSet n) (AllBelow n) (λ set is. is.below) family (family_found naming n named many p family q e).in_range

pub family_few : (naming : Naming) (n : ℕ) → IsNaming n naming → (many : ℕ) (p : LinesLeft) (family : List (List ℕ)) (q : LinesLeft)
    → repeat_at (set_line_at naming (codes "set") n) many p ≡ Ok (family, q) → many ≤ most_sets → length family < 2 ^ 32
family_few naming n named many p family q e few = let count = (family_found naming n named many p family q e).count in omega arith

pub ruleset family_building = (family_inside, family_few)
