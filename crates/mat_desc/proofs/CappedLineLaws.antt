-- A line with a cap and the elements of a set behind its keyword: what is read is spelled so, and what is spelled so is read. Class lines and
-- set lines are read so.
use Rattle.mat_desc.proofs.Common.{◌≡◌, ℕ, ◌≤◌, true, false, ◌||◌, List, [], ◌∷◌, pos, Result, Ok, refl, sym, subst, ◌∙◌, arith, and_from, is_member, IsSet, is_word, numeral, Line, numeral_word, most_elements, WordsLeft, LinesLeft, ◌>>=◌, Fault, Naming, words_for, IsNaming, keyed_at, size_at}
use Rattle.mat_desc.proofs.Common.{elements_at, Lists, found-same, bind_found, size_again, AreLeft, keyed_again}
use Rattle.std.specs.List.{list_all}
use Rattle.mat_desc.proofs.Told.{cut_then, size_found, keyed_found}
use Rattle.mat_desc.proofs.NotationLaws.{words_for-words}
use Rattle.mat_desc.proofs.ElementLaws.{with_each, elements_found, Lists-read, IsSet-read, listed_below, set_again, members_made, members_left}

-- the line of a cap and of elements in any order
abbrev pub listed_line : Naming → List ℕ → ℕ → List ℕ → Line
listed_line naming key cap xs = key ∷ numeral (pos cap) ∷ words_for naming xs

-- the cap, the set, what is taken behind it, and the lines behind it
abbrev pub capped_at : Naming → List ℕ → ℕ → List ℕ → LinesLeft → Result (ℕ × List ℕ × List ℕ × LinesLeft) Fault
capped_at naming key n taken p = keyed_at key p >>= λ line. size_at 0 most_elements line.0 >>= λ cap. elements_at naming n taken cap.1
    >>= λ elements. Ok (cap.0, elements.0, elements.1, line.1)

-- its steps
pub capped_steps : (naming : Naming) (key : List ℕ) (n : ℕ) (taken : List ℕ) (p : LinesLeft) (line : WordsLeft × LinesLeft) (cap : ℕ × WordsLeft)
    (elements : List ℕ × List ℕ)
    → keyed_at key p ≡ Ok line → size_at 0 most_elements line.0 ≡ Ok cap → elements_at naming n taken cap.1 ≡ Ok elements
    → capped_at naming key n taken p ≡ Ok (cap.0, elements.0, elements.1, line.1)
capped_steps naming key n taken p line cap elements e f g = rw (e, f, g) refl

-- such a line was read
pub record IsCappedRead (naming : Naming) (key : List ℕ) (n : ℕ) (taken : List ℕ) (p : LinesLeft) (cap : ℕ) (set left : List ℕ)
    (q : LinesLeft) : Type 0 where
  pub xs : List ℕ
  pub lists : Lists xs set
  pub small : cap ≤ most_elements
  pub in_range : IsSet n set
  pub fresh : (x : ℕ) → is_member x set ≡ true → is_member x taken ≡ false
  pub taken_left : (x : ℕ) → is_member x left ≡ (is_member x set || is_member x taken)
  pub spelled : (rest : List Line) → AreLeft rest q → AreLeft (listed_line naming key cap xs ∷ rest) p

pub capped_read : (naming : Naming) (key : List ℕ) (n : ℕ) → IsNaming n naming → (taken : List ℕ) (p : LinesLeft) (cap : ℕ)
    (set left : List ℕ) (q : LinesLeft)
    → capped_at naming key n taken p ≡ Ok (cap, set, left, q) → IsCappedRead naming key n taken p cap set left q
capped_read naming key n named taken p cap set left q e =
    let line = bind_found (keyed_at key p) _ (cap, set, left, q) e in
    let caps = bind_found (size_at 0 most_elements line.0.0) _ (cap, set, left, q) line.2 in
    let elements = bind_found (elements_at naming n taken caps.0.1) _ (cap, set, left, q) caps.2 in
    let same = found-same (caps.0.0, elements.0.0, elements.0.1, line.0.1) (cap, set, left, q) elements.2 in
    let number = size_found 0 most_elements line.0.0 caps.0.0 caps.0.1 caps.1 in
    let read = elements_found naming n named caps.0.1.line taken [] caps.0.1.words elements.0.0 elements.0.1 elements.1 in
    let words : line.0.0.words ≡ numeral (pos caps.0.0) ∷ words_for naming read.xs =
    cut_then (numeral (pos caps.0.0)) line.0.0.words caps.0.1.words (words_for naming read.xs) number.cut read.cut in
    let one : IsCappedRead naming key n taken p caps.0.0 elements.0.0 elements.0.1 line.0.1 = record {
      xs = read.xs;
      lists = Lists-read naming n taken caps.0.1.words elements.0.0 elements.0.1 read;
      small = omega (arith, number.most);
      in_range = IsSet-read naming n taken caps.0.1.words elements.0.0 elements.0.1 read;
      fresh = λ x h. read.fresh x (sym (members_made taken read.xs elements.0.0 read.set_made x) ∙ h);
      taken_left = members_left taken read.xs elements.0.0 elements.0.1 read.set_made read.taken_left;
      spelled = λ rest behind. subst (λ (ws : Line). AreLeft ((key ∷ ws) ∷ rest) p) words
          (keyed_found key p line.0.0 line.0.1 line.1 rest behind);
    } in
    subst (λ (r : ℕ × List ℕ × List ℕ × LinesLeft). IsCappedRead naming key n taken p r.0 r.1 r.2 r.3) same one

pub capped_again : (naming : Naming) (key : List ℕ) (n : ℕ) → IsNaming n naming → (taken : List ℕ) (p : LinesLeft) (cap : ℕ)
    (set xs : List ℕ) (rest : List Line)
    → is_word key ≡ true → cap ≤ most_elements → IsSet n set → Lists xs set
    → ((x : ℕ) → is_member x set ≡ true → is_member x taken ≡ false) → AreLeft (listed_line naming key cap xs ∷ rest) p
    → (q : LinesLeft) × (capped_at naming key n taken p ≡ Ok (cap, set, with_each taken xs, q)) × AreLeft rest q
capped_again naming key n named taken p cap set xs rest keyword small in_range lists fresh left =
    let members = words_for-words naming n named xs (listed_below n xs set in_range lists) in
    let words : list_all is_word (numeral (pos cap) ∷ words_for naming xs) ≡ true =
    and_from (is_word (numeral (pos cap))) (list_all is_word (words_for naming xs)) (numeral_word (pos cap)) members in
    let line = keyed_again key p (numeral (pos cap) ∷ words_for naming xs) rest keyword words left in
    let number = size_again 0 most_elements p.line cap (words_for naming xs) (omega arith) (omega arith) in
    let elements = set_again naming n named p.line taken set xs in_range lists fresh in
    (line.0, rw (line.1, number, elements) refl, line.2)
