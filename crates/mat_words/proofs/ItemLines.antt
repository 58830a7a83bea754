-- Items in a row, each on a line: what is read is spelled so, and what is spelled so is read.
use Rattle.mat_words.proofs.Common.{◌≡◌, ℕ, zero, suc, List, [], ◌∷◌, ◌++◌, length, map, Result, Ok, refl, ap, subst, All-nil, All-cons, All-head, All-tail, Line, LinesLeft, repeat_at}
use Rattle.std.specs.List.{All}
use Rattle.mat_words.proofs.ReadingSteps.{found-same, bind_found}
use Rattle.mat_words.proofs.LineReading.{AreLeft}

-- a line was read as an item
pub record IsItemRead {A : Type 0} (line : A → Line) (Valid : A → Type 0) (p : LinesLeft) (item : A) (q : LinesLeft) : Type 0 where
  pub valid : Valid item
  pub spelled : (rest : List Line) → AreLeft rest q → AreLeft (line item ∷ rest) p

-- as many lines were read as items
pub record AreItemsRead {A : Type 0} (line : A → Line) (Valid : A → Type 0) (many : ℕ) (p : LinesLeft) (items : List A)
    (q : LinesLeft) : Type 0 where
  pub count : length items ≡ many
  pub each : All Valid items
  pub spelled : (rest : List Line) → AreLeft rest q → AreLeft (map line items ++ rest) p

pub items_found : {A F : Type 0} (reader : LinesLeft → Result (A × LinesLeft) F) (line : A → Line) (Valid : A → Type 0)
    → ((p : LinesLeft) (item : A) (q : LinesLeft) → reader p ≡ Ok (item, q) → IsItemRead line Valid p item q)
    → (many : ℕ) (p : LinesLeft) (items : List A) (q : LinesLeft) → repeat_at reader many p ≡ Ok (items, q)
    → AreItemsRead line Valid many p items q
unfolding repeat_at
items_found {A} reader line Valid one zero p items q e =
    let same = found-same ([], p) (items, q) e in
    subst (λ (r : List A × LinesLeft). AreItemsRead line Valid 0 p r.0 r.1) same
    (record { count = refl; each = All-nil Valid; spelled = λ rest left. left })
items_found {A} reader line Valid one (suc many) p items q e =
    let first = bind_found (reader p) _ (items, q) e in
    let others = bind_found (repeat_at reader many first.0.1) _ (items, q) first.2 in
    let same = found-same (first.0.0 ∷ others.0.0, others.0.1) (items, q) others.2 in
    let here = one p first.0.0 first.0.1 first.1 in
    let more = items_found reader line Valid one many first.0.1 others.0.0 others.0.1 others.1 in
    subst (λ (r : List A × LinesLeft). AreItemsRead line Valid (suc many) p r.0 r.1) same (record {
      count = ap suc more.count;
      each = All-cons Valid first.0.0 others.0.0 here.valid more.each;
      spelled = λ rest left. here.spelled (map line others.0.0 ++ rest) (more.spelled rest left);
    })

pub items_again : {A F : Type 0} (reader : LinesLeft → Result (A × LinesLeft) F) (line : A → Line) (Valid : A → Type 0)
    → ((p : LinesLeft) (item : A) (rest : List Line) → Valid item → AreLeft (line item ∷ rest) p
    → (q : LinesLeft) × (reader p ≡ Ok (item, q)) × AreLeft rest q)
    → (p : LinesLeft) (items : List A) (rest : List Line) → All Valid items → AreLeft (map line items ++ rest) p
    → (q : LinesLeft) × (repeat_at reader (length items) p ≡ Ok (items, q)) × AreLeft rest q
unfolding repeat_at
items_again reader line Valid one p [] rest valid left = (p, refl, left)
items_again reader line Valid one p (item ∷ items) rest valid left =
    let first = one p item (map line items ++ rest) (All-head Valid item items valid) left in
    let others = items_again reader line Valid one first.0 items rest (All-tail Valid item items valid) first.2 in
    (others.0, rw (first.1, others.1) refl, others.2)
