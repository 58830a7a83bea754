-- Items that stand in a row, each on a line: what is read is spelled so, and what is spelled so is read.
use Rattle.mat_cert.proofs.Common.{◌≡◌, ℕ, List, [], ◌∷◌, ◌++◌, length, map, Result, Ok, true, IsSet, Line, is_word, members_line, LinesLeft, repeat_at, AreLeft, LevelLine, Fault, IsRangedLevel, level_line, sets_lines, set_at, sets_at, level_at}
use Rattle.std.specs.List.{All}
use Rattle.mat_words.proofs.ItemLines as any_items
use Rattle.mat_cert.proofs.LineLaws.{IsRead, IsReadAgain, set_found, set_again, level_found, level_again}

-- as many items were read, each of which is in range
pub record AreItemsRead {A : Type 0} (IsIn : A → Type 0) (many : ℕ) (items : List A) : Type 0 where
  pub count : length items ≡ many
  pub each : All IsIn items

pub items_found : {A : Type 0} (reader : LinesLeft → Result (A × LinesLeft) Fault) (IsIn : A → Type 0) (line_of : A → Line)
    → ((p : LinesLeft) (item : A) (q : LinesLeft) → reader p ≡ Ok (item, q) → IsRead (IsIn item) (line_of item ∷ []) p q)
    → (many : ℕ) (p : LinesLeft) (items : List A) (q : LinesLeft) → repeat_at reader many p ≡ Ok (items, q)
    → IsRead (AreItemsRead IsIn many items) (map line_of items) p q
items_found reader IsIn line_of one many p items q e =
    let read = any_items.items_found reader line_of IsIn
    (λ p item q e. let here = one p item q e in record { valid = here.in_range; spelled = here.spelled }) many p items q e in
    record { in_range = record { count = read.count; each = read.each }; spelled = read.spelled }

pub items_again : {A : Type 0} (reader : LinesLeft → Result (A × LinesLeft) Fault) (IsIn : A → Type 0) (line_of : A → Line)
    → ((p : LinesLeft) (item : A) (rest : List Line) → IsIn item → AreLeft (line_of item ∷ rest) p → IsReadAgain (reader p) item rest)
    → (p : LinesLeft) (items : List A) (rest : List Line) → All IsIn items → AreLeft (map line_of items ++ rest) p
    → IsReadAgain (repeat_at reader (length items) p) items rest
items_again reader IsIn line_of one p items rest each left = any_items.items_again reader line_of IsIn one p items rest each left

-- ---- sets, and levels

pub sets_found : (key : List ℕ) (n many : ℕ) (p : LinesLeft) (sets : List (List ℕ)) (q : LinesLeft) → sets_at key n many p ≡ Ok (sets, q)
    → IsRead ((length sets ≡ many) × All (IsSet n) sets) (sets_lines key sets) p q
sets_found key n many p sets q e =
    let read = items_found (set_at key n) (IsSet n) (members_line key) (set_found key n) many p sets q e in
    record { in_range = (read.in_range.count, read.in_range.each); spelled = read.spelled }

pub sets_again : (key : List ℕ) (n : ℕ) (p : LinesLeft) (sets : List (List ℕ)) (rest : List Line) → is_word key ≡ true
    → All (IsSet n) sets → AreLeft (sets_lines key sets ++ rest) p → IsReadAgain (sets_at key n (length sets) p) sets rest
sets_again key n p sets rest keyword each left =
    items_again (set_at key n) (IsSet n) (members_line key) (λ p set rest in_range left. set_again key n p set rest keyword in_range left)
    p sets rest each left

pub levels_found : (n many : ℕ) (p : LinesLeft) (levels : List LevelLine) (q : LinesLeft) → repeat_at (level_at n) many p ≡ Ok (levels, q)
    → IsRead ((length levels ≡ many) × All (IsRangedLevel n) levels) (map level_line levels) p q
levels_found n many p levels q e =
    let read = items_found (level_at n) (IsRangedLevel n) level_line (level_found n) many p levels q e in
    record { in_range = (read.in_range.count, read.in_range.each); spelled = read.spelled }

pub levels_again : (n : ℕ) (p : LinesLeft) (levels : List LevelLine) (rest : List Line) → All (IsRangedLevel n) levels
    → AreLeft (map level_line levels ++ rest) p → IsReadAgain (repeat_at (level_at n) (length levels) p) levels rest
levels_again n p levels rest each left = items_again (level_at n) (IsRangedLevel n) level_line (level_again n) p levels rest each left
