-- What a list of paths is read for: a list is a path where each of its vertices but the first is in the row of the one before it; where paths
-- end, and all their vertices; and an item that stands among those before it stands twice.
use Rattle.mat_witness.proofs.Common.{◌≡◌, ℕ, zero, suc, ◌+◌, ◌-◌, ◌<◌, ◌≤◌, true, false, not, eqb, List, [], ◌∷◌, ◌++◌, length, map, get_or, take, inl, inr, refl, sym, ap, ◌∙◌, arith, and_from, and_left, and_right, eqb-true, false≢true, or_cases, append-nil, map-append, take_more, concat-append}
use Rattle.mat_witness.proofs.Common.{row_at, is_member, AllBelow, are_distinct, is_member-get_or, AllBelow-at, has_arc, last_of, last_of-index, is_path, AreArcRows}
use Rattle.std.specs.List.{concat}

-- ---- paths by their steps

pub is_path-steps : (arcs : List (ℕ × ℕ)) (path : List ℕ) → 0 < length path
    → ((k : ℕ) → suc k < length path → has_arc arcs (get_or path k 0) (get_or path (suc k) 0) ≡ true) → is_path arcs path ≡ true
is_path-steps arcs [] some steps = absurd (omega arith)
is_path-steps arcs (v ∷ []) some steps = refl
is_path-steps arcs (v ∷ w ∷ rest) some steps =
    and_from (has_arc arcs v w) (is_path arcs (w ∷ rest)) (steps 0 (omega arith))
    (is_path-steps arcs (w ∷ rest) (omega arith) (λ k l. steps (suc k) (omega arith)))

is_path-broken : (arcs : List (ℕ × ℕ)) (path : List ℕ) (k : ℕ) → suc k < length path
    → has_arc arcs (get_or path k 0) (get_or path (suc k) 0) ≡ false → is_path arcs path ≡ false
is_path-broken arcs [] k inside broken = absurd (omega arith)
is_path-broken arcs (v ∷ []) k inside broken = absurd (omega arith)
is_path-broken arcs (v ∷ w ∷ rest) zero inside broken = and_left (has_arc arcs v w) (is_path arcs (w ∷ rest)) broken
is_path-broken arcs (v ∷ w ∷ rest) (suc k) inside broken =
    and_right (has_arc arcs v w) (is_path arcs (w ∷ rest)) (is_path-broken arcs (w ∷ rest) k (omega arith) broken)

-- each of the first i vertices but the first is in the row of the one before it
abbrev pub AreAlong : (rows : List (List ℕ)) (path : List ℕ) (i : ℕ) → Type 0
AreAlong rows path i = (k : ℕ) → suc k < i → is_member (get_or path (suc k) 0) (row_at rows (get_or path k 0)) ≡ true

module _ (rows : List (List ℕ)) (path : List ℕ) (below : AllBelow (length rows) path) where
  step_by_rows : (arcs : List (ℕ × ℕ)) → AreArcRows (length rows) arcs rows → (k : ℕ) → suc k < length path
      → is_member (get_or path (suc k) 0) (row_at rows (get_or path k 0)) ≡ has_arc arcs (get_or path k 0) (get_or path (suc k) 0)
  step_by_rows arcs r k inside = r.members (get_or path k 0) (get_or path (suc k) 0) (AllBelow-at (length rows) path k below (omega arith))

  pub is_path-along : 0 < length path → (i : ℕ) → length path ≤ i → AreAlong rows path i → (arcs : List (ℕ × ℕ))
      → AreArcRows (length rows) arcs rows → true ≡ is_path arcs path
  is_path-along some i past along arcs r =
      sym (is_path-steps arcs path some (λ k inside. sym (step_by_rows arcs r k inside) ∙ along k (omega arith)))

  pub is_path-off : (k : ℕ) → suc k < length path → is_member (get_or path (suc k) 0) (row_at rows (get_or path k 0)) ≡ false
      → (arcs : List (ℕ × ℕ)) → AreArcRows (length rows) arcs rows → false ≡ is_path arcs path
  is_path-off k inside off arcs r = sym (is_path-broken arcs path k inside (sym (step_by_rows arcs r k inside) ∙ off))

-- ---- last vertices

-- the last vertices of the first paths, and of one path more
last_of-more : (lists : List (List ℕ)) (i : ℕ) (path : List ℕ) → i < length lists → path ≡ get_or lists i path → 0 < length path
    → map last_of (take i lists) ++ get_or path (length path - 1) 0 ∷ [] ≡ map last_of (take (i + 1) lists)
last_of-more lists i path inside at some =
    let last = last_of-index path (length path - 1) (omega arith) in
    ap (λ v. map last_of (take i lists) ++ v ∷ []) (sym last ∙ ap last_of at)
    ∙ sym (ap (map last_of) (take_more lists i path inside) ∙ map-append last_of (take i lists) (get_or lists i path ∷ []))

pub last_of-pushed : (lists : List (List ℕ)) (i found : ℕ) (path before after : List ℕ) → i < length lists → path ≡ get_or lists i path
    → 0 < length path → found ≡ get_or path (length path - 1) 0 → before ≡ map last_of (take i lists) → after ≡ before ++ found ∷ []
    → after ≡ map last_of (take (i + 1) lists)
last_of-pushed lists i found path before after inside at some last listed pushed =
    pushed ∙ ap (λ vs. vs ++ found ∷ []) listed ∙ ap (λ v. map last_of (take i lists) ++ v ∷ []) last ∙ last_of-more lists i path inside at some

-- all vertices of the first paths, and of one path more
pub concat-more : (lists : List (List ℕ)) (i : ℕ) (path : List ℕ) → i < length lists → path ≡ get_or lists i path
    → concat (take i lists) ++ path ≡ concat (take (i + 1) lists)
concat-more lists i path inside at =
    ap (λ vs. concat (take i lists) ++ vs) (at ∙ sym (append-nil (get_or lists i path)))
    ∙ sym (ap concat (take_more lists i path inside) ∙ concat-append (take i lists) (get_or lists i path ∷ []))

-- ---- items that stand twice

pub are_distinct-repeated : (xs : List ℕ) (i : ℕ) → i < length xs → is_member (get_or xs i 0) (take i xs) ≡ true → are_distinct xs ≡ false
are_distinct-repeated [] i inside m = absurd (omega arith)
are_distinct-repeated (x ∷ xs) zero inside m = absurd (false≢true m)
are_distinct-repeated (x ∷ xs) (suc i) inside m = elim (or_cases (eqb (get_or xs i 0) x) (is_member (get_or xs i 0) (take i xs)) m) [
  | inl same ↦ and_left (not (is_member x xs)) (are_distinct xs)
      (ap not (is_member-get_or xs i x (omega arith) (eqb-true (get_or xs i 0) x same)))
  | inr later ↦ and_right (not (is_member x xs)) (are_distinct xs) (are_distinct-repeated xs i (omega arith) later)
]
