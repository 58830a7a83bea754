-- Rows are emptied one place after the other: those of these elements below x are empty, and all others are as they were.
use Rattle.mat_exchange.proofs.Common.{◌≡◌, ℕ, ◌+◌, ◌<◌, ◌≤◌, Bool, true, false, ◌&&◌, cond, ltb, List, [], length, set, inl, inr, refl, sym, ap, ◌∙◌, arith, get_or-set_other, get_or-set_same, length-set, cases_eq, cases_lt, cond-false, cond-true, lt-ltb, le-ltb, get_or_past, row_at, is_member}
use Rattle.mat_exchange.proofs.Common.{ltb-other}

pub record AreEmptiedTo (elements : List ℕ) (x : ℕ) (before after : List (List ℕ)) : Type 0 where
  pub count : length after ≡ length before
  pub emptied : (k : ℕ) → row_at after k ≡ cond (ltb k x && is_member k elements) [] (row_at before k)

pub none_emptied : (elements : List ℕ) (rows : List (List ℕ)) → AreEmptiedTo elements 0 rows rows
none_emptied elements rows = record {
  count = refl;
  emptied = λ k. sym (cond-false (ltb k 0 && is_member k elements) [] (row_at rows k)
      (ap (λ b. b && is_member k elements) (le-ltb k 0 (omega arith))));
}

module _ (elements : List ℕ) (x : ℕ) (before rows : List (List ℕ)) (so_far : AreEmptiedTo elements x before rows) where
  pub one_emptied : (rows' : List (List ℕ)) → x < length rows → is_member x elements ≡ true → rows' ≡ set rows x [] → AreEmptiedTo elements (x + 1) before rows'
  one_emptied rows' within here put = record {
    count = ap length put ∙ length-set rows x [] ∙ so_far.count;
    emptied = λ k. ap (λ r. row_at r k) put ∙ elim (cases_eq k x) [
      | inl e ↦ ap (row_at (set rows x [])) e ∙ get_or-set_same rows x [] [] within
          ∙ sym (cond-true (ltb k (x + 1) && is_member k elements) [] (row_at before k)
          (let l = lt-ltb k (x + 1) (omega arith) in let m = ap (λ z. is_member z elements) e ∙ here in grind arith))
      | inr d ↦ get_or-set_other rows x k [] [] d ∙ so_far.emptied k
          ∙ ap (λ b. cond (b && is_member k elements) [] (row_at before k)) (ltb-other k x d)
    ];
  }

  pub one_kept : is_member x elements ≡ false → AreEmptiedTo elements (x + 1) before rows
  one_kept out = record {
    count = so_far.count;
    emptied = λ k. so_far.emptied k ∙ ap (λ b. cond b [] (row_at before k)) (same_test k);
  }
    where
      same_test : (k : ℕ) → (ltb k x && is_member k elements) ≡ (ltb k (x + 1) && is_member k elements)
      same_test k = elim (cases_eq k x) [
        | inl e ↦ (let none = ap (λ z. is_member z elements) e ∙ out in grind arith)
        | inr d ↦ ap (λ b. b && is_member k elements) (ltb-other k x d)
      ]

  pub all_emptied : length rows ≤ x → (k : ℕ) → row_at rows k ≡ cond (is_member k elements) [] (row_at before k)
  all_emptied all k = so_far.emptied k ∙ elim (cases_lt k x) [
    | inl l ↦ ap (λ b. cond (b && is_member k elements) [] (row_at before k)) (lt-ltb k x l)
    | inr g ↦ (let none = get_or_past before k [] (omega (arith, all, g, so_far.count)) in
        same_rows (ltb k x && is_member k elements) (is_member k elements) (row_at before k) none)
  ]
    where
      same_rows : (a b : Bool) (row : List ℕ) → row ≡ [] → cond a [] row ≡ cond b [] row
      same_rows true true row h = refl
      same_rows true false row h = sym h
      same_rows false true row h = h
      same_rows false false row h = refl
