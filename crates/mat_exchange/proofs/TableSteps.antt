-- How a table is made of exchanges: what the loops keep over the rows and the columns so far. Between two steps the elements below x are
-- entered, and those that were not missing from the beginning.
use Rattle.mat_exchange.proofs.Common.{◌≡◌, ◌≢◌, ℕ, ◌+◌, ◌<◌, ◌≤◌, Bool, true, false, ◌||◌, ◌&&◌, not, cond, ltb, eqb, List, [], length, replicate, set, inl, inr, refl, subst, sym, ap, ◌∙◌, arith, get_or-set_other, get_or-set_same, length-set, and_right, both_ways, cases_Bool, cases_eq, cases_lt}
use Rattle.mat_exchange.proofs.Common.{cond-false, cond-true, eq-eqb, lt-ltb, le-ltb, ne_eqb, get_or_default, get_or_past, get_or-replicate, length-replicate, same_lists, is_member, with_one, is_member-with_one, Exchange, exchanges_in, row_in, same_row, AreTransposed, AreWhole, IsFilledTable}
use Rattle.mat_exchange.proofs.Common.{entered_to, row_from, table_of, written, row_at, AreRemoved, IsEntered}
use Rattle.std.proofs.lemmas.Bool.Decides.{nat_tests}
use Rattle.mat_exchange.proofs.RowTables.{has_written, length-table_of, row_in-table_of}
use mathlib.Core.Path.{fun_ext}

-- ---- which elements are entered

-- one element more
entered_next : (missing : List ℕ) (x k : ℕ) → entered_to missing (x + 1) k ≡ (entered_to missing x k || eqb k x)
entered_next missing x k = grind (arith, nat_tests)

entered_here : (missing : List ℕ) (x k : ℕ) → k ≡ x → entered_to missing (x + 1) k ≡ true
entered_here missing x k e = let l = lt-ltb k (x + 1) (omega arith) in grind arith

entered_before : (missing : List ℕ) (x k : ℕ) → k ≢ x → entered_to missing (x + 1) k ≡ entered_to missing x k
entered_before missing x k d = let more = entered_next missing x k in let q = ne_eqb k x d in grind arith

-- at the beginning
entered_first : (missing : List ℕ) (k : ℕ) → entered_to missing 0 k ≡ not (is_member k missing)
entered_first missing k = let none = le-ltb k 0 (omega arith) in grind arith

entered_below : (missing : List ℕ) (x k : ℕ) → k < x → entered_to missing x k ≡ true
entered_below missing x k l = let below = lt-ltb k x l in grind arith

-- an element that is not missing is passed over
pub IsFilledTable-pass : (exchanges : List Exchange) (missing : List ℕ) (x : ℕ) (addable : List ℕ) (rows columns : List (List ℕ))
    → IsFilledTable exchanges (entered_to missing x) addable rows columns → is_member x missing ≡ false
    → IsFilledTable exchanges (entered_to missing (x + 1)) addable rows columns
IsFilledTable-pass exchanges missing x addable rows columns f out =
    subst (λ (entered : ℕ → Bool). IsFilledTable exchanges entered addable rows columns) (fun_ext same) f
  where
    same : (k : ℕ) → entered_to missing x k ≡ entered_to missing (x + 1) k
    same k = elim (cases_eq k x) [
      | inl e ↦ (let q = ap (λ z. is_member z missing) e ∙ out in let here = entered_here missing x k e in grind arith)
      | inr d ↦ sym (entered_before missing x k d)
    ]

-- ---- all rows

none_at : (n k : ℕ) → row_at (replicate n []) k ≡ []
none_at n k = elim (cases_lt k n) [
  | inl l ↦ get_or-replicate {A = List ℕ} n k [] [] l
  | inr g ↦ get_or_past (replicate n []) k [] (subst (λ m. m ≤ k) (sym (length-replicate n [])) g)
]

-- past the last row
past : (exchanges : List Exchange) (k : ℕ) → length exchanges ≤ k → row_in exchanges k ≡ record { addable = false; with = [] }
past exchanges k g = get_or_past exchanges k (record { addable = false; with = [] }) g

-- nothing is entered, and all elements are missing
pub IsFilledTable-none : (exchanges : List Exchange) (missing : List ℕ) (n : ℕ) (addable : List ℕ) (rows columns : List (List ℕ)) → length exchanges ≡ n
    → ((k : ℕ) → is_member k missing ≡ ltb k n)
    → addable ≡ [] → rows ≡ replicate n [] → columns ≡ replicate n [] → IsFilledTable exchanges (entered_to missing 0) addable rows columns
IsFilledTable-none exchanges missing n addable rows columns long all no_adds no_rows empty = record {
  count = ap length no_rows ∙ length-replicate n [] ∙ sym long;
  adds = λ k. ap (is_member k) no_adds ∙ sym (none_entered k (row_in exchanges k).addable (λ g. ap (λ (r : Exchange). r.addable) (past exchanges k g)));
  same = λ k h. ap (λ r. row_at r k) no_rows ∙ none_at n k ∙ elim (cases_lt k n) [
    | inl l ↦ absurd (both_ways _ (missing_below k l) h)
    | inr g ↦ sym (ap written (past exchanges k (omega (arith, long))))
  ];
  missing_yet = λ k h. ap (λ r. row_at r k) no_rows ∙ none_at n k;
  columns_count = ap length empty ∙ length-replicate n [] ∙ sym long;
  transposed = λ k y h. ap (λ c. is_member k (row_at c y)) empty ∙ ap (is_member k) (none_at n y)
      ∙ sym (none_entered k (not (row_in exchanges k).addable && is_member y (row_in exchanges k).with)
      (λ g. ap (λ (r : Exchange). not r.addable && is_member y r.with) (past exchanges k g)));
}
  where
    missing_below : (k : ℕ) → k < n → entered_to missing 0 k ≡ false
    missing_below k l = let first = entered_first missing k in let m = all k in let below = lt-ltb k n l in grind arith

    none_entered : (k : ℕ) (b : Bool) → (length exchanges ≤ k → b ≡ false) → (entered_to missing 0 k && b) ≡ false
    none_entered k b past_end = elim (cases_lt k n) [
      | inl l ↦ ap (λ e. e && b) (missing_below k l)
      | inr g ↦ and_right (entered_to missing 0 k) b (past_end (omega (arith, long)))
    ]

-- ---- one row more

module _ (exchanges : List Exchange) (missing : List ℕ) (x : ℕ) (addable : List ℕ) (rows columns : List (List ℕ))
    (f : IsFilledTable exchanges (entered_to missing x) addable rows columns) where
  -- what holds of x, and of each other element that was entered, holds of all that are entered then
  entered_or_here : (P : ℕ → Type 0) → P x → ((k : ℕ) → entered_to missing x k ≡ true → P k) → (k : ℕ) → entered_to missing (x + 1) k ≡ true → P k
  entered_or_here P here before k h = elim (cases_eq k x) [
    | inl e ↦ subst P (sym e) here
    | inr d ↦ before k (sym (entered_before missing x k d) ∙ h)
  ]

  not_here : (k : ℕ) → entered_to missing (x + 1) k ≡ false → k ≢ x
  not_here k h = λ e. both_ways _ h (entered_here missing x k e)

  not_before : (k : ℕ) → entered_to missing (x + 1) k ≡ false → entered_to missing x k ≡ false
  not_before k h = sym (entered_before missing x k (not_here k h)) ∙ h

  -- where x is entered with nothing that is written down
  bare_row : written (row_in exchanges x) ≡ [] → row_at rows x ≡ written (row_in exchanges x)
  bare_row bare = elim (cases_Bool (entered_to missing x x)) [
    | inl t ↦ f.same x t
    | inr o ↦ f.missing_yet x o ∙ sym bare
  ]

  same_flag : (flag : ℕ → Bool) → flag x ≡ false → (k : ℕ) → (entered_to missing x k && flag k) ≡ (entered_to missing (x + 1) k && flag k)
  same_flag flag none k = elim (cases_eq k x) [
    | inl e ↦ (let here = ap flag e ∙ none in and_right _ _ here ∙ sym (and_right _ _ here))
    | inr d ↦ ap (λ b. b && flag k) (sym (entered_before missing x k d))
  ]

  one_flag : (flag : ℕ → Bool) → flag x ≡ true → (k : ℕ) → (eqb k x || (entered_to missing x k && flag k)) ≡ (entered_to missing (x + 1) k && flag k)
  one_flag flag is k = elim (cases_eq k x) [
    | inl e ↦ (let here = ap flag e ∙ is in let entered = entered_here missing x k e in let q = eq-eqb k x e in grind arith)
    | inr d ↦ (let before = entered_before missing x k d in let q = ne_eqb k x d in grind arith)
  ]

  -- x can be added
  pub IsFilledTable-add : (addable' : List ℕ) → (row_in exchanges x).addable ≡ true → addable' ≡ with_one addable x
      → IsFilledTable exchanges (entered_to missing (x + 1)) addable' rows columns
  IsFilledTable-add addable' h put = record {
    count = f.count;
    adds = λ k. ap (is_member k) put ∙ is_member-with_one k x addable ∙ ap (λ b. eqb k x || b) (f.adds k)
        ∙ one_flag (λ z. (row_in exchanges z).addable) h k;
    same = entered_or_here (λ k. row_at rows k ≡ written (row_in exchanges k)) (bare_row (cond-true (row_in exchanges x).addable [] (row_in exchanges x).with h)) f.same;
    missing_yet = λ k h. f.missing_yet k (not_before k h);
    columns_count = f.columns_count;
    transposed = λ k y l. f.transposed k y l ∙ same_flag (λ z. not (row_in exchanges z).addable && is_member y (row_in exchanges z).with)
        (ap (λ b. not b && is_member y (row_in exchanges x).with) h) k;
  }

  -- x cannot be added, and has this row
  pub IsFilledTable-enter : (with' : List ℕ) (rows' columns' : List (List ℕ)) → x < length rows
      → row_in exchanges x ≡ record { addable = false; with = with' } → rows' ≡ set rows x with' → IsEntered x with' columns columns'
      → IsFilledTable exchanges (entered_to missing (x + 1)) addable rows' columns'
  IsFilledTable-enter with' rows' columns' within is put entered = record {
    count = ap length put ∙ length-set rows x with' ∙ f.count;
    adds = λ k. f.adds k ∙ same_flag (λ z. (row_in exchanges z).addable) (ap (λ (r : Exchange). r.addable) is) k;
    same = λ k h. elim (cases_eq k x) [
      | inl e ↦ ap (λ r. row_at r k) put ∙ ap (row_at (set rows x with')) e ∙ get_or-set_same rows x with' [] within
          ∙ sym (ap written is) ∙ sym (ap (λ z. written (row_in exchanges z)) e)
      | inr d ↦ ap (λ r. row_at r k) put ∙ get_or-set_other rows x k with' [] d ∙ f.same k (sym (entered_before missing x k d) ∙ h)
    ];
    missing_yet = λ k h. ap (λ r. row_at r k) put ∙ get_or-set_other rows x k with' [] (not_here k h) ∙ f.missing_yet k (not_before k h);
    columns_count = entered.count ∙ f.columns_count;
    transposed = λ k y l. entered.members k y (subst (λ m. y < m) (sym f.columns_count) l)
        ∙ ap (λ b. b || (eqb k x && is_member y with')) (f.transposed k y l) ∙ more k y;
  }
    where
      more : (k y : ℕ) → ((entered_to missing x k && (not (row_in exchanges k).addable && is_member y (row_in exchanges k).with)) || (eqb k x && is_member y with'))
          ≡ (entered_to missing (x + 1) k && (not (row_in exchanges k).addable && is_member y (row_in exchanges k).with))
      more k y = elim (cases_eq k x) [
        | inl e ↦ (let a = ap (λ z. (row_in exchanges z).addable) e ∙ ap (λ (r : Exchange). r.addable) is in
            let w = ap (λ z. is_member y (row_in exchanges z).with) e ∙ ap (λ (r : Exchange). is_member y r.with) is in
            let here = entered_here missing x k e in let q = eq-eqb k x e in by_flag (entered_to missing x k) (is_member y with') _ _ _ _ a w here q)
        | inr d ↦ (let before = entered_before missing x k d in let q = ne_eqb k x d in grind arith)
      ]
        where
          by_flag : (b m added listed here same : Bool) → added ≡ false → listed ≡ m → here ≡ true → same ≡ true
              → ((b && (not added && listed)) || (same && m)) ≡ (here && (not added && listed))
          by_flag b m added listed here same p q r s = rw (p, q, r, s) (both b m)
            where
              both : (b m : Bool) → ((b && (true && m)) || (true && m)) ≡ (true && (true && m))
              both true true = refl
              both true false = refl
              both false true = refl
              both false false = refl

  -- x is a member, and has no exchanges
  pub IsFilledTable-skip : row_in exchanges x ≡ record { addable = false; with = [] } → IsFilledTable exchanges (entered_to missing (x + 1)) addable rows columns
  IsFilledTable-skip is = record {
    count = f.count;
    adds = λ k. f.adds k ∙ same_flag (λ z. (row_in exchanges z).addable) (ap (λ (r : Exchange). r.addable) is) k;
    same = entered_or_here (λ k. row_at rows k ≡ written (row_in exchanges k)) (bare_row (ap written is)) f.same;
    missing_yet = λ k h. f.missing_yet k (not_before k h);
    columns_count = f.columns_count;
    transposed = λ k y l. f.transposed k y l ∙ same_flag (λ z. not (row_in exchanges z).addable && is_member y (row_in exchanges z).with)
        (ap (λ (r : Exchange). not r.addable && is_member y r.with) is) k;
  }

-- ---- the rows that stay

-- what stays of a table when rows are missing again, among them those of all that could be added: the rows of all others, where they are those
-- of the new exchanges; of the missing rows only the lost ones were written down
pub IsFilledTable-reopened : (before exchanges : List Exchange) (lost missing : List ℕ) (old rows old_columns columns : List (List ℕ))
    → length old ≡ length before → length old_columns ≡ length before
    → ((x : ℕ) → row_at old x ≡ written (row_in before x))
    → ((y x : ℕ) → y < length before
    → is_member x (row_at old_columns y) ≡ (not ((exchanges_in before).adds x) && (exchanges_in before).trades y x))
    → length rows ≡ length old → ((k : ℕ) → row_at rows k ≡ cond (is_member k lost) [] (row_at old k))
    → AreRemoved lost old_columns columns
    → ((x : ℕ) → is_member x lost ≡ true → is_member x missing ≡ true)
    → ((x : ℕ) → is_member x missing ≡ true → is_member x lost ≡ false → written (row_in before x) ≡ [])
    → ((x : ℕ) → (exchanges_in before).adds x ≡ true → is_member x missing ≡ true)
    → length exchanges ≡ length before → ((x : ℕ) → is_member x missing ≡ false → row_in exchanges x ≡ row_in before x)
    → IsFilledTable exchanges (entered_to missing 0) [] rows columns
IsFilledTable-reopened before exchanges lost missing old rows old_columns columns count columns_count old_rows old_transposed kept emptied removed inside bare added long stays = record {
  count = kept ∙ count ∙ sym long;
  adds = λ k. sym (elim (cases_Bool (is_member k missing)) [
    | inl o ↦ (let first = entered_first missing k in grind arith)
    | inr s ↦ and_right _ _ (not_added k s)
  ]);
  same = λ k h. (let s = not_missing k h in emptied k ∙ cond-false (is_member k lost) [] (row_at old k) (not_lost k s) ∙ old_rows k
      ∙ ap written (sym (stays k s)));
  missing_yet = λ k h. emptied k ∙ elim (cases_Bool (is_member k lost)) [
    | inl l ↦ cond-true (is_member k lost) [] (row_at old k) l
    | inr n ↦ cond-false (is_member k lost) [] (row_at old k) n ∙ old_rows k ∙ bare k (is_missing k h) n
  ];
  columns_count = removed.count ∙ columns_count ∙ sym long;
  transposed = λ k y l. removed.members y k ∙ ap (λ b. b && not (is_member k lost)) (old_transposed y k (subst (λ m. y < m) long l)) ∙ elim (cases_Bool (is_member k missing)) [
    | inl o ↦ gone k y o
    | inr s ↦ (let first = entered_first missing k in let n = not_lost k s in
        let same = ap (λ (r : Exchange). not r.addable && is_member y r.with) (stays k s) in grind arith)
  ];
}
  where
    not_missing : (k : ℕ) → entered_to missing 0 k ≡ true → is_member k missing ≡ false
    not_missing k h = let first = entered_first missing k in grind arith

    is_missing : (k : ℕ) → entered_to missing 0 k ≡ false → is_member k missing ≡ true
    is_missing k h = let first = entered_first missing k in grind arith

    not_lost : (k : ℕ) → is_member k missing ≡ false → is_member k lost ≡ false
    not_lost k s = elim (cases_Bool (is_member k lost)) [
      | inl l ↦ absurd (both_ways _ s (inside k l))
      | inr n ↦ n
    ]

    not_added : (k : ℕ) → is_member k missing ≡ false → (row_in exchanges k).addable ≡ false
    not_added k s = ap (λ (r : Exchange). r.addable) (stays k s) ∙ elim (cases_Bool (row_in before k).addable) [
      | inl a ↦ absurd (both_ways _ s (added k a))
      | inr a ↦ a
    ]

    gone : (k y : ℕ) → is_member k missing ≡ true
        → ((not (row_in before k).addable && is_member y (row_in before k).with) && not (is_member k lost))
        ≡ (entered_to missing 0 k && (not (row_in exchanges k).addable && is_member y (row_in exchanges k).with))
    gone k y o = elim (cases_Bool (is_member k lost)) [
      | inl l ↦ (let first = entered_first missing k in grind arith)
      | inr n ↦ (let first = entered_first missing k in let none = has_written y (row_in before k) ∙ ap (is_member y) (bare k o n) in grind arith)
    ]

-- ---- the whole table

module _ (exchanges : List Exchange) (missing addable : List ℕ) (rows columns : List (List ℕ))
    (f : IsFilledTable exchanges (entered_to missing (length exchanges)) addable rows columns) where
  all_entered : (x : ℕ) → x < length exchanges → entered_to missing (length exchanges) x ≡ true
  all_entered x l = entered_below missing (length exchanges) x l

  adds : (x : ℕ) → is_member x addable ≡ (row_in exchanges x).addable
  adds k = elim (cases_lt k (length exchanges)) [
    | inl l ↦ f.adds k ∙ ap (λ b. b && (row_in exchanges k).addable) (all_entered k l)
    | inr g ↦ (let none = ap (λ (r : Exchange). r.addable) (past exchanges k g) in
        f.adds k ∙ and_right _ _ none ∙ sym none)
  ]

  has_row_here : (x : ℕ) → is_member x addable ≡ true → x < length exchanges
  has_row_here x m = elim (cases_lt x (length exchanges)) [
    | inl l ↦ l
    | inr g ↦ absurd (both_ways (is_member x addable) (adds x ∙ ap (λ (r : Exchange). r.addable) (past exchanges x g)) m)
  ]

  in_column : (x y : ℕ) → y < length exchanges → is_member x (row_at columns y) ≡ is_member y (row_at rows x)
  in_column x y h = f.transposed x y h ∙ elim (cases_lt x (length exchanges)) [
    | inl l ↦ ap (λ b. b && (not (row_in exchanges x).addable && is_member y (row_in exchanges x).with)) (all_entered x l)
        ∙ has_written y (row_in exchanges x) ∙ sym (ap (is_member y) (f.same x (all_entered x l)))
    | inr g ↦ and_right _ _ (ap (λ (r : Exchange). not r.addable && is_member y r.with) (past exchanges x g))
        ∙ sym (ap (is_member y) (get_or_past rows x [] (subst (λ m. m ≤ x) (sym f.count) g)))
  ]

  pub AreTransposed-filled : AreTransposed addable rows columns
  AreTransposed-filled = record {
    below = λ x m. subst (λ k. x < k) (sym f.count) (has_row_here x m);
    count = f.columns_count ∙ sym f.count;
    bare = λ x m. f.same x (all_entered x (has_row_here x m)) ∙ cond-true (row_in exchanges x).addable [] (row_in exchanges x).with (sym (adds x) ∙ m);
    transposed = λ x y h. in_column x y (subst (λ k. y < k) f.count h);
  }

  pub table_of-filled : (base : List ℕ) → AreWhole base exchanges → table_of base addable rows ≡ exchanges
  table_of-filled base w = same_lists (table_of base addable rows) exchanges (length-table_of base addable rows ∙ f.count) (λ k d h.
      let l : k < length rows = subst (λ m. k < m) (length-table_of base addable rows) h in
      let m : k < length exchanges = subst (λ m. k < m) f.count l in
      let none : Exchange = record { addable = false; with = [] } in
      let row = row_in exchanges k in
      let same : row_from base addable rows k ≡ row = same_row (is_member k addable) row.addable (cond (is_member k addable) base (row_at rows k))
      row.with (adds k) (with_same k m) in
      get_or_default (table_of base addable rows) k d none h ∙ row_in-table_of base addable rows k l ∙ same ∙ get_or_default exchanges k none d m)
    where
      with_same : (k : ℕ) → k < length exchanges → cond (is_member k addable) base (row_at rows k) ≡ (row_in exchanges k).with
      with_same k m = elim (cases_Bool (row_in exchanges k).addable) [
        | inl h ↦ cond-true (is_member k addable) base (row_at rows k) (adds k ∙ h) ∙ sym (w.whole k h)
        | inr h ↦ cond-false (is_member k addable) base (row_at rows k) (adds k ∙ h) ∙ f.same k (all_entered k m)
            ∙ cond-false (row_in exchanges k).addable [] (row_in exchanges k).with h
      ]
