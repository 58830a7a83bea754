-- A table that is kept as sets tells the exchanges of its rows: what stands in them, and in the columns, which are their transpose.
use Rattle.mat_exchange.proofs.Common.{◌≡◌, ℕ, ◌<◌, ◌≤◌, Bool, true, false, not, ◌&&◌, ◌||◌, cond, List, [], length, inl, inr, refl, subst, sym, ap, ◌∙◌, arith, cases_Bool, cases_lt, cond-false, cond-true, false_from_ne_true, get_or_past, get_or-map, length-map, is_member, all_below}
use Rattle.mat_exchange.proofs.Common.{get_or-all_below, length-all_below, Exchange, row_in, exchanges_in, AreTransposed, row_from, table_of, written, row_at}

pub length-table_of : (base addable : List ℕ) (rows : List (List ℕ)) → length (table_of base addable rows) ≡ length rows
length-table_of base addable rows = length-map (all_below (length rows)) (row_from base addable rows) ∙ length-all_below (length rows)

pub row_in-table_of : (base addable : List ℕ) (rows : List (List ℕ)) (x : ℕ) → x < length rows
    → row_in (table_of base addable rows) x ≡ row_from base addable rows x
row_in-table_of base addable rows x h =
    get_or-map (row_from base addable rows) (all_below (length rows)) x 0 (record { addable = false; with = [] })
    (subst (λ l. x < l) (sym (length-all_below (length rows))) h)
    ∙ ap (row_from base addable rows) (get_or-all_below (length rows) x 0 h)

pub row_in-table_past : (base addable : List ℕ) (rows : List (List ℕ)) (x : ℕ) → length rows ≤ x
    → row_in (table_of base addable rows) x ≡ record { addable = false; with = [] }
row_in-table_past base addable rows x h =
    get_or_past (table_of base addable rows) x (record { addable = false; with = [] })
    (subst (λ l. l ≤ x) (sym (length-table_of base addable rows)) h)

-- what is written down of a row
pub has_written : (y : ℕ) (row : Exchange) → (not row.addable && is_member y row.with) ≡ is_member y (written row)
has_written y row = elim (cases_Bool row.addable) [
  | inl h ↦ ap (λ b. not b && is_member y row.with) h ∙ sym (ap (is_member y) (cond-true row.addable [] row.with h))
  | inr h ↦ ap (λ b. not b && is_member y row.with) h ∙ sym (ap (is_member y) (cond-false row.addable [] row.with h))
]

module _ (base : List ℕ) {addable : List ℕ} {rows columns : List (List ℕ)} (t : AreTransposed addable rows columns) (table : List Exchange)
    (is : table_of base addable rows ≡ table) where
  -- an element has a row where the table has
  pub has_row : (x : ℕ) → x < length table → x < length rows
  has_row x h = subst (λ l. x < l) (sym (ap length is) ∙ length-table_of base addable rows) h

  pub has_column : (y : ℕ) → y < length table → y < length columns
  has_column y h = subst (λ l. y < l) (sym t.count) (has_row y h)

  -- what the table says of an element that cannot be added, and of one that can
  without : (x : ℕ) → is_member x addable ≡ false → (row_in (table_of base addable rows) x).with ≡ row_at rows x
  without x out = elim (cases_lt x (length rows)) [
    | inl l ↦ ap (λ (r : Exchange). r.with) (row_in-table_of base addable rows x l) ∙ cond-false (is_member x addable) base (row_at rows x) out
    | inr g ↦ ap (λ (r : Exchange). r.with) (row_in-table_past base addable rows x g) ∙ sym (get_or_past rows x [] g)
  ]

  with_all : (x : ℕ) → is_member x addable ≡ true → (row_in (table_of base addable rows) x).with ≡ base
  with_all x here = ap (λ (r : Exchange). r.with) (row_in-table_of base addable rows x (t.below x here))
      ∙ cond-true (is_member x addable) base (row_at rows x) here

  adds_by_rows : (x : ℕ) → is_member x addable ≡ (exchanges_in (table_of base addable rows)).adds x
  adds_by_rows x = elim (cases_lt x (length rows)) [
    | inl l ↦ sym (ap (λ (r : Exchange). r.addable) (row_in-table_of base addable rows x l))
    | inr g ↦ false_from_ne_true (is_member x addable) (λ m. (let l = t.below x m in let q : ⊥ = absurd (omega arith) in q))
        ∙ sym (ap (λ (r : Exchange). r.addable) (row_in-table_past base addable rows x g))
  ]

  pub addable_tells : (x : ℕ) → is_member x addable ≡ (exchanges_in table).adds x
  addable_tells x = adds_by_rows x ∙ ap (λ r. (exchanges_in r).adds x) is

  pub row_tells : (y x : ℕ) → is_member x addable ≡ false → is_member y (row_at rows x) ≡ (exchanges_in table).trades y x
  row_tells y x out = sym (ap (is_member y) (without x out)) ∙ ap (λ r. (exchanges_in r).trades y x) is

  -- what is written down
  pub written_row : (x : ℕ) → row_at rows x ≡ written (row_in table x)
  written_row x = elim (cases_Bool (is_member x addable)) [
    | inl here ↦ t.bare x here ∙ sym (cond-true (row_in table x).addable [] (row_in table x).with (sym (addable_tells x) ∙ here))
    | inr out ↦ sym (without x out) ∙ ap (λ r. (row_in r x).with) is
        ∙ sym (cond-false (row_in table x).addable [] (row_in table x).with (sym (addable_tells x) ∙ out))
  ]

  pub base_tells : (y x : ℕ) → is_member x addable ≡ true → is_member y base ≡ (exchanges_in table).trades y x
  base_tells y x here = sym (ap (is_member y) (with_all x here)) ∙ ap (λ r. (exchanges_in r).trades y x) is

  pub written_tells : (y x : ℕ) → is_member y (row_at rows x) ≡ (not ((exchanges_in table).adds x) && (exchanges_in table).trades y x)
  written_tells y x = ap (is_member y) (written_row x) ∙ sym (has_written y (row_in table x))

  pub column_tells : (y x : ℕ) → y < length table
      → is_member x (row_at columns y) ≡ (not ((exchanges_in table).adds x) && (exchanges_in table).trades y x)
  column_tells y x h = t.transposed x y (has_row y h) ∙ written_tells y x

  -- the whole column, of those that can be added where y is in the base
  pub whole_column : (y x : ℕ) (all : Bool) → is_member y base ≡ all
      → (cond all (is_member x addable) false || (not ((exchanges_in table).adds x) && (exchanges_in table).trades y x))
      ≡ (exchanges_in table).trades y x
  whole_column y x all e =
      let adds = addable_tells x in
      elim (cases_Bool (is_member x addable)) [
        | inl here ↦ (let told = base_tells y x here in joined all (is_member x addable) _ _ adds here (sym e ∙ told))
        | inr out ↦ apart all (is_member x addable) _ _ adds out
      ]
    where
      joined : (all m a t : Bool) → m ≡ a → m ≡ true → all ≡ t → (cond all m false || (not a && t)) ≡ t
      joined all m a t p q r = rw (sym r, sym p, q) (both all)
        where
          both : (b : Bool) → (cond b true false || (false && b)) ≡ b
          both true = refl
          both false = refl

      apart : (all m a t : Bool) → m ≡ a → m ≡ false → (cond all m false || (not a && t)) ≡ t
      apart all m a t p q = rw (sym p, q) (none all t)
        where
          none : (b t : Bool) → (cond b false false || (true && t)) ≡ t
          none true t = refl
          none false t = refl
