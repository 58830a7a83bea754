-- The rows of all elements at an independent set tell its exchanges: each row says what the exchanges of its element are, and no
-- element past the last row can be added or exchanged, as independent sets lie below n.
use Rattle.mat_exchange.proofs.Common.{◌≡◌, ℕ, ◌<◌, ◌≤◌, Bool, true, false, not, ◌&&◌, if◌then◌else◌, None, Some, List, [], length, inl, inr, refl, sym, ap, ◌∙◌, subst, arith, and_parts, and_right, both_ways, cases_Bool, cases_lt, cond-false, cond-true, eq-eqb, false_from_ne_true, not-true}
use Rattle.mat_exchange.proofs.Common.{get_or_past, is_member, AllBelow, with_one, without_one, set_members, is_member-filter, same_members, IsRising-with_one, IsRising-without_one, AllBelow-from_members, below_member, length-map_all_below, get_or-map_all_below, and_all, Exchange, circuit_members}
use Rattle.mat_exchange.proofs.Common.{row_of, rows_of, IsMatroid, row_of-adds, row_of-trades, Exchanges, exchanges_at, exchanges_in, row_in, AreWhole, IsFilledTable, entered_to, IsTableAt}
use Rattle.mat_sets.proofs.Filters.{IsRising-filter}
use mathlib.Core.Path.{fun_ext}

-- ---- the rows by index

pub length-rows_of : (n : ℕ) (p : List ℕ → Bool) (I : List ℕ) → length (rows_of n p I) ≡ n
length-rows_of n p I = length-map_all_below (row_of p I) n

pub row_in-rows_of : (n : ℕ) (p : List ℕ → Bool) (I : List ℕ) (x : ℕ) → x < n → row_in (rows_of n p I) x ≡ row_of p I x
row_in-rows_of n p I x h = get_or-map_all_below (row_of p I) n x (record { addable = false; with = [] }) h

pub row_in-past : (n : ℕ) (p : List ℕ → Bool) (I : List ℕ) (x : ℕ) → n ≤ x
    → row_in (rows_of n p I) x ≡ record { addable = false; with = [] }
row_in-past n p I x h = get_or_past (rows_of n p I) x (record { addable = false; with = [] }) (subst (λ l. l ≤ x) (sym (length-rows_of n p I)) h)

-- where the rows up to n are entered, all are
pub all_filled : (n : ℕ) (p : List ℕ → Bool) (I missing addable : List ℕ) (rows columns : List (List ℕ))
    → IsFilledTable (rows_of n p I) (entered_to missing n) addable rows columns
    → IsFilledTable (rows_of n p I) (entered_to missing (length (rows_of n p I))) addable rows columns
all_filled n p I missing addable rows columns f =
    subst (λ k. IsFilledTable (rows_of n p I) (entered_to missing k) addable rows columns) (sym (length-rows_of n p I)) f

-- ---- one row

-- where there is no circuit the element can be added
pub no_circuit : (e : Exchange) → circuit_members e ≡ None → e.addable ≡ true
no_circuit e h = by_flag e.addable h
  where
    apart : Some e.with ≡ None → ⊥
    apart h = cc

    by_flag : (b : Bool) → (if b then None else Some e.with) ≡ None → b ≡ true
    by_flag true h = refl
    by_flag false h = absurd (apart h)

-- and where there is one its members are all that the row tells
pub circuit_row : (e : Exchange) (members : List ℕ) → circuit_members e ≡ Some members → e ≡ record { addable = false; with = members }
circuit_row e members h = by_flag e.addable h
  where
    apart : None ≡ Some members → ⊥
    apart h = cc

    same : Some e.with ≡ Some members → e.with ≡ members
    same h = cc

    told : Bool → List ℕ → Exchange
    told b with = record { addable = b; with = with }

    by_flag : (b : Bool) → (if b then None else Some e.with) ≡ Some members → told b e.with ≡ told false members
    by_flag true h = absurd (apart h)
    by_flag false h = ap (told false) (same h)

-- ---- all rows

exchanges_of : (ℕ → Bool) → (ℕ → ℕ → Bool) → Exchanges
exchanges_of f g = record { adds = f; trades = g }

same_exchanges : (a b : Exchanges) → ((x : ℕ) → a.adds x ≡ b.adds x) → ((y x : ℕ) → a.trades y x ≡ b.trades y x) → a ≡ b
unfolding exchanges_of
same_exchanges a b f g =
    ap (λ (t : ℕ → Bool). exchanges_of t a.trades) (fun_ext (λ x. f x))
    ∙ ap (λ (t : ℕ → ℕ → Bool). exchanges_of b.adds t) (fun_ext (λ y. fun_ext (λ x. g y x)))

module _ {n : ℕ} {p : List ℕ → Bool} (laws : IsMatroid n p) (I : List ℕ) where
  -- nothing from n on is in an independent set
  none_past : (J : List ℕ) (x : ℕ) → n ≤ x → p (with_one J x) ≡ false
  none_past J x h = false_from_ne_true _ (λ ok.
      let l : x < n = below_member (laws.sets (with_one J x) ok) (let e = eq-eqb x x refl in grind (arith, set_members)) in
      let q : ⊥ = absurd (omega arith) in q)

  adds_agree : (x : ℕ) → (exchanges_in (rows_of n p I)).adds x ≡ (exchanges_at p I).adds x
  adds_agree x = elim (cases_lt x n) [
    | inl l ↦ ap (λ (r : Exchange). r.addable) (row_in-rows_of n p I x l) ∙ row_of-adds p I x
    | inr g ↦ ap (λ (r : Exchange). r.addable) (row_in-past n p I x g)
        ∙ sym (ap (λ b. not (is_member x I) && b) (none_past I x g) ∙ and_right _ false refl)
  ]

  trades_agree : (y x : ℕ) → (exchanges_in (rows_of n p I)).trades y x ≡ (exchanges_at p I).trades y x
  trades_agree y x = elim (cases_lt x n) [
    | inl l ↦ ap (λ (r : Exchange). is_member y r.with) (row_in-rows_of n p I x l) ∙ row_of-trades p I y x
    | inr g ↦ ap (λ (r : Exchange). is_member y r.with) (row_in-past n p I x g)
        ∙ sym (ap (λ b. is_member y I && (not (is_member x I) && b)) (none_past (without_one I y) x g)
        ∙ ap (λ b. is_member y I && b) (and_right _ false refl) ∙ and_right _ false refl)
  ]

  pub rows_tell_exchanges : exchanges_in (rows_of n p I) ≡ exchanges_at p I
  rows_tell_exchanges = same_exchanges (exchanges_in (rows_of n p I)) (exchanges_at p I) adds_agree trades_agree

  -- the rows are a table at I
  pub IsTableAt-rows_of : p I ≡ true → IsTableAt n I (rows_of n p I)
  IsTableAt-rows_of ok = record {
    set = laws.sets I ok;
    count = length-rows_of n p I;
    member = λ y x h. (and_parts (is_member y I) (not (is_member x I) && p (with_one (without_one I y) x)) (sym (trades_agree y x) ∙ h)).0;
    outside = λ y x h. (let a = and_parts (is_member y I) (not (is_member x I) && p (with_one (without_one I y) x)) (sym (trades_agree y x) ∙ h) in
        not-true (is_member x I) (and_parts (not (is_member x I)) (p (with_one (without_one I y) x)) a.1).0);
  }

  -- where x can be added, it can take the place of every member
  row_whole : p I ≡ true → (x : ℕ) → (row_of p I x).addable ≡ true → (row_of p I x).with ≡ I
  row_whole ok x h = elim (cases_Bool (is_member x I)) [
    | inl i ↦ absurd (both_ways _ (ap (λ (r : Exchange). r.addable) (cond-true (is_member x I) _ _ i)) h)
    | inr o ↦ (let fits : p (with_one I x) ≡ true = sym (ap (λ (r : Exchange). r.addable) (cond-false (is_member x I) _ _ o)) ∙ h in
        let test : ℕ → Bool = λ y. p (with_one (without_one I y) x) in
        let rises = (laws.sets I ok).rising in
        ap (λ (r : Exchange). r.with) (cond-false (is_member x I) _ _ o)
        ∙ same_members _ _ (IsRising-filter test I rises) rises (λ y. is_member-filter test y I ∙ all_pass y fits))
  ]
    where
      all_pass : (y : ℕ) → p (with_one I x) ≡ true → (is_member y I && p (with_one (without_one I y) x)) ≡ is_member y I
      all_pass y fits =
          let rises = (laws.sets I ok).rising in
          let less = laws.subsets (with_one (without_one I y) x) (with_one I x) (IsRising-with_one _ x (IsRising-without_one I y rises))
          (record { inside = λ k m. grind (arith, set_members) }) fits in
          ap (λ b. is_member y I && b) less ∙ and_all (is_member y I)

  pub AreWhole-rows_of : p I ≡ true → AreWhole I (rows_of n p I)
  AreWhole-rows_of ok = record {
    whole = λ x h. elim (cases_lt x n) [
      | inl l ↦ (let same = row_in-rows_of n p I x l in
          ap (λ (r : Exchange). r.with) same ∙ row_whole ok x (sym (ap (λ (r : Exchange). r.addable) same) ∙ h))
      | inr g ↦ absurd (both_ways _ (ap (λ (r : Exchange). r.addable) (row_in-past n p I x g)) h)
    ];
  }

  -- a row tells members of the set alone
  pub rows-below : p I ≡ true → (rows : List Exchange) → rows ≡ rows_of n p I → (x : ℕ) → AllBelow n (row_in rows x).with
  rows-below ok rows is x = subst (λ r. AllBelow n (row_in r x).with) (sym is)
      (AllBelow-from_members n _ (λ y m. below_member (laws.sets I ok) ((IsTableAt-rows_of ok).member y x m)))
