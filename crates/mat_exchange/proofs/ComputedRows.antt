-- The rows that a job computes, each at its number, are those of the elements whose rows are missing.
use Rattle.mat_exchange.proofs.Common.{◌≡◌, ℕ, ◌<◌, Bool, true, false, List, [], length, refl, subst, sym, ap, ◌∙◌, arith, cond-true, AllBelow, is_member, Exchange, row_of, rows_of, IsMatroid, row_in, AgreeOn}
use Rattle.mat_work.specs.Rows.{StandFrom}
use Rattle.mat_work.proofs.StandingRows.{StandFrom_at}
use Rattle.mat_exchange.proofs.RowExchanges.{length-rows_of, row_in-rows_of, rows-below}

-- n rows, which are those at I of the elements whose rows are missing
pub record AreComputed (n : ℕ) (p : List ℕ → Bool) (I missing : List ℕ) (rows : List Exchange) : Type 0 where
  pub count : length rows ≡ n
  pub agree : AgreeOn missing rows (rows_of n p I)

module _ (n : ℕ) (p : List ℕ → Bool) (I : List ℕ) where
  pub rows_computed : (missing : List ℕ) (made rows : List Exchange) → rows ≡ made → length made ≡ n
      → StandFrom (λ x row. is_member x missing ≡ true → row ≡ row_in (rows_of n p I) x) 0 made → AreComputed n p I missing rows
  rows_computed missing made rows is count h = subst (λ (list : List Exchange). AreComputed n p I missing list) (sym is) made_computed
    where
      agrees : AgreeOn missing made (rows_of n p I)
      agrees = λ x below m.
          let stands = StandFrom_at (λ x row. is_member x missing ≡ true → row ≡ row_in (rows_of n p I) x) 0 made x (record { addable = false; with = [] }) h
          (omega (arith, below, count, length-rows_of n p I)) in
          subst (λ k. is_member k missing ≡ true → row_in made x ≡ row_in (rows_of n p I) k) (omega arith) stands m

      made_computed : AreComputed n p I missing made
      made_computed = record { count = count; agree = agrees }

  -- they have members of the set alone
  pub computed-below : IsMatroid n p → p I ≡ true → (missing : List ℕ) (rows : List Exchange) → AreComputed n p I missing rows
      → (x : ℕ) → x < length rows → is_member x missing ≡ true → AllBelow (length rows) (row_in rows x).with
  computed-below laws ok missing rows computed x small m =
      subst (λ k. AllBelow k (row_in rows x).with) (sym computed.count)
      (subst (λ (r : Exchange). AllBelow n r.with) (sym (computed.agree x (omega (arith, small, computed.count, length-rows_of n p I)) m))
      (rows-below laws I ok (rows_of n p I) refl x))

  module _ (rows : List Exchange) (x : ℕ) (is : rows_of n p I ≡ rows) (inside : x < length rows) where
    pub element_below : x < n
    element_below = omega (arith, inside, ap length is, length-rows_of n p I)

    pub row_computed : (row : Exchange) → row ≡ row_of p I x → row ≡ row_in rows x
    row_computed row h = h ∙ sym (row_in-rows_of n p I x element_below) ∙ ap (λ r. row_in r x) is

pub row_of-member : (p : List ℕ → Bool) (I : List ℕ) (x : ℕ) → is_member x I ≡ true → record { addable = false; with = [] } ≡ row_of p I x
row_of-member p I x i = sym (cond-true (is_member x I) _ _ i)
