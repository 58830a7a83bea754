-- The exchanges at an independent set I are turned: the elements outside it enter, one after the other, the columns of the members
-- whose place they can take.
use Rattle.mat_laws.proofs.Common.{◌≡◌, ℕ, ◌+◌, ◌<◌, Bool, true, false, not, ◌&&◌, ◌||◌, eqb, ltb, List, [], length, get_or, replicate, inl, inr, refl, sym, ap, ◌∙◌, arith, and_left, cases_lt, eqb-true, le-ltb, get_or_past, get_or-replicate, length-replicate, is_member, with_one, without_one}
use Rattle.mat_laws.proofs.Common.{AllBelow, is_member-filter, AllBelow-filter, AllBelow-member, IsMatroid, row_of, Exchange}
use Rattle.std.proofs.lemmas.Bool.Decides.{nat_tests}
use Rattle.mat_sets.specs.Rows.{AreEmptied}
use Rattle.mat_laws.proofs.Rows.{exchanged, row-with}
use Rattle.mat_laws.proofs.Independent.{below}
use Rattle.mat_laws.specs.Columns.{takes_place}

-- the elements below z have entered
pub record AreEntering (n : ℕ) (p : List ℕ → Bool) (I : List ℕ) (z : ℕ) (columns : List (List ℕ)) : Type 0 where
  pub long : length columns ≡ n
  pub columns_are : (y k : ℕ) → is_member y I ≡ true → is_member k (get_or columns y []) ≡ (ltb k z && takes_place n p I y k)
  pub others_are : (y k : ℕ) → is_member y I ≡ false → is_member k (get_or columns y []) ≡ false

pub row_below : {n : ℕ} {p : List ℕ → Bool} → IsMatroid n p → (I : List ℕ) (x : ℕ) (row : Exchange) → p I ≡ true
    → is_member x I ≡ false → row ≡ row_of p I x → AllBelow n row.with
row_below {n} {p} laws I x row ok out e = rw (row-with p I x row out e) (AllBelow-filter n (exchanged p I x) I (below laws I ok))

-- no element has entered empty columns, of which those of the members have room
pub AreEntering-none : {n : ℕ} {p : List ℕ → Bool} (I : List ℕ) (size : ℕ) (made columns : List (List ℕ)) → size ≡ n → made ≡ replicate size []
    → AreEmptied I made columns → AreEntering n p I 0 columns
AreEntering-none {n} {p} I size made columns same is emptied = record {
  long = emptied.count ∙ ap length is ∙ length-replicate size [] ∙ same;
  columns_are = λ y k m. none y k ∙ sym (and_left (ltb k 0) _ (le-ltb k 0 (omega arith)));
  others_are = λ y k m. none y k;
}
  where
    empty : (y : ℕ) → get_or made y [] ≡ []
    empty y = ap (λ rows. get_or rows y []) is ∙ elim (cases_lt y size) [
      | inl l ↦ get_or-replicate size y [] [] l
      | inr h ↦ get_or_past (replicate size []) y [] (omega (arith, h, length-replicate {A = List ℕ} size []))
    ]

    none : (y k : ℕ) → is_member k (get_or columns y []) ≡ false
    none y k = emptied.members y k ∙ ap (λ row. is_member k row && not (is_member y I)) (empty y)

-- an element outside I enters the columns of its row
pub AreEntering-entered : {n : ℕ} {p : List ℕ → Bool} (I : List ℕ) (z : ℕ) (columns new : List (List ℕ)) (row : Exchange)
    (members : List ℕ) → IsMatroid n p → p I ≡ true
    → z < n → is_member z I ≡ false → row ≡ row_of p I z → members ≡ row.with → length new ≡ length columns
    → ((y k : ℕ) → y < length columns
    → is_member k (get_or new y []) ≡ (is_member k (get_or columns y []) || (eqb k z && is_member y members)))
    → AreEntering n p I z columns → AreEntering n p I (z + 1) new
AreEntering-entered {n} {p} I z columns new row members laws ok small out e listed l entered a = record {
  long = l ∙ a.long;
  columns_are = λ y k m. entered y k (let b = AllBelow-member n I y (below laws I ok) m in omega (arith, b, a.long))
      ∙ ap (λ b. b || (eqb k z && is_member y members)) (a.columns_are y k m)
      ∙ ap (λ b. (ltb k z && takes_place n p I y k) || (eqb k z && b)) (ap (is_member y) (listed ∙ row-with p I z row out e)
      ∙ is_member-filter (exchanged p I z) y I ∙ ap (λ b. b && exchanged p I z y) m)
      ∙ last y k;
  others_are = λ y k m. elim (cases_lt y (length columns)) [
    | inl inside ↦ entered y k inside
        ∙ ap (λ b. b || (eqb k z && is_member y members)) (a.others_are y k m)
        ∙ ap (λ b. false || (eqb k z && b)) (ap (is_member y) (listed ∙ row-with p I z row out e)
        ∙ is_member-filter (exchanged p I z) y I ∙ ap (λ b. b && exchanged p I z y) m)
        ∙ neither (eqb k z)
    | inr past ↦ ap (is_member k) (get_or_past new y [] (omega (arith, l, past)))
  ];
}
  where
    neither : (b : Bool) → (false || (b && false)) ≡ false
    neither b = grind arith

    here : (y k : ℕ) → k ≡ z → takes_place n p I y k ≡ exchanged p I z y
    here y k same = rw same (let s = small in rw out (let t : ltb z n ≡ true = grind (arith, nat_tests) in rw t refl))

    join : (k : ℕ) (t works : Bool) → (eqb k z ≡ true → t ≡ works)
        → ((ltb k z && t) || (eqb k z && (true && works))) ≡ (ltb k (z + 1) && t)
    join k t works same = grind (arith, nat_tests)

    last : (y k : ℕ)
        → ((ltb k z && takes_place n p I y k) || (eqb k z && (true && exchanged p I z y))) ≡ (ltb k (z + 1) && takes_place n p I y k)
    last y k = join k (takes_place n p I y k) (exchanged p I z y) (λ s. here y k (eqb-true k z s))

-- a member of I enters none
pub AreEntering-passed : (n : ℕ) (p : List ℕ → Bool) (I : List ℕ) (z : ℕ) (columns : List (List ℕ)) → is_member z I ≡ true
    → AreEntering n p I z columns → AreEntering n p I (z + 1) columns
AreEntering-passed n p I z columns m a = record {
  long = a.long;
  columns_are = λ y k h. a.columns_are y k h ∙ join k (takes_place n p I y k) (λ s. none y k (eqb-true k z s));
  others_are = a.others_are;
}
  where
    none : (y k : ℕ) → k ≡ z → takes_place n p I y k ≡ false
    none y k same = rw same (rw m (never (ltb z n) (p (with_one (without_one I y) z))))
      where
        never : (a b : Bool) → (a && (not true && b)) ≡ false
        never a b = grind arith

    join : (k : ℕ) (t : Bool) → (eqb k z ≡ true → t ≡ false) → (ltb k z && t) ≡ (ltb k (z + 1) && t)
    join k t same = grind (arith, nat_tests)
