-- Elimination with tags. The exclusive-or of the columns that a tag marks is linear in the tag, and one bit marks one member; so what is left of a
-- column differs from it by the sum that its tag marks.
use Rattle.mat_gf2.proofs.Common.{◌≡◌, ℕ, suc, zero, ◌+◌, ◌*◌, ◌^◌, ◌%◌, ◌<◌, ◌≤◌, Bool, true, false, cond, eqb, ltb, List, [], ◌∷◌, ◌++◌, length, get_or, ◌⊎◌, inl, inr, refl, sym, ap, ◌∙◌, arith, cases_Bool, or_cases, or_left, or_right, xor_comm, bit_at_xor, bit_at-zero, bit_at-pow_same}
use Rattle.mat_gf2.proofs.Common.{bit_at-pow_other, is_member, IsRising, RisesFrom, IsSubset, RisesFrom-weaken, TaggedColumn, xor_of, reduced, remainder, bit_cases, xor_both, marked_from, marked, reduced_tagged, reduced_tagged_by, IsTaggedBasis}
use Rattle.std.proofs.Math.Nat.{mod-eq_of_lt}
use Rattle.std.proofs.Math.Pow.{pow-lt}
use Rattle.std.specs.Int.{bit_at}
use Rattle.std.specs.Int.Bits.{bit_xor, xor_self, xor_zero_r, xor_assoc}

-- ---- what a tag marks

RisesFrom-marked : (i tag lo : ℕ) (X : List ℕ) → RisesFrom lo X → RisesFrom lo (marked_from i tag X)
unfolding marked_from
RisesFrom-marked i tag lo [] r = tt
RisesFrom-marked i tag lo (x ∷ X) r = elim (cases_Bool (eqb (bit_at tag i) 1)) [
  | inl a ↦ rw a (r.0, RisesFrom-marked (suc i) tag (suc x) X r.1)
  | inr a ↦ rw a (RisesFrom-weaken lo (suc x) (marked_from (suc i) tag X) (let l : lo ≤ x = r.0 in omega arith)
      (RisesFrom-marked (suc i) tag (suc x) X r.1))
]

pub IsRising-marked : (tag : ℕ) (X : List ℕ) → IsRising X → IsRising (marked tag X)
IsRising-marked tag X r = record { rises = RisesFrom-marked 0 tag 0 X r.rises }

marked_from-IsSubset : (i tag : ℕ) (X : List ℕ) → IsSubset (marked_from i tag X) X
unfolding marked_from
marked_from-IsSubset i tag [] = record { inside = λ z k. k }
marked_from-IsSubset i tag (x ∷ X) = let later = marked_from-IsSubset (suc i) tag X in elim (cases_Bool (eqb (bit_at tag i) 1)) [
  | inl a ↦ rw a (record {
    inside = λ z k. elim (or_cases (eqb z x) (is_member z (marked_from (suc i) tag X)) k) [
      | inl e ↦ or_left (eqb z x) (is_member z X) e
      | inr n ↦ or_right (eqb z x) (is_member z X) (later.inside z n)
    ];
  })
  | inr a ↦ rw a (record { inside = λ z k. or_right (eqb z x) (is_member z X) (later.inside z k) })
]

pub marked-IsSubset : (tag : ℕ) (X : List ℕ) → IsSubset (marked tag X) X
marked-IsSubset tag X = marked_from-IsSubset 0 tag X

-- no bit, no member
marked_from-none : (i tag : ℕ) (X : List ℕ) → ((k : ℕ) → i ≤ k → bit_at tag k ≡ 0) → marked_from i tag X ≡ []
unfolding marked_from
marked_from-none i tag [] h = refl
marked_from-none i tag (x ∷ X) h = let clear = h i (omega arith) in rw clear (marked_from-none (suc i) tag X (λ k l. h k (omega arith)))

-- ---- the sum that a tag marks

module _ (column : ℕ → ℕ) where
  -- of the members whose places are counted from i on
  sum_from : ℕ → List ℕ → ℕ → ℕ
  sum_from i X tag = xor_of column (marked_from i tag X)

  sum_from-cons : (i x tag : ℕ) (X : List ℕ)
      → sum_from i (x ∷ X) tag ≡ cond (eqb (bit_at tag i) 1) (bit_xor (column x) (sum_from (suc i) X tag)) (sum_from (suc i) X tag)
  unfolding sum_from marked_from
  sum_from-cons i x tag X = over (eqb (bit_at tag i) 1) (marked_from (suc i) tag X)
    where
      over : (b : Bool) (P : List ℕ) → xor_of column (cond b (x ∷ P) P) ≡ cond b (bit_xor (column x) (xor_of column P)) (xor_of column P)
      over true P = refl
      over false P = refl

  sum_from-xor : (i a b : ℕ) (X : List ℕ) → sum_from i X (bit_xor a b) ≡ bit_xor (sum_from i X a) (sum_from i X b)
  unfolding sum_from marked_from
  sum_from-xor i a b [] = refl
  sum_from-xor i a b (x ∷ X) =
      sum_from-cons i x (bit_xor a b) X
      ∙ ap (λ s. cond (eqb (bit_at (bit_xor a b) i) 1) (bit_xor (column x) s) s) (sum_from-xor (suc i) a b X)
      ∙ cases (bit_at a i) (bit_at b i) (bit_at (bit_xor a b) i) (sum_from (suc i) X a) (sum_from (suc i) X b) (bit_at_xor a b i) (bit_cases a i)
      (bit_cases b i)
      ∙ ap (λ s. bit_xor s (cond (eqb (bit_at b i) 1) (bit_xor (column x) (sum_from (suc i) X b)) (sum_from (suc i) X b)))
      (sym (sum_from-cons i x a X))
      ∙ ap (bit_xor (sum_from i (x ∷ X) a)) (sym (sum_from-cons i x b X))
    where
      swap : (c s t : ℕ) → bit_xor c (bit_xor s t) ≡ bit_xor s (bit_xor c t)
      swap c s t = sym (xor_assoc c s t) ∙ ap (λ z. bit_xor z t) (xor_comm c s) ∙ xor_assoc s c t

      both : (c s t : ℕ) → bit_xor (bit_xor c s) (bit_xor c t) ≡ bit_xor s t
      both c s t = ap (λ z. bit_xor z (bit_xor c t)) (xor_comm c s) ∙ ap (bit_xor (bit_xor s c)) (xor_comm c t) ∙ xor_both s t c

      at : (p q r a b : ℕ) → r ≡ (p + q) % 2 → p ≡ a → q ≡ b → r ≡ (a + b) % 2
      at p q r a b e hp hq = e ∙ ap (λ k. (k + q) % 2) hp ∙ ap (λ k. (a + k) % 2) hq

      cases : (p q r s t : ℕ) → r ≡ (p + q) % 2 → (p ≡ 1) ⊎ (p ≡ 0) → (q ≡ 1) ⊎ (q ≡ 0)
          → cond (eqb r 1) (bit_xor (column x) (bit_xor s t)) (bit_xor s t)
          ≡ bit_xor (cond (eqb p 1) (bit_xor (column x) s) s) (cond (eqb q 1) (bit_xor (column x) t) t)
      cases p q r s t e (inl hp) (inl hq) = let z : r ≡ 0 = at p q r 1 1 e hp hq in rw (z, hp, hq) (sym (both (column x) s t))
      cases p q r s t e (inl hp) (inr hq) = let z : r ≡ 1 = at p q r 1 0 e hp hq in rw (z, hp, hq) (sym (xor_assoc (column x) s t))
      cases p q r s t e (inr hp) (inl hq) = let z : r ≡ 1 = at p q r 0 1 e hp hq in rw (z, hp, hq) (swap (column x) s t)
      cases p q r s t e (inr hp) (inr hq) = let z : r ≡ 0 = at p q r 0 0 e hp hq in rw (z, hp, hq) refl

  sum_from-one : (i p q : ℕ) (X : List ℕ) → q ≡ i + p → p < length X → sum_from i X (2 ^ q) ≡ column (get_or X p 0)
  unfolding sum_from
  sum_from-one i p q [] e l = absurd (omega arith)
  sum_from-one i zero q (x ∷ X) e l =
      let same : q ≡ i = omega arith in
      let set : bit_at (2 ^ q) i ≡ 1 = ap (bit_at (2 ^ q)) (sym same) ∙ bit_at-pow_same q in
      sum_from-cons i x (2 ^ q) X ∙ ap (λ b. cond (eqb b 1) (bit_xor (column x) (sum_from (suc i) X (2 ^ q))) (sum_from (suc i) X (2 ^ q))) set
      ∙ ap (λ P. bit_xor (column x) (xor_of column P))
      (marked_from-none (suc i) (2 ^ q) X (λ k m. bit_at-pow_other q k (λ z. absurd (omega arith))))
      ∙ xor_zero_r (column x)
  sum_from-one i (suc p) q (x ∷ X) e l =
      let clear : bit_at (2 ^ q) i ≡ 0 = bit_at-pow_other q i (λ z. absurd (omega arith)) in
      sum_from-cons i x (2 ^ q) X ∙ ap (λ b. cond (eqb b 1) (bit_xor (column x) (sum_from (suc i) X (2 ^ q))) (sum_from (suc i) X (2 ^ q))) clear
      ∙ sum_from-one (suc i) p q X (omega arith) (omega arith)

  -- it is linear, and one bit marks one member
  pub marked-zero : (X : List ℕ) → xor_of column (marked 0 X) ≡ 0
  marked-zero X = ap (xor_of column) (marked_from-none 0 0 X (λ k l. bit_at-zero k))

  pub marked-xor : (a b : ℕ) (X : List ℕ)
      → xor_of column (marked (bit_xor a b) X) ≡ bit_xor (xor_of column (marked a X)) (xor_of column (marked b X))
  unfolding sum_from
  marked-xor a b X = sum_from-xor 0 a b X

  pub marked-one : (p : ℕ) (X : List ℕ) → p < length X → xor_of column (marked (2 ^ p) X) ≡ column (get_or X p 0)
  unfolding sum_from
  marked-one p X l = sum_from-one 0 p p X (omega arith) l

-- ---- the basis

pub reduced_tagged-column : (v b : TaggedColumn) → (reduced_tagged v b).column ≡ reduced v.column b.column
reduced_tagged-column v b = elim (cases_Bool (ltb (bit_xor v.column b.column) v.column)) [ inl e ↦ rw e refl | inr e ↦ rw e refl ]

-- reducing by a column that its tag tells
reduced_tagged-sum : (column : ℕ → ℕ) (X : List ℕ) (v b : TaggedColumn) → bit_xor (xor_of column (marked b.tag X)) b.column ≡ 0
    → bit_xor (xor_of column (marked (reduced_tagged v b).tag X)) (reduced_tagged v b).column ≡ bit_xor (xor_of column (marked v.tag X)) v.column
reduced_tagged-sum column X v b right = elim (cases_Bool (ltb (bit_xor v.column b.column) v.column)) [
  | inl e ↦ rw e (ap (λ z. bit_xor z (bit_xor v.column b.column)) (marked-xor column v.tag b.tag X)
      ∙ four (xor_of column (marked v.tag X)) (xor_of column (marked b.tag X)) v.column b.column
      ∙ ap (bit_xor (bit_xor (xor_of column (marked v.tag X)) v.column)) right ∙ xor_zero_r (bit_xor (xor_of column (marked v.tag X)) v.column))
  | inr e ↦ rw e refl
]
  where
    four : (a c d f : ℕ) → bit_xor (bit_xor a c) (bit_xor d f) ≡ bit_xor (bit_xor a d) (bit_xor c f)
    four a c d f =
        xor_assoc a c (bit_xor d f) ∙ ap (bit_xor a) (sym (xor_assoc c d f) ∙ ap (λ z. bit_xor z f) (xor_comm c d) ∙ xor_assoc d c f)
        ∙ sym (xor_assoc a d (bit_xor c f))

reduced_tagged_by-more : (basis : List TaggedColumn) (b v : TaggedColumn)
    → reduced_tagged_by (basis ++ b ∷ []) v ≡ reduced_tagged (reduced_tagged_by basis v) b
reduced_tagged_by-more [] b v = refl
reduced_tagged_by-more (a ∷ basis) b v = reduced_tagged_by-more basis b (reduced_tagged v a)

pub IsTaggedBasis-start : (column : ℕ → ℕ) (X : List ℕ) → IsTaggedBasis column X [] []
unfolding remainder
IsTaggedBasis-start column X = record { reduces = λ v. refl; tags = λ v. refl }

-- one more column: what is left of the column of e, which the tag of one bit marks
pub IsTaggedBasis-more : (column : ℕ → ℕ) (X Y : List ℕ) (e : ℕ) (basis : List TaggedColumn) (new left : TaggedColumn)
    → new.column ≡ column e → xor_of column (marked new.tag X) ≡ column e → left ≡ reduced_tagged_by basis new
    → IsTaggedBasis column X Y basis → IsTaggedBasis column X (e ∷ Y) (basis ++ left ∷ [])
unfolding remainder
IsTaggedBasis-more column X Y e basis new left own one told h =
    let right : bit_xor (xor_of column (marked left.tag X)) left.column ≡ 0 =
    ap (λ u. bit_xor (xor_of column (marked u.tag X)) u.column) told ∙ h.tags new ∙ ap (λ z. bit_xor z new.column) (one ∙ sym own)
    ∙ xor_self new.column in
    let rest : left.column ≡ remainder column Y (column e) = ap (λ u. u.column) told ∙ h.reduces new ∙ ap (remainder column Y) own in
    record {
      reduces = λ v. ap (λ u. u.column) (reduced_tagged_by-more basis left v) ∙ reduced_tagged-column (reduced_tagged_by basis v) left
          ∙ ap (λ z. reduced z left.column) (h.reduces v) ∙ ap (reduced (remainder column Y v.column)) rest;
      tags = λ v. ap (λ u. bit_xor (xor_of column (marked u.tag X)) u.column) (reduced_tagged_by-more basis left v)
          ∙ reduced_tagged-sum column X (reduced_tagged_by basis v) left right ∙ h.tags v;
    }

-- the tag of one bit, as it is made in 128 bits, marks the member at its place
pub marked-one_bit : (column : ℕ → ℕ) (X : List ℕ) (p e : ℕ) → p < length X → length X ≤ 128 → e ≡ get_or X p 0
    → xor_of column (marked (1 * 2 ^ p % 2 ^ 128) X) ≡ column e
marked-one_bit column X p e l few at =
    let small : p < 128 = omega arith in
    let less : 2 ^ p < 2 ^ 128 = pow-lt small in
    let one : 1 * 2 ^ p ≡ 2 ^ p = omega arith in
    ap (λ k. xor_of column (marked (k % 2 ^ 128) X)) one ∙ ap (λ k. xor_of column (marked k X)) (mod-eq_of_lt less) ∙ marked-one column p X l
    ∙ ap column (sym at)
