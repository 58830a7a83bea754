-- Maximal independent subsets of one set have one size, which is its rank; what spans a set bounds what is independent in it.
use Rattle.mat_laws.proofs.Common.{◌≡◌, ℕ, ◌≤◌, Bool, true, false, ◌||◌, List, length, inl, inr, refl, arith, sym, ◌∙◌, cases_lt, or_cases, both_ways, false_from_ne_true, ltb-true, lt-ltb, all_below, is_member, IsSubset, with_one, length-with_one, IsSubset-all_below, is_member-all_below, IsBase}
use Rattle.mat_laws.proofs.Common.{IsMatroid, IsMaximal, IsRank}
use Rattle.mat_laws.proofs.Independent.{below, rising}

module _ {n : ℕ} {p : List ℕ → Bool} (laws : IsMatroid n p) where
  -- where no member of X outside I can be added to I, no independent subset of I ∪ X is larger
  pub span : (I X : List ℕ) → p I ≡ true → ((x : ℕ) → is_member x X ≡ true → is_member x I ≡ false → p (with_one I x) ≡ false)
      → (J : List ℕ) → p J ≡ true → ((k : ℕ) → is_member k J ≡ true → (is_member k I || is_member k X) ≡ true) → length J ≤ length I
  span I X i full J j inside =
      elim (cases_lt (length I) (length J)) [
        | inl less ↦ (let a = laws.augmentation I J i j less in
            elim (or_cases (is_member a.element I) (is_member a.element X) (inside a.element a.inside)) [
              | inl m ↦ absurd (both_ways _ a.outside m)
              | inr m ↦ absurd (both_ways _ (full a.element m a.outside) a.augmented)
            ])
        | inr le ↦ le
      ]

  -- no independent subset of X is larger than a maximal one
  pub IsMaximal-largest : (X A : List ℕ) → IsMaximal p X A → (J : List ℕ) → p J ≡ true → IsSubset J X → length J ≤ length A
  IsMaximal-largest X A m J j s =
      elim (cases_lt (length A) (length J)) [
        | inl less ↦ (let a = laws.augmentation A J m.passes j less in
            absurd (both_ways _ (m.full a.element (s.inside a.element a.inside) a.outside) a.augmented))
        | inr le ↦ le
      ]

  pub IsMaximal-one_size : (X A B : List ℕ) → IsMaximal p X A → IsMaximal p X B → length A ≡ length B
  IsMaximal-one_size X A B a b =
      omega (arith, IsMaximal-largest X A a B b.passes b.inside, IsMaximal-largest X B b A a.passes a.inside)

  -- the size of a maximal independent subset is the rank
  pub IsRank-maximal : (X A : List ℕ) → IsMaximal p X A → IsRank p X (length A)
  IsRank-maximal X A m = record { largest = A; passes = m.passes; inside = m.inside; size = refl; most = λ J j s. IsMaximal-largest X A m J j s }

  -- ---- bases

  -- a base is a maximal independent set of all elements
  pub IsMaximal-base : (B : List ℕ) → IsBase n p B → IsMaximal p (all_below n) B
  IsMaximal-base B b = record {
    passes = b.passes;
    inside = IsSubset-all_below n B (below laws B b.passes);
    full = λ x m out. b.full x (ltb-true x n (sym (is_member-all_below x n) ∙ m)) out;
  }

  -- no independent set is larger than a base
  pub base_largest : (B J : List ℕ) → IsBase n p B → p J ≡ true → length J ≤ length B
  base_largest B J b j = IsMaximal-largest (all_below n) B (IsMaximal-base B b) J j (IsSubset-all_below n J (below laws J j))

  -- an independent set as large as a base is a base
  pub IsBase-size : (B C : List ℕ) → IsBase n p B → p C ≡ true → length B ≤ length C → IsBase n p C
  IsBase-size B C b c large = record {
    passes = c;
    full = λ x small out. false_from_ne_true _ (λ adds.
        let more = length-with_one C x (rising laws C c) out in
        let most = base_largest B (with_one C x) b adds in
        let no : ⊥ = absurd (omega arith) in no);
  }

-- a maximal independent set of all elements is a base
pub IsBase-maximal : (n : ℕ) (p : List ℕ → Bool) (B : List ℕ) → IsMaximal p (all_below n) B → IsBase n p B
IsBase-maximal n p B m = record { passes = m.passes; full = λ x small out. m.full x (is_member-all_below x n ∙ lt-ltb x n small) out }

-- a set has one rank
pub IsRank-unique : (p : List ℕ → Bool) (X : List ℕ) (r s : ℕ) → IsRank p X r → IsRank p X s → r ≡ s
IsRank-unique p X r s a b = omega (arith, a.most b.largest b.passes b.inside, b.most a.largest a.passes a.inside, a.size, b.size)
