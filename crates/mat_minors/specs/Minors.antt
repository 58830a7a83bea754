-- Matroids made of one matroid, which is given by its test of independence on n elements: its dual, its truncations, restrictions and
-- contractions (Schrijver, chapter 39).
use Rattle.std.specs.Prelude.{◌≡◌, ℕ, Bool, true, ◌&&◌, ◌==◌, nat_le, List, [], length, filter}
use Rattle.mat_sets.specs.Sets.{IsSet, with_one, minus, intersection, union, all_below}
use Rattle.mat_sets.specs.SetTests.{is_set}
use Rattle.mat_sets.specs.Search.{some_subset}
use Rattle.mat_laws.specs.Matroids.{IsBase, IsMaximal}

-- the members of X outside I that can be added to I
abbrev pub addable_members : (List ℕ → Bool) → List ℕ → List ℕ → List ℕ
addable_members independent X I = filter (λ x. independent (with_one I x)) (minus X I)

-- whether I, a subset of X (which is not tested here), is a maximal independent one: independent, and no member of X can be added
abbrev pub is_maximal : (List ℕ → Bool) → List ℕ → List ℕ → Bool
is_maximal independent X I = independent I && (length (addable_members independent X I) == 0)

-- the dual: some base is disjoint from X, and so a subset of its complement
abbrev pub is_dual : ℕ → (List ℕ → Bool) → List ℕ → Bool
is_dual n independent X = is_set n X && some_subset (minus (all_below n) X) (is_maximal independent (all_below n))

-- the truncation: independent, and at most `cap` elements
abbrev pub is_truncated : ℕ → (List ℕ → Bool) → List ℕ → Bool
is_truncated cap independent X = independent X && nat_le (length X) cap

-- the restriction: independent, and no element that is not kept
abbrev pub is_restricted : List ℕ → (List ℕ → Bool) → List ℕ → Bool
is_restricted kept independent X = independent X && (length (minus X kept) == 0)

-- the contraction of the elements in `away`: disjoint from them, and independent together with a maximal independent subset of them
abbrev pub is_contracted : ℕ → List ℕ → (List ℕ → Bool) → List ℕ → Bool
is_contracted n away independent X = is_set n X && ((length (intersection X away) == 0)
    && some_subset away (λ B. is_maximal independent away B && independent (union X B)))

-- the dual in words: a base that is disjoint from the set X
pub record IsDualIndependent (n : ℕ) (independent : List ℕ → Bool) (X : List ℕ) : Type 0 where
  pub set : IsSet n X
  pub base : List ℕ
  pub is_base : IsBase n independent base
  pub disjoint : intersection base X ≡ []

-- the contraction in words: the set X is disjoint from `away`, and X with some maximal independent subset of `away` is independent
pub record IsContractedIndependent (n : ℕ) (independent : List ℕ → Bool) (away X : List ℕ) : Type 0 where
  pub set : IsSet n X
  pub disjoint : intersection X away ≡ []
  pub chosen : List ℕ
  pub maximal : IsMaximal independent away chosen
  pub joined : independent (union X chosen) ≡ true

-- what a contraction needs: `away` is a set on n elements, and `chosen` is a maximal independent subset of it
pub record IsContraction (n : ℕ) (independent : List ℕ → Bool) (away chosen : List ℕ) : Type 0 where
  pub set : IsSet n away
  pub maximal : IsMaximal independent away chosen
