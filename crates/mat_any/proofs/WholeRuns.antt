-- A run along what is left takes a maximal independent subset of that. Parts that begin with some of a set and then take what they can of it hold a
-- maximal independent subset in the end, which is the whole of an independent set.
use Rattle.mat_any.proofs.Common.{◌≡◌, ℕ, ◌+◌, ◌<◌, ◌≤◌, Bool, true, false, not, ◌&&◌, List, [], length, get_or, refl, sym, arith, subst, both_ways, is_member, IsSubset, with_one, union, grown_along, grown_by, IsMatroid, IsMaximal, run_maximal_of, rising}
use Rattle.mat_sets.proofs.Subsets.{IsSubset-refl, same_size_subset}
use Rattle.mat_laws.proofs.Growing.{IsGrowing, IsGrowing-end, IsGrowing-next, maximal_from_none}
use Rattle.mat_laws.proofs.Maximal.{IsMaximal-largest}

-- what a run along the rest takes is grown from the empty set within the rest
pub run_of_rest : {n : ℕ} {p : List ℕ → Bool} → IsMatroid n p → (rest part : List ℕ) → part ≡ grown_along p [] rest → IsMaximal p (union [] rest) part
unfolding union
run_of_rest law rest part told = run_maximal_of law rest part told

-- what lies in a set has grown from nothing over none of its elements
pub growing_within : (p : List ℕ → Bool) (items set D : List ℕ) → items ≡ set → p D ≡ true → IsSubset D set → IsGrowing p [] items 0 D
unfolding union
growing_within p items set D same ok inside = record {
  passes = ok;
  holds = record { inside = λ x h. absurd (both_ways false refl h) };
  inside = subst (IsSubset D) (sym same) inside;
  refused = λ k l. absurd (omega arith);
}

module _ {n : ℕ} {p : List ℕ → Bool} (law : IsMatroid n p) where
  -- one turn
  pub growing_more : {items set : List ℕ} {i : ℕ} → IsGrowing p [] items i set → (x : ℕ) → i < length items → x ≡ get_or items i 0
      → (set' : List ℕ) → set' ≡ grown_by p set x → IsGrowing p [] items (i + 1) set'
  growing_more {items} {set} {i} g x l at set' e =
      IsGrowing-next law [] items set i x l at g (not (is_member x set) && p (with_one set x)) set' refl e

  -- after the last one
  pub growing_ends : (items set D : List ℕ) (i : ℕ) → items ≡ set → length items ≤ i → IsGrowing p [] items i D → IsMaximal p set D
  growing_ends items set D i same end g =
      subst (λ X. IsMaximal p X D) same (maximal_from_none p [] items D refl (IsGrowing-end p [] items D i end g))

  -- a maximal independent subset of an independent set is the whole of it
  pub maximal_whole : (I A : List ℕ) → p I ≡ true → IsMaximal p I A → A ≡ I
  maximal_whole I A ok max =
      same_size_subset A I (rising law A max.passes) (rising law I ok) max.inside (IsMaximal-largest law I A max I ok (IsSubset-refl I))
