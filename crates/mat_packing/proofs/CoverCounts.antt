-- How few independent sets cover the elements: where filled copies leave an element out, their cut needs more; where they don't, they are
-- fewest.
use Rattle.mat_packing.proofs.Common.{◌≡◌, ◌≢◌, ◌∙◌, ℕ, zero, suc, ◌+◌, ◌-◌, ◌*◌, ◌/◌, ◌<◌, ◌≤◌, Bool, false, List, [], ◌∷◌, eqb, length, Some, inl, inr, refl, sym, ap, subst, arith, both_ways, cases_lt, eqb-true, lt-ltb, or_cases, family_union, all_below, is_member, IsSet, IsSubset}
use Rattle.mat_packing.proofs.Common.{AllBelow-family_union, IsRising-family_union, below_member, is_member-all_below, length-all_below, length-complement, IsRising-all_below, IsSubset-all_below, is_member-head, length-subset, same_size_subset, IsMatroid, rank, below, rank_is, part_at, HasNoLoop}
use Rattle.mat_packing.proofs.Common.{AreFilledCopies, IsCover, IsRightCovering, IsEnough}
use Rattle.std.proofs.Math.Nat.{le-div_iff_mul-le}

-- ---- numbers

pub enough_of : (members each : ℕ) → 0 < members → 0 < each → IsEnough members each ((members - 1) / each + 1)
enough_of members each some more = record {
  some = omega arith;
  room = elim (cases_lt (((members - 1) / each + 1) * each) members) [
    | inl less ↦ (let low : ((members - 1) / each + 1) * each ≤ members - 1 = omega arith in let up = (le-div_iff_mul-le more).1 low in absurd (omega arith))
    | inr le ↦ le
  ];
  no_fewer = (let own : (members - 1) / each ≤ (members - 1) / each = omega arith in let low = (le-div_iff_mul-le more).0 own in
      let e : ((members - 1) / each + 1) - 1 ≡ (members - 1) / each = omega arith in
      subst (λ k. k * each < members) (sym e) (omega arith));
}

pub more_needed : (members each count few : ℕ) → IsEnough members each count → few * each < members → few < count
more_needed members each count few h l = elim (cases_lt few count) [
  | inl less ↦ less
  | inr le ↦ (let e : few ≡ count + (few - count) = omega arith in
      let f : few * each ≡ count * each + (few - count) * each = ap (λ k. k * each) e ∙ omega arith in
      let room = h.room in
      absurd (omega arith))
]

-- no more sets are needed than there are members
pub needed_at_most : (members each count : ℕ) → IsEnough members each count → 0 < each → count ≤ members
needed_at_most members zero count h some = absurd (omega arith)
needed_at_most members (suc e) count h some =
    let f : (count - 1) * suc e ≡ (count - 1) + (count - 1) * e = omega arith in
    let few = h.no_fewer in
    omega arith

-- ---- coverings

module _ {n : ℕ} {p : List ℕ → Bool} (laws : IsMatroid n p) where
  abbrev E : List ℕ
  E = all_below n

  -- a set with a member has a rank
  pub some_rank : HasNoLoop n p → (A : List ℕ) → IsSet n A → 0 < length A → 0 < rank p A
  some_rank alone [] s some = absurd (omega arith)
  some_rank alone (x ∷ A) s some =
      let inside : IsSubset (x ∷ []) (x ∷ A) = record {
        inside = λ z m. elim (or_cases (eqb z x) false m) [
          | inl e ↦ ap (λ y. is_member y (x ∷ A)) (eqb-true z x e) ∙ is_member-head x A
          | inr o ↦ absurd (both_ways false refl o)
        ];
      } in
      let most = (rank_is laws (x ∷ A) s.rising).most (x ∷ []) (alone x (below_member s (is_member-head x A))) inside in
      omega arith

  module _ {count : ℕ} {sets : List (List ℕ)} {cut : List ℕ} (f : AreFilledCopies n p count sets cut) where
    union_set : IsSet n (family_union sets)
    union_set = record { rising = IsRising-family_union sets; below = AllBelow-family_union n sets (λ i l. below laws (part_at sets i) (f.passes i l)) }

    -- where some element is left out
    pub cut_long : length (family_union sets) ≢ n → count * rank p cut < length cut
    cut_long other =
        let most = length-subset (family_union sets) E union_set.rising (IsRising-all_below n) (IsSubset-all_below n _ union_set.below) in
        let whole = length-all_below n in
        let rest = length-complement n cut f.set.rising f.set.below in
        let size = f.size in
        omega arith

    pub covers : length (family_union sets) ≡ n → IsCover n p sets
    covers all =
        let same = same_size_subset (family_union sets) E union_set.rising (IsRising-all_below n) (IsSubset-all_below n _ union_set.below) (let whole = length-all_below n in omega arith) in
        record { passes = f.passes; all = λ x l. ap (is_member x) same ∙ is_member-all_below x n ∙ lt-ltb x n l }

    pub right_covering : (A : List ℕ) → length (family_union sets) ≡ n → IsSet n A → 0 < count → (count - 1) * rank p A < length A → IsRightCovering n p sets (Some A)
    right_covering A all s some long = record {
      cover = covers all;
      least = (
        omega (arith, f.long),
        record { set = s; long = subst (λ k. (k - 1) * rank p A < length A) (sym f.long) long },
      );
    }
