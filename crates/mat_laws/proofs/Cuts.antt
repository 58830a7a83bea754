-- Where a search for an exchange is stuck, the parts of an independent set are maximal in the two sides of a cut. What x can take the
-- place of lies in the part, and x cannot be added to it; so x cannot be added to the part.
use Rattle.mat_laws.proofs.Common.{◌≡◌, ℕ, ◌+◌, Bool, true, false, not, List, length, sym, ◌∙◌, arith, and_parts, not-true, is_member, IsRising, IsSubset, with_one, without_one, minus, intersection, set_members, is_member-minus, IsRising-minus, IsRising-intersection, minus-both, minus-IsSubset}
use Rattle.mat_laws.proofs.Common.{intersection-left, intersection-right, length-minus-intersection, IsMatroid, IsMaximal, rank}
use Rattle.mat_laws.proofs.Independent.{rising, full_in_larger}
use Rattle.mat_laws.proofs.RankLaws.{rank-maximal}
use Rattle.mat_laws.proofs.Symmetric.{replaceable_by, is_member-replaceable, IsRising-replaceable, replaceable_full}

-- members of the two sides, by the members of I, E and R
outside_side : (x : ℕ) (E I R : List ℕ) → is_member x (minus E R) ≡ true → is_member x (minus I R) ≡ false → is_member x I ≡ false
outside_side x E I R m o = grind (arith, set_members)

inside_side : (x : ℕ) (I R : List ℕ) → is_member x R ≡ true → is_member x (intersection I R) ≡ false → is_member x I ≡ false
inside_side x I R m o = grind (arith, set_members)

in_reach : (y : ℕ) (I R : List ℕ) → is_member y I ≡ true → is_member y (minus I R) ≡ false → is_member y R ≡ true
in_reach y I R m o = grind (arith, set_members)

out_of_reach : (y : ℕ) (I R : List ℕ) → is_member y I ≡ true → is_member y (intersection I R) ≡ false → is_member y R ≡ false
out_of_reach y I R m o = grind (arith, set_members)

inside_part : (y : ℕ) (I S : List ℕ) (q : Bool) → is_member y I ≡ true → q ≡ true
    → (is_member y I ≡ true → is_member y S ≡ false → q ≡ false) → is_member y S ≡ true
inside_part y I S q m ok none = grind arith

module _ {n : ℕ} {p : List ℕ → Bool} (laws : IsMatroid n p) where
  -- a part S of I is maximal in T, where no x of T outside I can be added to I, nor take the place of a member outside S
  pub maximal_part : (I S T : List ℕ) → p I ≡ true → IsRising S → IsSubset S I → IsSubset S T
      → ((x : ℕ) → is_member x T ≡ true → is_member x S ≡ false → is_member x I ≡ false)
      → ((x : ℕ) → is_member x T ≡ true → is_member x I ≡ false → p (with_one I x) ≡ false)
      → ((x y : ℕ) → is_member x T ≡ true → is_member x I ≡ false → is_member y I ≡ true → is_member y S ≡ false → p (with_one (without_one I y) x) ≡ false)
      → IsMaximal p T S
  maximal_part I S T ok r in_I in_T outside no_addition no_exchange = record {
    passes = laws.subsets S I r in_I ok;
    inside = in_T;
    full = λ x m o.
        let out = outside x m o in
        let replaceable : IsSubset (replaceable_by p I x) S = record {
          inside = λ y h.
              let both = and_parts (is_member y I) (p (with_one (without_one I y) x)) (sym (is_member-replaceable p I x y) ∙ h) in
              inside_part y I S (p (with_one (without_one I y) x)) both.0 both.1 (no_exchange x y m out);
        } in
        full_in_larger laws (replaceable_by p I x) S x (IsRising-replaceable p I x (rising laws I ok)) replaceable (replaceable_full laws I x ok out (no_addition x m out));
  }

  -- where no element of E outside I and R can be added to I, nor take the place of a member in R, the rank of E - R is |I - R|
  pub rank-out_of_reach : (E I R : List ℕ) → p I ≡ true → IsRising E → IsSubset I E
      → ((x : ℕ) → is_member x E ≡ true → is_member x I ≡ false → is_member x R ≡ false → p (with_one I x) ≡ false)
      → ((x y : ℕ) → is_member x E ≡ true → is_member x I ≡ false → is_member x R ≡ false → is_member y I ≡ true → is_member y R ≡ true → p (with_one (without_one I y) x) ≡ false)
      → rank p (minus E R) ≡ length (minus I R)
  rank-out_of_reach E I R ok re s no_addition no_exchange =
      rank-maximal laws (minus E R) (minus I R) (IsRising-minus E R re)
      (maximal_part I (minus I R) (minus E R) ok (IsRising-minus I R (rising laws I ok)) (minus-IsSubset I R) (minus-both I E R s)
      (λ x m o. outside_side x E I R m o)
      (λ x m o. (let h = sides x m in no_addition x h.0 o h.1))
      (λ x y m o i out. (let h = sides x m in no_exchange x y h.0 o h.1 i (in_reach y I R i out))))
    where
      sides : (x : ℕ) → is_member x (minus E R) ≡ true → (is_member x E ≡ true) × (is_member x R ≡ false)
      sides x m = let both = and_parts (is_member x E) (not (is_member x R)) (sym (is_member-minus x E R) ∙ m) in (both.0, not-true (is_member x R) both.1)

  -- where no element of R outside I can be added to I, nor take the place of a member outside R, the rank of R is |I ∩ R|
  pub rank-in_reach : (I R : List ℕ) → p I ≡ true → IsRising R
      → ((x : ℕ) → is_member x I ≡ false → is_member x R ≡ true → p (with_one I x) ≡ false)
      → ((x y : ℕ) → is_member x I ≡ false → is_member x R ≡ true → is_member y I ≡ true → is_member y R ≡ false → p (with_one (without_one I y) x) ≡ false)
      → rank p R ≡ length (intersection I R)
  rank-in_reach I R ok rr no_addition no_exchange =
      rank-maximal laws R (intersection I R) rr
      (maximal_part I (intersection I R) R ok (IsRising-intersection I R (rising laws I ok)) (intersection-left I R) (intersection-right I R)
      (λ x m o. inside_side x I R m o)
      (λ x m o. no_addition x o m)
      (λ x y m o i out. no_exchange x y o m i (out_of_reach y I R i out)))

-- a search that is stuck at the reach R: the ranks of the two sides add up to the size of the common independent set
pub cut_of_stuck : {n : ℕ} {p q : List ℕ → Bool} → IsMatroid n p → IsMatroid n q → (E I R : List ℕ) → p I ≡ true → q I ≡ true → IsRising E
    → IsRising R → IsSubset I E
    → ((x : ℕ) → is_member x E ≡ true → is_member x I ≡ false → is_member x R ≡ false → p (with_one I x) ≡ false)
    → ((x : ℕ) → is_member x I ≡ false → is_member x R ≡ true → q (with_one I x) ≡ false)
    → ((x y : ℕ) → is_member x E ≡ true → is_member x I ≡ false → is_member x R ≡ false → is_member y I ≡ true → is_member y R ≡ true → p (with_one (without_one I y) x) ≡ false)
    → ((x y : ℕ) → is_member x I ≡ false → is_member x R ≡ true → is_member y I ≡ true → is_member y R ≡ false → q (with_one (without_one I y) x) ≡ false)
    → rank p (minus E R) + rank q R ≡ length I
cut_of_stuck lp lq E I R p_ok q_ok re rr s no_source no_sink no_first no_second =
    let first = rank-out_of_reach lp E I R p_ok re s no_source no_first in
    let second = rank-in_reach lq I R q_ok rr no_sink no_second in
    omega (arith, length-minus-intersection I R (rising lp I p_ok))
