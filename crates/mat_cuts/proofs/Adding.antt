-- The weights of cuts added at arcs, one cut after the other, and how large the sums are.
use Rattle.mat_cuts.proofs.Common.{◌≡◌, ℕ, ◌+◌, ◌*◌, ◌<◌, ◌≤◌, Bool, true, false, List, [], ◌∷◌, ◌++◌, length, get_or, set, take, inl, inr, ap, ◌∙◌, arith, ℤ, pos, ◌+ℤ◌, cases_eq, ints, get_or-set_other, get_or-set_same, length-set, take_more, largest_number, enters, IsWithin, IsCutInRange, cost_at}
use Rattle.mat_cuts.proofs.Common.{all_weight, weight_on, weight_where, CutWeight}
use Rattle.std.specs.List.{AllByRecursion}
use Rattle.mat_cuts.specs.Checking.{IsAdded}
use Rattle.mat_cuts.proofs.Raises.{weight_on-push}

-- ---- one weight at each arc

module _ (test : ℕ → Bool) (weight : ℤ) (before : List ℤ) where
  -- it is added at the first n arcs
  pub record IsAdding (n : ℕ) (after : List ℤ) : Type 0 where
    pub added : IsAdded n test weight before after
    pub rest : (a : ℕ) → n ≤ a → cost_at after a ≡ cost_at before a

  pub IsAdding-skip : (n : ℕ) (after : List ℤ) → test n ≡ false → IsAdding n after → IsAdding (n + 1) after
  IsAdding-skip n after out w = record {
    added = record {
      long = w.added.long;
      each = λ a l. elim (cases_eq a n) [
        | inl e ↦ (let none : weight_where (test a) weight ≡ pos 0 = ap (λ b. weight_where b weight) (ap test e ∙ out) in
            let r = w.rest a (omega arith) in omega (arith, ints))
        | inr d ↦ w.added.each a (omega arith)
      ];
    };
    rest = λ a l. w.rest a (omega arith);
  }

  pub IsAdding-take : (n : ℕ) (after : List ℤ) (z : ℤ) → test n ≡ true → n < length after → z ≡ cost_at after n +ℤ weight → IsAdding n after
      → IsAdding (n + 1) (set after n z)
  IsAdding-take n after z passes l e w = record {
    added = record {
      long = length-set after n z ∙ w.added.long;
      each = λ a la. elim (cases_eq a n) [
        | inl same ↦ (let full : weight_where (test a) weight ≡ weight = ap (λ b. weight_where b weight) (ap test same ∙ passes) in
            let r = w.rest n (omega arith) in
            let here : cost_at (set after n z) a ≡ z = ap (cost_at (set after n z)) same ∙ get_or-set_same after n z (pos 0) l in
            let before_is : cost_at before a ≡ cost_at before n = ap (cost_at before) same in
            omega (arith, ints))
        | inr d ↦ get_or-set_other after n a z (pos 0) d ∙ w.added.each a (omega arith)
      ];
    };
    rest = λ a la. get_or-set_other after n a z (pos 0) (λ e. absurd (omega arith)) ∙ w.rest a (omega arith);
  }

-- ---- how large the sums are

-- the weights of cuts in range
pub small_weights : (vertices : ℕ) (cuts : List CutWeight) → AllByRecursion (IsCutInRange vertices) cuts
    → AllByRecursion (λ c. IsWithin largest_number c.weight) cuts
small_weights vertices [] all = tt
small_weights vertices (c ∷ cuts) all = (all.0.small, small_weights vertices cuts all.1)

module _ (bound : ℕ) where
  weight_where-within : (b : Bool) (w : ℤ) → IsWithin bound w → IsWithin bound (weight_where b w)
  weight_where-within true w l = l
  weight_where-within false w l = (omega (arith, ints), omega (arith, ints))

  pub weight_on-within : (ends : ℕ → ℕ × ℕ) (cuts : List CutWeight) (a : ℕ) → AllByRecursion (λ c. IsWithin bound c.weight) cuts
      → IsWithin (bound * length cuts) (weight_on ends cuts a)
  weight_on-within ends [] a all = (omega (arith, ints), omega (arith, ints))
  weight_on-within ends (c ∷ cuts) a all =
      let here = weight_where-within (enters ends c.set a) c.weight all.0 in
      let rest = weight_on-within ends cuts a all.1 in
      let low = here.0 in let high = here.1 in let rest_low = rest.0 in let rest_high = rest.1 in
      (omega (arith, ints), omega (arith, ints))

-- ---- one cut more

pub all_weight-push : (cuts : List CutWeight) (c : CutWeight) → all_weight (cuts ++ c ∷ []) ≡ all_weight cuts +ℤ c.weight
all_weight-push [] c = omega (arith, ints)
all_weight-push (d ∷ cuts) c = omega (arith, ints, all_weight-push cuts c)

pub all_weight-more : (cuts : List CutWeight) (i : ℕ) (d : CutWeight) → i < length cuts
    → all_weight (take (i + 1) cuts) ≡ all_weight (take i cuts) +ℤ (get_or cuts i d).weight
all_weight-more cuts i d l = ap all_weight (take_more cuts i d l) ∙ all_weight-push (take i cuts) (get_or cuts i d)

pub weight_on-more : (ends : ℕ → ℕ × ℕ) (cuts : List CutWeight) (a i : ℕ) (d : CutWeight) → i < length cuts
    → weight_on ends (take (i + 1) cuts) a
    ≡ weight_on ends (take i cuts) a +ℤ weight_where (enters ends (get_or cuts i d).set a) (get_or cuts i d).weight
weight_on-more ends cuts a i d l =
    ap (λ k. weight_on ends k a) (take_more cuts i d l) ∙ weight_on-push ends (take i cuts) (get_or cuts i d) a
