-- Tests that look for a heavier independent set, and for an element that can be added.
use Rattle.std.specs.Prelude.{ℕ, Bool, not, ◌&&◌, ◌==◌, List, length}
use Rattle.mat_sets.specs.Sets.{is_member, with_one, all_below}
use Rattle.mat_sets.specs.Weights.{is_below, weight_sum}
use Rattle.mat_sets.specs.declared.weight.Weight.{Weight}
use Rattle.mat_sets.specs.Search.{some_below, some_subset}

-- whether some independent set of as many elements weighs more than X
abbrev pub is_beaten : ℕ → (List ℕ → Bool) → (ℕ → Weight) → List ℕ → Bool
is_beaten n independent w X =
    some_subset (all_below n) (λ Y. independent Y && (length Y == length X) && is_below (weight_sum w X) (weight_sum w Y))

-- whether some element can be added to X
abbrev pub has_addable : ℕ → (List ℕ → Bool) → List ℕ → Bool
has_addable n independent X = some_below n (λ e. not (is_member e X) && independent (with_one X e))
