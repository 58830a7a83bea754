-- An answer in range that fits is right exactly where none of its clauses fails: form by form.
use Rattle.mat_check.proofs.Common.{◌≡◌, ◌↔◌, true, None, IsValid, Instance, IsSoundInstance-valid, Certificate, IsRanged, IsRight, failure_of, fits}
use Rattle.mat_check.proofs.AnswerForms.{by_fitting, OnEachForm, RightHasNoFailure}
use Rattle.mat_check.proofs.RightFronts.{right_arborescence_has_no_failure, right_assignment_has_no_failure, right_rainbow_has_no_failure}
use Rattle.mat_check.proofs.RightLadders.{right_ladder_has_no_failure, right_rungs_have_no_failure}
use Rattle.mat_check.proofs.RightSets as sets
use Rattle.mat_check.proofs.RightTrees as trees

on_each_form : OnEachForm RightHasNoFailure
on_each_form = record {
  ladder = right_ladder_has_no_failure;
  single = right_rungs_have_no_failure;
  union = sets.union_case;
  packing_of_none = sets.packing_of_none_case;
  packing = sets.packing_case;
  loop = sets.loop_case;
  covering = sets.covering_case;
  trees_found = trees.trees_found;
  partition = trees.partition;
  arborescence = right_arborescence_has_no_failure;
  unreached_set = trees.unreached_set;
  arborescences = trees.arborescences;
  seldom_entered = trees.seldom_entered;
  rainbow_ladder = right_rainbow_has_no_failure;
  assignment = right_assignment_has_no_failure;
}

pub right_has_no_failure : (instance : Instance) (answer : Certificate) → IsValid instance → IsRanged answer
    → fits instance answer ≡ true → IsRight instance answer ↔ (failure_of instance answer ≡ None)
right_has_no_failure instance answer valid ranged fitting =
    by_fitting RightHasNoFailure on_each_form answer instance fitting valid (IsSoundInstance-valid instance valid) ranged
