-- No better answer exists than a right one: form by form.
use Rattle.mat_check.proofs.Common.{IsValid, Instance, IsSoundInstance-valid, Certificate, IsRight, IsOptimal}
use Rattle.mat_check.proofs.AnswerForms.{by_right, OnEachForm, RightIsOptimal}
use Rattle.mat_check.proofs.OptimalFronts.{right_arborescence_is_optimal, right_assignment_is_optimal, right_rainbow_is_optimal}
use Rattle.mat_check.proofs.OptimalLadders.{right_ladder_is_optimal, right_rungs_are_optimal}
use Rattle.mat_check.proofs.OptimalSets as sets
use Rattle.mat_check.proofs.OptimalTrees as trees

on_each_form : OnEachForm RightIsOptimal
on_each_form = record {
  ladder = right_ladder_is_optimal;
  single = right_rungs_are_optimal;
  union = sets.union_case;
  packing_of_none = sets.packing_of_none_case;
  packing = sets.packing_case;
  loop = sets.loop_case;
  covering = sets.covering_case;
  trees_found = trees.trees_found;
  partition = trees.partition;
  arborescence = right_arborescence_is_optimal;
  unreached_set = trees.unreached_set;
  arborescences = trees.arborescences;
  seldom_entered = trees.seldom_entered;
  rainbow_ladder = right_rainbow_is_optimal;
  assignment = right_assignment_is_optimal;
}

pub right_is_optimal : (instance : Instance) (answer : Certificate) → IsValid instance → IsRight instance answer
    → IsOptimal instance answer
right_is_optimal instance answer valid right =
    by_right RightIsOptimal on_each_form instance answer right valid (IsSoundInstance-valid instance valid) right
