use Rattle.mat_fronts.proofs.Common.{◌+◌, length, get_or, inl, inr, arith, cases_lt, ends_of, number_of_components, edges_without}
use Rattle.mat_fronts.proofs.Ladders.{missing_colours_exclude, tree_or_missing}
use Rattle.mat_fronts.proofs.laws.rainbow_trees_exist.Goals as goal

pub returns : goal.returns
returns c = λ vertices edges colours colour_of g some k. (
  λ t C s. elim (cases_lt (length C + 1) (number_of_components vertices (ends_of edges) (edges_without (length edges) (λ e. get_or colour_of e 0) C))) [
    | inl more ↦ absurd (missing_colours_exclude vertices edges colours colour_of g C (record { set = s; apart = more }) t.0 t.1)
    | inr few ↦ few
  ],
  λ few. elim (tree_or_missing vertices edges colours colour_of g some k) [
    | inl t ↦ t
    | inr m ↦ absurd (omega (arith, few m.0 m.1.set, m.1.apart))
  ],
)
