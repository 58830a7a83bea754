-- Facts that hold and suffice show that an answer is best: form by form.
use Rattle.mat_facts.proofs.Common.{List, [], ◌∷◌, sym, subst, is_independent, Instance, pair, list, graph, rooted, coloured, table, IsValid, IsCover, Certificate, intersect, best, union_of, pack_any, pack, cover_never, cover, trees, trees_none, arbor, unreached, disjoint, disjoint_none, rainbow}
use Rattle.mat_facts.proofs.Common.{assign, AreFewestSets, AreMostBases, IsOptimal, Fact, allowed, Holds, Suffice}
use Rattle.std.specs.List.{All}
use Rattle.mat_facts.proofs.SufficientBounds.{said}
use Rattle.mat_facts.proofs.SufficientGraphs.{least_shown, no_arborescence, no_arborescences, no_trees}
use Rattle.mat_facts.proofs.SufficientLadders.{assignment_shown, best_shown, intersection_shown, rainbow_shown}
use Rattle.mat_facts.proofs.SufficientSets.{no_cover, no_fewer_sets, no_more_bases, none_allowed, union_shown}

pub facts_suffice : (problem : Instance) (answer : Certificate) (facts : List Fact) → IsValid problem → All (Holds problem answer) facts
    → Suffice problem answer facts → IsOptimal problem answer
facts_suffice (pair w first second) (intersect n rungs cut) facts valid hold s = intersection_shown w first second n rungs cut facts valid hold s
facts_suffice (list w matroids) (union_of n printed parts levels) facts valid hold s = union_shown w matroids n printed parts levels facts valid hold s
facts_suffice (list w (matroid ∷ [])) (best n rungs) facts valid hold s = best_shown w matroid n rungs facts valid hold s
facts_suffice (list w (matroid ∷ [])) (pack_any n) facts valid hold s = none_allowed w matroid (pack_any n) facts valid hold s
facts_suffice (list w (matroid ∷ [])) (pack n bases cut) facts valid hold s =
    let is = said (list w (matroid ∷ [])) (pack n bases cut) facts valid hold allowed s.says_allowed in
    subst (λ m. AreMostBases m (is_independent matroid) bases) (sym is.0)
    (no_more_bases w matroid (pack n bases cut) facts valid hold bases is.1 s)
facts_suffice (list w (matroid ∷ [])) (cover_never n loop_at) facts valid hold s =
    let is = said (list w (matroid ∷ [])) (cover_never n loop_at) facts valid hold allowed s.0 in
    λ sets c. no_cover w matroid (cover_never n loop_at) facts valid hold s.1 s.2 sets (subst (λ m. IsCover m (is_independent matroid) sets) is c)
facts_suffice (list w (matroid ∷ [])) (cover n sets cut) facts valid hold s =
    let is = said (list w (matroid ∷ [])) (cover n sets cut) facts valid hold allowed s.0 in
    subst (λ m. AreFewestSets m (is_independent matroid) sets) (sym is.0)
    (no_fewer_sets w matroid (cover n sets cut) facts valid hold sets is.1 s.1)
facts_suffice (graph vertices edges) (trees n sets) facts valid hold s = (said (graph vertices edges) (trees n sets) facts valid hold allowed s).1
facts_suffice (graph vertices edges) (trees_none n k v classes) facts valid hold s =
    no_trees vertices edges (trees_none n k v classes) facts valid hold k s
facts_suffice (rooted vertices root arcs costs) (arbor n cost tree first second) facts valid hold s =
    least_shown vertices root arcs costs n cost tree first second facts valid hold s.0 s.1
facts_suffice (rooted vertices root arcs costs) (unreached n v set) facts valid hold s =
    no_arborescence vertices root arcs costs (unreached n v set) facts valid hold s
facts_suffice (rooted vertices root arcs costs) (disjoint n sets) facts valid hold s =
    (said (rooted vertices root arcs costs) (disjoint n sets) facts valid hold allowed s).1
facts_suffice (rooted vertices root arcs costs) (disjoint_none n k v set) facts valid hold s =
    no_arborescences vertices root arcs costs (disjoint_none n k v set) facts valid hold k s
facts_suffice (coloured vertices colours edges colour_of w) (rainbow n v c rungs cut missing) facts valid hold s =
    rainbow_shown vertices colours edges colour_of w n v c rungs cut missing facts valid hold s
facts_suffice (table rows columns cells w) (assign n r c rungs cut) facts valid hold s =
    assignment_shown rows columns cells w n r c rungs cut facts valid hold s
facts_suffice problem answer facts valid hold s = absurd s
