use Rattle.mat_desc.proofs.Common.{ℕ, ◌<◌, ◌^◌, subst, sym, instance_of}
use Rattle.mat_desc.proofs.NamedCounts.{few_elements, few_vertices}
use Rattle.mat_desc.proofs.named.all_numbered_names.Goals as goal

pub numbered_names-requires-clause-few : goal.numbered_names-requires-clause-few
numbered_names-requires-clause-few c =
    subst (λ (n : ℕ). n < 2 ^ 32) (sym c.element_count.ensures) (few_elements (instance_of c.args.problem.now) c.requires)

pub numbered_names-requires-2-clause-few : goal.numbered_names-requires-2-clause-few
numbered_names-requires-2-clause-few c =
    subst (λ (n : ℕ). n < 2 ^ 32) (sym c.vertex_count.ensures) (few_vertices (instance_of c.args.problem.now) c.requires)
