use Rattle.mat_witness.proofs.Common.{◌≡◌, ℕ, ◌-◌, ◌≤◌, true, List, length, IfOk-weaker, ends_of, AllBelow, IsMaximal, is_graphic, count_different, have_equal_labels}
use Rattle.mat_witness.proofs.ComponentLabels.{AreLeast, least_alike, least_below, least_number, of_both}
use Rattle.mat_witness.proofs.parts.forests.component_labels.Goals as goal

pub returns-clause-part : goal.returns-clause-part
returns-clause-part c =
    let vertices = c.args.matroid.now.vertices in
    let ends = ends_of c.args.matroid.now.edges in
    of_both c.components.result (λ t. length t.items ≡ vertices) (λ t. AreLeast vertices ends c.args.set.now t.items)
    (λ t. (length t.items ≡ vertices) × AllBelow vertices t.items)
    (λ t long least. (long, least_below vertices ends c.args.set.now t.items long least)) c.components.ensures.long c.components.ensures.least

pub returns-clause-shows : goal.returns-clause-shows
returns-clause-shows c =
    let vertices = c.args.matroid.now.vertices in
    let edges = c.args.matroid.now.edges in
    IfOk-weaker c.components.result (λ t. AreLeast vertices (ends_of edges) c.args.set.now t.items)
    (λ t. have_equal_labels (ends_of edges) t.items c.args.set.now ≡ true)
    (λ t least. least_alike vertices edges c.args.set.now t.items c.requires.sound c.requires.set least) c.components.ensures.least

pub returns-clause-number : goal.returns-clause-number
returns-clause-number c =
    let vertices = c.args.matroid.now.vertices in
    let edges = c.args.matroid.now.edges in
    of_both c.components.result (λ t. length t.items ≡ vertices) (λ t. AreLeast vertices (ends_of edges) c.args.set.now t.items)
    (λ t. (inside : List ℕ) → IsMaximal (is_graphic (length edges) (ends_of edges)) c.args.set.now inside
    → vertices - count_different t.items ≤ length inside)
    (λ t long least inside maximal. least_number vertices edges c.args.set.now t.items inside c.requires.sound c.requires.set long least maximal)
    c.components.ensures.long c.components.ensures.least
