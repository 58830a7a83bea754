use Rattle.mat_facts.proofs.Common.{◌∙◌, [], ◌∷◌, ◌++◌, ap, length, map, heavy, family_union, intersection, in_parts, level_most_facts}
use Rattle.mat_facts.specs.Views.{facts_of}
use Rattle.mat_facts.proofs.PutFacts.{one_first}
use Rattle.mat_facts.proofs.unions.put_level.Goals as goal

pub returns : goal.returns
returns g c =
    let joined = c.args.joined.now in
    let level = c.args.level.now in
    let all = heavy (length joined.weights.now) joined.weights.now level.at in
    let before = facts_of c.args.facts.now.items in
    let count = c.in_ok-count.ensures ∙ ap (λ X. length (intersection X all)) c.requires.members in
    one_first before (facts_of c.put.new.facts.items) _ (in_parts level.at (length (intersection (family_union joined.parts.now) all)))
    (level_most_facts 0 (map g.M.Matroid.indep c.args.matroids.now) level.cut)
    (c.in_ok-put.ensures ∙ ap (λ n. before ++ in_parts level.at n ∷ []) count) c.in_ok-put_each_most.ensures
