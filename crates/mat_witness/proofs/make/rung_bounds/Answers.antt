use Rattle.mat_witness.proofs.Common.{◌+◌, [], ◌∷◌, ◌++◌, map, append_assoc, ap, subst, ◌∙◌, all_below, minus, rank, element_count, is_independent, tree_of, IsMeeting, demands_under, bound_part}
use Rattle.std.specs.List.{AllZip}
use Rattle.mat_witness.proofs.MadeWitnesses.{rung_bounds_joined}
use Rattle.mat_witness.proofs.make.rung_bounds.Goals as goal

pub returns : goal.returns
returns c =
    let first = tree_of c.args.first.now in
    let second = tree_of c.args.second.now in
    let cut = c.args.cut.now in
    let set = c.args.rung.now.set in
    let bounds = c.in_ok-bounds.bounds.items in
    let others = c.in_ok-others.others.items in
    let last = rank (is_independent first) (minus (all_below (element_count first)) cut) + rank (is_independent second) cut in
    let in_first = subst (λ half. AllZip (IsMeeting (element_count first)) (demands_under first c.args.k set half) (map bound_part bounds))
    c.as_slice.ensures c.in_ok-bounds.ensures in
    let in_second = subst (λ n. AllZip (IsMeeting n) (demands_under second c.args.k set c.args.rung.now.second) (map bound_part others))
    c.requires.witnessed.same_count
    (subst (λ half. AllZip (IsMeeting (element_count second)) (demands_under second c.args.k set half) (map bound_part others))
    c.as_slice-2.ensures c.in_ok-others.ensures) in
    let both = c.in_ok-push-2.ensures.items ∙ ap (λ xs. xs ++ c.in_ok-outside.inside ∷ []) (c.in_ok-push.ensures.items
    ∙ ap (λ xs. xs ++ c.in_ok-outside.outside ∷ []) c.in_ok-append.ensures.items)
    ∙ append_assoc (bounds ++ others) (c.in_ok-outside.outside ∷ []) (c.in_ok-outside.inside ∷ []) in
    rung_bounds_joined first second c.args.k c.args.rung.now cut last bounds others c.push-2.new.self.items c.in_ok-outside.outside
    c.in_ok-outside.inside in_first in_second c.in_ok-outside.ensures.parts c.in_ok-outside.ensures.bounds both
