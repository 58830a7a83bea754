use Rattle.mat_count.proofs.Common.{◌≡◌, ◌<◌, sym, ap, ◌∙◌, subst, [], length, get_or, None, is_some, get_or_default, ⊤, MatchOption, intersection, row_at_place}
use Rattle.mat_sets.proofs.Equalities.{intersection-commute}
use Rattle.mat_count.proofs.FullSetRows.{row_where_full}
use Rattle.mat_count.proofs.full_sets.FullSets.row_at.Goals as goal

pub returns-then-is_some-clause-row : goal.returns-then-is_some-clause-row
returns-then-is_some-clause-row c =
    let base = c.args.base.now in
    let sets = c.args.sets.now in
    let sizes = c.args.self.now.sizes.items in
    let set = get_or sets c.in-Some.place [] in
    let members : c.in_ok-with.with ≡ intersection base set =
    c.in_ok-with.ensures.members ∙ ap (λ s. intersection s c.args.self.now.base) c.get.ensures.item ∙ ap (intersection set) c.requires.base
    ∙ intersection-commute set base c.get.ensures.rises c.rises.ensures in
    let inside : c.in-Some.place < length sizes = subst (λ p. MatchOption p ⊤ (λ i. i < length sizes)) c.in-Some.is c.requires.place in
    let at : c.index.result.now ≡ get_or sizes c.in-Some.place None =
    c.index.ensures ∙ get_or_default sizes c.in-Some.place c.index.result.now None inside in
    let full = ap is_some (sym at) ∙ sym c.is_some.ensures ∙ c.if-is_some.true in
    row_where_full base set (get_or sizes c.in-Some.place None) c.in_ok-with.with full members ∙ ap (row_at_place base sets sizes) (sym c.in-Some.is)
