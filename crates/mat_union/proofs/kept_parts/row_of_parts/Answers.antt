use Rattle.mat_union.proofs.Common.{◌∙◌, ap, length, map, subst, sym, ltb-true, IfOk-weaker, all_below, is_member, is_member-all_below, IsEnded, exchanges_with, IsReaching}
use Rattle.mat_union.proofs.kept_parts.row_of_parts.Goals as goal

pub search_from-requires-clause-among : goal.search_from-requires-clause-among
search_from-requires-clause-among g c = λ v h. ltb-true v c.args.n (sym (is_member-all_below v c.args.n) ∙ ap (is_member v) (sym c.in_ok-all.ensures) ∙ h)

pub returns-clause-row : goal.returns-clause-row
returns-clause-row g c =
    let tests = map g.M.Asked.indep c.args.matroids.now in
    let parts = c.args.held.now.parts in
    let search = c.in_ok-search.search in
    let ended : IsEnded c.args.n tests parts (all_below c.args.n) c.args.x search = record {
      laws = c.all_lawful.ensures;
      are = c.requires.kept.are;
      fresh = ap (is_member c.args.x) c.requires.kept.together ∙ c.requires.outside;
      reaching = subst (λ a. IsReaching c.args.n (length parts) (exchanges_with tests parts) a c.args.x search) c.in_ok-all.ensures c.in_ok-search.ensures.reaching;
      end = c.in_ok-search.ensures.end;
    } in
    IfOk-weaker c.row_by_search.result _ _ (λ e told. told c.args.n tests parts c.args.x c.requires.kept.together ended) c.row_by_search.ensures.row
