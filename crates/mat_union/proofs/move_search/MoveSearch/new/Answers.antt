use Rattle.mat_union.proofs.Common.{◌∙◌, ◌++◌, ◌∷◌, [], ap, refl, false≢true, without_one}
use Rattle.mat_union.proofs.Asking.{search_begins}
use Rattle.mat_union.proofs.move_search.MoveSearch.new.Goals as goal

pub returns : goal.returns
returns c = λ exchanges. record {
  from_start = refl;
  size = refl;
  count = refl;
  here = c.requires.some;
  so_far = search_begins c.args.n c.args.count exchanges c.args.among.now _ _ _ _ c.args.start c.requires.below c.requires.among
      (c.remove.ensures ∙ ap (λ s. without_one s c.args.start) c.in_ok-unreached.ensures)
      (c.in_ok-push.ensures.items ∙ ap (λ l. l ++ c.args.start ∷ []) c.in_ok-queue.ensures.items) c.new.ensures c.new-told.ensures.items;
  enters = λ e. absurd (false≢true e);
}
