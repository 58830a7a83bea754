use Rattle.mat_union.proofs.Common.{◌∙◌, ◌+◌, ◌∷◌, ◌++◌, [], refl, ap, subst, both_ways, AreTaken}
use Rattle.std.proofs.Math.Numerals.{add-one}
use Rattle.mat_union.proofs.Asking.{search_goes_on}
use Rattle.mat_union.proofs.move_search.MoveSearch.close.Goals as goal

pub returns : goal.returns
returns c = λ n m exchanges among start h.
    let s = c.args.self.now in
    let t : AreTaken s.pushes s.unreached s.queue.items c.take_common.new.unreached c.take_common.new.queue.items = subst (λ p. AreTaken p s.unreached s.queue.items c.take_common.new.unreached c.take_common.new.queue.items) c.replace-pushes.ensures.value c.in_ok-take_common.ensures in (
      record {
        from_start = h.from_start;
        size = h.size;
        count = h.count;
        here = h.some;
        so_far = search_goes_on h.so_far c.take_common.new.unreached c.take_common.new.queue.items t c.requires.more h.so_far.none (s.head + 1) (add-one s.head) _ (c.replace-pushes.ensures.after ∙ c.new.ensures) _
            (c.in_ok-push.ensures.items ∙ ap (λ row. s.told.items ++ row ∷ []) c.replace-pushes.ensures.value);
        enters = λ e. absurd (both_ways _ h.refused e);
      },
      h.refused,
      refl,
      add-one s.head,
      refl,
    )
