use Rattle.mat_fronts.proofs.Common.{◌+◌, ℕ, List, length, get_or, take, subst, sym, AllBelow, AreLabelsOf}
use Rattle.mat_sets.proofs.Sums.{AllBelow-at}
use Rattle.mat_fronts.proofs.OnceEach.{labels_more}
use Rattle.mat_fronts.proofs.rainbow_search.colours_on.Goals as goal

pub bounds-colour_of-e : goal.bounds-colour_of-e
bounds-colour_of-e c =
    AllBelow-at (length c.args.colour_of.now) c.as_slice-e-items.result.now c.loop-e.e-index
    (subst (λ (xs : List ℕ). AllBelow (length c.args.colour_of.now) xs) (sym c.as_slice-e-items.ensures.items) c.requires) c.loop-e-test.true

pub loop-e-preserved : goal.loop-e-preserved
loop-e-preserved c =
    let xs = c.as_slice-e-items.result.now in
    record {
      labels = subst (λ (s : List ℕ). AreLabelsOf (λ e. get_or c.args.colour_of.now e 0) (take (c.loop-e.e-index + 1) xs) s) (sym c.in_ok-add.ensures.ok.1)
          (labels_more (λ e. get_or c.args.colour_of.now e 0) xs c.loop-e.e-index c.loop-e.colours c.loop-e-test.true c.loop-e.invariant.labels);
      rises = c.in_ok-add.ensures.rises;
    }
