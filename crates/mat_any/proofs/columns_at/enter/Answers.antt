use Rattle.mat_any.proofs.Common.{ℕ, Bool, ◌∙◌, sym, both_ways, false_from_ne_true, row_of, adds_takes, entered_before, entered_one, unentered_one, is_independent, tree_of}
use Rattle.mat_any.proofs.columns_at.enter.Goals as goal
use Rattle.mat_any.proofs.columns_at.enter.Goals.{then-contains-via-then-contains, then-contains-via-else-contains+then-not-takes_each_place}

pub returns-then-contains : goal.returns-then-contains
returns-then-contains c = λ y.
    let x = c.args.x in
    let part = c.args.part.now in
    let adds : ℕ → Bool = λ v. (row_of (is_independent (tree_of c.args.matroid.now)) part v).addable in
    elim c.then-contains.branch [
      | then-contains-via-then-contains w ↦ entered_before c.args.entering.now x adds (sym c.contains.ensures ∙ w.if-contains.true) y
      | then-contains-via-else-contains+then-not-takes_each_place w ↦ unentered_one c.args.entering.now x adds
          (false_from_ne_true _ (λ t. both_ways _ w.if-not-takes_each_place.true
          (w.takes_each_place.ensures.1 (adds_takes c.lawful.ensures part c.args.columns.now c.requires.base c.requires.columns x t)))) y
    ]

pub returns-in_ok-insert : goal.returns-in_ok-insert
returns-in_ok-insert c = entered_one c.args.entering.now c.args.x (λ v. (row_of (is_independent (tree_of c.args.matroid.now)) c.args.part.now v).addable) c.insert.new.self
    (sym c.in_ok-adds_at.ensures ∙ c.if-branch.true) c.in_ok-insert.ensures.ok
