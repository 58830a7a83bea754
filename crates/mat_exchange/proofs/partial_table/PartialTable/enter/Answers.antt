use Rattle.mat_exchange.proofs.Common.{ℕ, ◌≤◌, List, ◌∙◌, set, length, ap, arith, AllBelow, AllBelow-from_members, AllBelow-member}
use Rattle.mat_exchange.proofs.TableSteps.{IsFilledTable-enter}
use Rattle.mat_exchange.proofs.partial_table.PartialTable.enter.Goals as goal

still_below : (n m : ℕ) (a : List ℕ) → n ≤ m → AllBelow n a → AllBelow m a
still_below n m a le h = AllBelow-from_members m a (λ k i. (let l = AllBelow-member n a k h i in omega arith))

pub to_row-requires : goal.to_row-requires
to_row-requires c = still_below (length c.args.self.now.rows) 512 c.args.with.now (omega (arith, c.requires.few)) c.requires.below

pub returns : goal.returns
returns c = λ exchanges missing is filled.
    IsFilledTable-enter exchanges missing c.args.x c.args.self.now.addable c.args.self.now.rows c.args.self.now.columns filled c.args.with.now _ _
    c.requires.place is (c.replace.ensures ∙ ap (λ r. set c.args.self.now.rows c.args.x r) c.to_row.ensures.members)
    (rw c.as_slice.ensures.items at c.insert_each.ensures)
