use Rattle.mat_exchange.proofs.Common.{◌∙◌, Bool, List, ℕ, ap, Exchange, on_ok_weaker}
use Rattle.mat_exchange.proofs.partial_table.PartialTable.enter_row.Goals as goal

pub returns-then-row : goal.returns-then-row
returns-then-row c = on_ok_weaker c.enter_addable.result
    (λ told exchanges missing is filled. told exchanges missing (ap (λ (r : Exchange). r.addable) is ∙ c.if-row.true) filled) c.enter_addable.ensures

told : Bool → List ℕ → Exchange
told b with = record { addable = b; with = with }

pub returns : goal.returns
unfolding told
returns c = λ exchanges missing is filled. c.enter.ensures exchanges missing (is ∙ ap (λ b. told b c.args.row.now.with) c.if-row.false) filled
