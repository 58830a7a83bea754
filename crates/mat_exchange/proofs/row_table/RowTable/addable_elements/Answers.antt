use Rattle.mat_exchange.proofs.Common.{◌∙◌, sym}
use Rattle.mat_exchange.proofs.RowTables.{addable_tells, base_tells}
use Rattle.mat_exchange.proofs.row_table.RowTable.addable_elements.Goals as goal

pub returns-clause-elements : goal.returns-clause-elements
returns-clause-elements c = addable_tells c.self.inside.base c.self.invariant _ c.self.view_is

pub returns-clause-alike : goal.returns-clause-alike
returns-clause-alike c = λ y x z h k.
    let base = c.self.inside.base in
    sym (base_tells base c.self.invariant _ c.self.view_is y x (addable_tells base c.self.invariant _ c.self.view_is x ∙ h))
    ∙ base_tells base c.self.invariant _ c.self.view_is y z (addable_tells base c.self.invariant _ c.self.view_is z ∙ k)
