use Rattle.mat_gf2.proofs.Common.{◌≡◌, ◌∙◌, All, sym, ap, subst, length, and_parts, AllBelow, is_set, IsSet-from_test, column_of, is_linearly_independent, IsParityCheck, IsTaggedBasis}
use Rattle.mat_gf2.proofs.Dimensions.{independent-few}
use Rattle.mat_gf2.proofs.gf2.Gf2Matroid.keep.Goals as goal

pub tagged_basis-requires-clause-below : goal.tagged_basis-requires-clause-below
tagged_basis-requires-clause-below c =
    let columns = c.args.self.now.columns in
    let base = c.args.base.now in
    let same : c.deref.result.now ≡ columns = c.deref.ensures.value ∙ ap (λ m. m.columns) c.self.view_is in
    subst (λ s. AllBelow (length s) base) (sym same)
    (IsSet-from_test (length columns) base (and_parts (is_set (length columns) base)
    (is_linearly_independent (column_of columns) base) c.requires.base).0).below

pub tagged_basis-requires-clause-few : goal.tagged_basis-requires-clause-few
tagged_basis-requires-clause-few c = independent-few c.args.self.now.dim c.args.self.now.columns c.args.base.now c.requires.sound c.requires.base

pub returns : goal.returns
returns c =
    let base = c.args.base.now in
    let same : c.deref.result.now ≡ c.args.self.now.columns = c.deref.ensures.value ∙ ap (λ m. m.columns) c.self.view_is in
    record {
      tagged = subst (λ s. IsTaggedBasis (column_of s) base base c.in_ok-rows.rows.items) same c.in_ok-rows.ensures.basis;
      checks = subst (λ rows. All (IsParityCheck rows) c.in_ok-checks.checks.items) c.deref-2.ensures.value c.in_ok-checks.ensures.checks;
    }
