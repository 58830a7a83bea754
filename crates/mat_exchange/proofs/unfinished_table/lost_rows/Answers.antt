use Rattle.mat_exchange.proofs.Common.{◌∙◌, length, subst, sym, ap, AllBelow, is_member}
use Rattle.mat_exchange.proofs.unfinished_table.lost_rows.Goals as goal

pub unite_unaddable-requires : goal.unite_unaddable-requires
unite_unaddable-requires c = subst (AllBelow (length c.args.table.now)) (sym c.as_slice.ensures.items) c.requires.came

pub unite_columns-requires : goal.unite_columns-requires
unite_columns-requires c = subst (AllBelow (length c.args.table.now)) (sym c.as_slice-2.ensures.items) c.requires.left

pub returns : goal.returns
returns c = record {
  came_lost = λ x m none. c.in_ok-unite_columns.ensures.holds x (c.in_ok-unite_unaddable.ensures.puts x (ap (is_member x) c.as_slice.ensures.items ∙ m) none);
  left_lost = λ y x m none trades. c.in_ok-unite_columns.ensures.columns y x (ap (is_member y) c.as_slice-2.ensures.items ∙ m) none trades;
}
