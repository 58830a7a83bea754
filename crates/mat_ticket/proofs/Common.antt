-- The names that the proofs of this crate take from elsewhere and from its specs, passed on from one place. Declares nothing.
pub use Rattle.atomic_table.specs.Seated.{TableId}
pub use Rattle.std.proofs.Common.{Bool, List, None, Option, Some, [], ap, append-nil, append_assoc, arith, drop, eqb-true, false, get_or, inl, inr, length, length-append, length-set, map, refl, rules, set, slice_get, slice_index, slice_set, subst, suc, sym, take, true, zero, ℕ, ⊎_elim, ◌%◌, ◌&&◌}
pub use Rattle.std.proofs.Common.{◌++◌, ◌+◌, ◌-◌, ◌<◌, ◌==◌, ◌^◌, ◌||◌, ◌∙◌, ◌∷◌, ◌≡◌, ◌≢◌, ◌≤◌, ◌⊎◌}
pub use Rattle.std.proofs.lemmas.Bool.{and_parts, cases_Bool, cases_lt, false≢true, or_cases}
pub use Rattle.std.proofs.lemmas.Bool.Decides.{nat_tests}
pub use Rattle.std.proofs.lemmas.List.{get_or_append_left, get_or_push, length-map, length_push}
pub use Rattle.std.proofs.lemmas.List.Sums.{get_or-le-sum_by, sum_by-append, sum_by-cons, sum_by-set, sum_by_push}
pub use Rattle.std.proofs.lemmas.Option.{get_or_from_slice_get, same_Some, slice_get-get_or, slice_get_read, slice_get_within}
pub use Rattle.mat_sets.specs.Families.{AllRising, indicator}
unfoldable pub use Rattle.mat_sets.specs.Families.{multiplicity}
pub use Rattle.mat_sets.specs.Sets.{AllBelow, IsRising, RisesFrom, is_member}
pub use Rattle.mat_sets.proofs.Steps.{multiplicity-none, written_back}
pub use Rattle.mat_ticket.specs.Joined.{AreJoined, HasFinished, IsSeated, tickets_sum}
pub use Rattle.mat_ticket.specs.Outputs.{AreRowsAt, IsLast}
pub use Rattle.mat_ticket.specs.Placing.{ArePlaced, FitsRoom, HasItem, IsRowIn, IsRowOf, tickets_of}
pub use Rattle.mat_ticket.specs.Sums.{beyond, sum_below}
pub use Rattle.mat_ticket.specs.WordStates.{IsDraw, IsTicketWord, IsWithinShare, joined_view, less_one_share, one_share, spent_view, ticket_view}
pub use Rattle.mat_ticket.specs.Workers.{IsDone, IsFresh, output_of, share_of}
pub use Rattle.mat_ticket.specs.declared.output.Output.{Output}
pub use Rattle.mat_ticket.specs.declared.ticket_word.TicketView.{TicketView}
pub use Rattle.mat_ticket.specs.declared.worker.Worker.{Worker}
