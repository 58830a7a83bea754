-- What the outputs of a team of which each worker has finished say of all rows and all tickets.
use Rattle.mat_ticket.proofs.Common.{◌≡◌, ℕ, suc, ◌+◌, ◌<◌, List, [], ◌∷◌, length, map, Some, refl, sym, ap, ◌∙◌, subst, ⊎_elim, arith, slice_get, length-map, get_or_from_slice_get, TableId, AllRising, multiplicity, AllBelow, Output, Worker, AreRowsAt, output_of, IsDone, HasFinished, IsSeated}
use Rattle.mat_ticket.proofs.Common.{IsRowOf, IsRowIn, FitsRoom, tickets_of}
use Rattle.std.specs.List.{AllByRecursion}
use Rattle.mat_work.specs.Rows.{StandFrom}
use Rattle.mat_ticket.specs.Tickets.{AreTickets}

module _ {X : Type 0} (table : TableId) (stands : ℕ → X → Type 0) (count : ℕ) where
  pub all_seated : (team : List (Worker X)) → AllByRecursion (IsDone table stands count) team → AllByRecursion (IsSeated table count) team
  all_seated [] h = tt
  all_seated (w ∷ team) h = (record { seat = h.0.seat; slots = h.0.slots; last = λ f. (h.0.output f).1 }, all_seated team h.1)

  pub all_fit : (team : List (Worker X)) → AllByRecursion (IsDone table stands count) team → AllByRecursion HasFinished team
      → AllByRecursion (FitsRoom count) (map output_of team)
  all_fit [] h f = tt
  all_fit (w ∷ team) h f = let a = (h.0.output f.0).0 in (record { rows_count = a.stand.count; below = a.below }, all_fit team h.1 f.1)

  row_stands : (tickets : List ℕ) (rows : List X) (i : ℕ) (row : X) → AreRowsAt stands tickets rows → IsRowOf tickets rows i row → stands i row
  row_stands tickets rows i row h r =
      subst (λ n. stands n row) (get_or_from_slice_get tickets r.place i 0 r.ticket_here) (h.each r.place row r.row_here)

  all_stand : (team : List (Worker X)) → AllByRecursion (IsDone table stands count) team → AllByRecursion HasFinished team
      → (i : ℕ) (row : X) → IsRowIn (map output_of team) i row → stands i row
  all_stand [] h f i row r = absurd r
  all_stand (w ∷ team) h f i row r =
      ⊎_elim (λ x. row_stands w.tickets.items w.rows.items i row (h.0.output f.0).0.stand x) (λ x. all_stand team h.1 f.1 i row x) r

  stand_by_place : (from : ℕ) (rows : List X) → ((i : ℕ) (row : X) → slice_get rows i ≡ Some row → stands (from + i) row) → StandFrom stands from rows
  stand_by_place from [] h = tt
  stand_by_place from (row ∷ rows) h = (
    subst (λ n. stands n row) (omega arith) (h 0 row refl),
    stand_by_place (from + 1) rows
        (λ i r e. subst (λ n. stands n r) (omega arith) (h (suc i) r e)),
  )

  pub rows_in_order : (team : List (Worker X)) (outputs : List (Output X)) (rows : List X) → AllByRecursion (IsDone table stands count) team
      → AllByRecursion HasFinished team
      → outputs ≡ map output_of team → ((i : ℕ) (row : X) → slice_get rows i ≡ Some row → IsRowIn outputs i row) → StandFrom stands 0 rows
  rows_in_order team outputs rows h f e r =
      stand_by_place 0 rows (λ i row s. subst (λ n. stands n row) (omega arith)
      (all_stand team h f i row (subst (λ hs. IsRowIn hs i row) e (r i row s))))

  all_rising : (team : List (Worker X)) → AllByRecursion (IsDone table stands count) team → AllByRecursion HasFinished team
      → AllRising (map tickets_of (map output_of team))
  all_rising [] h f = tt
  all_rising (w ∷ team) h f = ((h.0.output f.0).0.rising, all_rising team h.1 f.1)

  all_below : (team : List (Worker X)) → AllByRecursion (IsDone table stands count) team → AllByRecursion HasFinished team
      → AllByRecursion (AllBelow count) (map tickets_of (map output_of team))
  all_below [] h f = tt
  all_below (w ∷ team) h f = ((h.0.output f.0).0.below, all_below team h.1 f.1)

  pub tickets_of_all : (workers : ℕ) (team : List (Worker X)) (outputs : List (Output X)) (lists : List (List ℕ))
      → AllByRecursion (IsDone table stands count) team
      → AllByRecursion HasFinished team → outputs ≡ map output_of team → length team ≡ workers
      → ((x : ℕ) → x < count → multiplicity x (map tickets_of outputs) ≡ 1)
      → lists ≡ map tickets_of outputs → AreTickets count workers lists
  tickets_of_all workers team outputs lists h f e n once l =
      let all : lists ≡ map tickets_of (map output_of team) = l ∙ ap (map tickets_of) e in record {
        one_each = ap length all ∙ length-map (map output_of team) tickets_of ∙ length-map team output_of ∙ n;
        rising = subst AllRising (sym all) (all_rising team h f);
        below = subst (AllByRecursion (AllBelow count)) (sym all) (all_below team h f);
        once = λ x b. ap (multiplicity x) l ∙ once x b;
      }
