-- A search for moves reads the rows of the elements in within alone: two families of exchanges that agree there have the same ends.
use Rattle.mat_union.proofs.Common.{◌≡◌, ℕ, suc, zero, ◌<◌, Bool, true, eqb, List, length, get_or, sym, ◌∙◌, arith, is_member, IsReachedSet, IsWalk, reached_by_induction, some_below_from, some_below_gives, Exchanges, can_push, element_at, place_at, IsMovePath, IsMoves, IsShortestMovePath, IsStuck}
use Rattle.mat_union.proofs.Common.{Moves, Path, Stuck, Move}

-- two families of exchanges agree at the elements of within; there a search stays: elements that start are in it, and so is what an
-- element in it can take the place of
pub record AgreeWithin (m : ℕ) (within : List ℕ) (one other : ℕ → Exchanges) (start : ℕ → Bool) : Type 0 where
  pub adds : (i x : ℕ) → i < m → is_member x within ≡ true → (one i).adds x ≡ (other i).adds x
  pub trades : (i y x : ℕ) → i < m → is_member x within ≡ true → (one i).trades y x ≡ (other i).trades y x
  pub starts : (x : ℕ) → start x ≡ true → is_member x within ≡ true
  pub stays : (i y x : ℕ) → i < m → is_member x within ≡ true → (one i).trades y x ≡ true → is_member y within ≡ true

agree_turned : {m : ℕ} {within : List ℕ} {one other : ℕ → Exchanges} {start : ℕ → Bool} → AgreeWithin m within one other start → AgreeWithin m within other one start
agree_turned a = record {
  adds = λ i x l h. sym (a.adds i x l h);
  trades = λ i y x l h. sym (a.trades i y x l h);
  starts = a.starts;
  stays = λ i y x l h t. a.stays i y x l h (a.trades i y x l h ∙ t);
}

module _ {m : ℕ} {within : List ℕ} {one other : ℕ → Exchanges} {start : ℕ → Bool} (a : AgreeWithin m within one other start) where
  path_inside : (moves : List Move) → IsMovePath m one start moves → (i : ℕ) → i < length moves → is_member (element_at moves i) within ≡ true
  path_inside moves p zero l = a.starts (element_at moves 0) p.first
  path_inside moves p (suc i) l = a.stays (place_at moves i) (element_at moves (suc i)) (element_at moves i) (p.places i (omega arith)) (path_inside moves p i (omega arith)) (p.next i l)

  same_path : (moves : List Move) → IsMovePath m one start moves → IsMovePath m other start moves
  same_path moves p =
      let long = p.long in
      record {
        steps = p.steps;
        long = p.long;
        places = p.places;
        first = p.first;
        next = λ i l. sym (a.trades (place_at moves i) (element_at moves (suc i)) (element_at moves i) (p.places i (omega arith)) (path_inside moves p i (omega arith))) ∙ p.next i l;
        last = sym (a.adds (place_at moves p.steps) (element_at moves p.steps) (p.places p.steps (omega arith)) (path_inside moves p p.steps (omega arith))) ∙ p.last;
      }

  push_stays : (u v : ℕ) → is_member u within ≡ true → can_push m one u v ≡ true → is_member v within ≡ true
  push_stays u v h p = let w = some_below_gives m (λ i. (one i).trades v u) p in a.stays w.0 v u w.1 h w.2

  same_push : (u v : ℕ) → is_member u within ≡ true → can_push m one u v ≡ true → can_push m other u v ≡ true
  same_push u v h p = let w = some_below_gives m (λ i. (one i).trades v u) p in some_below_from m w.0 (λ i. (other i).trades v u) w.1 (sym (a.trades w.0 v u w.1 h) ∙ w.2)

  walk_inside : (n : ℕ) (goal : ℕ → Bool) (ws : List ℕ) → IsWalk n (can_push m one) start goal ws → (i : ℕ) → i < length ws → is_member (get_or ws i 0) within ≡ true
  walk_inside n goal ws w zero l = a.starts (get_or ws 0 0) w.first
  walk_inside n goal ws w (suc i) l = push_stays (get_or ws i 0) (get_or ws (suc i) 0) (walk_inside n goal ws w i (omega arith)) (w.steps i l)

module _ (n : ℕ) {m : ℕ} {within : List ℕ} {one other : ℕ → Exchanges} {start : ℕ → Bool} (a : AgreeWithin m within one other start) where
  same_reach : (reach : List ℕ) → IsReachedSet n (can_push m one) start reach → IsReachedSet n (can_push m other) start reach
  same_reach reach r =
      let inside = reached_by_induction reach (λ v. is_member v within) r (λ v l h. a.starts v h) (λ u v m l h p. push_stays a u v h p) in
      record {
        set = r.set;
        starts = r.starts;
        closed = λ u v h l p. r.closed u v h l (same_push (agree_turned a) u v (inside u h) p);
        walks = λ v h. (let w = r.walks v h in (
          w.0,
          record {
            arcs = w.1.arcs;
            long = w.1.long;
            below = w.1.below;
            first = w.1.first;
            last = w.1.last;
            steps = λ i l. same_push a (get_or w.0 i 0) (get_or w.0 (suc i) 0) (walk_inside a n (λ u. eqb u v) w.0 w.1 i (omega arith)) (w.1.steps i l);
          },
        ));
      }

  pub same_shortest : (moves : List Move) → IsShortestMovePath m one start moves → IsShortestMovePath m other start moves
  same_shortest moves h = record { path = same_path a moves h.path; fewest = λ others p. h.fewest others (same_path (agree_turned a) others p) }

  pub same_stuck : (reach : List ℕ) → IsStuck n m one start reach → IsStuck n m other start reach
  same_stuck reach h = record { reached = same_reach reach h.reached; no_path = λ moves p. h.no_path moves (same_path (agree_turned a) moves p) }

  pub same_ends : (moves : Moves) → IsMoves n m one start moves → IsMoves n m other start moves
  same_ends (Path moves) h = same_shortest moves.items h
  same_ends (Stuck reach) h = same_stuck reach h
