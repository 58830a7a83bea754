-- The moves along a walk with fewest vertices are a move path with fewest moves.
use Rattle.mat_union.proofs.Common.{◌≡◌, ℕ, suc, ◌+◌, ◌<◌, Bool, true, List, length, get_or, sym, ap, ◌∙◌, subst, inl, inr, arith, cases_eq, and_parts, length-map, is_member, IsReachedSet, IsShortestWalk, IsWalkSearch, WalkSearch, Reached, family_union-from, below_member, some_below_gives, Exchange}
use Rattle.mat_union.proofs.Common.{can_enter, can_push, exchanges_of, is_free, element_at, elements, place_at, IsShortestMovePath, IsStuck, AreMovable, AreMovesAt, path_is_walk, stuck_from, AreBelow, Move}

module _ {n : ℕ} {rows : List (List Exchange)} {parts : List (List ℕ)} {within : List ℕ} (movable : AreMovable n rows parts within) where
  pub movable_below : AreBelow n (length rows) (exchanges_of rows) (is_free parts within)
  movable_below = record {
    starts = λ x h. below_member movable.set (and_parts (is_member x within) _ h).0;
    trades = λ i y x l h. below_member movable.set (movable.inside.inside y (family_union-from y parts i (let e = movable.one_each in omega arith) ((movable.trades i x l).inside y h)));
  }

  pub stuck_search : (count : ℕ) (reach : List ℕ) (found : WalkSearch) → count ≡ n → found ≡ Reached reach
      → IsWalkSearch count (can_push (length rows) (exchanges_of rows)) (is_free parts within) (can_enter (length rows) (exchanges_of rows)) found
      → IsStuck n (length rows) (exchanges_of rows) (is_free parts within) reach
  stuck_search count reach found same is told =
      let r = subst (IsWalkSearch count (can_push (length rows) (exchanges_of rows)) (is_free parts within) (can_enter (length rows) (exchanges_of rows))) is told in
      stuck_from movable_below reach (subst (λ k. IsReachedSet k (can_push (length rows) (exchanges_of rows)) (is_free parts within) reach) same r.0) r.1

  module _ (walk : List ℕ) (shortest : IsShortestWalk n (can_push (length rows) (exchanges_of rows)) (is_free parts within) (can_enter (length rows) (exchanges_of rows)) walk) where
    pub walk_some : 0 < length walk
    walk_some = let l = shortest.walk.long in omega arith

    pub last_enters : (last : ℕ) → last + 1 ≡ length walk → can_enter (length rows) (exchanges_of rows) (get_or walk last 0) ≡ true
    last_enters last e = ap (λ i. can_enter (length rows) (exchanges_of rows) (get_or walk i 0)) (let l = shortest.walk.long in omega arith) ∙ shortest.walk.last

    -- what an element takes the place of in a part lies in that part, and so the move goes there
    through : (moves : List Move) (last : ℕ) → AreMovesAt parts walk last moves → (i : ℕ) → suc i < length walk
        → (place_at moves i < length rows) × ((exchanges_of rows (place_at moves i)).trades (get_or walk (suc i) 0) (get_or walk i 0) ≡ true)
    through moves last at i l =
        let w = some_below_gives (length rows) (λ q. (exchanges_of rows q).trades (get_or walk (suc i) 0) (get_or walk i 0)) (shortest.walk.steps i l) in
        let inside = (movable.trades w.0 (get_or walk i 0) w.1).inside (get_or walk (suc i) 0) w.2 in
        let place : place_at moves i ≡ w.0 = at.places i w.0 l movable.disjoint (subst (λ m. w.0 < m) (sym movable.one_each) w.1) inside in
        (subst (λ q. q < length rows) (sym place) w.1, subst (λ q. (exchanges_of rows q).trades (get_or walk (suc i) 0) (get_or walk i 0) ≡ true) (sym place) w.2)

    pub path_along : (end last : ℕ) → end + 1 ≡ length walk → last < length rows → (exchanges_of rows last).adds (get_or walk end 0) ≡ true
        → (moves : List Move) → AreMovesAt parts walk last moves → IsShortestMovePath (length rows) (exchanges_of rows) (is_free parts within) moves
    path_along end last e below adds moves at =
        let w = shortest.walk in
        let wl = w.long in
        let count = at.long in
        record {
          path = record {
            steps = end;
            long = (omega arith);
            places = λ i l. elim (cases_eq i end) [
              | inl d ↦ subst (λ q. q < length rows) (sym (at.last_place i (omega arith))) below
              | inr d ↦ (through moves last at i (omega arith)).0
            ];
            first = ap (is_free parts within) (at.elements 0 (omega arith)) ∙ w.first;
            next = λ i l. two (exchanges_of rows (place_at moves i)).trades (element_at moves (suc i)) (get_or walk (suc i) 0) (element_at moves i) (get_or walk i 0)
                (at.elements (suc i) (omega arith)) (at.elements i (omega arith)) (through moves last at i (omega arith)).1;
            last = added (place_at moves end) last (element_at moves end) (get_or walk end 0) (at.last_place end (omega arith)) (at.elements end (omega arith)) adds;
          };
          fewest = λ others q. (let h = shortest.fewest (elements others) (path_is_walk movable_below others q) in
              let d : length (elements others) ≡ length others = length-map others (λ u. u.element) in
              omega arith);
        }
      where
        two : (f : ℕ → ℕ → Bool) (y y' x x' : ℕ) → y ≡ y' → x ≡ x' → f y' x' ≡ true → f y x ≡ true
        two f y y' x x' b c h = rw (b, c) h

        added : (p q x y : ℕ) → p ≡ q → x ≡ y → (exchanges_of rows q).adds y ≡ true → (exchanges_of rows p).adds x ≡ true
        added p q x y b c h = rw (b, c) h
