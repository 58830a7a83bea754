-- The moves along a shortest walk of the arcs that a search knows: all its elements but the last are told, so that it has no shortcut among
-- all arcs either, and no element but the last can be added.
use Rattle.mat_union.proofs.Common.{Global, Vec, ◌≡◌, ℕ, suc, ◌<◌, ◌≤◌, Bool, true, false, eqb, List, [], ◌∷◌, length, get_or, take, inl, inr, refl, sym, ap, ◌∙◌, subst, arith, both_ways, cases_Bool, cases_eq, eq-eqb, eqb-true, false≢true, or_cases, or_left, or_right, length-map, family_union}
use Rattle.mat_union.proofs.Common.{is_member, IsReachedSet, IsShortestWalk, IsWalkSearch, WalkSearch, Reached, Walk, below_member, is_member-get_or, place_of_member, shortest_walk_is_chordless, some_below_gives, Exchanges, part_at, AreMatroids, AreParts, can_enter, can_push, element_at, elements}
use Rattle.mat_union.proofs.Common.{exchanges_with, place_at, element_asked, AreFoundMoves, AreMovesAt, IsReaching, IsToldTable, row_at, element_of_list, part_set, chordless_moves, trade_gives, MoveSearch, Move}

pub is_member-taken : (k : ℕ) (xs : List ℕ) (z : ℕ) → is_member z (take k xs) ≡ true → is_member z xs ≡ true
is_member-taken (suc k) (x ∷ xs) z h = elim (or_cases (eqb z x) (is_member z (take k xs)) h) [
  | inl a ↦ or_left (eqb z x) (is_member z xs) a
  | inr b ↦ or_right (eqb z x) (is_member z xs) (is_member-taken k xs z b)
]
is_member-taken _ xs z h = absurd (false≢true h)

module _ {n : ℕ} {tests : List (List ℕ → Bool)} {parts : List (List ℕ)} {among : List ℕ} {start : ℕ} {s : MoveSearch} (laws : AreMatroids n tests) (are : AreParts tests parts)
    (reaching : IsReaching n (length parts) (exchanges_with tests parts) among start s) (entered : s.entered ≡ true) (table : List (List ℕ))
    (told_in : IsToldTable s.elements (length s.told.items) s.queue.items s.told.items table) where
  abbrev m : ℕ
  m = length parts

  abbrev ex : ℕ → Exchanges
  ex = exchanges_with tests parts

  abbrev known : ℕ → ℕ → Bool
  known u v = is_member v (row_at table u)

  rows : IsToldTable s.elements s.head s.queue.items s.told.items table
  rows = subst (λ k. IsToldTable s.elements k s.queue.items s.told.items table) reaching.so_far.long told_in

  known_told : (u v : ℕ) → known u v ≡ true → is_member u (take s.head s.queue.items) ≡ true
  known_told u v h = elim (cases_Bool (is_member u (take s.head s.queue.items))) [
    | inl a ↦ a
    | inr o ↦ absurd (both_ways (known u v) (ap (is_member v) (rows.empty u o)) h)
  ]

  known_is : (u v : ℕ) → is_member u (take s.head s.queue.items) ≡ true → known u v ≡ can_push m ex u v
  known_is u v h = let w = rows.held u h in ap (is_member v) w.3 ∙ reaching.so_far.told w.0 v w.1 ∙ ap (λ x. can_push m ex x v) w.2

  known_push : (u v : ℕ) → known u v ≡ true → can_push m ex u v ≡ true
  known_push u v h = sym (known_is u v (known_told u v h)) ∙ h

  known_trade : (u v : ℕ) → known u v ≡ true → (q : ℕ) × (q < m) × ((ex q).trades v u ≡ true) × (is_member v (part_at parts q) ≡ true)
  known_trade u v h = let w = some_below_gives m (λ q. (ex q).trades v u) (known_push u v h) in (w.0, w.1, w.2, (trade_gives tests parts w.0 v u w.2).0)

  goal_in : is_member (element_asked s) s.queue.items ≡ true
  goal_in = is_member-get_or s.queue.items s.head (element_asked s) (reaching.enters entered).0 refl

  -- the arcs that are known lead from the start to the element that can be added
  pub goal_is_reached : (size : ℕ) → size ≡ n → (goal : ℕ) → goal ≡ element_asked s → (reach : List ℕ)
      → IsReachedSet size known (λ v. eqb v s.start) reach → ((v : ℕ) → is_member v reach ≡ true → eqb v goal ≡ false) → ⊥
  goal_is_reached size e goal g reach r none =
      let all : (v : ℕ) → is_member v s.queue.items ≡ true → is_member v reach ≡ true = reaching.so_far.least (λ v. is_member v reach)
      (r.starts start (let l = reaching.so_far.below start reaching.so_far.first in omega arith) (eq-eqb start s.start (sym reaching.from_start)))
      (λ u v h t p.
      let a : known u v ≡ true = known_is u v t ∙ p in
      r.closed u v h (let w = known_trade u v a in let l = below_member (part_set laws are w.0 w.1) w.3 in omega arith) a) in
      both_ways _ (none (element_asked s) (all (element_asked s) goal_in)) (eq-eqb (element_asked s) goal (sym g))

  module _ (size : ℕ) (goal : ℕ) (goal_is : goal ≡ element_asked s) (walk : List ℕ) (shortest : IsShortestWalk size known (λ v. eqb v s.start) (λ v. eqb v goal) walk)
      (moves : List Move) (at : AreMovesAt parts walk s.part moves) (fresh : is_member start (family_union parts) ≡ false) where
    abbrev k : ℕ
    k = shortest.walk.arcs

    element : (i : ℕ) → i ≤ k → element_at moves i ≡ get_or walk i 0
    element i l = at.elements i (let h = shortest.walk.long in omega arith)

    step : (i : ℕ) → i < k → known (get_or walk i 0) (get_or walk (suc i) 0) ≡ true
    step i l = shortest.walk.steps i (let h = shortest.walk.long in omega arith)

    told : (i : ℕ) → i < k → is_member (get_or walk i 0) (take s.head s.queue.items) ≡ true
    told i l = known_told (get_or walk i 0) (get_or walk (suc i) 0) (step i l)

    -- the part of a move that is not the last
    through : (i : ℕ) → i < k → (place_at moves i < m) × ((ex (place_at moves i)).trades (element_at moves (suc i)) (element_at moves i) ≡ true)
    through i l =
        let w = known_trade (get_or walk i 0) (get_or walk (suc i) 0) (step i l) in
        let place : place_at moves i ≡ w.0 = at.places i w.0 (let h = shortest.walk.long in omega arith) are.disjoint w.1 w.3 in
        (subst (λ q. q < m) (sym place) w.1, named (place_at moves i) w.0 (element_at moves (suc i)) (get_or walk (suc i) 0) (element_at moves i) (get_or walk i 0) place (element (suc i) (omega arith)) (element i (omega arith)) w.2)
      where
        named : (p q y y' x x' : ℕ) → p ≡ q → y ≡ y' → x ≡ x' → (ex q).trades y' x' ≡ true → (ex p).trades y x ≡ true
        named p q y y' x x' a b c h = rw (a, b, c) h

    last_place : place_at moves k ≡ s.part
    last_place = at.last_place k (sym shortest.walk.long)

    last_element : element_at moves k ≡ element_asked s
    last_element = element k (omega arith) ∙ eqb-true (get_or walk k 0) goal shortest.walk.last ∙ goal_is

    first_element : element_at moves 0 ≡ s.start
    first_element = element 0 (omega arith) ∙ eqb-true (get_or walk 0 0) s.start shortest.walk.first

    pub moves_are_found : AreFoundMoves tests parts s moves
    moves_are_found =
        let c = shortest_walk_is_chordless size known (λ v. eqb v s.start) (λ v. eqb v goal) walk shortest in
        let long = shortest.walk.long in
        let r = chordless_moves laws are moves k (at.long ∙ long) (ap (λ x. is_member x (family_union parts)) (first_element ∙ reaching.from_start) ∙ fresh)
        (λ i l. elim (cases_eq i k) [
          | inl d ↦ subst (λ j. place_at moves j < m) (sym d) (subst (λ q. q < m) (sym last_place) reaching.here)
          | inr d ↦ (through i (omega arith)).0
        ])
        (λ i l. (through i l).1)
        (λ i j l h same. c.differ i j l (omega arith) (sym (element i (omega arith)) ∙ same ∙ element j h))
        (λ i j l h. apart (element_at moves i) (get_or walk i 0) (element_at moves j) (get_or walk j 0) (element i (omega arith)) (element j h)
        (sym (known_is (get_or walk i 0) (get_or walk j 0) (told i (omega arith))) ∙ c.no_chord i j l (omega arith)))
        (λ i l. ap (can_enter m ex) (element i (omega arith)) ∙ reaching.so_far.refused (get_or walk i 0) (told i l))
        (added (place_at moves k) s.part (element_at moves k) (element_asked s) last_place last_element (reaching.enters entered).1) in
        record { new = r.0; moved = r.1; first = first_element; reached = λ z h. (let w = place_of_member z (elements moves) h in held z w.0 w.1 w.2) }
      where
        apart : (x x' y y' : ℕ) → x ≡ x' → y ≡ y' → can_push m ex x' y' ≡ false → can_push m ex x y ≡ false
        apart x x' y y' a b h = rw (a, b) h

        added : (p q x y : ℕ) → p ≡ q → x ≡ y → (ex q).adds y ≡ true → (ex p).adds x ≡ true
        added p q x y a b h = rw (a, b) h

        held : (z i : ℕ) → i < length (elements moves) → get_or (elements moves) i 0 ≡ z → is_member z s.queue.items ≡ true
        held z i l e =
            let long = shortest.walk.long in
            let count : length (elements moves) ≡ length moves = length-map moves (λ v. v.element) in
            let h = at.long in
            let is : z ≡ element_at moves i = sym e ∙ element_of_list moves i (omega arith) in
            elim (cases_eq i k) [
              | inl d ↦ ap (λ x. is_member x s.queue.items) (is ∙ ap (element_at moves) d ∙ last_element) ∙ goal_in
              | inr d ↦ ap (λ x. is_member x s.queue.items) (is ∙ element i (omega arith)) ∙ is_member-taken s.head s.queue.items (get_or walk i 0) (told i (omega arith))
            ]

  -- what a search for a walk along the arcs that are known tells
  pub walk_shows : (goal : ℕ) → goal ≡ element_asked s → (found : WalkSearch) (walk : Vec ℕ Global) → found ≡ Walk walk
      → IsWalkSearch (length table) known (λ v. eqb v s.start) (λ v. eqb v goal) found
      → (vertices : List ℕ) → vertices ≡ walk.items → (moves : List Move) → AreMovesAt parts vertices s.part moves → is_member start (family_union parts) ≡ false → AreFoundMoves tests parts s moves
  walk_shows goal g found walk is told vertices f moves at fresh = moves_are_found (length table) goal g walk.items
      (subst (IsWalkSearch (length table) known (λ v. eqb v s.start) (λ v. eqb v goal)) is told) moves (subst (λ l. AreMovesAt parts l s.part moves) f at) fresh

  pub reach_shows : (goal : ℕ) → goal ≡ element_asked s → (found : WalkSearch) (reach : List ℕ) → found ≡ Reached reach
      → IsWalkSearch (length table) known (λ v. eqb v s.start) (λ v. eqb v goal) found → ⊥
  reach_shows goal g found reach is told =
      let r = subst (IsWalkSearch (length table) known (λ v. eqb v s.start) (λ v. eqb v goal)) is told in
      goal_is_reached (length table) (rows.size ∙ reaching.size) goal g reach r.0 r.1
