-- Move paths are walks from an element to one whose place it can take, from an element that starts to one that can be added; a move path
-- with fewest moves is a walk with fewest vertices.
use Rattle.std.proofs.Common.{◌≡◌, ℕ, suc, zero, ◌<◌, Bool, true, false, cond, eqb, ltb, List, [], ◌∷◌, length, get_or, map, inl, inr, refl, sym, ap, ◌∙◌, subst, arith}
use Rattle.std.proofs.lemmas.Bool.{cases_Bool, cases_eq, or_cases, or_right, eqb-true, eq-eqb, false≢true, lt-ltb, le-ltb}
use Rattle.std.proofs.lemmas.List.{get_or-map, length-map}
use Rattle.mat_sets.specs.Sets.{all_below, is_member}
use Rattle.mat_sets.specs.Search.{some_below}
use Rattle.mat_sets.specs.Walks.{IsReachedSet, IsShortestWalk, IsWalk}
use Rattle.mat_sets.proofs.Members.{is_member-head}
use Rattle.mat_sets.proofs.Search.{some_below_from}
use Rattle.mat_sets.proofs.Ground.{get_or-all_below, length-all_below}
use Rattle.mat_sets.proofs.Reach.{missed_goals_have_no_walk}
use Rattle.mat_laws.specs.TightPaths.{Exchanges}
use Rattle.mat_union.specs.Moves.{can_push, can_enter, no_move, element_at, elements, place_at, entering, IsMovePath, IsShortestMovePath, IsStuck}
use Rattle.mat_union.specs.declared.moves.Move.{Move}

-- a number below m that passes, if there is one
abbrev pub found_below : ℕ → (ℕ → Bool) → ℕ
found_below zero test = 0
found_below (suc m) test = cond (test m) m (found_below m test)

pub found_passes : (m : ℕ) (test : ℕ → Bool) → some_below m test ≡ true → (found_below m test < m) × (test (found_below m test) ≡ true)
unfolding some_below
found_passes zero test h = absurd (false≢true h)
found_passes (suc m) test h = elim (cases_Bool (test m)) [
  | inl e ↦ rw e (omega arith, e)
  | inr e ↦ (let ih = found_passes m test (rw e at h) in let l = ih.0 in rw e (omega arith, ih.1))
]

-- the places of the moves along a walk: each element takes the place of the next, and the last is added
abbrev pub walk_place : ℕ → (ℕ → Exchanges) → ℕ → (ℕ → ℕ) → ℕ → ℕ
walk_place m exchanges k e i = cond (ltb i k) (found_below m (λ q. (exchanges q).trades (e (suc i)) (e i))) (found_below m (λ q. (exchanges q).adds (e i)))

-- the moves of the k + 1 elements of a walk to these places
abbrev pub walk_moves : ℕ → (ℕ → Exchanges) → ℕ → (ℕ → ℕ) → List Move
walk_moves m exchanges k e = map (λ i. record { element = e i; part = walk_place m exchanges k e i }) (all_below (suc k))

module _ (m : ℕ) (exchanges : ℕ → Exchanges) (k : ℕ) (e : ℕ → ℕ) where
  pub length-walk_moves : length (walk_moves m exchanges k e) ≡ suc k
  length-walk_moves = length-map (all_below (suc k)) (λ i. record { element = e i; part = walk_place m exchanges k e i }) ∙ length-all_below (suc k)

  move_at : (i : ℕ) → i < suc k → get_or (walk_moves m exchanges k e) i no_move ≡ record { element = e i; part = walk_place m exchanges k e i }
  move_at i l = get_or-map (λ i. record { element = e i; part = walk_place m exchanges k e i }) (all_below (suc k)) i 0 no_move (let h = length-all_below (suc k) in omega arith)
      ∙ ap (λ j. record { element = e j; part = walk_place m exchanges k e j }) (get_or-all_below (suc k) i 0 l)

  pub walk_element : (i : ℕ) → i < suc k → element_at (walk_moves m exchanges k e) i ≡ e i
  walk_element i l = ap (λ v. v.element) (move_at i l)

  walk_place_at : (i : ℕ) → i < suc k → place_at (walk_moves m exchanges k e) i ≡ walk_place m exchanges k e i
  walk_place_at i l = ap (λ v. v.part) (move_at i l)

  pub place_before : (i : ℕ) → i < k → walk_place m exchanges k e i ≡ found_below m (λ q. (exchanges q).trades (e (suc i)) (e i))
  place_before i l = rw (lt-ltb i k l) refl

  pub place_last : walk_place m exchanges k e k ≡ found_below m (λ q. (exchanges q).adds (e k))
  place_last = rw (le-ltb k k (omega arith)) refl

  -- a walk is a move path
  pub walk_is_path : (start : ℕ → Bool) → start (e 0) ≡ true → ((i : ℕ) → i < k → can_push m exchanges (e i) (e (suc i)) ≡ true) → can_enter m exchanges (e k) ≡ true
      → IsMovePath m exchanges start (walk_moves m exchanges k e)
  walk_is_path start first steps last =
      let push : (i : ℕ) → i < k → (walk_place m exchanges k e i < m) × ((exchanges (walk_place m exchanges k e i)).trades (e (suc i)) (e i) ≡ true) = λ i l.
      subst (λ q. (q < m) × ((exchanges q).trades (e (suc i)) (e i) ≡ true)) (sym (place_before i l)) (found_passes m (λ q. (exchanges q).trades (e (suc i)) (e i)) (steps i l)) in
      let enter : (walk_place m exchanges k e k < m) × ((exchanges (walk_place m exchanges k e k)).adds (e k) ≡ true) =
      subst (λ q. (q < m) × ((exchanges q).adds (e k) ≡ true)) (sym place_last) (found_passes m (λ q. (exchanges q).adds (e k)) last) in
      record {
        steps = k;
        long = length-walk_moves;
        places = λ i l. (let h : i < suc k = (let a = length-walk_moves in omega arith) in subst (λ q. q < m) (sym (walk_place_at i h)) (elim (cases_eq i k) [
          | inl d ↦ subst (λ j. walk_place m exchanges k e j < m) (sym d) enter.0
          | inr d ↦ (push i (omega arith)).0
        ]));
        first = ap start (walk_element 0 (omega arith)) ∙ first;
        next = λ i l. (let h : suc i < suc k = (let a = length-walk_moves in omega arith) in
            three (place_at (walk_moves m exchanges k e) i) (walk_place m exchanges k e i) (element_at (walk_moves m exchanges k e) (suc i)) (e (suc i)) (element_at (walk_moves m exchanges k e) i) (e i)
            (walk_place_at i (omega arith)) (walk_element (suc i) h) (walk_element i (omega arith)) (push i (omega arith)).1);
        last = two (place_at (walk_moves m exchanges k e) k) (walk_place m exchanges k e k) (element_at (walk_moves m exchanges k e) k) (e k) (walk_place_at k (omega arith)) (walk_element k (omega arith)) enter.1;
      }
    where
      three : (p p' y y' x x' : ℕ) → p ≡ p' → y ≡ y' → x ≡ x' → (exchanges p').trades y' x' ≡ true → (exchanges p).trades y x ≡ true
      three p p' y y' x x' a b c h = rw (a, b, c) h

      two : (p p' x x' : ℕ) → p ≡ p' → x ≡ x' → (exchanges p').adds x' ≡ true → (exchanges p).adds x ≡ true
      two p p' x x' a b h = rw (a, b) h

pub element_of_list : (moves : List Move) (i : ℕ) → i < length moves → get_or (elements moves) i 0 ≡ element_at moves i
element_of_list moves i l = get_or-map (λ v. v.element) moves i no_move 0 l

-- elements that start, and elements whose place can be taken, are below n
pub record AreBelow (n m : ℕ) (exchanges : ℕ → Exchanges) (start : ℕ → Bool) : Type 0 where
  pub starts : (x : ℕ) → start x ≡ true → x < n
  pub trades : (i y x : ℕ) → i < m → (exchanges i).trades y x ≡ true → y < n

module _ {n m : ℕ} {exchanges : ℕ → Exchanges} {start : ℕ → Bool} where
  -- a move path is a walk
  pub path_is_walk : AreBelow n m exchanges start → (moves : List Move) → IsMovePath m exchanges start moves
      → IsWalk n (can_push m exchanges) start (can_enter m exchanges) (elements moves)
  path_is_walk b moves p =
      let long : length (elements moves) ≡ length moves = length-map moves (λ v. v.element) in
      let le = p.long in
      let at : (i : ℕ) → i < length moves → get_or (elements moves) i 0 ≡ element_at moves i = element_of_list moves in
      record {
        arcs = p.steps;
        long = long ∙ p.long;
        below = λ i l. subst (λ v. v < n) (sym (at i (omega arith))) (small i (omega arith));
        first = ap start (at 0 (omega arith)) ∙ p.first;
        last = ap (can_enter m exchanges) (at p.steps (omega arith)) ∙ some_below_from m (place_at moves p.steps) (λ q. (exchanges q).adds (element_at moves p.steps)) (p.places p.steps (omega arith)) p.last;
        steps = λ i l. both (get_or (elements moves) i 0) (element_at moves i) (get_or (elements moves) (suc i) 0) (element_at moves (suc i)) (at i (omega arith)) (at (suc i) (omega arith))
            (some_below_from m (place_at moves i) (λ q. (exchanges q).trades (element_at moves (suc i)) (element_at moves i)) (p.places i (omega arith)) (p.next i (omega arith)));
      }
    where
      both : (x x' y y' : ℕ) → x ≡ x' → y ≡ y' → can_push m exchanges x' y' ≡ true → can_push m exchanges x y ≡ true
      both x x' y y' a c h = rw (a, c) h

      small : (i : ℕ) → i < length moves → element_at moves i < n
      small zero l = b.starts (element_at moves 0) p.first
      small (suc i) l = b.trades (place_at moves i) (element_at moves (suc i)) (element_at moves i) (p.places i (omega arith)) (p.next i l)

  -- a walk gives a move path as long
  pub path_of_walk : (ws : List ℕ) (w : IsWalk n (can_push m exchanges) start (can_enter m exchanges) ws) → IsMovePath m exchanges start (walk_moves m exchanges w.arcs (λ i. get_or ws i 0))
  path_of_walk ws w = let l = w.long in walk_is_path m exchanges w.arcs (λ i. get_or ws i 0) start w.first (λ i h. w.steps i (omega arith)) w.last

  pub shortest_path_is_walk : AreBelow n m exchanges start → (moves : List Move) → IsShortestMovePath m exchanges start moves
      → IsShortestWalk n (can_push m exchanges) start (can_enter m exchanges) (elements moves)
  shortest_path_is_walk b moves p = record {
    walk = path_is_walk b moves p.path;
    fewest = λ others w. (let h = p.fewest _ (path_of_walk others w) in
        let a = length-walk_moves m exchanges w.arcs (λ i. get_or others i 0) in
        let c = w.long in
        let d : length (elements moves) ≡ length moves = length-map moves (λ v. v.element) in
        omega arith);
  }

  pub shortest_walk_is_path : AreBelow n m exchanges start → (ws : List ℕ) (w : IsShortestWalk n (can_push m exchanges) start (can_enter m exchanges) ws)
      → IsShortestMovePath m exchanges start (walk_moves m exchanges w.walk.arcs (λ i. get_or ws i 0))
  shortest_walk_is_path b ws w = record {
    path = path_of_walk ws w.walk;
    fewest = λ others p. (let h = w.fewest (elements others) (path_is_walk b others p) in
        let a = length-walk_moves m exchanges w.walk.arcs (λ i. get_or ws i 0) in
        let c = w.walk.long in
        let d : length (elements others) ≡ length others = length-map others (λ v. v.element) in
        omega arith);
  }

  -- a reached set from which nothing can be added
  pub stuck_from : AreBelow n m exchanges start → (reach : List ℕ) → IsReachedSet n (can_push m exchanges) start reach
      → ((v : ℕ) → is_member v reach ≡ true → can_enter m exchanges v ≡ false) → IsStuck n m exchanges start reach
  stuck_from b reach r none = record { reached = r; no_path = λ moves p. missed_goals_have_no_walk n (can_push m exchanges) start (can_enter m exchanges) reach (elements moves) r none (path_is_walk b moves p) }

  -- and nothing can be added where a search is stuck
  pub stuck_adds_none : (reach : List ℕ) → IsStuck n m exchanges start reach → (v : ℕ) → is_member v reach ≡ true → can_enter m exchanges v ≡ true → ⊥
  stuck_adds_none reach st v h enters =
      let w = st.reached.walks v h in
      let k = w.1.arcs in
      let long = w.1.long in
      st.no_path _ (walk_is_path m exchanges k (λ i. get_or w.0 i 0) start w.1.first (λ i l. w.1.steps i (omega arith)) (ap (can_enter m exchanges) (eqb-true _ v w.1.last) ∙ enters))

-- ---- the elements that enter a part

pub entering_gives : (moves : List Move) (q z : ℕ) → is_member z (entering moves q) ≡ true → (i : ℕ) × (i < length moves) × (place_at moves i ≡ q) × (element_at moves i ≡ z)
entering_gives [] q z h = absurd (false≢true h)
entering_gives (v ∷ moves) q z h = by (λ m. let w = entering_gives moves q z m in let l = w.1 in (suc w.0, omega arith, w.2, w.3)) (eqb v.part q) refl
  where
    by : (is_member z (entering moves q) ≡ true → (i : ℕ) × (i < suc (length moves)) × (place_at (v ∷ moves) i ≡ q) × (element_at (v ∷ moves) i ≡ z))
        → (b : Bool) → eqb v.part q ≡ b → (i : ℕ) × (i < suc (length moves)) × (place_at (v ∷ moves) i ≡ q) × (element_at (v ∷ moves) i ≡ z)
    by later true e = elim (or_cases (eqb z v.element) (is_member z (entering moves q)) (rw e at h)) [
      | inl a ↦ (0, omega arith, eqb-true v.part q e, sym (eqb-true z v.element a))
      | inr a ↦ later a
    ]
    by later false e = later (rw e at h)

pub entering_from : (moves : List Move) (q i : ℕ) → i < length moves → place_at moves i ≡ q → is_member (element_at moves i) (entering moves q) ≡ true
entering_from [] q i l h = absurd (omega arith)
entering_from (v ∷ moves) q zero l h = rw (eq-eqb v.part q h) (is_member-head v.element (entering moves q))
entering_from (v ∷ moves) q (suc i) l h =
    let ih = entering_from moves q i (omega arith) h in
    elim (cases_Bool (eqb v.part q)) [
      | inl e ↦ rw e (or_right (eqb (element_at moves i) v.element) _ ih)
      | inr e ↦ rw e ih
    ]
