-- The exchanges of an element at an independent set of the union, by one search for moves from its parts.
use Rattle.mat_union.proofs.Common.{◌≡◌, ℕ, ◌<◌, Bool, true, false, not, ◌||◌, ◌&&◌, eqb, List, length, get_or, refl, sym, ap, ◌∙◌, arith, and_parts, false_from_ne_true, not-true, eqb-true, is_member, IsSet, IsSubset, intersection, with_one, family_union, IsReachedSet, filter_same_at}
use Rattle.mat_union.proofs.Common.{is_member-with_one, IsRising-family_union, filter_whole, below_member, IsSet-with_one, IsSubset-refl, IsSubset-with_one, intersection-subset, length-with_one, Exchange, row_of, exchanged, row_outside, AreMatroids, AreParts, union_test, can_enter, can_push}
use Rattle.mat_union.proofs.Common.{element_at, exchanges_with, is_free, row_found, IsMoves, IsShortestMovePath, IsStuck, stuck_from, cut_bounds, parts_pass, parts_set, union_only, addable_takes_all, below_start, exchanges_reached, moves_keep, reach_inside, stuck_cut, Move, Moves, Path, Stuck}

module _ {n : ℕ} (tests : List (List ℕ → Bool)) (laws : AreMatroids n tests) (parts : List (List ℕ)) (are : AreParts tests parts)
    (x : ℕ) (small : x < n) (out : is_member x (family_union parts) ≡ false) where
  abbrev held : List ℕ
  held = family_union parts

  abbrev larger : List ℕ
  larger = with_one (family_union parts) x

  larger_set : IsSet n larger
  larger_set = IsSet-with_one n held x (parts_set laws are) small

  -- where x can be added it takes any place
  pub added_row : union_test n tests larger ≡ true → (row : Exchange) → row.addable ≡ true → row.with ≡ held → row ≡ row_of (union_test n tests) held x
  added_row ok row a w = row_outside (union_test n tests) held x row out (a ∙ sym ok)
      (w ∙ sym (filter_whole (exchanged (union_test n tests) held x) held (λ y h. addable_takes_all tests laws held x y (IsRising-family_union parts) ok)))

  -- else it takes the places of those that were reached
  pub refused_row : union_test n tests larger ≡ false → (reach : List ℕ) → ((y : ℕ) → is_member y held ≡ true → is_member y reach ≡ exchanged (union_test n tests) held x y)
      → (row : Exchange) → row.addable ≡ false → row.with ≡ intersection held reach → row ≡ row_of (union_test n tests) held x
  unfolding intersection
  refused_row full reach told row a w = row_outside (union_test n tests) held x row out (a ∙ sym full) (w ∙ filter_same_at (λ y. is_member y reach) (exchanged (union_test n tests) held x) held told)

  -- the only free element of the set with x is x
  free_is : (v : ℕ) → is_free parts larger v ≡ eqb v x
  free_is v = ap (λ b. b && not (is_member v held)) (is_member-with_one v x held) ∙ only (eqb v x) (is_member v held) (λ e. ap (λ z. is_member z held) (eqb-true v x e) ∙ out)
    where
      only : (a b : Bool) → (a ≡ true → b ≡ false) → ((a || b) && not b) ≡ a
      only true b h = let f = h refl in grind arith
      only false true h = refl
      only false false h = refl

  found_adds : (moves : List Move) → IsShortestMovePath (length parts) (exchanges_with tests parts) (is_free parts larger) moves → union_test n tests larger ≡ true
  found_adds moves p =
      let new = moves_keep laws are (is_free parts larger) (λ v h. below_member larger_set (and_parts (is_member v larger) _ h).0)
      (λ v h. not-true _ (and_parts (is_member v larger) (not (is_member v held)) h).1) moves p in
      let first : element_at moves 0 ≡ x = eqb-true (element_at moves 0) x (sym (free_is (element_at moves 0)) ∙ p.path.first) in
      ap (union_test n tests) (sym (new.1.together ∙ ap (with_one held) first)) ∙ parts_pass tests laws new.0 new.1.are

  module _ (reach : List ℕ) (stuck : IsStuck n (length parts) (exchanges_with tests parts) (is_free parts larger) reach) where
    stuck_refuses : union_test n tests larger ≡ false
    stuck_refuses = false_from_ne_true _ (λ ok.
        let u = union_only tests laws larger ok in
        let inside : IsSubset held larger = IsSubset-with_one held x in
        let cut = stuck_cut laws are larger larger_set inside reach stuck in
        let bound = cut_bounds tests u.parts larger reach laws u.are larger_set.rising stuck.reached.set.rising (reach_inside laws are larger inside reach stuck.reached) in
        let all = ap length (ap (λ X. intersection X larger) u.together ∙ intersection-subset larger larger larger_set.rising (IsSubset-refl larger)) in
        let more = length-with_one held x (IsRising-family_union parts) out in
        let no : ⊥ = omega arith in no)

    from_x : IsReachedSet n (can_push (length parts) (exchanges_with tests parts)) (λ v. eqb v x) reach
    from_x =
        let r = stuck.reached in
        record {
          set = r.set;
          starts = λ v l h. r.starts v l (free_is v ∙ h);
          closed = r.closed;
          walks = λ v h. (let w = r.walks v h in (w.0, record { arcs = w.1.arcs; long = w.1.long; below = w.1.below; first = sym (free_is (get_or w.0 0 0)) ∙ w.1.first; last = w.1.last; steps = w.1.steps }));
        }

  -- where none of those that x reaches can be added to a part, x cannot be added
  pub none_refuses : (reach : List ℕ) → IsReachedSet n (can_push (length parts) (exchanges_with tests parts)) (λ v. eqb v x) reach
      → ((v : ℕ) → is_member v reach ≡ true → can_enter (length parts) (exchanges_with tests parts) v ≡ false) → union_test n tests larger ≡ false
  none_refuses reach r none =
      let starts = below_start laws are (is_free parts larger) (λ v h. below_member larger_set (and_parts (is_member v larger) _ h).0) in
      stuck_refuses reach (stuck_from starts reach (record {
        set = r.set;
        starts = λ v l h. r.starts v l (sym (free_is v) ∙ h);
        closed = r.closed;
        walks = λ v h. (let w = r.walks v h in (w.0, record { arcs = w.1.arcs; long = w.1.long; below = w.1.below; first = free_is (get_or w.0 0 0) ∙ w.1.first; last = w.1.last; steps = w.1.steps }));
      }) none)

  pub search_row : (moves : Moves) → IsMoves n (length parts) (exchanges_with tests parts) (is_free parts larger) moves → row_found held moves ≡ row_of (union_test n tests) held x
  search_row (Path moves) h = added_row (found_adds moves.items h) (record { addable = true; with = held }) refl refl
  search_row (Stuck reach) h = refused_row (stuck_refuses reach h) reach (λ y m. sym (exchanges_reached tests laws parts are x small out reach (from_x reach h) (stuck_refuses reach h) y m))
      (record { addable = false; with = intersection held reach }) refl refl
