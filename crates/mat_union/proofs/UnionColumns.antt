-- The columns of a union at parts of a set, by the arcs between elements that are followed to their ends: an element outside the set takes the
-- place of each member if it reaches one that can be added to a part, and else of the members that it reaches.
use Rattle.mat_union.proofs.Common.{◌≡◌, ℕ, ◌<◌, Bool, true, false, not, ◌||◌, ◌&&◌, eqb, ltb, List, length, inl, inr, refl, sym, ap, ◌∙◌, subst, arith, and_from, and_parts, both_ways, cases_Bool, cases_lt, eq-eqb, eqb-true, false_from_ne_true, le-ltb, lt-ltb, not-true, or_cases, or_left, or_right}
use Rattle.mat_union.proofs.Common.{family_union, row_at, is_member, with_one, IsReachedSet, family_union-from, IsRising-family_union, below_member, is_member-with_one, reached_by_induction, reached_set_exists, some_below_gives, or_none, same_truth, takes_place, AreColumns, Exchanges, exchanged}
use Rattle.mat_union.proofs.Common.{AreAdded, AreColumnsOf, AreReached, can_enter, can_push, exchanges_with, law_at, parts_set, addable_takes_all, exchanges_reached, none_enters, trade_gives, part_at, union_test, AreMatroids, AreParts, ExchangeArcs}
use Rattle.mat_union.proofs.UnionRows.{none_refuses}

module _ {n : ℕ} {tests : List (List ℕ → Bool)} {parts : List (List ℕ)} (laws : AreMatroids n tests) (are : AreParts tests parts) where
  abbrev S : List ℕ
  S = family_union parts

  abbrev swaps : ℕ → Exchanges
  swaps = exchanges_with tests parts

  abbrev push : ℕ → ℕ → Bool
  push = can_push (length parts) swaps

  -- an arc leads from an element below n to one in a part
  push_gives : (u v : ℕ) → push u v ≡ true → (u < n) × (is_member v S ≡ true)
  push_gives u v h =
      let w = some_below_gives (length parts) (λ q. (swaps q).trades v u) h in
      let t = trade_gives tests parts w.0 v u w.2 in
      (below_member ((law_at laws are w.0 w.1).sets _ t.2) (is_member-with_one u u _ ∙ or_left _ _ (eq-eqb u u refl)), family_union-from v parts w.0 w.1 t.0)

  push_below : (u v : ℕ) → push u v ≡ true → v < n
  push_below u v h = below_member (parts_set laws are) (push_gives u v h).1

  enter_below : (u : ℕ) → can_enter (length parts) swaps u ≡ true → u < n
  enter_below u h =
      let w = some_below_gives (length parts) (λ q. (swaps q).adds u) h in
      let t = and_parts (not (is_member u (part_at parts w.0))) _ w.2 in
      below_member ((law_at laws are w.0 w.1).sets _ t.1) (is_member-with_one u u (part_at parts w.0) ∙ or_left _ _ (eq-eqb u u refl))

  module _ (arcs : ExchangeArcs) (r : AreReached n (length parts) swaps S arcs) (added : List ℕ) (a : AreAdded arcs.entering S arcs.into.items added) where
    abbrev row : ℕ → List ℕ
    row y = row_at arcs.into.items y

    row_below : (y z : ℕ) → is_member y S ≡ true → is_member z (row y) ≡ true → z < n
    row_below y z m h = elim (cases_lt z n) [
      | inl l ↦ l
      | inr g ↦ (let past = r.least (λ w. not (ltb w n)) (λ u v t p. absurd (both_ways (ltb u n) (not-true _ t) (lt-ltb u n (push_gives u v p).0))) y z h
          (ap not (le-ltb z n g)) in
          absurd (both_ways (ltb y n) (not-true _ past) (lt-ltb y n (below_member (parts_set laws are) m))))
    ]

    added_below : (z : ℕ) → is_member z added ≡ true → z < n
    added_below z h = elim (a.only z h) [
      | inl k ↦ enter_below z (sym (r.enters z) ∙ k)
      | inr w ↦ row_below w.0 z w.1 w.3
    ]

    module _ (x : ℕ) (small : x < n) (out : is_member x S ≡ false) (reach : List ℕ) (rs : IsReachedSet n push (λ v. eqb v x) reach) where
      x_in : is_member x reach ≡ true
      x_in = rs.starts x small (eq-eqb x x refl)

      -- what has x in its row is reached
      row_reached : (y : ℕ) → is_member x (row y) ≡ true → is_member y reach ≡ true
      row_reached y h = r.least (λ v. is_member v reach) (λ u v t p. rs.closed u v t (push_below u v p) p) y x h x_in

      -- what is reached is x, or a member with x in its row
      reached_row : (v : ℕ) → is_member v reach ≡ true → (eqb v x || (is_member v S && is_member x (row v))) ≡ true
      reached_row = reached_by_induction reach (λ v. eqb v x || (is_member v S && is_member x (row v))) rs (λ v l s. or_left (eqb v x) _ s)
          (λ u v h l f p. (let g = (push_gives u v p).1 in or_right (eqb v x) _ (and_from _ _ g (elim (or_cases (eqb u x) (is_member u S && is_member x (row u)) f) [
            | inl same ↦ r.first v x (ap (λ w. push w v) (sym (eqb-true u x same)) ∙ p)
            | inr held ↦ (let w = and_parts (is_member u S) (is_member x (row u)) held in r.on u v x w.0 g (r.first v u p) w.1)
          ]))))

      reached_added : (v : ℕ) → is_member v reach ≡ true → can_enter (length parts) swaps v ≡ true → is_member x added ≡ true
      reached_added v h e = elim (or_cases (eqb v x) (is_member v S && is_member x (row v)) (reached_row v h)) [
        | inl same ↦ a.kept x (ap (λ w. is_member w arcs.entering) (sym (eqb-true v x same)) ∙ r.enters v ∙ e)
        | inr held ↦ (let w = and_parts (is_member v S) (is_member x (row v)) held in a.through v x w.0 (r.enters v ∙ e) w.1)
      ]

      added_reached : is_member x added ≡ true → (v : ℕ) × (is_member v reach ≡ true) × (can_enter (length parts) swaps v ≡ true)
      added_reached h = elim (a.only x h) [
        | inl k ↦ (x, x_in, sym (r.enters x) ∙ k)
        | inr w ↦ (w.0, row_reached w.0 w.3, sym (r.enters w.0) ∙ w.2)
      ]

      -- x is one of those that are added exactly if it can be added to the set
      addable_added : union_test n tests (with_one S x) ≡ true → is_member x added ≡ true
      addable_added ok = elim (cases_Bool (is_member x added)) [
        | inl h ↦ h
        | inr o ↦ absurd (both_ways _ (none_refuses tests laws parts are x small out reach rs (λ v h. false_from_ne_true _ (λ e. both_ways _ o (reached_added v h e)))) ok)
      ]

      full_unadded : union_test n tests (with_one S x) ≡ false → is_member x added ≡ false
      full_unadded full = false_from_ne_true _ (λ h. let w = added_reached h in none_enters tests laws parts are x small out reach rs full w.0 w.1 w.2)

      column_is : (y : ℕ) → is_member y S ≡ true → (is_member x (row y) || is_member x added) ≡ exchanged (union_test n tests) S x y
      column_is y m = elim (cases_Bool (union_test n tests (with_one S x))) [
        | inl ok ↦ or_right (is_member x (row y)) (is_member x added) (addable_added ok) ∙ sym (addable_takes_all tests laws S x y (IsRising-family_union parts) ok)
        | inr full ↦ ap (λ b. is_member x (row y) || b) (full_unadded full) ∙ or_none (is_member x (row y))
            ∙ same_truth (is_member x (row y)) (is_member y reach) (row_reached y)
            (λ h. elim (or_cases (eqb y x) (is_member y S && is_member x (row y)) (reached_row y h)) [
              | inl same ↦ absurd (both_ways _ out (ap (λ w. is_member w S) (sym (eqb-true y x same)) ∙ m))
              | inr held ↦ (and_parts (is_member y S) (is_member x (row y)) held).1
            ])
            ∙ sym (exchanges_reached tests laws parts are x small out reach rs full y m)
      ]

    columns_are : (columns : List (List ℕ)) → AreColumnsOf S arcs.into.items added S columns → AreColumns n (union_test n tests) S columns
    columns_are columns c = record {
      long = c.count ∙ r.count;
      columns_are = λ y z m. c.at y z ∙ ap (λ b. b && ((is_member z (row y) || is_member z added) && not (is_member z S))) m ∙ told y z m;
      others_are = λ y z o. c.at y z ∙ ap (λ b. b && ((is_member z (row y) || is_member z added) && not (is_member z S))) o;
    }
      where
        inside : (p q t s : Bool) → s ≡ true → (p && not s) ≡ (q && (not s && t))
        inside p q t s i = grind arith

        outside : (p q t s : Bool) → s ≡ false → q ≡ true → p ≡ t → (p && not s) ≡ (q && (not s && t))
        outside p q t s i l e = grind arith

        past : (p q t s : Bool) → q ≡ false → p ≡ false → (p && not s) ≡ (q && (not s && t))
        past p q t s g e = grind arith

        told : (y z : ℕ) → is_member y S ≡ true → ((is_member z (row y) || is_member z added) && not (is_member z S)) ≡ takes_place n (union_test n tests) S y z
        told y z m = elim (cases_Bool (is_member z S)) [
          | inl i ↦ inside (is_member z (row y) || is_member z added) (ltb z n) (exchanged (union_test n tests) S z y) (is_member z S) i
          | inr out ↦ elim (cases_lt z n) [
            | inl l ↦ (let reach = reached_set_exists n push (λ v. eqb v z) in
                outside (is_member z (row y) || is_member z added) (ltb z n) (exchanged (union_test n tests) S z y) (is_member z S) out (lt-ltb z n l)
                (column_is z l out reach.0 reach.1 y m))
            | inr g ↦ past (is_member z (row y) || is_member z added) (ltb z n) (exchanged (union_test n tests) S z y) (is_member z S) (le-ltb z n g)
                (false_from_ne_true _ (λ h. elim (or_cases (is_member z (row y)) (is_member z added) h) [
                  | inl k ↦ (let l = row_below y z m k in let no : ⊥ = omega (arith, l, g) in no)
                  | inr k ↦ (let l = added_below z k in let no : ⊥ = omega (arith, l, g) in no)
                ]))
          ]
        ]

  -- of a set that is that of the parts
  pub columns_by_arcs : (set : List ℕ) → family_union parts ≡ set → (arcs : ExchangeArcs) → AreReached n (length parts) swaps set arcs → (added : List ℕ)
      → AreAdded arcs.entering set arcs.into.items added → (columns : List (List ℕ)) → AreColumnsOf set arcs.into.items added set columns
      → AreColumns n (union_test n tests) set columns
  columns_by_arcs set e arcs r added a columns c = subst (λ s. AreColumns n (union_test n tests) s columns) e
      (columns_are arcs (subst (λ s. AreReached n (length parts) swaps s arcs) (sym e) r) added (subst (λ s. AreAdded arcs.entering s arcs.into.items added) (sym e) a)
      columns (subst (λ s. AreColumnsOf s arcs.into.items added s columns) (sym e) c))
