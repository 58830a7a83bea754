-- The exchanges at an independent set I of a dual, by those of the matroid at a base B that is disjoint from I. A set that meets B in x
-- alone is independent in the dual exactly where some z outside B and outside the set can take the place of x in B. So an x outside B
-- can always be added; one in B can be added where some such z lies outside I, and else it can be exchanged exactly for these z.
use Rattle.mat_minors.proofs.Common.{◌≡◌, ℕ, ◌<◌, Bool, true, false, not, ◌&&◌, cond, eqb, ltb, List, [], length, get_or, Result, Ok, Err, IfOk, inl, inr, subst, sym, ap, ◌∙◌, arith, cases_Bool, cases_eq, and_parts, and_from, both_ways, false_from_ne_true, ne_eqb, eqb-true, ltb-true, lt-ltb}
use Rattle.mat_minors.proofs.Common.{not-true, or_cases, is_member, IsRising, IsSet, IsSubset, with_one, without_one, minus, intersection, union, all_below, set_members, same_members, is_member-filter, is_member-with_one, IsRising-without_one, length-with_one, length-without_one, subset_or}
use Rattle.mat_minors.proofs.Common.{IsSet-with_one, IsSet-without_one, below_member, IsSubset-all_below, apart_at, apart_from, inside_test, inside_test_from, minus_from, minus_parts, IsMatroid, IsBase, IsMaximal, row_of, Exchange, rising, below, less_one, maximal_from_none, IsBase-size}
use Rattle.mat_minors.proofs.Common.{base_largest, IsMaximal-largest, exchanged, row_outside, is_dual, IsDualIndependent, dual-gives, dual-from, kept_row, IsDualKept}
use Rattle.std.specs.List.{filter}
use Rattle.mat_sets.proofs.Filters.{filter_whole, IsRising-filter}
use Rattle.mat_laws.specs.Columns.{takes_place, AreColumns}

-- what can take the place of x in B and lies outside J
pub record Replaces (n : ℕ) (p : List ℕ → Bool) (B J : List ℕ) (x : ℕ) : Type 0 where
  pub by : ℕ
  pub below : by < n
  pub outside : is_member by B ≡ false
  pub apart : is_member by J ≡ false
  pub works : p (with_one (without_one B x) by) ≡ true

module _ {n : ℕ} {p : List ℕ → Bool} (laws : IsMatroid n p) (B : List ℕ) (base : IsBase n p B) where
  rises : IsRising B
  rises = rising laws B base.passes

  -- a set that meets B in x alone is independent in the dual where something outside the set can take the place of x
  pub dual_by_replacing : (J : List ℕ) (x : ℕ) → IsSet n J → is_member x B ≡ true
      → ((y : ℕ) → is_member y J ≡ true → is_member y B ≡ true → y ≡ x) → Replaces n p B J x → is_dual n p J ≡ true
  dual_by_replacing J x set inside alone r = dual-from laws J (record {
    set = set;
    base = new;
    is_base = IsBase-size laws B new base r.works
        (omega (arith, length-without_one B x rises inside, length-with_one (without_one B x) r.by (IsRising-without_one B x rises) fresh));
    disjoint = apart_from new J apart;
  })
    where
      new : List ℕ
      new = with_one (without_one B x) r.by

      fresh : is_member r.by (without_one B x) ≡ false
      fresh = let o = r.outside in grind (arith, set_members)

      apart : (y : ℕ) → is_member y new ≡ true → is_member y J ≡ false
      apart y m = false_from_ne_true _ (λ j. elim (cases_eq y r.by) [
        | inl same ↦ both_ways _ r.apart (ap (λ z. is_member z J) (sym same) ∙ j)
        | inr differ ↦
            let e = ne_eqb y r.by differ in
            let b : is_member y B ≡ true = grind (arith, set_members) in
            let not_x : eqb y x ≡ false = grind (arith, set_members) in
            both_ways (eqb y x) not_x (let s = alone y j b in grind arith)
      ])

  -- and nowhere else
  pub replacing_from_dual : (J : List ℕ) (x : ℕ) → is_dual n p J ≡ true → is_member x B ≡ true → is_member x J ≡ true
      → Replaces n p B J x
  replacing_from_dual J x d inside here =
      let other = dual-gives n p J d in
      let few = length-without_one B x rises inside in
      let many = base_largest laws other.base B other.is_base base.passes in
      let a = laws.augmentation (without_one B x) other.base (less_one laws B x base.passes) other.is_base.passes (omega (arith, few, many)) in
      let apart = apart_at other.base J other.disjoint a.element a.inside in
      record {
        by = a.element;
        below = below_member (laws.sets other.base other.is_base.passes) a.inside;
        outside = left_out a.element a.outside apart;
        apart = apart;
        works = a.augmented;
      }
    where
      left_out : (z : ℕ) → is_member z (without_one B x) ≡ false → is_member z J ≡ false → is_member z B ≡ false
      left_out z o j = elim (cases_eq z x) [
        | inl same ↦ absurd (both_ways _ (ap (λ w. is_member w J) (sym same) ∙ j) here)
        | inr differ ↦ (let e = ne_eqb z x differ in grind (arith, set_members))
      ]

  module _ (I : List ℕ) (x : ℕ) (passes : is_dual n p I ≡ true) (disjoint : intersection B I ≡ []) (small : x < n)
      (out : is_member x I ≡ false) where
    set : IsSet n I
    set = (dual-gives n p I passes).set

    not_in_base : (y : ℕ) → is_member y I ≡ true → is_member y B ≡ false
    not_in_base y m = false_from_ne_true _ (λ b. both_ways _ (apart_at B I disjoint y b) m)

    -- an element outside the base can be added, and exchanged for every member
    pub dual_row_outside : (row : Exchange) → is_member x B ≡ false → row.addable ≡ true → row.with ≡ I
        → row ≡ row_of (is_dual n p) I x
    dual_row_outside row o adds exchanges =
        row_outside (is_dual n p) I x row out (adds ∙ sym (free (with_one I x) (IsSet-with_one n I x set small) (λ y m. m)))
        (exchanges ∙ sym (filter_whole (exchanged (is_dual n p) I x) I (λ y m. free (with_one (without_one I y) x)
        (IsSet-with_one n (without_one I y) x (IsSet-without_one n I y set) small) (λ k h. smaller y k h))))
      where
        smaller : (y k : ℕ) → is_member k (with_one (without_one I y) x) ≡ true → is_member k (with_one I x) ≡ true
        smaller y k h = grind (arith, set_members)

        outside_both : (k : ℕ) → is_member k (with_one I x) ≡ true → is_member k B ≡ false
        outside_both k h = elim (or_cases (eqb k x) (is_member k I) (sym (is_member-with_one k x I) ∙ h)) [
          | inl same ↦ ap (λ z. is_member z B) (eqb-true k x same) ∙ o
          | inr m ↦ not_in_base k m
        ]

        free : (J : List ℕ) → IsSet n J → ((k : ℕ) → is_member k J ≡ true → is_member k (with_one I x) ≡ true)
            → is_dual n p J ≡ true
        free J is within = dual-from laws J (record {
          set = is;
          base = B;
          is_base = base;
          disjoint = apart_from B J (λ k b. false_from_ne_true _ (λ j. both_ways _ (outside_both k (within k j)) b));
        })

    module _ (here : is_member x B ≡ true) where
      -- a set that x enters meets the base in x alone
      alone : (J : List ℕ) → IsSubset J I → (y : ℕ) → is_member y (with_one J x) ≡ true → is_member y B ≡ true → y ≡ x
      alone J s y m b = elim (or_cases (eqb y x) (is_member y J) (sym (is_member-with_one y x J) ∙ m)) [
        | inl same ↦ eqb-true y x same
        | inr j ↦ absurd (both_ways _ (not_in_base y (s.inside y j)) b)
      ]

      less : (y : ℕ) → IsSubset (without_one I y) I
      less y = record { inside = λ k h. grind (arith, set_members) }

      -- where something outside I can take the place of x, x can be added, and exchanged for every member
      pub dual_row_added : (row : Exchange) → (z : ℕ) → is_member z I ≡ false → takes_place n p B x z ≡ true → row.addable ≡ true
          → row.with ≡ I → row ≡ row_of (is_dual n p) I x
      dual_row_added row z fresh works adds exchanges =
          row_outside (is_dual n p) I x row out
          (adds ∙ sym (dual_by_replacing (with_one I x) x (IsSet-with_one n I x set small) here (alone I (record { inside = λ k h. h }))
          (by_z I fresh)))
          (exchanges ∙ sym (filter_whole (exchanged (is_dual n p) I x) I (λ y m.
          dual_by_replacing (with_one (without_one I y) x) x (IsSet-with_one n (without_one I y) x (IsSet-without_one n I y set) small) here
          (alone (without_one I y) (less y)) (by_z (without_one I y) (let f = fresh in grind (arith, set_members))))))
        where
          parts : (z < n) × (is_member z B ≡ false) × (p (with_one (without_one B x) z) ≡ true)
          parts =
              let one = and_parts (ltb z n) _ works in
              let two = and_parts (not (is_member z B)) _ one.1 in (ltb-true z n one.0, not-true _ two.0, two.1)

          by_z : (J : List ℕ) → is_member z J ≡ false → Replaces n p B (with_one J x) x
          by_z J o = record {
            by = z;
            below = parts.0;
            outside = parts.1;
            apart = elim (cases_eq z x) [
              | inl same ↦ absurd (both_ways _ parts.1 (ap (λ w. is_member w B) same ∙ here))
              | inr differ ↦ (let e = ne_eqb z x differ in grind (arith, set_members))
            ];
            works = parts.2;
          }

      -- where all that can take the place of x lies in I, x can be exchanged for these alone
      pub dual_row_exchanged : (row : Exchange) (column : List ℕ) → IsRising column
          → ((z : ℕ) → is_member z column ≡ takes_place n p B x z) → IsSubset column I → row.addable ≡ false → row.with ≡ column
          → row ≡ row_of (is_dual n p) I x
      dual_row_exchanged row column rises_too column_is inside adds exchanges =
          row_outside (is_dual n p) I x row out
          (adds ∙ sym (false_from_ne_true _ (λ d.
          let r = replacing_from_dual (with_one I x) x d here (let h : is_member x (with_one I x) ≡ true = grind (arith, set_members) in h) in
          let a = r.apart in
          both_ways (is_member r.by I) (let h : is_member r.by I ≡ false = grind (arith, set_members) in h) (inside.inside r.by (listed I r)))))
          (exchanges ∙ same_members column (filter (exchanged (is_dual n p) I x) I) rises_too (IsRising-filter _ I set.rising)
          (λ y. both y ∙ sym (is_member-filter (exchanged (is_dual n p) I x) y I)))
        where
          listed : (J : List ℕ) (r : Replaces n p B (with_one J x) x) → is_member r.by column ≡ true
          listed J r = column_is r.by ∙ and_from (ltb r.by n) _ (lt-ltb r.by n r.below)
              (and_from (not (is_member r.by B)) _ (ap not r.outside) r.works)

          apart_from_y : (y : ℕ) → is_member y I ≡ true → is_member y (with_one (without_one I y) x) ≡ false
          apart_from_y y m = elim (cases_eq y x) [
            | inl same ↦ absurd (both_ways _ out (ap (λ w. is_member w I) (sym same) ∙ m))
            | inr differ ↦ (let e = ne_eqb y x differ in grind (arith, set_members))
          ]

          forward : (y : ℕ) → is_member y column ≡ true → (is_member y I && exchanged (is_dual n p) I x y) ≡ true
          forward y m =
              let one = and_parts (ltb y n) _ (sym (column_is y) ∙ m) in
              let two = and_parts (not (is_member y B)) _ one.1 in
              let of_I = inside.inside y m in
              and_from (is_member y I) _ of_I
              (dual_by_replacing (with_one (without_one I y) x) x (IsSet-with_one n (without_one I y) x (IsSet-without_one n I y set) small) here
              (alone (without_one I y) (less y)) (record {
                by = y;
                below = ltb-true y n one.0;
                outside = not-true _ two.0;
                apart = apart_from_y y of_I;
                works = two.1;
              }))

          -- what takes the place of x is a member of I that is none of I - y + x, and so it is y
          backward : (y : ℕ) → (is_member y I && exchanged (is_dual n p) I x y) ≡ true → is_member y column ≡ true
          backward y h =
              let parts = and_parts (is_member y I) _ h in
              let r = replacing_from_dual (with_one (without_one I y) x) x parts.1 here
              (let k : is_member x (with_one (without_one I y) x) ≡ true = grind (arith, set_members) in k) in
              let listed_by = listed (without_one I y) r in
              let of_I = inside.inside r.by listed_by in
              elim (cases_eq r.by y) [
                | inl same ↦ ap (λ w. is_member w column) (sym same) ∙ listed_by
                | inr differ ↦ (let e = ne_eqb r.by y differ in let a = r.apart in
                    absurd (both_ways (is_member r.by I) (let k : is_member r.by I ≡ false = grind (arith, set_members) in k) of_I))
              ]

          both : (y : ℕ) → is_member y column ≡ (is_member y I && exchanged (is_dual n p) I x y)
          both y = elim (cases_Bool (is_member y column)) [
            | inl m ↦ m ∙ sym (forward y m)
            | inr o ↦ o ∙ sym (false_from_ne_true _ (λ h. both_ways _ o (backward y h)))
          ]

-- the two rows that the kept one may be: x is exchanged for the members of its column alone, or can be added
abbrev exchanged_for : List ℕ → Exchange
exchanged_for column = record { addable = false; with = column }

abbrev added : List ℕ → Exchange
added I = record { addable = true; with = I }

-- what is kept tells the one where all that can take the place of x lies in I
pub kept_row-exchanged : (I base : List ℕ) (columns : List (List ℕ)) (x : ℕ) (column copy : List ℕ) → column ≡ get_or columns x [] → copy ≡ column
    → is_member x base ≡ true → IsSubset column I → exchanged_for copy ≡ kept_row I base columns x
kept_row-exchanged I base columns x column copy at same here inside =
    let test : eqb (length (minus (get_or columns x []) I)) 0 ≡ true =
    ap (λ s. eqb (length (minus s I)) 0) (sym at) ∙ inside_test_from column I inside in
    ap exchanged_for (same ∙ at)
    ∙ sym (ap (λ b. cond (b && eqb (length (minus (get_or columns x []) I)) 0) (exchanged_for (get_or columns x [])) (added I)) here
    ∙ ap (λ b. cond b (exchanged_for (get_or columns x [])) (added I)) test)

-- and the other elsewhere: x lies outside the base, or something outside I can take its place
pub kept_row-outside : (I base : List ℕ) (columns : List (List ℕ)) (x : ℕ) (copy : List ℕ) → copy ≡ I → is_member x base ≡ false
    → added copy ≡ kept_row I base columns x
kept_row-outside I base columns x copy same outside =
    ap added same
    ∙ sym (ap (λ b. cond (b && eqb (length (minus (get_or columns x []) I)) 0) (exchanged_for (get_or columns x [])) (added I)) outside)

pub kept_row-added : (I base : List ℕ) (columns : List (List ℕ)) (x : ℕ) (column copy : List ℕ) → column ≡ get_or columns x [] → copy ≡ I
    → is_member x base ≡ true → (IsSubset column I → ⊥) → added copy ≡ kept_row I base columns x
kept_row-added I base columns x column copy at same here leaves =
    let test : eqb (length (minus (get_or columns x []) I)) 0 ≡ false =
    ap (λ s. eqb (length (minus s I)) 0) (sym at) ∙ false_from_ne_true _ (λ h. leaves (inside_test column I h)) in
    ap added same
    ∙ sym (ap (λ b. cond (b && eqb (length (minus (get_or columns x []) I)) 0) (exchanged_for (get_or columns x [])) (added I)) here
    ∙ ap (λ b. cond b (exchanged_for (get_or columns x [])) (added I)) test)

-- the row by what is kept is the row of the dual
pub kept_row_is : {n : ℕ} {p : List ℕ → Bool} → IsMatroid n p → (I marks base : List ℕ) (columns : List (List ℕ)) (x : ℕ) (row : Exchange)
    → is_dual n p I ≡ true → IsDualKept n p I marks base columns → x < n → is_member x I ≡ false → IsRising row.with
    → row ≡ kept_row marks base columns x → row ≡ row_of (is_dual n p) I x
kept_row_is {n} {p} laws I marks base columns x row passes kept small out r told = elim (cases_Bool (is_member x base)) [
  | inr outside ↦
      let e : row ≡ added I =
      at_set ∙ ap (λ b. cond (b && eqb (length (minus (get_or columns x []) I)) 0) (exchanged_for (get_or columns x [])) (added I)) outside in
      dual_row_outside laws base kept.is_base I x passes kept.disjoint small out row outside (ap (λ s. s.addable) e) (ap (λ s. s.with) e)
  | inl here ↦
      let e = at_set ∙ ap (λ b. cond (b && eqb (length (minus (get_or columns x []) I)) 0) (exchanged_for (get_or columns x [])) (added I)) here in
      elim (subset_or (get_or columns x []) I) [
        | inl s ↦
            let f = e ∙ ap (λ b. cond b (exchanged_for (get_or columns x [])) (added I)) (inside_test_from (get_or columns x []) I s) in
            dual_row_exchanged laws base kept.is_base I x passes kept.disjoint small out here row (get_or columns x [])
            (subst IsRising (ap (λ t. t.with) f) r)
            (λ z. kept.columns_at.columns_are x z here) s (ap (λ t. t.addable) f) (ap (λ t. t.with) f)
        | inr found ↦
            let f = e ∙ ap (λ b. cond b (exchanged_for (get_or columns x [])) (added I))
            (false_from_ne_true _ (λ h. both_ways _ found.2 ((inside_test (get_or columns x []) I h).inside found.0 found.1))) in
            dual_row_added laws base kept.is_base I x passes kept.disjoint small out here row found.0 found.2
            (sym (kept.columns_at.columns_are x found.0 here) ∙ found.1) (ap (λ t. t.addable) f) (ap (λ t. t.with) f)
      ]
]
  where
    at_set : row ≡ kept_row I base columns x
    at_set = told ∙ ap (λ s. kept_row s base columns x) kept.marked

-- the same of what a call gives, if it gives something
pub kept_row_told : {n : ℕ} {p : List ℕ → Bool} → IsMatroid n p → (I marks base : List ℕ) (columns : List (List ℕ)) (x : ℕ) {E : Type 0}
    → (result : Result Exchange E) → is_dual n p I ≡ true → IsDualKept n p I marks base columns → x < n → is_member x I ≡ false
    → IfOk result (λ row. IsRising row.with) → IfOk result (λ row. row ≡ kept_row marks base columns x)
    → IfOk result (λ row. row ≡ row_of (is_dual n p) I x)
kept_row_told laws I marks base columns x (Ok row) passes kept small out r told =
    kept_row_is laws I marks base columns x row passes kept small out r told
kept_row_told laws I marks base columns x (Err e) passes kept small out r told = tt

-- what is maximal outside X holds no member of X
pub outside_set : (n : ℕ) (p : List ℕ → Bool) (X B : List ℕ) (x : ℕ) → IsMaximal p (minus (all_below n) X) B → is_member x X ≡ true
    → is_member x B ≡ false
outside_set n p X B x max m = false_from_ne_true _ (λ k. both_ways _ (minus_parts (all_below n) X x (max.inside.inside x k)).1 m)

-- what is maximal outside an independent set of the dual is a base
pub kept_is : {n : ℕ} {p : List ℕ → Bool} → IsMatroid n p → (I none outside B marks base : List ℕ) (columns : List (List ℕ))
    → is_dual n p I ≡ true → none ≡ [] → outside ≡ minus (all_below n) I → IsMaximal p (union none outside) B → marks ≡ I → base ≡ B
    → AreColumns n p B columns → IsDualKept n p I marks base columns
kept_is {n} {p} laws I none outside B marks base columns passes empty o max same at c = subst (λ b. IsDualKept n p I marks b columns) (sym at) (record {
  marked = same;
  is_base = IsBase-size laws d.base B d.is_base m.passes (IsMaximal-largest laws (minus (all_below n) I) B m d.base d.is_base.passes (record {
    inside = λ y h. minus_from (all_below n) I y ((IsSubset-all_below n d.base (below laws d.base d.is_base.passes)).inside y h)
        (apart_at d.base I d.disjoint y h);
  }));
  disjoint = apart_from B I (λ y h. false_from_ne_true _ (λ i. both_ways _ (outside_set n p I B y m i) h));
  columns_at = c;
})
  where
    d : IsDualIndependent n p I
    d = dual-gives n p I passes

    m : IsMaximal p (minus (all_below n) I) B
    m = subst (λ Z. IsMaximal p Z B) o (maximal_from_none p none outside B empty max)
