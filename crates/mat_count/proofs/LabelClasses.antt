-- Classes by a label are a partition, and what the matroid with a cap for each label says of the members of a set.
use Rattle.mat_count.proofs.Common.{◌≡◌, ◌≢◌, ℕ, suc, zero, ◌+◌, ◌<◌, ◌≤◌, Bool, true, false, ◌&&◌, ◌||◌, eqb, ltb, List, [], ◌∷◌, ◌++◌, length, get_or, map, ◌⊎◌, inl, inr, refl, sym, ap, ◌∙◌, subst, arith, cases_Bool, cases_order, eqb-true, eq-eqb, ne_eqb, both_ways, and_parts, and_from, lt-ltb}
use Rattle.mat_count.proofs.Common.{le-ltb, false≢true, All-from_get_or, AreDisjoint, indicator, multiplicity, is_member, AllBelow, IsRising, IsSet, all_below, counted_from, intersection, with_one, is_set, below_member, length-map_all_below, get_or-map_all_below, map-all_below_more}
use Rattle.mat_count.proofs.Common.{map-all_below_none, IsRising-intersection, IsRising-with_one, is_member-head, is_member-intersection, is_member-with_one, same_members, IsSet-from_test, test_from-IsSet, is_within_caps, IsWithinCaps-from_test, test_from-IsWithinCaps, labelled, classes_by, caps_by}
use Rattle.mat_count.proofs.Common.{is_labelled, AreApart, IsPartition, or_none}
use Rattle.mat_sets.specs.Search.{those_below}
use Rattle.mat_sets.proofs.Search.{IsSet-those_below, is_member-those_below}
use Rattle.mat_sets.proofs.OneToOne.{length-same, same-length}

-- ---- the lists of classes and of caps

pub length-classes_by : (n k : ℕ) (label : ℕ → ℕ) → length (classes_by n k label) ≡ k
unfolding classes_by
length-classes_by n k label = length-map_all_below (labelled n label) k

pub length-caps_by : (k : ℕ) (cap : ℕ → ℕ) → length (caps_by k cap) ≡ k
unfolding caps_by
length-caps_by k cap = length-map_all_below cap k

pub classes_by-at : (n k : ℕ) (label : ℕ → ℕ) (c : ℕ) → c < k → get_or (classes_by n k label) c [] ≡ labelled n label c
unfolding classes_by
classes_by-at n k label c l = get_or-map_all_below (labelled n label) k c [] l

pub caps_by-at : (k : ℕ) (cap : ℕ → ℕ) (c : ℕ) → c < k → get_or (caps_by k cap) c 0 ≡ cap c
unfolding caps_by
caps_by-at k cap c l = get_or-map_all_below cap k c 0 l

-- one class more
pub classes_by-more : (n k : ℕ) (label : ℕ → ℕ) → classes_by n (k + 1) label ≡ classes_by n k label ++ labelled n label k ∷ []
unfolding classes_by
classes_by-more n k label = map-all_below_more (labelled n label) k

pub classes_by-none : (n : ℕ) (label : ℕ → ℕ) → classes_by n 0 label ≡ []
unfolding classes_by
classes_by-none n label = map-all_below_none (labelled n label)

-- ---- a partition

is_labelled_at : (n : ℕ) (label : ℕ → ℕ) (c x : ℕ) → is_member x (labelled n label c) ≡ (ltb x n && eqb (label x) c)
is_labelled_at n label c x = is_member-those_below x n (λ e. eqb (label e) c)

-- x stands in no class from lo on, or in one, and then its label is at least lo
multiplicity-labels : (n : ℕ) (label : ℕ → ℕ) (x lo k : ℕ)
    → (multiplicity x (map (labelled n label) (counted_from lo k)) ≡ 0)
    ⊎ ((multiplicity x (map (labelled n label) (counted_from lo k)) ≡ 1) × (lo ≤ label x))
unfolding multiplicity
multiplicity-labels n label x lo zero = inl refl
multiplicity-labels n label x lo (suc k) = elim (cases_Bool (is_member x (labelled n label lo))) [
  | inl here ↦
      let own : label x ≡ lo = eqb-true _ _ (and_parts (ltb x n) (eqb (label x) lo) (sym (is_labelled_at n label lo x) ∙ here)).1 in
      let one : indicator (is_member x (labelled n label lo)) ≡ 1 = rw here in
      elim (multiplicity-labels n label x (suc lo) k) [
        | inl none ↦ inr (omega (arith, one, none), omega arith)
        | inr some ↦ absurd (omega (arith, some.1))
      ]
  | inr other ↦
      let zero_here : indicator (is_member x (labelled n label lo)) ≡ 0 = rw other in
      elim (multiplicity-labels n label x (suc lo) k) [
        | inl none ↦ inl (omega (arith, zero_here, none))
        | inr some ↦ inr (omega (arith, zero_here, some.0), omega (arith, some.1))
      ]
]

AreDisjoint-classes_by : (n k : ℕ) (label : ℕ → ℕ) → AreDisjoint (classes_by n k label)
unfolding classes_by all_below
AreDisjoint-classes_by n k label = record {
  once = λ x. elim (multiplicity-labels n label x 0 k) [ inl none ↦ omega (arith, none) | inr some ↦ omega (arith, some.0) ];
}

-- classes by a label, with as many caps, are a partition
pub IsPartition-classes_by : (n k : ℕ) (label : ℕ → ℕ) (caps : List ℕ) → length caps ≡ k → IsPartition n (classes_by n k label) caps
IsPartition-classes_by n k label caps same = record {
  capped = same ∙ sym (length-classes_by n k label);
  inside = All-from_get_or (AllBelow n) (classes_by n k label) []
      (λ c l. subst (AllBelow n) (sym (classes_by-at n k label c (rw (length-classes_by n k label) at l))) (IsSet-those_below n (λ e. eqb (label e) c)).below);
  disjoint = AreDisjoint-classes_by n k label;
}

-- ---- what the matroid says

-- the members of X that have a label
of_label : (n : ℕ) (label : ℕ → ℕ) (X : List ℕ) (c x : ℕ) → IsSet n X → is_member x X ≡ true → label x ≡ c
    → is_member x (intersection X (labelled n label c)) ≡ true
of_label n label X c x s m e =
    is_member-intersection x X (labelled n label c)
    ∙ and_from (is_member x X) (is_member x (labelled n label c)) m
    (is_labelled_at n label c x ∙ and_from (ltb x n) (eqb (label x) c) (lt-ltb x n (below_member s m)) (eq-eqb _ _ e))

label_of : (n : ℕ) (label : ℕ → ℕ) (X : List ℕ) (c x : ℕ) → is_member x (intersection X (labelled n label c)) ≡ true
    → (is_member x X ≡ true) × (label x ≡ c)
label_of n label X c x m =
    let both = and_parts (is_member x X) (is_member x (labelled n label c)) (sym (is_member-intersection x X (labelled n label c)) ∙ m) in
    (both.0, eqb-true _ _ (and_parts (ltb x n) (eqb (label x) c) (sym (is_labelled_at n label c x) ∙ both.1)).1)

module _ (n k : ℕ) (label cap : ℕ → ℕ) (X : List ℕ) where
  pub labelled_set : is_labelled n k label cap X ≡ true → IsSet n X
  labelled_set h = IsSet-from_test n X (and_parts (is_set n X) (is_within_caps (classes_by n k label) (caps_by k cap) X) h).0

  labelled_count : is_labelled n k label cap X ≡ true → (c : ℕ) → c < k → length (intersection X (labelled n label c)) ≤ cap c
  labelled_count h c l =
      let within = IsWithinCaps-from_test (classes_by n k label) (caps_by k cap) X (length-caps_by k cap ∙ sym (length-classes_by n k label))
      (and_parts (is_set n X) (is_within_caps (classes_by n k label) (caps_by k cap) X) h).1 in
      let at = within.at c (rw (length-classes_by n k label) l) in
      rw (classes_by-at n k label c l, caps_by-at k cap c l) at at

  -- two members with one label whose cap is at most 1 are the same
  pub labelled_apart : is_labelled n k label cap X ≡ true → (e f : ℕ) → is_member e X ≡ true → is_member f X ≡ true
      → label e < k → cap (label e) ≤ 1 → label e ≡ label f → e ≡ f
  labelled_apart h e f m o l few same =
      let s = labelled_set h in
      same-length (intersection X (labelled n label (label e))) e f (omega (arith, labelled_count h (label e) l))
      (of_label n label X (label e) e s m refl) (of_label n label X (label e) f s o (sym same))

  -- no member has a label whose cap is 0
  pub labelled_none : is_labelled n k label cap X ≡ true → (e : ℕ) → is_member e X ≡ true → label e < k → cap (label e) ≢ 0
  labelled_none h e m l none =
      let there = of_label n label X (label e) e (labelled_set h) m refl in
      let few = labelled_count h (label e) l in
      both_ways _ (empty (intersection X (labelled n label (label e))) (omega (arith, few))) there
    where
      empty : (Y : List ℕ) → length Y ≤ 0 → is_member e Y ≡ false
      empty [] l = refl
      empty (y ∷ Y) l = absurd (omega arith)

  -- members with different labels, none of which has the cap 0
  pub labelled_from : IsSet n X → AreApart label X → ((e : ℕ) → is_member e X ≡ true → label e < k → 1 ≤ cap (label e))
      → is_labelled n k label cap X ≡ true
  labelled_from s apart some =
      and_from (is_set n X) (is_within_caps (classes_by n k label) (caps_by k cap) X) (test_from-IsSet n X s)
      (test_from-IsWithinCaps (classes_by n k label) (caps_by k cap) X (record {
        at = λ c l.
            let l' : c < k = rw (length-classes_by n k label) at l in
            rw (classes_by-at n k label c l', caps_by-at k cap c l') (within c l');
      }))
    where
      within : (c : ℕ) → c < k → length (intersection X (labelled n label c)) ≤ cap c
      within c l = few (intersection X (labelled n label c)) refl
        where
          few : (Y : List ℕ) → Y ≡ intersection X (labelled n label c) → length Y ≤ cap c
          few [] e = omega arith
          few (y ∷ Y) e =
              let m : is_member y (intersection X (labelled n label c)) ≡ true = subst (λ Z. is_member y Z ≡ true) e (is_member-head y Y) in
              let own = label_of n label X c y m in
              let at_most : length (intersection X (labelled n label c)) ≤ 1 = length-same _ (IsRising-intersection X (labelled n label c) s.rising)
              (λ a b p q. let u = label_of n label X c a p in let v = label_of n label X c b q in apart.apart a b u.0 v.0 (u.1 ∙ sym v.1)) in
              let one : 1 ≤ cap (label y) = some y own.0 (omega (arith, own.1)) in
              omega (arith, ap length e, at_most, ap cap own.1)

-- ---- one element more

labelled_step : (n : ℕ) (label : ℕ → ℕ) (c x : ℕ) → is_member x (labelled (n + 1) label c)
    ≡ ((ltb x n && eqb (label x) c) || (eqb x n && eqb (label n) c))
labelled_step n label c x = is_labelled_at (n + 1) label c x ∙ elim (cases_order x n) [
  | inl same ↦ rw (lt-ltb x (n + 1) (omega arith), le-ltb x n (omega arith), eq-eqb x n same) (ap (λ z. eqb (label z) c) same)
  | inr (inl less) ↦ rw (lt-ltb x (n + 1) (omega arith), lt-ltb x n less, ne_eqb x n (omega arith)) (sym (or_none (eqb (label x) c)))
  | inr (inr more) ↦ rw (le-ltb x (n + 1) (omega arith), le-ltb x n (omega arith), ne_eqb x n (omega arith)) refl
]

IsRising-labelled : (n : ℕ) (label : ℕ → ℕ) (c : ℕ) → IsRising (labelled n label c)
IsRising-labelled n label c = (IsSet-those_below n (λ e. eqb (label e) c)).rising

pub labelled_more : (n : ℕ) (label : ℕ → ℕ) (c : ℕ) → label n ≡ c → with_one (labelled n label c) n ≡ labelled (n + 1) label c
labelled_more n label c own =
    same_members _ _ (IsRising-with_one _ n (IsRising-labelled n label c)) (IsRising-labelled (n + 1) label c) (λ x.
    is_member-with_one x n (labelled n label c) ∙ ap (λ b. eqb x n || b) (is_labelled_at n label c x)
    ∙ turned (eqb x n) (ltb x n && eqb (label x) c) (eqb (label n) c) (eq-eqb _ _ own) ∙ sym (labelled_step n label c x))
  where
    turned : (a b d : Bool) → d ≡ true → (a || b) ≡ (b || (a && d))
    turned true true true e = refl
    turned true false true e = refl
    turned false true true e = refl
    turned false false true e = refl
    turned a b false e = absurd (false≢true e)

pub labelled_less : (n : ℕ) (label : ℕ → ℕ) (c : ℕ) → label n ≢ c → labelled n label c ≡ labelled (n + 1) label c
labelled_less n label c other =
    same_members _ _ (IsRising-labelled n label c) (IsRising-labelled (n + 1) label c) (λ x.
    is_labelled_at n label c x
    ∙ dropped (ltb x n && eqb (label x) c) (eqb x n) (eqb (label n) c) (ne_eqb _ _ other) ∙ sym (labelled_step n label c x))
  where
    dropped : (b a d : Bool) → d ≡ false → b ≡ (b || (a && d))
    dropped true a d e = refl
    dropped false true d e = sym e
    dropped false false d e = refl

pub labelled_start : (label : ℕ → ℕ) (c : ℕ) → labelled 0 label c ≡ []
unfolding those_below all_below
labelled_start label c = refl

-- the next class is pushed
pub classes_by-pushed : (n k : ℕ) (label : ℕ → ℕ) (classes new : List (List ℕ)) (class : List ℕ) → new ≡ classes ++ class ∷ []
    → classes ≡ classes_by n k label → class ≡ labelled n label k → new ≡ classes_by n (k + 1) label
classes_by-pushed n k label classes new class pushed before own =
    pushed ∙ ap (λ c. classes ++ c ∷ []) own ∙ ap (λ cs. cs ++ labelled n label k ∷ []) before ∙ sym (classes_by-more n k label)
