-- What a greedy run ends with: an independent set that holds what it began with, lies in this and the order, and to which no element of
-- the order can be added. So a run from the empty set ends with a maximal independent set of the elements of its order, and one whose order
-- begins with an independent set takes all of that.
use Rattle.mat_laws.proofs.Common.{◌≡◌, ℕ, Bool, true, false, not, ◌&&◌, ◌||◌, ◌⊎◌, cond, eqb, List, [], ◌∷◌, ◌++◌, length, inl, inr, refl, sym, ap, ◌∙◌, arith, cases_Bool, and_parts, both_ways, false_from_ne_true, eq-eqb, eqb-true, or_cases, or_left, or_right, is_member, AllBelow, AreDistinct}
use Rattle.mat_laws.proofs.Common.{IsRising, IsSubset, with_one, minus, union, is_member-append, is_member-minus, is_member-union, is_member-with_one, IsRising-minus, IsRising-with_one, IsSubset-refl, IsSubset-trans, IsSubset-with_one, with_one-IsSubset, minus-IsSubset, same_size_subset}
use Rattle.mat_laws.proofs.Common.{subsets_equal, AreDistinct-append, AllBelow-append, AllBelow-subset, AreDistinct-rising, minus_parts, with_one-holds, IsMatroid, IsMaximal, grown_by, grown_along}
use Rattle.mat_laws.proofs.Independent.{rising, full_in_larger}

pub grown_along-append : (p : List ℕ → Bool) (I xs ys : List ℕ) → grown_along p I (xs ++ ys) ≡ grown_along p (grown_along p I xs) ys
grown_along-append p I [] ys = refl
grown_along-append p I (x ∷ xs) ys = grown_along-append p (grown_by p I x) xs ys

-- ---- an order of two sets, one after the other

pub order_below : (n : ℕ) (I X : List ℕ) → AllBelow n I → AllBelow n X → AllBelow n (I ++ minus X I)
order_below n I X small below = AllBelow-append n I (minus X I) small (AllBelow-subset n (minus X I) X (minus-IsSubset X I) below)

pub order_distinct : (I X : List ℕ) → IsRising I → IsRising X → AreDistinct (I ++ minus X I)
order_distinct I X i x = AreDistinct-append I (minus X I) (AreDistinct-rising I i) (AreDistinct-rising (minus X I) (IsRising-minus X I x))
    (λ z m. false_from_ne_true _ (λ h. both_ways _ (minus_parts X I z h).1 m))

-- ---- one element more

pub grown_by-holds : (p : List ℕ → Bool) (I : List ℕ) (x : ℕ) → IsSubset I (grown_by p I x)
grown_by-holds p I x = elim (cases_Bool (not (is_member x I) && p (with_one I x))) [
  | inl adds ↦ rw adds (IsSubset-with_one I x)
  | inr fails ↦ rw fails (IsSubset-refl I)
]

pub grown_by-passes : (p : List ℕ → Bool) (I : List ℕ) (x : ℕ) → p I ≡ true → p (grown_by p I x) ≡ true
grown_by-passes p I x ok = elim (cases_Bool (not (is_member x I) && p (with_one I x))) [
  | inl adds ↦ rw adds (and_parts (not (is_member x I)) (p (with_one I x)) adds).1
  | inr fails ↦ rw fails ok
]

grown_by-members : (p : List ℕ → Bool) (I : List ℕ) (x k : ℕ) → is_member k (grown_by p I x) ≡ true
    → (eqb k x || is_member k I) ≡ true
grown_by-members p I x k m = elim (cases_Bool (not (is_member x I) && p (with_one I x))) [
  | inl adds ↦ sym (is_member-with_one k x I) ∙ sym (ap (λ b. is_member k (cond b (with_one I x) I)) adds) ∙ m
  | inr fails ↦ or_right (eqb k x) (is_member k I) (sym (ap (λ b. is_member k (cond b (with_one I x) I)) fails) ∙ m)
]

-- x is in, or could not be added
grown_by-full : (p : List ℕ → Bool) (I : List ℕ) (x : ℕ) → is_member x (grown_by p I x) ≡ false
    → p (with_one (grown_by p I x) x) ≡ false
grown_by-full p I x out = elim (cases_Bool (not (is_member x I) && p (with_one I x))) [
  | inl adds ↦ absurd (both_ways _ (sym (ap (λ b. is_member x (cond b (with_one I x) I)) adds) ∙ out) (with_one-holds I x))
  | inr fails ↦
      let o : is_member x I ≡ false = sym (ap (λ b. is_member x (cond b (with_one I x) I)) fails) ∙ out in
      ap (λ b. p (with_one (cond b (with_one I x) I) x)) fails ∙ second o fails
]
  where
    second : is_member x I ≡ false → (not (is_member x I) && p (with_one I x)) ≡ false → p (with_one I x) ≡ false
    second o fails = rw o at fails

-- ---- a whole run

-- what a run from I along an order ends with
pub record IsRun (p : List ℕ → Bool) (I order set : List ℕ) : Type 0 where
  pub passes : p set ≡ true
  pub holds : IsSubset I set
  pub inside : (k : ℕ) → is_member k set ≡ true → (is_member k I || is_member k order) ≡ true
  pub full : (k : ℕ) → is_member k order ≡ true → is_member k set ≡ false → p (with_one set k) ≡ false

module _ {n : ℕ} {p : List ℕ → Bool} (laws : IsMatroid n p) where
  pub run_ends : (I order : List ℕ) → p I ≡ true → IsRun p I order (grown_along p I order)
  run_ends I [] ok = record {
    passes = ok;
    holds = IsSubset-refl I;
    inside = λ k m. or_left (is_member k I) false m;
    full = λ k m o. absurd (both_ways false refl m);
  }
  run_ends I (x ∷ order) ok =
      let next = grown_by p I x in
      let passes = grown_by-passes p I x ok in
      let r = run_ends next order passes in
      record {
        passes = r.passes;
        holds = IsSubset-trans I next _ (grown_by-holds p I x) r.holds;
        inside = λ k m. from_next k (or_cases (is_member k next) (is_member k order) (r.inside k m));
        full = λ k m o. elim (or_cases (eqb k x) (is_member k order) m) [
          | inl same ↦ (let e = eqb-true k x same in
              ap (λ z. p (with_one (grown_along p next order) z)) e
              ∙ full_in_larger laws next _ x (rising laws next passes) r.holds
              (grown_by-full p I x (false_from_ne_true _
              (λ h. both_ways _ o (ap (λ z. is_member z (grown_along p next order)) e ∙ r.holds.inside x h)))))
          | inr later ↦ r.full k later o
        ];
      }
    where
      from_next : (k : ℕ) → (is_member k (grown_by p I x) ≡ true) ⊎ (is_member k order ≡ true)
          → (is_member k I || (eqb k x || is_member k order)) ≡ true
      from_next k (inl a) = (let h = grown_by-members p I x k a in grind arith)
      from_next k (inr b) = grind arith

  -- a run from nothing ends with a maximal independent subset of any set with the members of its order
  pub run_maximal : (order X : List ℕ) → ((k : ℕ) → is_member k order ≡ is_member k X) → IsMaximal p X (grown_along p [] order)
  run_maximal order X same = let r = run_ends [] order laws.empty in record {
    passes = r.passes;
    inside = record { inside = λ k m. sym (same k) ∙ r.inside k m };
    full = λ k m o. r.full k (same k ∙ m) o;
  }

  -- so a run along a set ends with a maximal independent subset of it
  pub run_maximal_of : (X set : List ℕ) → set ≡ grown_along p [] X → IsMaximal p X set
  run_maximal_of X set told = rw told (run_maximal X X (λ k. refl))

  -- a run along an independent set takes all of it
  pub run_all : (I : List ℕ) → p I ≡ true → grown_along p [] I ≡ I
  run_all I ok =
      let r = run_ends [] I laws.empty in
      let set = grown_along p [] I in
      let inside : IsSubset set I = record { inside = r.inside } in
      subsets_equal set I (rising laws set r.passes) (rising laws I ok) inside (record {
        inside = λ k m.
            elim (cases_Bool (is_member k set)) [
              | inl here ↦ here
              | inr out ↦ absurd (both_ways _ (r.full k m out)
                  (laws.subsets (with_one set k) I (IsRising-with_one set k (rising laws set r.passes)) (with_one-IsSubset set I k inside m) ok))
            ];
      })

  -- a run along a set takes as many as it has exactly where the set is independent
  pub run_length : (X set : List ℕ) → IsRising X → set ≡ grown_along p [] X → eqb (length set) (length X) ≡ p X
  run_length X set rises ends = elim (cases_Bool (p X)) [
    | inl ok ↦ eq-eqb _ _ (ap length (ends ∙ run_all X ok)) ∙ sym ok
    | inr fails ↦ false_from_ne_true _ (λ e.
        let all = run_maximal_of X set ends in
        let size : length set ≡ length X = eqb-true _ _ e in
        let whole = same_size_subset set X (rising laws set all.passes) rises all.inside (omega (arith, size)) in
        both_ways _ fails (ap p (sym whole) ∙ all.passes)) ∙ sym fails
  ]

  -- a run through an independent set, and then through what another has more
  pub run_maximal_from : (I X : List ℕ) → p I ≡ true → IsMaximal p (union I X) (grown_along p [] (I ++ minus X I))
  run_maximal_from I X ok = run_maximal (I ++ minus X I) (union I X) (λ k.
      is_member-append k I (minus X I) ∙ ap (λ b. is_member k I || b) (is_member-minus k X I)
      ∙ joined (is_member k I) (is_member k X) ∙ sym (is_member-union k I X))
    where
      joined : (a b : Bool) → (a || (b && not a)) ≡ (a || b)
      joined true b = refl
      joined false true = refl
      joined false false = refl

  pub run_holds : (I X : List ℕ) → p I ≡ true → IsSubset I (grown_along p [] (I ++ minus X I))
  run_holds I X ok = rw (grown_along-append p [] I (minus X I), run_all I ok) (run_ends I (minus X I) ok).holds
