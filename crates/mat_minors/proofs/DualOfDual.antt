-- The dual of the dual is the matroid: a set that misses a base of the dual lies in each base that misses that one, and the complement of a
-- base is a base of the dual (Whitney 1935; Schrijver, chapter 39).
use mathlib.Core.Path.{fun_ext}
use Rattle.mat_minors.proofs.Common.{◌≡◌, ℕ, ◌++◌, ◌||◌, Bool, true, false, List, [], inl, inr, ap, sym, ◌∙◌, cases_Bool, both_ways, false_from_ne_true, lt-ltb, ne_eqb, is_member, IsSubset, with_one, minus, all_below, apart_at, apart_from, in_complement, minus_parts, with_one-holds, below_member}
use Rattle.mat_minors.proofs.Common.{is_member-all_below, IsSet-all_below, IsSet-minus, IsSet-with_one, is_member-with_one, IsRising-with_one, union-right, with_one-IsSubset, IsSubset-with_one, grown_along, IsBase, IsMatroid, rising, is_dual, IsDualIndependent, dual-gives, dual-from, dual_laws}
use Rattle.mat_laws.proofs.GreedyRunSets.{run_holds, run_maximal_from}

module _ {n : ℕ} {p : List ℕ → Bool} (laws : IsMatroid n p) where
  -- each independent set lies in a base
  base_around : (X : List ℕ) → p X ≡ true → (B : List ℕ) × IsBase n p B × IsSubset X B
  base_around X ok =
      let max = run_maximal_from laws X (all_below n) ok in (
        grown_along p [] (X ++ minus (all_below n) X),
        record {
          passes = max.passes;
          full = λ x small out. max.full x ((union-right X (all_below n)).inside x (is_member-all_below x n ∙ lt-ltb x n small)) out;
        },
        run_holds laws X (all_below n) ok,
      )

  -- a base that misses more than the complement of a base is smaller than that
  too_small : (B : List ℕ) (x : ℕ) → p B ≡ true → is_member x B ≡ true → IsDualIndependent n p (with_one (minus (all_below n) B) x) → ⊥
  too_small B x ok here d =
      let C = minus (all_below n) B in
      let missing = λ (k : ℕ) (m : is_member k d.base ≡ true). apart_at d.base (with_one C x) d.disjoint k m in
      let inside : IsSubset d.base B = record {
        inside = λ k m. in_complement n B k (below_member (laws.sets d.base d.is_base.passes) m)
            (false_from_ne_true _ (λ c. both_ways _ (missing k m) ((IsSubset-with_one C x).inside k c)));
      } in
      let out : is_member x d.base ≡ false = false_from_ne_true _ (λ m. both_ways _ (missing x m) (with_one-holds C x)) in
      both_ways _ (d.is_base.full x (below_member (laws.sets B ok) here) out)
      (laws.subsets (with_one d.base x) B (IsRising-with_one d.base x (rising laws d.base d.is_base.passes)) (with_one-IsSubset d.base B x inside here) ok)

  -- the complement of a base is a base of the dual
  complement_base : (B : List ℕ) → IsBase n p B → IsBase n (is_dual n p) (minus (all_below n) B)
  complement_base B b =
      let C = minus (all_below n) B in record {
        passes = dual-from laws C (record {
          set = IsSet-minus n (all_below n) B (IsSet-all_below n);
          base = B;
          is_base = b;
          disjoint = apart_from B C (λ x m. false_from_ne_true _ (λ k. both_ways _ (minus_parts (all_below n) B x k).1 m));
        });
        full = λ x small out. false_from_ne_true _ (λ adds. too_small B x b.passes (in_complement n B x small out) (dual-gives n p (with_one C x) adds));
      }

  -- a set that is independent lies in a base, whose complement it misses
  to_dual : (X : List ℕ) → p X ≡ true → is_dual n (is_dual n p) X ≡ true
  to_dual X ok =
      let b = base_around X ok in
      let C = minus (all_below n) b.0 in
      dual-from (dual_laws n p laws) X (record {
        set = laws.sets X ok;
        base = C;
        is_base = complement_base b.0 b.1;
        disjoint = apart_from C X (λ x m. false_from_ne_true _ (λ k. both_ways _ (minus_parts (all_below n) b.0 x m).1 (b.2.inside x k)));
      })

  -- a set that misses a base of the dual lies in each base that misses that one
  from_dual : (X : List ℕ) → is_dual n (is_dual n p) X ≡ true → p X ≡ true
  from_dual X h =
      let d = dual-gives n (is_dual n p) X h in
      let C = d.base in
      let b = dual-gives n p C d.is_base.passes in
      let inside : IsSubset X b.base = record {
        inside = λ x m. elim (cases_Bool (is_member x b.base)) [
          | inl here ↦ here
          | inr gone ↦
              let out : is_member x C ≡ false = false_from_ne_true _ (λ c. both_ways _ (apart_at C X d.disjoint x c) m) in
              let small = below_member d.set m in
              absurd (both_ways _ (d.is_base.full x small out) (dual-from laws (with_one C x) (record {
                set = IsSet-with_one n C x b.set small;
                base = b.base;
                is_base = b.is_base;
                disjoint = apart_from b.base (with_one C x) (λ y k. apart_with_one C b.base y x (apart_at b.base C b.disjoint y k) k gone);
              })))
        ];
      } in
      laws.subsets X b.base d.set.rising inside b.is_base.passes
    where
      apart_with_one : (C B : List ℕ) (y x : ℕ) → is_member y C ≡ false → is_member y B ≡ true → is_member x B ≡ false
          → is_member y (with_one C x) ≡ false
      apart_with_one C B y x out m missing = is_member-with_one y x C
          ∙ ap (λ b. b || is_member y C) (ne_eqb y x (λ same. both_ways _ missing (ap (λ z. is_member z B) (sym same) ∙ m))) ∙ out

  pub dual_of_dual : (X : List ℕ) → is_dual n (is_dual n p) X ≡ p X
  dual_of_dual X = elim (cases_Bool (p X)) [
    | inl ok ↦ to_dual X ok ∙ sym ok
    | inr fails ↦ false_from_ne_true _ (λ h. both_ways _ fails (from_dual X h)) ∙ sym fails
  ]

-- so the two tests are one
pub dual_of_dual_test : (n : ℕ) (p : List ℕ → Bool) → IsMatroid n p → is_dual n (is_dual n p) ≡ p
dual_of_dual_test n p laws = fun_ext (dual_of_dual laws)
