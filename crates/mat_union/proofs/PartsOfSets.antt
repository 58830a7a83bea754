-- Parts of a set: greedy ones, into which the other members come one after the other. Where one cannot come, the set has no parts.
use Rattle.mat_union.proofs.Common.{None, Some, Option, map, ◌≡◌, ℕ, ◌+◌, ◌<◌, ◌≤◌, Bool, true, false, not, ◌||◌, eqb, List, [], ◌∷◌, ◌++◌, length, get_or, take, inl, inr, refl, sym, ap, ◌∙◌, subst, arith, length-append, MatchOption, and_parts, both_ways, cases_eq, eqb-true, false_from_ne_true}
use Rattle.mat_union.proofs.Common.{false≢true, not-true, or_cases, get_or_append_left, take_all, family_union, is_member, AllBelow, IsRising, IsSubset, minus, union, with_one, family_union-gives, IsRising-family_union, is_member-get_or, is_member-minus, is_member-union, is_member-with_one}
use Rattle.mat_union.proofs.Common.{IsRising-with_one, is_member-take_more, subsets_equal, IsSubset-refl, AllBelow-subset, IsMaximal, AreKeptParts, parts_pass, AreDisjoint-index, union_laws, part_at, test_at, union_test, AreMatroids, AreParts}
use Rattle.std.specs.Option.{is_some}
use Rattle.std.proofs.Math.Seq.{get_or-append_seam}

-- ---- greedy parts

-- the first i matroids took disjoint parts of the set, and this is left
pub record AreTakenSo (tests : List (List ℕ → Bool)) (set : List ℕ) (i : ℕ) (parts : List (List ℕ)) (rest : List ℕ) : Type 0 where
  pub long : length parts ≡ i
  pub passes : (j : ℕ) → j < i → test_at tests j (part_at parts j) ≡ true
  pub inside : (j x : ℕ) → j < i → is_member x (part_at parts j) ≡ true → is_member x set ≡ true
  pub left : IsSubset rest set
  pub apart : (j x : ℕ) → j < i → is_member x (part_at parts j) ≡ true → is_member x rest ≡ false
  pub disjoint : (j k x : ℕ) → j < k → k < i → is_member x (part_at parts j) ≡ true → is_member x (part_at parts k) ≡ false

pub taken_none : (tests : List (List ℕ → Bool)) (set : List ℕ) (parts : List (List ℕ)) (rest : List ℕ) → parts ≡ [] → rest ≡ set → AreTakenSo tests set 0 parts rest
taken_none tests set parts rest e f = rw (e, f) (record {
  long = refl;
  passes = λ j l. absurd (omega arith);
  inside = λ j x l. absurd (omega arith);
  left = IsSubset-refl set;
  apart = λ j x l. absurd (omega arith);
  disjoint = λ j k x l h. absurd (omega arith);
})

module _ {tests : List (List ℕ → Bool)} {set : List ℕ} {i : ℕ} {parts : List (List ℕ)} {rest : List ℕ} (t : AreTakenSo tests set i parts rest) where
  pub rest_below : (n : ℕ) → AllBelow n set → AllBelow n rest
  rest_below n b = AllBelow-subset n rest set t.left b

  module _ (test : List ℕ → Bool) (part : List ℕ) (is : test_at tests i ≡ test) (base : IsMaximal test (union [] rest) part) where
    abbrev more : List (List ℕ)
    more = parts ++ part ∷ []

    at_old : (j : ℕ) → j < i → part_at more j ≡ part_at parts j
    at_old j l = get_or_append_left parts (part ∷ []) [] j (let e = t.long in omega arith)

    at_new : part_at more i ≡ part
    at_new = ap (part_at more) (sym t.long) ∙ get_or-append_seam parts part [] []

    in_rest : (x : ℕ) → is_member x part ≡ true → is_member x rest ≡ true
    in_rest x h = elim (or_cases (is_member x []) (is_member x rest) (sym (is_member-union x [] rest) ∙ base.inside.inside x h)) [ inl a ↦ absurd (false≢true a) | inr b ↦ b ]

    minus_gives : (x : ℕ) → is_member x (minus rest part) ≡ true → (is_member x rest ≡ true) × (is_member x part ≡ false)
    minus_gives x h = let b = and_parts (is_member x rest) (not (is_member x part)) (sym (is_member-minus x rest part) ∙ h) in (b.0, not-true _ b.1)

    -- one more matroid takes its part
    taken_more_by : AreTakenSo tests set (i + 1) more (minus rest part)
    taken_more_by = record {
      long = (let e = t.long in let l = length-append parts (part ∷ []) in omega arith);
      passes = λ j l. elim (cases_eq j i) [
        | inl q ↦ ap (λ k. test_at tests k (part_at more k)) q ∙ ap (test_at tests i) at_new ∙ ap (λ f. f part) is ∙ base.passes
        | inr q ↦ (let less : j < i = omega arith in ap (test_at tests j) (at_old j less) ∙ t.passes j less)
      ];
      inside = λ j x l h. elim (cases_eq j i) [
        | inl q ↦ t.left.inside x (in_rest x (ap (is_member x) (sym (ap (part_at more) q ∙ at_new)) ∙ h))
        | inr q ↦ (let less : j < i = omega arith in t.inside j x less (ap (is_member x) (sym (at_old j less)) ∙ h))
      ];
      left = record { inside = λ x h. t.left.inside x (minus_gives x h).0 };
      apart = λ j x l h. false_from_ne_true _ (λ m. elim (cases_eq j i) [
        | inl q ↦ both_ways _ (minus_gives x m).1 (ap (is_member x) (sym (ap (part_at more) q ∙ at_new)) ∙ h)
        | inr q ↦ (let less : j < i = omega arith in both_ways _ (t.apart j x less (ap (is_member x) (sym (at_old j less)) ∙ h)) (minus_gives x m).0)
      ]);
      disjoint = λ j k x l b h. (let less : j < i = omega arith in let own = ap (is_member x) (sym (at_old j less)) ∙ h in elim (cases_eq k i) [
        | inl q ↦ false_from_ne_true _ (λ m. both_ways _ (t.apart j x less own) (in_rest x (ap (is_member x) (sym (ap (part_at more) q ∙ at_new)) ∙ m)))
        | inr q ↦ (let lower : k < i = omega arith in ap (is_member x) (at_old k lower) ∙ t.disjoint j k x l lower own)
      ]);
    }

    pub taken_more : (parts' : List (List ℕ)) (rest' : List ℕ) → parts' ≡ more → rest' ≡ minus rest part → AreTakenSo tests set (i + 1) parts' rest'
    taken_more parts' rest' e f = rw (e, f) taken_more_by

  pub taken_are : length tests ≡ i → AreParts tests parts
  taken_are e = record {
    one_each = t.long ∙ sym e;
    disjoint = AreDisjoint-index parts (λ j k x l h. t.disjoint j k x l (let a = t.long in omega arith));
    passes = λ j l. t.passes j (let a = t.long in omega arith);
  }

  pub taken_inside : IsSubset (family_union parts) set
  taken_inside = record { inside = λ x h. (let w = family_union-gives x parts h in let l = w.1 in t.inside w.0 x (let a = t.long in omega arith) w.2) }

-- ---- one element comes

-- ---- the members of a set one after the other

-- after the first i of these members came
pub record AreComingIn (members set : List ℕ) (i : ℕ) (parts : List (List ℕ)) : Type 0 where
  pub inside : IsSubset (family_union parts) set
  pub placed : (v : ℕ) → is_member v (take i members) ≡ true → is_member v (family_union parts) ≡ true

module _ {members set : List ℕ} (same : members ≡ set) where
  pub coming_in_none : {parts : List (List ℕ)} → IsSubset (family_union parts) set → AreComingIn members set 0 parts
  coming_in_none s = record { inside = s; placed = λ v h. absurd (false≢true h) }

  member_in : {i : ℕ} → i < length members → is_member (get_or members i 0) set ≡ true
  member_in {i} l = ap (is_member (get_or members i 0)) (sym same) ∙ is_member-get_or members i (get_or members i 0) l refl

  pub coming_in_more : {i : ℕ} {parts new : List (List ℕ)} → AreComingIn members set i parts → i < length members
      → ((v : ℕ) → is_member v (family_union new) ≡ (eqb v (get_or members i 0) || is_member v (family_union parts))) → AreComingIn members set (i + 1) new
  coming_in_more {i} {parts} {new} c l b = record {
    inside = record {
      inside = λ v h. elim (or_cases (eqb v (get_or members i 0)) (is_member v (family_union parts)) (sym (b v) ∙ h)) [
        | inl e ↦ ap (λ z. is_member z set) (eqb-true v (get_or members i 0) e) ∙ member_in l
        | inr k ↦ c.inside.inside v k
      ];
    };
    placed = λ v h. b v ∙ either (eqb v (get_or members i 0)) (is_member v (family_union parts)) (is_member v (take i members)) (sym (is_member-take_more members i v l) ∙ h) (c.placed v);
  }
    where
      either : (a b d : Bool) → (d || a) ≡ true → (d ≡ true → b ≡ true) → (a || b) ≡ true
      either true b d h f = refl
      either false b true h f = f refl
      either false b false h f = absurd (false≢true h)

  pub coming_in_end : {i : ℕ} {parts : List (List ℕ)} → AreComingIn members set i parts → IsRising set → length members ≤ i → family_union parts ≡ set
  coming_in_end {i} {parts} c r l = subsets_equal (family_union parts) set (IsRising-family_union parts) r c.inside
      (record { inside = λ v h. c.placed v (ap (is_member v) (take_all i members l ∙ same) ∙ h) })

  pub coming_in_refused : {n i : ℕ} {tests : List (List ℕ → Bool)} {parts : List (List ℕ)} → AreMatroids n tests → AreComingIn members set i parts → i < length members
      → union_test n tests (with_one (family_union parts) (get_or members i 0)) ≡ false → union_test n tests set ≡ false
  coming_in_refused {n} {i} {tests} {parts} laws c l refused = false_from_ne_true _ (λ ok. both_ways _ refused
      ((union_laws tests laws).subsets (with_one (family_union parts) (get_or members i 0)) set (IsRising-with_one _ _ (IsRising-family_union parts)) (record {
        inside = λ v h. elim (or_cases (eqb v (get_or members i 0)) (is_member v (family_union parts)) (sym (is_member-with_one v (get_or members i 0) (family_union parts)) ∙ h)) [
          | inl a ↦ ap (λ z. is_member z set) (eqb-true v (get_or members i 0) a) ∙ member_in l
          | inr b ↦ c.inside.inside v b
        ];
      }) ok))

-- ---- what is found tells whether the set is independent in the union

some_tells : {A : Type 0} (found : Option A) (test : Bool) (P : A → Type 0) → MatchOption found (test ≡ false) P → ((a : A) → P a → test ≡ true) → is_some found ≡ test
some_tells None test P h f = sym h
some_tells (Some a) test P h f = sym (f a h)

-- parts of the matroids of a slice are those of the list, by its number of elements
module _ {M K H : Type 0} (indep : M → List ℕ → Bool) (keeps : M → List ℕ → K → Type 0) {slice items : List M} (e : slice ≡ items) {n k : ℕ} (f : n ≡ k) (set : List ℕ)
    (found : Option H) (parts : H → List (List ℕ)) (kept : H → List K)
    (told : MatchOption found (union_test n (map indep slice) set ≡ false) (λ h. AreKeptParts indep keeps slice set (parts h) (kept h))) where
  told_there : MatchOption found (union_test k (map indep items) set ≡ false) (λ h. AreKeptParts indep keeps items set (parts h) (kept h))
  told_there = subst (λ q. MatchOption found (union_test q (map indep items) set ≡ false) (λ h. AreKeptParts indep keeps items set (parts h) (kept h))) f
      (subst (λ m. MatchOption found (union_test n (map indep m) set ≡ false) (λ h. AreKeptParts indep keeps m set (parts h) (kept h))) e told)

  pub found_parts : (h : H) → found ≡ Some h → AreKeptParts indep keeps items set (parts h) (kept h)
  found_parts h is = subst (λ o. MatchOption o (union_test k (map indep items) set ≡ false) (λ h. AreKeptParts indep keeps items set (parts h) (kept h))) is told_there

  pub found_none : found ≡ None → union_test k (map indep items) set ≡ false
  found_none is = subst (λ o. MatchOption o (union_test k (map indep items) set ≡ false) (λ h. AreKeptParts indep keeps items set (parts h) (kept h))) is told_there

  pub found_tells : AreMatroids k (map indep items) → is_some found ≡ union_test k (map indep items) set
  found_tells laws = some_tells found (union_test k (map indep items) set) (λ h. AreKeptParts indep keeps items set (parts h) (kept h)) told_there
      (λ h a. ap (union_test k (map indep items)) (sym a.together) ∙ parts_pass (map indep items) laws (parts h) a.are)
