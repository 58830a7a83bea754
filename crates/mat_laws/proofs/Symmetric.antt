-- Symmetric exchange. Let C be the members y of B that x can take the place of. x cannot be added to C (else C + x grows inside
-- B + x to the size of B, and so misses exactly one y of B: but then y is in C). Were there no partner, no member of C could be
-- added to A - x, so C grows inside (A - x) ∪ C to the size of A - x at most; then A would give it one more, and x to C.
use Rattle.mat_laws.proofs.Common.{◌≡◌, ℕ, ◌<◌, ◌≤◌, Bool, true, false, not, ◌||◌, ◌&&◌, eqb, List, length, inl, inr, sym, ap, ◌∙◌, subst, arith, cases_Bool, cases_lt, eqb-true, or_right, and_parts, and_from, both_ways, false_from_ne_true, not-true, false≢true, is_member, IsRising, IsSubset}
use Rattle.mat_laws.proofs.Common.{with_one, without_one, minus, set_members, is_member-filter, RisesFrom-filter, is_member-minus, IsRising-with_one, IsRising-without_one, find_member, length-subset, same_size_subset, with_one-both, length-with_one, length-without_one, length-exchange_one}
use Rattle.mat_laws.proofs.Common.{IsMatroid, HasSymmetricPartner}
use Rattle.std.specs.List.{filter}
use Rattle.mat_laws.proofs.Independent.{rising, less_one, grow_to_size}
use Rattle.mat_laws.proofs.Maximal.{span}

-- the members of B that x can take the place of
pub replaceable_by : (List ℕ → Bool) → List ℕ → ℕ → List ℕ
replaceable_by p B x = filter (λ y. p (with_one (without_one B y) x)) B

pub is_member-replaceable : (p : List ℕ → Bool) (B : List ℕ) (x k : ℕ)
    → is_member k (replaceable_by p B x) ≡ (is_member k B && p (with_one (without_one B k) x))
unfolding replaceable_by
is_member-replaceable p B x k = is_member-filter (λ y. p (with_one (without_one B y) x)) k B

pub IsRising-replaceable : (p : List ℕ → Bool) (B : List ℕ) (x : ℕ) → IsRising B → IsRising (replaceable_by p B x)
unfolding replaceable_by
IsRising-replaceable p B x r = record { rises = RisesFrom-filter (λ y. p (with_one (without_one B y) x)) 0 B r.rises }

IsSubset-replaceable : (p : List ℕ → Bool) (B : List ℕ) (x : ℕ) → IsSubset (replaceable_by p B x) B
IsSubset-replaceable p B x = record { inside = λ k m. let h = is_member-replaceable p B x k in grind arith }

-- ---- steps about members

-- what grew from C + x inside C ∪ B and misses y lies in B - y + x
inside_target : (k x y : ℕ) (C B S : List ℕ) (q : Bool) → is_member k S ≡ true → (is_member k (with_one C x) || is_member k B) ≡ true
    → is_member k C ≡ (is_member k B && q) → not (is_member y S) ≡ true
    → is_member k (with_one (without_one B y) x) ≡ true
inside_target k x y C B S q m within c missed = grind (arith, set_members)

-- a set that holds x and each member of B holds B + x
whole_inside : (k x : ℕ) (B S : List ℕ) → is_member k (with_one B x) ≡ true → is_member x S ≡ true
    → (is_member k B ≡ true → not (is_member k S) ≡ false) → is_member k S ≡ true
whole_inside k x B S m x_in all = grind (arith, set_members)

-- where no member of B outside A is a partner, a replaceable member outside A - x cannot be added to A - x
not_addable : (y x : ℕ) (A B C : List ℕ) (q r : Bool) → is_member y C ≡ (is_member y B && q) → is_member y C ≡ true
    → is_member y (without_one A x) ≡ false → is_member x B ≡ false
    → (is_member y (minus B A) ≡ true → (q && r) ≡ false) → r ≡ false
not_addable y x A B C q r c m out x_out none = grind (arith, set_members)

still_inside : (k u x : ℕ) (A C S : List ℕ) → is_member k (with_one S u) ≡ true → is_member u A ≡ true → eqb u x ≡ false
    → (is_member k S ≡ true → (is_member k C || is_member k (without_one A x)) ≡ true)
    → (is_member k (without_one A x) || is_member k C) ≡ true
still_inside k u x A C S m u_in other h = grind (arith, set_members)

outside_first : (y x : ℕ) (A B : List ℕ) → is_member y B ≡ true → is_member y (without_one A x) ≡ false → is_member x B ≡ false
    → is_member y A ≡ false
outside_first y x A B m out x_out = grind (arith, set_members)

same_added : (p : List ℕ → Bool) (S : List ℕ) (u x : ℕ) → eqb u x ≡ true → p (with_one S u) ≡ true → p (with_one S x) ≡ true
same_added p S u x same ok = subst (λ v. p (with_one S v) ≡ true) (eqb-true u x same) ok

pub exchange-IsSubset : (B : List ℕ) (x y : ℕ) → IsSubset (with_one (without_one B y) x) (with_one B x)
exchange-IsSubset B x y = record { inside = λ k m. grind (arith, set_members) }

pub IsRising-exchange : (B : List ℕ) (x y : ℕ) → IsRising B → IsRising (with_one (without_one B y) x)
IsRising-exchange B x y r = IsRising-with_one _ x (IsRising-without_one B y r)

module _ {n : ℕ} {p : List ℕ → Bool} (laws : IsMatroid n p) where
  -- what grew from C + x by B cannot hold all of B, nor miss one member of it
  missed_one : (B S : List ℕ) (x y : ℕ) → p B ≡ true → is_member x B ≡ false → p S ≡ true → IsSubset (with_one (replaceable_by p B x) x) S
      → ((k : ℕ) → is_member k S ≡ true → (is_member k (with_one (replaceable_by p B x) x) || is_member k B) ≡ true) → length S ≡ length B
      → is_member y B ≡ true → not (is_member y S) ≡ true → ⊥
  missed_one B S x y b out s holds inside size y_in missed =
      let r = rising laws B b in
      let target = with_one (without_one B y) x in
      let sub : IsSubset S target = record { inside = λ k m. inside_target k x y (replaceable_by p B x) B S _ m (inside k m) (is_member-replaceable p B x k) missed } in
      let long = length-exchange_one B x y r y_in out in
      let same : S ≡ target = same_size_subset S target (rising laws S s) (IsRising-exchange B x y r) sub (omega arith) in
      let found : is_member y (replaceable_by p B x) ≡ true = is_member-replaceable p B x y ∙ and_from (is_member y B) (p target) y_in (ap p (sym same) ∙ s) in
      let kept : is_member y S ≡ true = holds.inside y (grind (arith, set_members)) in
      false≢true (sym (ap not kept) ∙ missed)

  -- where x cannot be added to B, it cannot be added to the members that it can take the place of
  pub replaceable_full : (B : List ℕ) (x : ℕ) → p B ≡ true → is_member x B ≡ false → p (with_one B x) ≡ false
      → p (with_one (replaceable_by p B x) x) ≡ false
  replaceable_full B x b out none = false_from_ne_true _ (λ more.
      let C = replaceable_by p B x in
      let r = rising laws B b in
      let rc = IsRising-replaceable p B x r in
      let sub = IsSubset-replaceable p B x in
      let x_out : is_member x C ≡ false = let h = is_member-replaceable p B x x in grind arith in
      let size = length-with_one C x rc x_out in
      let fewer : length C < length B = elim (cases_lt (length C) (length B)) [
        | inl l ↦ l
        | inr l ↦ absurd (both_ways _ none (sym (ap (λ s. p (with_one s x)) (same_size_subset C B rc r sub l)) ∙ more))
      ] in
      let g = grow_to_size laws (with_one C x) B more b (omega arith) in
      let S = g.0 in
      let x_in : is_member x S ≡ true = g.1.holds.inside x (grind (arith, set_members)) in
      elim (find_member (λ y. not (is_member y S)) B) [
        | inl w ↦ missed_one B S x w.0 b out g.1.passes g.1.holds g.1.inside g.1.size w.1 w.2
        | inr all ↦
            let whole : IsSubset (with_one B x) S = record { inside = λ k m. whole_inside k x B S m x_in (all k) } in
            let long = length-subset (with_one B x) S (IsRising-with_one B x r) (rising laws S g.1.passes) whole in
            absurd (omega (arith, length-with_one B x r out, g.1.size))
      ])

  -- where x cannot be added to B, some member of B is a partner
  some_partner : (A B : List ℕ) (x : ℕ) → p A ≡ true → p B ≡ true → length A ≡ length B → is_member x A ≡ true → is_member x B ≡ false
      → p (with_one B x) ≡ false
      → ((y : ℕ) → is_member y (minus B A) ≡ true → (p (with_one (without_one B y) x) && p (with_one (without_one A x) y)) ≡ false) → ⊥
  some_partner A B x a b e x_in out full none =
      let C = replaceable_by p B x in
      let less = without_one A x in
      let l : p less ≡ true = less_one laws A x a in
      let size = length-without_one A x (rising laws A a) x_in in
      let rc = IsRising-replaceable p B x (rising laws B b) in
      let c : p C ≡ true = laws.subsets C B rc (IsSubset-replaceable p B x) b in
      let closed : (y : ℕ) → is_member y C ≡ true → is_member y less ≡ false → p (with_one less y) ≡ false =
      λ y m o. not_addable y x A B C _ _ (is_member-replaceable p B x y) m o out (none y) in
      let small : (J : List ℕ) → p J ≡ true → ((k : ℕ) → is_member k J ≡ true → (is_member k less || is_member k C) ≡ true) → length J ≤ length less = span laws less C l closed in
      let g = grow_to_size laws C less c l (small C c (λ k m. or_right (is_member k less) (is_member k C) m)) in
      let S = g.0 in
      let u = laws.augmentation S A g.1.passes a (omega (arith, g.1.size)) in
      elim (cases_Bool (eqb u.element x)) [
        | inl same ↦
            let with_x : p (with_one S x) ≡ true = same_added p S u.element x same u.augmented in
            both_ways _ (replaceable_full B x b out full) (laws.subsets (with_one C x) (with_one S x) (IsRising-with_one C x rc) (with_one-both C S x g.1.holds) with_x)
        | inr other ↦
            let most = small (with_one S u.element) u.augmented (λ k m. still_inside k u.element x A C S m u.inside other (g.1.inside k)) in
            omega (arith, g.1.size, length-with_one S u.element (rising laws S g.1.passes) u.outside)
      ]

  -- two independent sets of one size: each x of the first has a partner in the second, both ways
  pub symmetric_exchange : (A B : List ℕ) (x : ℕ) → p A ≡ true → p B ≡ true → length A ≡ length B → is_member x A ≡ true
      → is_member x B ≡ false → HasSymmetricPartner p A B x
  symmetric_exchange A B x a b e x_in out =
      elim (cases_Bool (p (with_one B x))) [
        | inl free ↦ (let size = length-without_one A x (rising laws A a) x_in in
            let t = laws.augmentation (without_one A x) B (less_one laws A x a) b (omega arith) in
            let y = t.element in
            record {
              partner = y;
              inside = t.inside;
              outside = outside_first y x A B t.inside t.outside out;
              first = t.augmented;
              second = laws.subsets _ (with_one B x) (IsRising-exchange B x y (rising laws B b)) (exchange-IsSubset B x y) free;
            })
        | inr full ↦ elim (find_member (λ y. p (with_one (without_one B y) x) && p (with_one (without_one A x) y)) (minus B A)) [
          | inl w ↦ (let both = and_parts (p (with_one (without_one B w.0) x)) (p (with_one (without_one A x) w.0)) w.2 in
              let m = and_parts (is_member w.0 B) (not (is_member w.0 A)) (sym (is_member-minus w.0 B A) ∙ w.1) in
              record { partner = w.0; inside = m.0; outside = not-true (is_member w.0 A) m.1; first = both.1; second = both.0 })
          | inr none ↦ absurd (some_partner A B x a b e x_in out full none)
        ]
      ]
