-- Copies of one matroid: disjoint bases hold as many elements as there are bases times the rank, of which a cut leaves no more than it
-- allows; and sets that cover A have room for it.
use Rattle.mat_packing.proofs.Common.{◌≡◌, ℕ, suc, zero, ◌+◌, ◌-◌, ◌*◌, ◌<◌, ◌≤◌, Bool, true, false, List, [], ◌∷◌, length, inl, inr, refl, sym, ap, ◌∙◌, subst, arith, cases_lt, both_ways, all_below, is_member, minus, union, intersection, IsRising, IsSubset, family_union, set_members}
use Rattle.mat_packing.proofs.Common.{IsRising-minus, IsRising-intersection, only_member, family_union-gives, no_member, no_members, IsSubset-trans, intersection-left, intersection-right, minus-IsSubset, length-minus-intersection, below_member, IsRising-all_below, IsSubset-all_below, IsMatroid}
use Rattle.mat_packing.proofs.Common.{IsLoop, rank, rising, below, rank_is, rank-maximal, part_at, test_at, AreMatroids, AreParts, ranks_sum, cut_bounds, ranks_reached, AreBases, IsCover, IsCoverCut, IsRightPacking}
use Rattle.mat_sets.proofs.Equalities.{intersection-subset}
use Rattle.mat_laws.proofs.Maximal.{IsMaximal-base}

-- as many copies of a test
abbrev pub copies : (List ℕ → Bool) → ℕ → List (List ℕ → Bool)
copies p zero = []
copies p (suc m) = p ∷ copies p m

pub length-copies : (p : List ℕ → Bool) (m : ℕ) → length (copies p m) ≡ m
length-copies p zero = refl
length-copies p (suc m) = ap suc (length-copies p m)

pub copy_at : (p : List ℕ → Bool) (m i : ℕ) → i < m → test_at (copies p m) i ≡ p
copy_at p zero i l = absurd (omega arith)
copy_at p (suc m) zero l = refl
copy_at p (suc m) (suc i) l = copy_at p m i (omega arith)

pub ranks-copies : (p : List ℕ → Bool) (m : ℕ) (A : List ℕ) → ranks_sum (copies p m) A ≡ m * rank p A
ranks-copies p zero A = omega arith
ranks-copies p (suc m) A = let h = ranks-copies p m A in omega arith

-- a product with a difference
more_than : (m k a b : ℕ) → k ≤ m → m * a ≤ (k * (a - b) - 1) + m * b → 0 < k * (a - b) → ⊥
more_than m k a b l h some = elim (cases_lt b a) [
  | inl less ↦ go (a - b) (m - k) (omega arith) (omega arith) some
  | inr le ↦ (let e : a - b ≡ 0 = omega arith in let f : k * (a - b) ≡ k * 0 = ap (λ d. k * d) e in omega arith)
]
  where
    go : (d j : ℕ) → a ≡ b + d → m ≡ k + j → 0 < k * (a - b) → ⊥
    go d j e f s =
        let same : a - b ≡ d = omega arith in
        let s' : 0 < k * d = subst (λ v. 0 < k * v) same s in
        let h' : m * a ≤ (k * d - 1) + m * b = subst (λ v. m * a ≤ (k * v - 1) + m * b) same h in
        let q : m * a ≡ m * b + m * d = ap (λ v. m * v) e ∙ omega arith in
        let r : m * d ≡ k * d + j * d = ap (λ v. v * d) f ∙ omega arith in
        omega (arith, q, r, s', h')

module _ {n : ℕ} {p : List ℕ → Bool} (laws : IsMatroid n p) where
  pub copy_laws : (m : ℕ) → AreMatroids n (copies p m)
  copy_laws m = record { each = λ i l. subst (IsMatroid n) (sym (copy_at p m i (let e = length-copies p m in omega arith))) laws }

  abbrev E : List ℕ
  E = all_below n

  inside_all : (I : List ℕ) → p I ≡ true → IsSubset I E
  inside_all I ok = IsSubset-all_below n I (below laws I ok)

  pub bases_are_parts : (bases : List (List ℕ)) → AreBases n p bases → AreParts (copies p (length bases)) bases
  bases_are_parts bases b = record {
    one_each = sym (length-copies p (length bases));
    disjoint = b.disjoint;
    passes = λ i l. subst (λ t. t (part_at bases i) ≡ true) (sym (copy_at p (length bases) i l)) (b.each i l).passes;
  }

  pub bases_count : (bases : List (List ℕ)) → AreBases n p bases → length (intersection (family_union bases) E) ≡ length bases * rank p E
  bases_count bases b =
      ranks_reached (copies p (length bases)) bases E (copy_laws (length bases)) (bases_are_parts bases b) (IsRising-all_below n)
      (λ i l. ap (λ t. rank t E) (copy_at p (length bases) i l) ∙ rank-maximal laws E (part_at bases i) (IsRising-all_below n) (IsMaximal-base laws (part_at bases i) (b.each i l))
      ∙ sym (ap length (intersection-subset (part_at bases i) E (rising laws (part_at bases i) (b.each i l).passes) (inside_all (part_at bases i) (b.each i l).passes))))
      ∙ ranks-copies p (length bases) E

  pub packing_is_most : (bases : List (List ℕ)) (cut : List ℕ) → IsRightPacking n p bases cut → (others : List (List ℕ)) → AreBases n p others → length others ≤ length bases
  packing_is_most bases cut r others b = elim (cases_lt (length bases) (length others)) [
    | inr le ↦ le
    | inl more ↦
        let count = bases_count others b in
        let bound = cut_bounds (copies p (length others)) others E cut (copy_laws (length others)) (bases_are_parts others b) (IsRising-all_below n) r.set.rising (IsSubset-all_below n cut r.set.below) in
        let sum = ranks-copies p (length others) cut in
        let short = r.short in
        absurd (more_than (length others) (length bases + 1) (rank p E) (rank p cut) (omega arith) (omega arith) (omega arith))
  ]

  pub rank_none : rank p E ≡ 0 → (I : List ℕ) → p I ≡ true → I ≡ []
  rank_none none I ok =
      let most = (rank_is laws E (IsRising-all_below n)).most I ok (inside_all I ok) in
      no_members I (λ x m. both_ways _ (no_member I x (omega arith)) m)

  -- sets that cover B, inside A, have room for it
  room : (A B : List ℕ) (sets : List (List ℕ)) → IsRising A → IsRising B → IsSubset B A → ((i : ℕ) → i < length sets → p (part_at sets i) ≡ true)
      → IsSubset B (family_union sets) → length B ≤ length sets * rank p A
  unfolding family_union
  room A B [] ra rb inside passes cover = let e = ap length (no_members B (λ x m. both_ways false refl (cover.inside x m))) in omega arith
  room A B (s ∷ sets) ra rb inside passes cover =
      let split = length-minus-intersection B s rb in
      let ok = passes 0 (omega arith) in
      let inner = IsRising-intersection B s rb in
      let first = (rank_is laws A ra).most (intersection B s) (laws.subsets (intersection B s) s inner (intersection-right B s) ok) (IsSubset-trans _ _ _ (intersection-left B s) inside) in
      let rest = room A (minus B s) sets ra (IsRising-minus B s rb) (IsSubset-trans _ _ _ (minus-IsSubset B s) inside) (λ i l. passes (suc i) (omega arith)) (others B s (family_union sets) cover) in
      omega arith
    where
      others : (B s rest : List ℕ) → IsSubset B (union s rest) → IsSubset (minus B s) rest
      others B s rest c = record { inside = λ k m. grind (arith, set_members, c.inside k) }

  pub covering_is_least : (sets : List (List ℕ)) (cut : List ℕ) → IsCoverCut n p (length sets) cut → (others : List (List ℕ)) → IsCover n p others → length sets ≤ length others
  covering_is_least sets cut r others c = elim (cases_lt (length others) (length sets)) [
    | inr le ↦ le
    | inl less ↦
        let bound = room cut cut others r.set.rising r.set.rising (record { inside = λ k m. m }) c.passes (record { inside = λ k m. c.all k (below_member r.set m) }) in
        let long = r.long in
        let d : length sets - 1 ≡ length others + ((length sets - 1) - length others) = omega arith in
        absurd (few (length others) ((length sets - 1) - length others) (length sets - 1) (rank p cut) (length cut) d bound long)
  ]
    where
      few : (k j m a x : ℕ) → m ≡ k + j → x ≤ k * a → m * a < x → ⊥
      few k j m a x e h l = let q : m * a ≡ k * a + j * a = ap (λ v. v * a) e ∙ omega arith in omega (arith, q, h, l)

  -- a cover has an independent set that holds the element alone
  pub loop_has_no_cover : (x : ℕ) → IsLoop n p x → (sets : List (List ℕ)) → IsCover n p sets → ⊥
  loop_has_no_cover x loop sets c =
      let w = family_union-gives x sets (c.all x loop.0) in
      let alone : IsSubset (x ∷ []) (part_at sets w.0) = record { inside = λ z m. ap (λ y. is_member y (part_at sets w.0)) (only_member z x m) ∙ w.2 } in
      both_ways _ loop.1 (laws.subsets (x ∷ []) (part_at sets w.0) (record { rises = (omega arith, tt) }) alone (c.passes w.0 w.1))
