-- How many disjoint bases there are: where filled copies are not all bases, their cut allows fewer; where they are, they are most.
use Rattle.mat_packing.proofs.Common.{◌≡◌, ◌≢◌, ◌∙◌, ℕ, zero, suc, ◌+◌, ◌-◌, ◌*◌, ◌/◌, ◌<◌, ◌≤◌, Bool, true, List, [], ◌∷◌, length, inl, inr, sym, ap, subst, arith, cases_lt, false_from_ne_true, false≢true, family_union, all_below, minus, with_one, IsRising, IsSet, length-union-intersection}
use Rattle.mat_packing.proofs.Common.{length-with_one, no_members, IsRising-family_union, length-complement, IsSet-nil, IsRising-nil, IsBase, IsMatroid, rank, rising, rank_is, length-independent, part_at, AreFilledCopies, AreBases, IsRightPacking, IsRoom}
use Rattle.std.proofs.Math.Nat.{le-div_iff_mul-le}

-- ---- numbers

pub room_of : (outside need : ℕ) → 0 < need → IsRoom outside need (outside / need)
room_of outside need some = record {
  fits = (le-div_iff_mul-le some).0 (omega arith);
  no_more = elim (cases_lt outside ((outside / need + 1) * need)) [
    | inl less ↦ less
    | inr le ↦ (let more = (le-div_iff_mul-le some).1 le in absurd (omega arith))
  ];
}

pub fewer_rooms : (outside need count many : ℕ) → IsRoom outside need count → outside < many * need → count < many
fewer_rooms outside need count many r l = elim (cases_lt count many) [
  | inl less ↦ less
  | inr le ↦ (let e : count ≡ many + (count - many) = omega arith in
      let f : count * need ≡ many * need + (count - many) * need = ap (λ k. k * need) e ∙ omega arith in
      let fits = r.fits in
      absurd (omega arith))
]

-- what is left of a product
pub short_by : (outside within full count : ℕ) → outside + count * within < count * full → (within < full) × (outside < count * (full - within))
short_by outside within full count l = elim (cases_lt within full) [
  | inl less ↦ (less, go (full - within) (omega arith))
  | inr le ↦ absurd (stuck (within - full) (omega arith))
]
  where
    go : (d : ℕ) → full ≡ within + d → outside < count * d
    go d e = let f : count * full ≡ count * within + count * d = ap (λ k. count * k) e ∙ omega arith in omega arith

    stuck : (d : ℕ) → within ≡ full + d → ⊥
    stuck d e = let f : count * within ≡ count * full + count * d = ap (λ k. count * k) e ∙ omega arith in omega arith

-- ---- sizes of unions

-- rising sets of at most r members
pub record AreAtMost (r : ℕ) (sets : List (List ℕ)) : Type 0 where
  pub rise : (i : ℕ) → i < length sets → IsRising (part_at sets i)
  pub most : (i : ℕ) → i < length sets → length (part_at sets i) ≤ r

at_most_tail : (r : ℕ) (a : List ℕ) (sets : List (List ℕ)) → AreAtMost r (a ∷ sets) → AreAtMost r sets
at_most_tail r a sets m = record { rise = λ i l. m.rise (suc i) (omega arith); most = λ i l. m.most (suc i) (omega arith) }

pub union_at_most : (r : ℕ) (sets : List (List ℕ)) → AreAtMost r sets → length (family_union sets) ≤ length sets * r
unfolding family_union
union_at_most r [] m = omega arith
union_at_most r (a ∷ sets) m =
    let both = length-union-intersection a (family_union sets) (m.rise 0 (omega arith)) (IsRising-family_union sets) in
    let first = m.most 0 (omega arith) in
    let rest = union_at_most r sets (at_most_tail r a sets m) in
    omega arith

pub union_short : (r : ℕ) (sets : List (List ℕ)) → AreAtMost r sets → (j : ℕ) → j < length sets → length (part_at sets j) < r → length (family_union sets) < length sets * r
unfolding family_union
union_short r [] m j l s = absurd (omega arith)
union_short r (a ∷ sets) m zero l s =
    let both = length-union-intersection a (family_union sets) (m.rise 0 (omega arith)) (IsRising-family_union sets) in
    let rest = union_at_most r sets (at_most_tail r a sets m) in
    omega arith
union_short r (a ∷ sets) m (suc j) l s =
    let both = length-union-intersection a (family_union sets) (m.rise 0 (omega arith)) (IsRising-family_union sets) in
    let first = m.most 0 (omega arith) in
    let rest = union_short r sets (at_most_tail r a sets m) j (omega arith) s in
    omega arith

-- ---- bases

module _ {n : ℕ} {p : List ℕ → Bool} (laws : IsMatroid n p) where
  abbrev E : List ℕ
  E = all_below n

  pub full_base : (B : List ℕ) → p B ≡ true → length B ≡ rank p E → IsBase n p B
  full_base B ok size = record {
    passes = ok;
    full = λ x l o. false_from_ne_true _ (λ h. let more = length-with_one B x (rising laws B ok) o in let most = length-independent laws (with_one B x) h in omega arith);
  }

  pub rank-nil : rank p [] ≡ 0
  rank-nil =
      let r = rank_is laws [] IsRising-nil in
      let none = no_members r.largest (λ x m. false≢true (r.inside.inside x m)) in
      sym r.size ∙ ap length none

  -- the first number of copies
  pub first_room : (r count : ℕ) (cut : List ℕ) → r ≡ rank p E → 0 < r → count ≡ n / r → cut ≡ [] → length (minus E cut) < (count + 1) * (rank p E - rank p cut)
  first_room r count cut e some f g =
      let whole = length-complement n [] IsRising-nil (IsSet-nil n).below in
      let a : length (minus E cut) ≡ n = ap (λ c. length (minus E c)) g ∙ omega (arith, whole) in
      let b : rank p E - rank p cut ≡ r = ap (λ c. rank p E - rank p c) g ∙ (let z = rank-nil in omega arith) in
      let room = (room_of n r some).no_more in
      let c : (count + 1) * (rank p E - rank p cut) ≡ (n / r + 1) * r = ap (λ k. (k + 1) * (rank p E - rank p cut)) f ∙ ap (λ k. (n / r + 1) * k) b in
      omega arith

  module _ {count : ℕ} {sets : List (List ℕ)} {cut : List ℕ} (f : AreFilledCopies n p count sets cut) where
    at_most : AreAtMost (rank p E) sets
    at_most = record { rise = λ i l. rising laws (part_at sets i) (f.passes i l); most = λ i l. length-independent laws (part_at sets i) (f.passes i l) }

    -- where some set is no base
    pub cut_short : (i : ℕ) → i < length sets → length (part_at sets i) ≢ rank p E → (rank p cut < rank p E) × (length (minus E cut) < count * (rank p E - rank p cut))
    cut_short i l other =
        let less = union_short (rank p E) sets at_most i l (let m = length-independent laws (part_at sets i) (f.passes i l) in omega arith) in
        let same : length sets * rank p E ≡ count * rank p E = ap (λ k. k * rank p E) f.long in
        let size = f.size in
        short_by (length (minus E cut)) (rank p cut) (rank p E) count (omega arith)

    pub bases_of : ((i : ℕ) → i < length sets → length (part_at sets i) ≡ rank p E) → AreBases n p sets
    bases_of full = record { disjoint = f.disjoint; each = λ i l. full_base (part_at sets i) (f.passes i l) (full i l) }

    pub right_packing : (A : List ℕ) → ((i : ℕ) → i < length sets → length (part_at sets i) ≡ rank p E) → IsSet n A → length (minus E A) < (count + 1) * (rank p E - rank p A) → IsRightPacking n p sets A
    right_packing A full s short = record { are = bases_of full; set = s; short = subst (λ k. length (minus E A) < (k + 1) * (rank p E - rank p A)) (sym f.long) short }
