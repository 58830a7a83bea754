-- The circuit C + x in I + x is the only one in J + x for each independent J that holds C (Oxley, Proposition 1.1.6): a member y of J outside C
-- leaves C + x in J - y + x, and for y in C the independent C - y + x grows inside C ∪ J to the size of J, and so to J - y + x.
use Rattle.mat_laws.proofs.Common.{◌≡◌, ℕ, Bool, true, false, ◌||◌, List, arith, refl, sym, ap, ◌∙◌, and_from, and_parts, both_ways, false_from_ne_true, true_from_ne_false, is_member, IsRising, IsSubset, with_one, without_one, set_members, is_member-filter, RisesFrom-filter, IsRising-with_one}
use Rattle.mat_laws.proofs.Common.{length-subset, same_size_subset, subsets_equal, length-exchange_one, IsMatroid, row_of}
use Rattle.std.specs.List.{filter}
use Rattle.mat_laws.proofs.Independent.{rising, full_in_larger, grow_to_size}
use Rattle.mat_laws.proofs.Symmetric.{replaceable_by, is_member-replaceable, IsRising-replaceable, replaceable_full, IsRising-exchange}
use Rattle.mat_laws.proofs.Rows.{exchanged, row-addable, row-with, row_outside}

-- ---- steps about members

-- C + x lies in J - y + x for y outside C
circuit_left : (k x y : ℕ) (C J : List ℕ) → is_member k (with_one C x) ≡ true → is_member y C ≡ false
    → (is_member k C ≡ true → is_member k J ≡ true) → is_member k (with_one (without_one J y) x) ≡ true
circuit_left k x y C J m out h = grind (arith, set_members)

-- C - y + x lies in I - y + x
opened_inside : (k x y : ℕ) (C I : List ℕ) → is_member k (with_one (without_one C y) x) ≡ true
    → (is_member k C ≡ true → is_member k I ≡ true) → is_member k (with_one (without_one I y) x) ≡ true
opened_inside k x y C I m h = grind (arith, set_members)

-- a set that holds C - y + x and y holds C + x
circuit_closed : (k x y : ℕ) (C S : List ℕ) → is_member k (with_one C x) ≡ true → is_member y S ≡ true
    → (is_member k (with_one (without_one C y) x) ≡ true → is_member k S ≡ true) → is_member k S ≡ true
circuit_closed k x y C S m y_in h = grind (arith, set_members)

-- what lies in (C - y + x) ∪ J and misses y lies in J - y + x
grown_in_target : (k x y : ℕ) (C J S : List ℕ) → is_member k S ≡ true → is_member y S ≡ false
    → (is_member k (with_one (without_one C y) x) || is_member k J) ≡ true → (is_member k C ≡ true → is_member k J ≡ true)
    → is_member k (with_one (without_one J y) x) ≡ true
grown_in_target k x y C J S m out within h = grind (arith, set_members)

module _ {n : ℕ} {p : List ℕ → Bool} (laws : IsMatroid n p) where
  -- x can be exchanged at J for members of C alone, where C + x is dependent
  exchange_in_circuit : (C J : List ℕ) (x y : ℕ) → IsRising C → IsSubset C J → p (with_one C x) ≡ false
      → p (with_one (without_one J y) x) ≡ true → is_member y C ≡ true
  exchange_in_circuit C J x y r held full ok = true_from_ne_false _ (λ out.
      let sub : IsSubset (with_one C x) (with_one (without_one J y) x) = record { inside = λ k m. circuit_left k x y C J m out (held.inside k) } in
      both_ways _ full (laws.subsets _ _ (IsRising-with_one C x r) sub ok))

  -- and for each member of C that it can be exchanged for at an independent I that holds C
  exchange_kept : (C I J : List ℕ) (x y : ℕ) → p J ≡ true → is_member x J ≡ false → IsRising C → IsSubset C I → IsSubset C J
      → p (with_one C x) ≡ false → is_member y C ≡ true → p (with_one (without_one I y) x) ≡ true → p (with_one (without_one J y) x) ≡ true
  exchange_kept C I J x y j out r in_I held full y_in ok =
      let D = with_one (without_one C y) x in
      let target = with_one (without_one J y) x in
      let rj = rising laws J j in
      let y_in_J : is_member y J ≡ true = held.inside y y_in in
      let x_out : is_member x C ≡ false = let h = held.inside x in grind arith in
      let d : p D ≡ true = laws.subsets D _ (IsRising-exchange C x y r) (record { inside = λ k m. opened_inside k x y C I m (in_I.inside k) }) ok in
      let g = grow_to_size laws D J d j (omega (arith, length-exchange_one C x y r y_in x_out, length-subset C J r rj held)) in
      let S = g.0 in
      let y_out : is_member y S ≡ false = false_from_ne_true _ (λ m.
      let whole : IsSubset (with_one C x) S = record { inside = λ k h. circuit_closed k x y C S h m (g.1.holds.inside k) } in
      both_ways _ full (laws.subsets _ S (IsRising-with_one C x r) whole g.1.passes)) in
      let sub : IsSubset S target = record { inside = λ k m. grown_in_target k x y C J S m y_out (g.1.inside k m) (held.inside k) } in
      let same : S ≡ target = same_size_subset S target (rising laws S g.1.passes) (IsRising-exchange J x y rj) sub
      (omega (arith, length-exchange_one J x y rj y_in_J out, g.1.size)) in
      ap p (sym same) ∙ g.1.passes

  -- the exchanges of x at I, where x cannot be added, are those at each independent J that holds the members of I that x can be exchanged for
  pub row_kept : (I J : List ℕ) (x : ℕ) → p I ≡ true → p J ≡ true → is_member x I ≡ false → is_member x J ≡ false
      → p (with_one I x) ≡ false → IsSubset (row_of p I x).with J → row_of p J x ≡ row_of p I x
  row_kept I J x i j out_I out_J none held =
      row_outside p I x (row_of p J x) out_I (row-addable p J x _ out_J refl ∙ full_in_larger laws C J x rc in_J full ∙ sym none)
      (row-with p J x _ out_J refl ∙ subsets_equal _ _ (rises J j) (rises I i) (record { inside = first }) (record { inside = second }))
    where
      C : List ℕ
      C = replaceable_by p I x

      rc : IsRising C
      rc = IsRising-replaceable p I x (rising laws I i)

      full : p (with_one C x) ≡ false
      full = replaceable_full laws I x i out_I none

      -- the members of the row are those of C
      row_members : (k : ℕ) → is_member k (filter (exchanged p I x) I) ≡ is_member k C
      row_members k = is_member-filter (exchanged p I x) k I ∙ sym (is_member-replaceable p I x k)

      in_I : IsSubset C I
      in_I = record { inside = λ k m. (and_parts (is_member k I) _ (sym (is_member-replaceable p I x k) ∙ m)).0 }

      in_J : IsSubset C J
      in_J = record { inside = λ k m. held.inside k (ap (is_member k) (row-with p I x _ out_I refl) ∙ row_members k ∙ m) }

      rises : (B : List ℕ) → p B ≡ true → IsRising (filter (exchanged p B x) B)
      rises B b = record { rises = RisesFrom-filter _ 0 B (rising laws B b).rises }

      first : (k : ℕ) → is_member k (filter (exchanged p J x) J) ≡ true → is_member k (filter (exchanged p I x) I) ≡ true
      first k m =
          let both = and_parts (is_member k J) _ (sym (is_member-filter (exchanged p J x) k J) ∙ m) in
          row_members k ∙ exchange_in_circuit C J x k rc in_J full both.1

      second : (k : ℕ) → is_member k (filter (exchanged p I x) I) ≡ true → is_member k (filter (exchanged p J x) J) ≡ true
      second k m =
          let c : is_member k C ≡ true = sym (row_members k) ∙ m in
          let both = and_parts (is_member k I) _ (sym (is_member-filter (exchanged p I x) k I) ∙ m) in
          is_member-filter (exchanged p J x) k J
          ∙ and_from (is_member k J) _ (in_J.inside k c) (exchange_kept C I J x k j out_J rc in_I in_J full c both.1)
