-- References to one matroid give copies of its test, and parts that are filled up for them are filled copies.
use Rattle.mat_packing.proofs.Common.{◌≡◌, ◌∙◌, ℕ, ◌+◌, ◌<◌, ◌^◌, Bool, true, List, [], ◌∷◌, length, map, All, refl, sym, ap, subst, arith, both_ways, All-head, All-tail, AreDisjoint, all_below, minus, minus_parts, no_members, IsSet-all_below, IsFilled, part_at, AreParts, AreFilledCopies}
use Rattle.mat_sets.proofs.Steps.{family_union-nil, multiplicity-none}
use Rattle.mat_union.specs.UnionsOf.{AreJoined, common_size}
use Rattle.mat_packing.proofs.Copies.{copies, copy_at, length-copies, ranks-copies}

module _ {R M : Type 0} (now : R → M) (m : M) where
  pub copies_are : (indep : M → List ℕ → Bool) (refs : List R) → All (λ r. now r ≡ m) refs → map (λ r. indep (now r)) refs ≡ copies (indep m) (length refs)
  copies_are indep [] all = refl
  copies_are indep (r ∷ refs) all =
      ap (λ f. f ∷ map (λ r. indep (now r)) refs) (ap indep (All-head (λ r. now r ≡ m) r refs all))
      ∙ ap (λ fs. indep m ∷ fs) (copies_are indep refs (All-tail (λ r. now r ≡ m) r refs all))

  pub common : (size : M → ℕ) (refs : List R) → All (λ r. now r ≡ m) refs → 0 < length refs → common_size (λ r. size (now r)) refs ≡ size m
  common size [] all some = absurd (omega arith)
  common size (r ∷ refs) all some = ap size (All-head (λ r. now r ≡ m) r refs all)

  pub joined : (size : M → ℕ) (sound : M → Type 0) → sound m → (refs : List R) → All (λ r. now r ≡ m) refs → 0 < length refs → length refs < 2 ^ 32
      → AreJoined (λ r. size (now r)) (λ r. sound (now r)) refs
  joined size sound s refs all some few = record {
    some = some;
    few = few;
    each = record { each = λ k d l. (subst sound (sym (all k d l)) s, ap size (all k d l) ∙ sym (common size refs all some)) };
  }

  pub start_parts : (indep : M → List ℕ → Bool) (refs : List R) → All (λ r. now r ≡ m) refs → (parts : List (List ℕ)) → length parts ≡ length refs → AreDisjoint parts
      → ((i : ℕ) → i < length parts → indep m (part_at parts i) ≡ true) → AreParts (map (λ r. indep (now r)) refs) parts
  start_parts indep refs all parts long disjoint passes = subst (λ t. AreParts t parts) (sym (copies_are indep refs all)) (record {
    one_each = long ∙ sym (length-copies (indep m) (length refs));
    disjoint = disjoint;
    passes = λ i l. ap (λ t. t (part_at parts i)) (copy_at (indep m) (length refs) i (omega arith)) ∙ passes i l;
  })

  pub copies_filled : {n : ℕ} (indep : M → List ℕ → Bool) (refs : List R) → All (λ r. now r ≡ m) refs → (count : ℕ) → length refs ≡ count → {old parts : List (List ℕ)} {cut : List ℕ}
      → IsFilled n (map (λ r. indep (now r)) refs) old parts cut → AreFilledCopies n (indep m) count parts cut
  copies_filled {n} indep refs all count long {old} {parts} {cut} h =
      go (subst (λ t. IsFilled n t old parts cut) (copies_are indep refs all ∙ ap (copies (indep m)) long) h)
    where
      go : IsFilled n (copies (indep m) count) old parts cut → AreFilledCopies n (indep m) count parts cut
      go f =
          let size = f.are.one_each ∙ length-copies (indep m) count in
          record {
            long = size;
            disjoint = f.are.disjoint;
            passes = λ i l. ap (λ t. t (part_at parts i)) (sym (copy_at (indep m) count i (omega arith))) ∙ f.are.passes i l;
            set = f.set;
            size = f.count ∙ ap (λ r. length (minus (all_below n) cut) + r) (ranks-copies (indep m) count cut);
          }

-- no copies
pub no_copies : (n : ℕ) (p : List ℕ → Bool) (count : ℕ) (sets : List (List ℕ)) (cut : List ℕ) → count ≡ 0 → length sets ≡ count → cut ≡ all_below n → AreFilledCopies n p count sets cut
no_copies n p count (a ∷ sets) cut e long f = absurd (omega arith)
no_copies n p count [] cut e long f = rw (e, f) (record {
  long = refl;
  disjoint = record { once = λ x. (let m = multiplicity-none x in omega arith) };
  passes = λ i l. absurd (omega arith);
  set = IsSet-all_below n;
  size = (let a = ap length family_union-nil in
      let b = ap length (no_members (minus (all_below n) (all_below n)) (λ x m. let h = minus_parts (all_below n) (all_below n) x m in both_ways _ h.1 h.0)) in
      omega arith);
})
