-- A list of matroids by its places: each is sound, has its test and its law, and keeps what is right for its part.
use Rattle.mat_union.proofs.Common.{◌≡◌, ℕ, ◌+◌, ◌<◌, ◌≤◌, Bool, true, false, List, [], ◌∷◌, ◌++◌, length, get_or, map, set, inl, inr, refl, sym, ap, ◌∙◌, subst, arith, length-append, cases_eq, get_or-map, get_or-set_other, get_or-set_same, get_or_append_left, get_or_default, length-map, length-set}
use Rattle.mat_union.proofs.Common.{All-get_or, IsMatroid, AreKept, AreSound, part_at, test_at, AreMatroids, AreParts, common_size, AreJoined}
use Rattle.std.proofs.Math.Seq.{get_or-append_seam}

-- a slice of the joined matroids has sound ones on the number of elements that is told
pub sound_slice : {M : Type 0} (size : M → ℕ) (sound : M → Type 0) {slice matroids : List M} {n : ℕ} → slice ≡ matroids → n ≡ common_size size matroids
    → AreJoined size sound matroids → AreSound size sound n slice
sound_slice size sound {slice} {matroids} {n} e f joined = subst (AreSound size sound n) (sym e) (subst (λ k. AreSound size sound k matroids) (sym f) joined.each)

module _ {M : Type 0} (size : M → ℕ) (sound : M → Type 0) (n : ℕ) (matroids : List M) (all : AreSound size sound n matroids) where
  pub sound_at : (i : ℕ) (m : M) → i < length matroids → m ≡ get_or matroids i m → sound m × (size m ≡ n)
  sound_at i m l e = subst (λ x. sound x × (size x ≡ n)) (sym e) (All-get_or (λ x. sound x × (size x ≡ n)) matroids i m l all.each)

module _ {M : Type 0} (indep : M → List ℕ → Bool) (matroids : List M) where
  pub test_is : (i : ℕ) (m : M) → i < length matroids → m ≡ get_or matroids i m → test_at (map indep matroids) i ≡ indep m
  test_is i m l e = get_or-map indep matroids i m (λ X. false) l ∙ ap indep (sym e)

  -- the laws of the first i matroids
  pub laws_more : (n i : ℕ) (m : M) → i < length matroids → m ≡ get_or matroids i m → ((j : ℕ) → j < i → IsMatroid n (test_at (map indep matroids) j))
      → IsMatroid n (indep m) → (j : ℕ) → j < i + 1 → IsMatroid n (test_at (map indep matroids) j)
  laws_more n i m l e before law j h = elim (cases_eq j i) [
    | inl d ↦ subst (λ k. IsMatroid n (test_at (map indep matroids) k)) (sym d) (subst (IsMatroid n) (sym (test_is i m l e)) law)
    | inr d ↦ before j (omega arith)
  ]

  pub laws_end : (n i : ℕ) → length matroids ≤ i → ((j : ℕ) → j < i → IsMatroid n (test_at (map indep matroids) j)) → AreMatroids n (map indep matroids)
  laws_end n i g before = record { each = λ j l. before j (let e = length-map matroids indep in omega arith) }

  -- a part is independent in its matroid
  pub part_passes : (parts : List (List ℕ)) → AreParts (map indep matroids) parts → (i : ℕ) (m : M) (part : List ℕ) → i < length matroids → m ≡ get_or matroids i m → part ≡ part_at parts i
      → indep m part ≡ true
  part_passes parts are i m part l e p = ap (λ t. t part) (sym (test_is i m l e)) ∙ ap (test_at (map indep matroids) i) p
      ∙ are.passes i (let a = are.one_each in let b = length-map matroids indep in omega arith)

  pub parts_count : (parts : List (List ℕ)) → AreParts (map indep matroids) parts → length parts ≡ length matroids
  parts_count parts are = are.one_each ∙ length-map matroids indep

module _ {M K : Type 0} (keeps : M → List ℕ → K → Type 0) (matroids : List M) (parts : List (List ℕ)) where
  pub kept_at : (kept : List K) → AreKept keeps matroids parts kept → (i : ℕ) (m : M) (part : List ℕ) (k : K) → i < length matroids → m ≡ get_or matroids i m → part ≡ part_at parts i
      → k ≡ get_or kept i k → keeps m part k
  kept_at kept all i m part k l e p q = three m (get_or matroids i m) part (part_at parts i) k (get_or kept i k) e p q (all.each i m k l)
    where
      three : (m m' : M) (p p' : List ℕ) (k k' : K) → m ≡ m' → p ≡ p' → k ≡ k' → keeps m' p' k' → keeps m p k
      three m m' p p' k k' a b c h = rw (a, b, c) h

  -- what the first i keep
  pub record AreKeptSo (i : ℕ) (kept : List K) : Type 0 where
    pub long : length kept ≡ i
    pub each : (j : ℕ) (m : M) (k : K) → j < i → keeps (get_or matroids j m) (part_at parts j) (get_or kept j k)

  pub kept_none : (kept : List K) → kept ≡ [] → AreKeptSo 0 kept
  kept_none kept e = rw e (record { long = refl; each = λ j m k l. absurd (omega arith) })

  pub kept_more : (i : ℕ) (kept : List K) (m : M) (part : List ℕ) (k : K) → AreKeptSo i kept → i < length matroids → m ≡ get_or matroids i m → part ≡ part_at parts i → keeps m part k
      → AreKeptSo (i + 1) (kept ++ k ∷ [])
  kept_more i kept m part k all l e p h = record {
    long = (let a = length-append kept (k ∷ []) in let b = all.long in omega arith);
    each = λ j d f g. elim (cases_eq j i) [
      | inl q ↦ last j q d f
      | inr q ↦ (let less : j < i = omega arith in subst (keeps (get_or matroids j d) (part_at parts j)) (sym (get_or_append_left kept (k ∷ []) f j (let b = all.long in omega arith))) (all.each j d f less))
    ];
  }
    where
      here : (d : M) (f : K) → keeps (get_or matroids i d) (part_at parts i) (get_or (kept ++ k ∷ []) i f)
      here d f =
          let a : get_or matroids i d ≡ m = sym (e ∙ get_or_default matroids i m d l) in
          let b : get_or (kept ++ k ∷ []) i f ≡ k = ap (λ c. get_or (kept ++ k ∷ []) c f) (sym all.long) ∙ get_or-append_seam kept k [] f in
          rw (a, b) (subst (λ x. keeps m x k) p h)

      last : (j : ℕ) → j ≡ i → (d : M) (f : K) → keeps (get_or matroids j d) (part_at parts j) (get_or (kept ++ k ∷ []) j f)
      last j q d f = subst (λ c. keeps (get_or matroids c d) (part_at parts c) (get_or (kept ++ k ∷ []) c f)) (sym q) (here d f)

  pub kept_end : (i : ℕ) (kept : List K) → length matroids ≡ i → AreKeptSo i kept → AreKept keeps matroids parts kept
  kept_end i kept e all = record { one_each = all.long ∙ sym e; each = λ j m k l. all.each j m k (omega arith) }

-- ---- what is kept anew where the parts change

module _ {M K : Type 0} (keeps : M → List ℕ → K → Type 0) (matroids : List M) (old new : List (List ℕ)) where
  -- the first i keep what is right for their new parts, and the others what was right for the old ones
  pub record AreKeptAnew (i : ℕ) (kept : List K) : Type 0 where
    pub long : length kept ≡ length matroids
    pub anew : (j : ℕ) (m : M) (k : K) → j < i → j < length matroids → keeps (get_or matroids j m) (part_at new j) (get_or kept j k)
    pub left : (j : ℕ) (m : M) (k : K) → i ≤ j → j < length matroids → keeps (get_or matroids j m) (part_at old j) (get_or kept j k)

  -- a part that did not change
  pub anew_same : (i : ℕ) (kept : List K) (a b : List ℕ) → AreKeptAnew i kept → a ≡ part_at new i → b ≡ part_at old i → a ≡ b → AreKeptAnew (i + 1) kept
  anew_same i kept a b all n o e = record {
    long = all.long;
    anew = λ j m k l h. elim (cases_eq j i) [
      | inl q ↦ (let same : part_at old j ≡ part_at new j = ap (part_at old) q ∙ sym o ∙ sym e ∙ n ∙ ap (part_at new) (sym q) in
          subst (λ P. keeps (get_or matroids j m) P (get_or kept j k)) same (all.left j m k (omega arith) h))
      | inr q ↦ all.anew j m k (omega arith) h
    ];
    left = λ j m k l h. all.left j m k (omega arith) h;
  }

  -- a part that is kept anew
  pub anew_set : (i : ℕ) (kept : List K) (m : M) (part : List ℕ) (k : K) → AreKeptAnew i kept → i < length matroids → m ≡ get_or matroids i m → part ≡ part_at new i → keeps m part k
      → AreKeptAnew (i + 1) (set kept i k)
  anew_set i kept m part k all l e p h = record {
    long = length-set kept i k ∙ all.long;
    anew = λ j d f q b. elim (cases_eq j i) [
      | inl w ↦ last j w d f
      | inr w ↦ (let less : j < i = omega arith in subst (keeps (get_or matroids j d) (part_at new j)) (sym (get_or-set_other kept i j k f w)) (all.anew j d f less b))
    ];
    left = λ j d f q b. subst (keeps (get_or matroids j d) (part_at old j)) (sym (get_or-set_other kept i j k f (λ w. let r : ⊥ = omega arith in r))) (all.left j d f (omega arith) b);
  }
    where
      here : (d : M) (f : K) → keeps (get_or matroids i d) (part_at new i) (get_or (set kept i k) i f)
      here d f =
          let a : get_or matroids i d ≡ m = sym (e ∙ get_or_default matroids i m d l) in
          let b : get_or (set kept i k) i f ≡ k = get_or-set_same kept i k f (let n = all.long in omega arith) in
          rw (a, b) (subst (λ x. keeps m x k) p h)

      last : (j : ℕ) → j ≡ i → (d : M) (f : K) → keeps (get_or matroids j d) (part_at new j) (get_or (set kept i k) j f)
      last j w d f = subst (λ c. keeps (get_or matroids c d) (part_at new c) (get_or (set kept i k) c f)) (sym w) (here d f)
