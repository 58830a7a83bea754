-- A union of unions is the union of all their matroids, by induction on the tree.
use Rattle.mat_any.proofs.Common.{◌≡◌, ℕ, zero, suc, ◌<◌, ◌+◌, ◌^◌, Bool, All, List, [], ◌∷◌, ◌++◌, length, get_or, map, take, refl, sym, ap, ◌∙◌, subst, arith, length-append, get_or-map, length-map, All-append, All-cons, All-nil, All-head, All-tail, AreKeptParts, part_at, union_test, AreParts}
use Rattle.mat_any.proofs.Common.{common_size, AreJoined, IsFlat, trees_in, tree_of, AnyMatroid, Tree, Trees, no_trees, more_trees, flat_of, flat_trees, element_count, first_count, is_independent, tests_of, tree_count, IsSound, AreSoundOn}
use Rattle.mat_any.specs.Trees.{union}
use Rattle.mat_any.proofs.UnionsOfUnions.{alike_append, alike_nested, alike_same, alike_tests, alike_then, DivideAlike}

pub map_append : {A B : Type 0} (f : A → B) (xs ys : List A) → map f (xs ++ ys) ≡ map f xs ++ map f ys
map_append f [] ys = refl
map_append f (x ∷ xs) ys = ap (λ l. f x ∷ l) (map_append f xs ys)

mutual
  all_flat : (n : ℕ) (ts : Trees) → AreSoundOn n ts → All (λ t. IsSound t × (element_count t ≡ n)) (flat_trees ts)
  all_flat n no_trees h = All-nil (λ t. IsSound t × (element_count t ≡ n))
  all_flat n (more_trees t ts) h = All-append (λ t. IsSound t × (element_count t ≡ n)) (flat_of t) (flat_trees ts) (one_flat n t h.0 h.1) (all_flat n ts h.2)

  one_flat : (n : ℕ) (t : Tree) → IsSound t → element_count t ≡ n → All (λ t. IsSound t × (element_count t ≡ n)) (flat_of t)
  one_flat n (union ts) h e = all_flat n ts (subst (λ k. AreSoundOn k ts) e h.2)
  one_flat n t h e = All-cons (λ t. IsSound t × (element_count t ≡ n)) t [] (h, e) (All-nil (λ t. IsSound t × (element_count t ≡ n)))

mutual
  some_flat : (ts : Trees) → 0 < tree_count ts → (n : ℕ) → AreSoundOn n ts → 0 < length (flat_trees ts)
  some_flat no_trees some n h = absurd (omega arith)
  some_flat (more_trees t ts) some n h = (let a = one_some t h.0 in let b = length-append (flat_of t) (flat_trees ts) in omega arith)

  one_some : (t : Tree) → IsSound t → 0 < length (flat_of t)
  one_some (union ts) h = some_flat ts h.0 (first_count ts) h.2
  one_some t h = omega arith

mutual
  divide_flat : (n : ℕ) (ts : Trees) → AreSoundOn n ts → DivideAlike n (tests_of ts) (map is_independent (flat_trees ts))
  divide_flat n no_trees h = alike_same n []
  divide_flat n (more_trees t ts) h =
      subst (DivideAlike n (is_independent t ∷ tests_of ts)) (sym (map_append is_independent (flat_of t) (flat_trees ts)))
      (one_divides n t (tests_of ts) (map is_independent (flat_trees ts)) h.0 h.1 (divide_flat n ts h.2))

  one_divides : (n : ℕ) (t : Tree) (tests flat : List (List ℕ → Bool)) → IsSound t → element_count t ≡ n → DivideAlike n tests flat
      → DivideAlike n (is_independent t ∷ tests) (map is_independent (flat_of t) ++ flat)
  one_divides n (union us) tests flat h e rest =
      alike_then (subst (λ k. DivideAlike n (union_test k (tests_of us) ∷ tests) (tests_of us ++ tests)) (sym e) (alike_nested n (tests_of us) tests))
      (alike_append (tests_of us) (map is_independent (flat_trees us)) tests flat (divide_flat n us (subst (λ k. AreSoundOn k us) e h.2)) rest)
  one_divides n t tests flat h e rest =
      alike_append (is_independent t ∷ []) (is_independent t ∷ []) tests flat (alike_same n (is_independent t ∷ [])) rest

first_size : (n : ℕ) (ts : List Tree) → All (λ t. IsSound t × (element_count t ≡ n)) ts → 0 < length ts → common_size element_count ts ≡ n
first_size n [] all some = absurd (omega arith)
first_size n (t ∷ ts) all some = (All-head (λ t. IsSound t × (element_count t ≡ n)) t ts all).1

pub flat_union : (ts : Trees) → IsSound (union ts) → length (flat_trees ts) < 2 ^ 32 → IsFlat (union ts)
flat_union ts h few =
    let n = first_count ts in
    let some = some_flat ts h.0 n h.2 in
    let all = all_flat n ts h.2 in
    let size = first_size n (flat_trees ts) all some in
    record {
      joined = record { some = some; few = few; each = record { each = subst (λ k. All (λ t. IsSound t × (element_count t ≡ k)) (flat_trees ts)) (sym size) all } };
      size = size;
      test = sym (alike_tests n (tests_of ts) (map is_independent (flat_trees ts)) (divide_flat n ts h.2));
    }

-- ---- lists of matroids that are seen as lists of trees

module _ {M : Type 0} (tree : M → Tree) where
  pub tests_seen : (ms : List M) → map is_independent (map tree ms) ≡ map (λ m. is_independent (tree m)) ms
  tests_seen [] = refl
  tests_seen (m ∷ ms) = ap (λ l. is_independent (tree m) ∷ l) (tests_seen ms)

  pub size_seen : (ms : List M) → common_size element_count (map tree ms) ≡ common_size (λ m. element_count (tree m)) ms
  size_seen [] = refl
  size_seen (m ∷ ms) = refl

  all_seen : (n : ℕ) (ms : List M) → All (λ t. IsSound t × (element_count t ≡ n)) (map tree ms) → All (λ m. IsSound (tree m) × (element_count (tree m) ≡ n)) ms
  all_seen n [] all = All-nil (λ m. IsSound (tree m) × (element_count (tree m) ≡ n))
  all_seen n (m ∷ ms) all =
      let P : Tree → Type 0 = λ t. IsSound t × (element_count t ≡ n) in
      All-cons (λ m. IsSound (tree m) × (element_count (tree m) ≡ n)) m ms (All-head P (tree m) (map tree ms) all) (all_seen n ms (All-tail P (tree m) (map tree ms) all))

  pub joined_seen : (ms : List M) → AreJoined element_count IsSound (map tree ms) → AreJoined (λ m. element_count (tree m)) (λ m. IsSound (tree m)) ms
  joined_seen ms j = record {
    some = (let a = j.some in let b = length-map ms tree in omega arith);
    few = subst (λ k. k < 2 ^ 32) (length-map ms tree) j.few;
    each = record { each = all_seen (common_size (λ m. element_count (tree m)) ms) ms (subst (λ n. All (λ t. IsSound t × (element_count t ≡ n)) (map tree ms)) (size_seen ms) j.each.each) };
  }

  module _ {K : Type 0} (keeps : Tree → List ℕ → K → Type 0) (ms : List M) (I : List ℕ) (parts : List (List ℕ)) (kept : List K) where
    pub kept_seen : AreKeptParts is_independent keeps (map tree ms) I parts kept → AreKeptParts (λ m. is_independent (tree m)) (λ m. keeps (tree m)) ms I parts kept
    kept_seen h = record {
      are = subst (λ tests. AreParts tests parts) (tests_seen ms) h.are;
      together = h.together;
      each = record {
        one_each = h.each.one_each ∙ length-map ms tree;
        each = λ i m k l. subst (λ t. keeps t (part_at parts i) (get_or kept i k)) (get_or-map tree ms i m (tree m) l)
            (h.each.each i (tree m) k (subst (λ n. i < n) (sym (length-map ms tree)) l));
      };
    }

    pub kept_shown : AreKeptParts (λ m. is_independent (tree m)) (λ m. keeps (tree m)) ms I parts kept → AreKeptParts is_independent keeps (map tree ms) I parts kept
    kept_shown h = record {
      are = subst (λ tests. AreParts tests parts) (sym (tests_seen ms)) h.are;
      together = h.together;
      each = record {
        one_each = h.each.one_each ∙ sym (length-map ms tree);
        each = λ i t k l. shown i t k (subst (λ n. i < n) (length-map ms tree) l);
      };
    }
      where
        shown : (i : ℕ) (t : Tree) (k : K) → i < length ms → keeps (get_or (map tree ms) i t) (part_at parts i) (get_or kept i k)
        shown i t k l = place ms i t k l h.each.each
          where
            place : (ms : List M) (i : ℕ) (t : Tree) (k : K) → i < length ms
                → ((i : ℕ) (m : M) (k : K) → i < length ms → keeps (tree (get_or ms i m)) (part_at parts i) (get_or kept i k))
                → keeps (get_or (map tree ms) i t) (part_at parts i) (get_or kept i k)
            place [] i t k l h = absurd (omega arith)
            place (m ∷ ms) i t k l h = subst (λ t. keeps t (part_at parts i) (get_or kept i k)) (sym (get_or-map tree (m ∷ ms) i m t l)) (h i m k l)

-- ---- those of a list one after the other

pub nothing_more : (ts : List Tree) → ts ≡ ts ++ []
nothing_more [] = refl
nothing_more (t ∷ ts) = ap (λ l. t ∷ l) (nothing_more ts)

after_both : (xs ys zs : List Tree) → (xs ++ ys) ++ zs ≡ xs ++ (ys ++ zs)
after_both [] ys zs = refl
after_both (x ∷ xs) ys zs = ap (λ l. x ∷ l) (after_both xs ys zs)

flat_next : (ms : List AnyMatroid) (i : ℕ) (m : AnyMatroid) → i < length ms → m ≡ get_or ms i m
    → flat_trees (trees_in (take (suc i) ms)) ≡ flat_trees (trees_in (take i ms)) ++ flat_of (tree_of m)
flat_next [] i m l e = absurd (omega arith)
flat_next (n ∷ ms) zero m l e = sym (nothing_more (flat_of (tree_of n))) ∙ ap (λ x. flat_of (tree_of x)) (sym e)
flat_next (n ∷ ms) (suc i) m l e =
    ap (λ l. flat_of (tree_of n) ++ l) (flat_next ms i m (omega arith) e)
    ∙ sym (after_both (flat_of (tree_of n)) (flat_trees (trees_in (take i ms))) (flat_of (tree_of m)))

pub flat_more : (old now new : List Tree) (ms : List AnyMatroid) (i : ℕ) (m : AnyMatroid) → i < length ms → m ≡ get_or ms i m
    → now ≡ old ++ flat_trees (trees_in (take i ms)) → new ≡ now ++ flat_of (tree_of m) → new ≡ old ++ flat_trees (trees_in (take (i + 1) ms))
flat_more old now new ms i m l e before one =
    one ∙ ap (λ l. l ++ flat_of (tree_of m)) before ∙ after_both old (flat_trees (trees_in (take i ms))) (flat_of (tree_of m))
    ∙ ap (λ l. old ++ l) (sym (flat_next ms i m l e) ∙ ap (λ k. flat_trees (trees_in (take k ms))) (let k : suc i ≡ i + 1 = omega arith in k))
