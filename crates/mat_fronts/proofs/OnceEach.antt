-- At most one element of each label: the matroid, in words; and its rank is at least the number of labels.
use Rattle.mat_fronts.proofs.Common.{◌≡◌, ◌≢◌, ℕ, ◌+◌, ◌<◌, ◌≤◌, true, false, eqb, List, length, get_or, take, ◌⊎◌, inl, inr, refl, sym, ap, ◌∙◌, arith, eqb-true, eq-eqb, both_ways, false_from_ne_true, or_cases, or_left, or_right, is_member, IsRising, IsSet, with_one, IsSet-with_one, below_member}
use Rattle.mat_fronts.proofs.Common.{is_member-with_one, find_member, rank, maximal_in, rank-maximal, AreApart, caps_by, classes_by, one_each, length-covered, AreLabelsOf, is_once}
use Rattle.mat_sets.proofs.Steps.{is_member-take_more}
use Rattle.mat_laws.specs.Matroids.{IsMatroid, IsMaximal}
use Rattle.mat_count.specs.PartitionLaws.{partition_laws}
use Rattle.mat_count.proofs.LabelClasses.{IsPartition-classes_by, length-caps_by, labelled_apart, labelled_from, labelled_set}

pub once_laws : (n k : ℕ) (label : ℕ → ℕ) → IsMatroid n (is_once n k label)
once_laws n k label =
    partition_laws n (classes_by n k label) (caps_by k one_each) (IsPartition-classes_by n k label (caps_by k one_each) (length-caps_by k one_each))

module _ (n k : ℕ) (label : ℕ → ℕ) (below : (e : ℕ) → e < n → label e < k) where
  pub once_apart : (X : List ℕ) → is_once n k label X ≡ true → AreApart label X
  once_apart X h = record {
    apart = λ e f m o same. labelled_apart n k label one_each X h e f m o
        (below e (below_member (labelled_set n k label one_each X h) m)) (omega arith) same;
  }

  pub once_set : (X : List ℕ) → is_once n k label X ≡ true → IsSet n X
  once_set X h = labelled_set n k label one_each X h

  pub once_from : (X : List ℕ) → IsSet n X → AreApart label X → is_once n k label X ≡ true
  once_from X s apart = labelled_from n k label one_each X s apart (λ e m l. omega arith)

  -- one more element, with a new label
  once_more : (B : List ℕ) (e : ℕ) → is_once n k label B ≡ true → e < n → ((f : ℕ) → is_member f B ≡ true → label f ≢ label e)
      → is_once n k label (with_one B e) ≡ true
  once_more B e h small new = once_from (with_one B e) (IsSet-with_one n B e (once_set B h) small) (record {
    apart = λ a b m o same. elim (parts a m) [
      | inl p ↦ elim (parts b o) [
        | inl q ↦ p ∙ sym q
        | inr q ↦ absurd (new b q (sym same ∙ ap label p))
      ]
      | inr p ↦ elim (parts b o) [
        | inl q ↦ absurd (new a p (same ∙ ap label q))
        | inr q ↦ (once_apart B h).apart a b p q same
      ]
    ];
  })
    where
      parts : (a : ℕ) → is_member a (with_one B e) ≡ true → (a ≡ e) ⊎ (is_member a B ≡ true)
      parts a m = elim (or_cases (eqb a e) (is_member a B) (sym (is_member-with_one a e B) ∙ m)) [ inl p ↦ inl (eqb-true a e p) | inr p ↦ inr p ]

  -- the labels of a set are no more than its rank: a largest independent subset has them all
  pub length-labels : (A C : List ℕ) → IsSet n A → IsRising C → AreLabelsOf label A C → length C ≤ rank (is_once n k label) A
  length-labels A C s r labels =
      let laws = once_laws n k label in
      let b = maximal_in laws A s.rising in
      omega (
        arith,
        rank-maximal laws A b.0 s.rising b.1,
        length-covered label b.0 C r (λ c m. found b.0 b.1 c (labels.given c m)),
      )
    where
      found : (B : List ℕ) → IsMaximal (is_once n k label) A B → (c : ℕ) → (e : ℕ) × (is_member e A ≡ true) × (label e ≡ c)
          → (x : ℕ) × (is_member x B ≡ true) × (label x ≡ c)
      found B max c w = elim (find_member (λ f. eqb (label f) c) B) [
        | inl f ↦ (f.0, f.1, eqb-true (label f.0) c f.2)
        | inr none ↦
            let other : (f : ℕ) → is_member f B ≡ true → label f ≢ label w.0 = λ f m same. both_ways _ (none f m) (eq-eqb (label f) c (same ∙ w.2)) in
            let out : is_member w.0 B ≡ false = false_from_ne_true _ (λ m. other w.0 m refl) in
            absurd (both_ways _ (max.full w.0 w.1 out) (once_more B w.0 max.passes (below_member s w.1) other))
      ]

-- ---- labels gathered one by one

pub labels_more : (label : ℕ → ℕ) (xs : List ℕ) (i : ℕ) (C : List ℕ) → i < length xs → AreLabelsOf label (take i xs) C
    → AreLabelsOf label (take (i + 1) xs) (with_one C (label (get_or xs i 0)))
labels_more label xs i C l now = record {
  given = λ c m. elim (or_cases (eqb c (label x)) (is_member c C) (sym (is_member-with_one c (label x) C) ∙ m)) [
    | inl same ↦ (x, is_member-take_more xs i x l ∙ or_right (is_member x (take i xs)) (eqb x x) (eq-eqb x x refl), sym (eqb-true c (label x) same))
    | inr h ↦ (let w = now.given c h in (w.0, is_member-take_more xs i w.0 l ∙ or_left (is_member w.0 (take i xs)) (eqb w.0 x) w.1, w.2))
  ];
  held = λ e m. is_member-with_one (label e) (label x) C ∙ elim (or_cases (is_member e (take i xs)) (eqb e x) (sym (is_member-take_more xs i e l) ∙ m)) [
    | inl h ↦ or_right (eqb (label e) (label x)) (is_member (label e) C) (now.held e h)
    | inr same ↦ or_left (eqb (label e) (label x)) (is_member (label e) C) (eq-eqb _ _ (ap label (eqb-true e x same)))
  ];
}
  where
    x : ℕ
    x = get_or xs i 0
