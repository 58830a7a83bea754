-- One raise: the last set of the path gets the least cost that is left at the arcs that enter it. What was nested stays nested, since only arcs
-- without a time get one, and a later one than that of each listed set.
use Rattle.mat_cuts.proofs.Common.{◌≡◌, ℕ, suc, ◌+◌, ◌<◌, ◌≤◌, ◌⊎◌, true, List, [], ◌∷◌, ◌++◌, length, inl, inr, ◌∙◌, subst, arith, ℤ, pos, ◌+ℤ◌, ◌≤ℤ◌, ◌<ℤ◌, length-append, cases_Bool, cases_lt, ints, never, ends_of, enters, IsRootFree, is_member, cost_at, weight_on, weight_where, IsWeightedCut, at}
use Rattle.mat_cuts.proofs.Common.{AreNested, IsLowered, IsNested, IsRaised, Leads, CutWeight, AllByRecursion-push}
use Rattle.mat_cuts.proofs.Paths.{Leads-later}

pub weight_on-push : (ends : ℕ → ℕ × ℕ) (cuts : List CutWeight) (c : CutWeight) (a : ℕ)
    → weight_on ends (cuts ++ c ∷ []) a ≡ weight_on ends cuts a +ℤ weight_where (enters ends c.set a) c.weight
weight_on-push ends [] c a = omega (arith, ints)
weight_on-push ends (d ∷ cuts) c a = omega (arith, ints, weight_on-push ends cuts c a)

module _ (count : ℕ) (ends : ℕ → ℕ × ℕ) where
  nested-push : (since : List ℕ) (i : ℕ) (cuts : List CutWeight) (c : CutWeight) → AreNested count ends since i cuts
      → IsNested count ends since (i + length cuts) c.set → AreNested count ends since i (cuts ++ c ∷ [])
  nested-push since i [] c n one = (subst (λ k. IsNested count ends since k c.set) (omega arith) one, tt)
  nested-push since i (d ∷ cuts) c n one =
      (n.0, nested-push since (suc i) cuts c n.1 (subst (λ k. IsNested count ends since k c.set) (omega arith) one))

  -- times change only where there was none up to `now`, to the next one
  pub record IsLater (since later : List ℕ) (now : ℕ) : Type 0 where
    pub each : (a : ℕ) → a < count → (at later a ≡ at since a) ⊎ ((at later a ≡ suc now) × (now < at since a))

  pub early-later : (since later : List ℕ) (now i : ℕ) → IsLater since later now → i ≤ now → (a : ℕ) → a < count → at since a ≤ i
      → at later a ≤ i
  early-later since later now i l le a la early = elim (l.each a la) [
    | inl same ↦ omega arith
    | inr new ↦ absurd (let k = new.1 in omega arith)
  ]

  pub soon-later : (since later : List ℕ) (now : ℕ) → IsLater since later now → (a : ℕ) → a < count → at since a ≤ now
      → at later a ≤ suc now
  soon-later since later now l a la early = elim (l.each a la) [
    | inl same ↦ omega arith
    | inr new ↦ (let e = new.0 in omega arith)
  ]

  nested-one : (since later : List ℕ) (now i : ℕ) (part : List ℕ) → IsLater since later now → i ≤ now → IsNested count ends since i part
      → IsNested count ends later i part
  nested-one since later now i part l le n = record {
    late = λ a la e. let k = n.late a la e in elim (l.each a la) [
      | inl same ↦ omega arith
      | inr new ↦ (let h = new.0 in omega arith)
    ];
    joined = λ x y mx my. Leads-later count ends since i later i x y (early-later since later now i l le) (n.joined x y mx my);
  }

  nested-later : (since later : List ℕ) (now i : ℕ) (cuts : List CutWeight) → IsLater since later now → i + length cuts ≤ suc now
      → AreNested count ends since i cuts → AreNested count ends later i cuts
  nested-later since later now i [] l le n = tt
  nested-later since later now i (c ∷ cuts) l le n =
      (nested-one since later now i c.set l (omega arith) n.0, nested-later since later now (suc i) cuts l (omega arith) n.1)

module _ (vertices : ℕ) (arcs : List (ℕ × ℕ)) (costs : List ℤ) (root : ℕ) where
  -- an arc that enters the set had no time
  untimed : (reduced : List ℤ) (since : List ℕ) (cuts : List CutWeight) (a : ℕ) → IsRaised vertices arcs costs root reduced since cuts
      → length cuts < never → a < length arcs → pos 0 <ℤ cost_at reduced a → length cuts < at since a
  untimed reduced since cuts a r few la some = elim (cases_lt (length cuts) (at since a)) [
    | inl l ↦ l
    | inr early ↦ (let z = r.spent a la (omega arith) in absurd (omega (arith, ints)))
  ]

  pub IsLater-raise : (reduced left : List ℤ) (since later : List ℕ) (cuts : List CutWeight) (part : List ℕ) (least : ℤ)
      → IsRaised vertices arcs costs root reduced since cuts → length cuts < never → pos 0 <ℤ least
      → ((a : ℕ) → a < length arcs → enters (ends_of arcs) part a ≡ true → least ≤ℤ cost_at reduced a)
      → IsLowered (length arcs) (enters (ends_of arcs) part) least (suc (length cuts)) reduced left since later
      → IsLater (length arcs) (ends_of arcs) since later (length cuts)
  IsLater-raise reduced left since later cuts part least r few some all l = record {
    each = λ a la. elim (l.later_is a la) [
      | inl same ↦ inl same.0
      | inr new ↦ (let p = all a la new.1.0 in inr (new.0, untimed reduced since cuts a r few la (omega (arith, ints))))
    ];
  }

  pub IsRaised-raise : (reduced left : List ℤ) (since later : List ℕ) (cuts : List CutWeight) (c : CutWeight)
      → IsRaised vertices arcs costs root reduced since cuts → length cuts + 1 < never → pos 0 <ℤ c.weight
      → IsRootFree vertices root c.set
      → ((x y : ℕ) → is_member x c.set ≡ true → is_member y c.set ≡ true → Leads (length arcs) (ends_of arcs) since (length cuts) x y)
      → ((a : ℕ) → a < length arcs → enters (ends_of arcs) c.set a ≡ true → c.weight ≤ℤ cost_at reduced a)
      → IsLowered (length arcs) (enters (ends_of arcs) c.set) c.weight (suc (length cuts)) reduced left since later
      → IsRaised vertices arcs costs root left later (cuts ++ c ∷ [])
  IsRaised-raise reduced left since later cuts c r few some free joined all l =
      let count = length arcs in
      let ends = ends_of arcs in
      let changes = IsLater-raise reduced left since later cuts c.set c.weight r (omega arith) some all l in
      let longer : length (cuts ++ c ∷ []) ≡ length cuts + 1 = length-append cuts (c ∷ []) in
      record {
        reduced_long = l.left_long ∙ r.reduced_long;
        since_long = l.later_long ∙ r.since_long;
        paid = λ a la. omega (arith, ints, r.paid a la, l.left_is a la, weight_on-push ends cuts c a);
        low = λ a la. let e = l.left_is a la in elim (cases_Bool (enters ends c.set a)) [
          | inl comes ↦ (let full : weight_where (enters ends c.set a) c.weight ≡ c.weight = rw comes in let m = all a la comes in omega (arith, ints))
          | inr not_comes ↦ (let none : weight_where (enters ends c.set a) c.weight ≡ pos 0 = rw not_comes in let m = r.low a la in omega (arith, ints))
        ];
        high = λ a la. let e = l.left_is a la in let m = r.high a la in elim (cases_Bool (enters ends c.set a)) [
          | inl comes ↦ (let full : weight_where (enters ends c.set a) c.weight ≡ c.weight = rw comes in omega (arith, ints))
          | inr not_comes ↦ (let none : weight_where (enters ends c.set a) c.weight ≡ pos 0 = rw not_comes in omega (arith, ints))
        ];
        spent = λ a la timed. elim (l.later_is a la) [
          | inr new ↦ new.1.1
          | inl same ↦ (let t = same.0 in let z = r.spent a la (omega arith) in let e = l.left_is a la in
              elim (cases_Bool (enters ends c.set a)) [
                | inl comes ↦ (let m = all a la comes in absurd (omega (arith, ints)))
                | inr not_comes ↦ (let none : weight_where (enters ends c.set a) c.weight ≡ pos 0 = rw not_comes in omega (arith, ints))
              ])
        ];
        soon = λ a la zero_left. elim (l.later_is a la) [
          | inr new ↦ (let t = new.0 in omega arith)
          | inl same ↦ (let t = same.0 in let e = l.left_is a la in elim (cases_Bool (enters ends c.set a)) [
            | inl comes ↦ absurd (same.1 comes zero_left)
            | inr not_comes ↦ (let none : weight_where (enters ends c.set a) c.weight ≡ pos 0 = rw not_comes in
                let was : cost_at reduced a ≡ pos 0 = omega (arith, ints) in
                let s = r.soon a la was in omega arith)
          ])
        ];
        each = AllByRecursion-push (IsWeightedCut vertices root) cuts c r.each (record { root_free = free; positive = some });
        nested = nested-push count ends later 0 cuts c
            (nested-later count ends since later (length cuts) 0 cuts changes (omega arith) r.nested)
            (record {
              late = λ a la comes. let m = all a la comes in let u = untimed reduced since cuts a r (omega arith) la (omega (arith, ints)) in
                  elim (changes.each a la) [
                    | inl same ↦ omega arith
                    | inr new ↦ (let t = new.0 in omega arith)
                  ];
              joined = λ x y mx my. Leads-later count ends since (length cuts) later (0 + length cuts) x y
                  (λ a la early. let k = early-later count ends since later (length cuts) (length cuts) changes (omega arith) a la early in omega arith) (joined x y mx my);
            });
      }
