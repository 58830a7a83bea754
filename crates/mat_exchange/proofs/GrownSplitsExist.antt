-- Every split can grow until a search has no slack: by the least slack of the reached set, which lets one element more in, or makes one of its
-- elements a sink.
use Rattle.mat_exchange.proofs.Common.{◌≡◌, ℕ, suc, zero, ◌+◌, ◌<◌, true, false, List, length, ◌⊎◌, inl, inr, refl, subst, arith, cases_Bool, both_ways, false_from_ne_true, ints, largest_weight, is_member, with_one, without_one, all_below, some_below, zero_weight, ◌⊕◌, ◌⊖◌, IsWeightWithin, Weight}
use Rattle.mat_exchange.proofs.Common.{length-with_one, below_member, IsSet-length, pairs, Exchanges, is_heaviest_addable, IsSlack, IsLeastSlack, lowered, raised, NoExchangeGains, IsGrownSplit, IsEntry, sum_at, IsAdditionSlack, IsLeast, heaviest_addable_gives, heaviest_addable_from}
use Rattle.mat_sets.proofs.Search.{some_below_gives, some_below_none}
use Rattle.mat_laws.specs.Slacks.IsSlack.{first_addition, first_exchange, second_exchange, second_addition}
use Rattle.mat_exchange.specs.Growing.IsEntry.{as_source, from_member, from_other}
use Rattle.mat_exchange.proofs.CutsWithoutSlack.{some_heaviest_addable}
use Rattle.mat_exchange.proofs.LeastSlacks.{least_slack_or_none}
use Rattle.mat_exchange.proofs.Growing.{AreExchangesOn, IsGrowing, root_below, in_others, others_below, others_outside, growing_start}
use Rattle.mat_exchange.proofs.Growing.{ends_without_source, grown_by_sink, grown_unchanged, grown_without_slack}
use Rattle.mat_exchange.proofs.GrowthChanges.{EntersLate, entry_not_above, entry_shifts, growing_by, levelled_by_entry, levelled_by_sink, sink_by_slack}
use Rattle.mat_exchange.proofs.GrowthEntries.{growing_more}
use Rattle.mat_exchange.proofs.GrowthSteps.{others_start}

-- one element more in R
abbrev GrowsMore : ℕ → Exchanges → Exchanges → (ℕ → Weight) → (ℕ → Weight) → ℕ → List ℕ → List ℕ → Type 0
GrowsMore n a b w old root R O = (x : ℕ) × (v1 : ℕ → Weight) × (v2 : ℕ → Weight) × (is_member x R ≡ false)
    × IsGrowing n a b w old root (with_one R x) (without_one O x) v1 v2

-- or the end
abbrev pub SomeGrownSplit : ℕ → Exchanges → Exchanges → (ℕ → Weight) → (ℕ → Weight) → Type 0
SomeGrownSplit n a b w old = (v1 : ℕ → Weight) × (v2 : ℕ → Weight) × IsGrownSplit n a b w old v1 v2

module _ {n : ℕ} {I : List ℕ} {a b : Exchanges} {w old : ℕ → Weight} {root : ℕ}
    (on_a : AreExchangesOn n I a) (on_b : AreExchangesOn n I b) (small : (x : ℕ) → x < n → IsWeightWithin largest_weight (w x)) where
  module _ {R O : List ℕ} {w1 w2 : ℕ → Weight} (now : IsGrowing n a b w old root R O w1 w2) where
    root_heaviest : is_heaviest_addable n a w1 root ≡ true
    root_heaviest = heaviest_addable_from n a w1 root now.root_top.adds now.root_top.most

    -- each entry is a slack
    entry_gives : (x : ℕ) → x < n → is_member x R ≡ false → (e : Weight) → IsEntry a b w1 w2 root R x e
        → (d : Weight) × IsSlack n a b w1 w2 R d × (e ⊕ d ≡ zero_weight)
    entry_gives x l out e (as_source k v) =
        (w1 root ⊖ w1 x, first_addition root x (root_below now) l root_heaviest k out refl, omega (arith, ints, pairs))
    entry_gives x l out e (from_member y yr k v) =
        (w1 y ⊖ w1 x, first_exchange y x (below_member now.set yr) l k yr out refl, omega (arith, ints, pairs))
    entry_gives x l out e (from_other u ur k v) =
        (w2 x ⊖ w2 u, second_exchange u x (below_member now.set ur) l k ur out refl, omega (arith, ints, pairs))

    sink_gives : (d : Weight) → IsAdditionSlack n b w2 R d → IsSlack n a b w1 w2 R d
    sink_gives d s = second_addition s.top s.element s.below (below_member now.set s.inside) s.heaviest s.adds s.inside s.value

    ends_without_slack : ((d : Weight) → IsSlack n a b w1 w2 R d → ⊥) → SomeGrownSplit n a b w old
    ends_without_slack none = (
      w1,
      w2,
      grown_without_slack now
          (λ x e xo entry. (let s = entry_gives x (others_below now x xo) (others_outside now x xo) e entry in none s.0 s.1))
          (λ d s. none d (sink_gives d s)),
    )

    module _ (d : Weight) (slack : IsLeastSlack n a b w1 w2 R d) where
      later : EntersLate n a b w1 w2 root R d
      later x l out e entry =
          let s = entry_gives x l out e entry in
          let zero_sum = s.2 in
          let le = slack.least s.0 s.1 in
          omega (arith, ints, pairs)

      -- an element enters
      by_entry : (x : ℕ) → x < n → is_member x R ≡ false → (e : Weight) → IsEntry a b w1 w2 root R x e → e ⊕ d ≡ zero_weight → GrowsMore n a b w old root R O
      by_entry x l out e entry zero_sum =
          let le = entry_not_above now x e l entry in
          let xo = in_others now x l out in
          let changed = growing_by on_a on_b now d (omega (arith, ints, pairs)) later (λ plus. levelled_by_entry small now x e d xo entry zero_sum) in
          let at_zero = subst (IsEntry a b (lowered w1 R d) (raised w2 R d) root R x) zero_sum (entry_shifts now d x e out entry) in
          (x, lowered w1 R d, raised w2 R d, out, growing_more small changed x xo at_zero)

      -- an element of R becomes a sink
      by_sink : IsAdditionSlack n b w2 R d → SomeGrownSplit n a b w old
      by_sink has =
          let least : IsLeast (IsAdditionSlack n b w2 R) d = record { has = has; least = λ e s. slack.least e (sink_gives e s) } in
          let most = (heaviest_addable_gives n b w2 has.top has.heaviest).most has.element (below_member now.set has.inside) has.adds in
          let value = has.value in
          let changed = growing_by on_a on_b now d (omega (arith, ints, pairs)) later (λ plus. levelled_by_sink small now d plus least) in
          let sink = sink_by_slack d on_b.adds_below least in
          (lowered w1 R d, raised w2 R d, grown_by_sink changed sink.0 sink.1 sink.2)

      by_slack : IsSlack n a b w1 w2 R d → GrowsMore n a b w old root R O ⊎ SomeGrownSplit n a b w old
      by_slack (first_addition top x lt lx t k out e) =
          let high = now.root_top.most top lt (heaviest_addable_gives n a w1 top t).adds in
          let low = (heaviest_addable_gives n a w1 top t).most root (root_below now) now.root_top.adds in
          inl (by_entry x lx out (w1 x ⊖ w1 root) (as_source k refl) (omega (arith, ints, pairs)))
      by_slack (first_exchange y x ly lx t yr out e) = inl (by_entry x lx out (w1 x ⊖ w1 y) (from_member y yr t refl) (omega (arith, ints, pairs)))
      by_slack (second_exchange x y lx ly t xr out e) = inl (by_entry y ly out (w2 x ⊖ w2 y) (from_other x xr t refl) (omega (arith, ints, pairs)))
      by_slack (second_addition top x lt lx t k xr e) =
          inr (by_sink (record { top = top; element = x; below = lt; heaviest = t; adds = k; inside = xr; value = e }))

  grows_on : (m : ℕ) (R O : List ℕ) (w1 w2 : ℕ → Weight) → n < m + length R → IsGrowing n a b w old root R O w1 w2 → SomeGrownSplit n a b w old
  grows_on zero R O w1 w2 l now = absurd (let few = IsSet-length n R now.set in omega arith)
  grows_on (suc m) R O w1 w2 l now = elim (least_slack_or_none n a b w1 w2 R) [
    | inr none ↦ ends_without_slack now none
    | inl s ↦ elim (by_slack now s.0 s.1 s.1.slack) [
      | inr done ↦ done
      | inl more ↦ (let longer = length-with_one R more.0 now.set.rising more.3 in
          grows_on m (with_one R more.0) (without_one O more.0) more.1 more.2 (omega arith) more.4)
    ]
  ]

-- some halves of the sum of u1 and u2, that little from u2, end the search
pub grown_split_exists : {n : ℕ} {I : List ℕ} {a b : Exchanges} → AreExchangesOn n I a → AreExchangesOn n I b → (u1 u2 : ℕ → Weight)
    → ((x : ℕ) → x < n → IsWeightWithin largest_weight (sum_at u1 u2 x)) → NoExchangeGains a u1 → NoExchangeGains b u2
    → SomeGrownSplit n a b (sum_at u1 u2) u2
grown_split_exists {n} {I} {a} {b} on_a on_b u1 u2 small gains1 gains2 = elim (cases_Bool (some_below n a.adds)) [
  | inr none ↦ (
    u1,
    u2,
    grown_unchanged n a b u1 u2 (ends_without_source (λ x. false_from_ne_true (a.adds x) (λ k.
        both_ways _ (some_below_none n x a.adds none (on_a.adds_below x k)) k))) gains1 gains2,
  )
  | inl some ↦ (let s = some_below_gives n a.adds some in
      let t = some_heaviest_addable n a u1 s.0 s.1 s.2 in
      let O = without_one (all_below n) t.0 in
      grows_on on_a on_b small (suc n) _ O u1 u2 (omega arith)
      (growing_start (heaviest_addable_gives n a u1 t.0 t.2) t.1 gains1 gains2 (λ x l. refl) (λ x. refl) (others_start n t.0 O (all_below n) refl refl)))
]
