-- The kinds of step on the ticket word keep its rule, and what it tells of a seat with all shares.
use Rattle.mat_ticket.proofs.Common.{◌≡◌, ◌≢◌, ℕ, suc, ◌+◌, ◌%◌, ◌^◌, ◌<◌, ◌≤◌, List, [], ◌∷◌, ◌++◌, set, refl, sym, ap, ◌∙◌, subst, ⊎_elim, arith, slice_index, slice_set, sum_by-append, sum_by_push, AllBelow, TicketView, beyond, sum_below, ticket_view, IsWithinShare, IsTicketWord, IsDraw}
use Rattle.mat_ticket.proofs.Common.{less_one_share, one_share, joined_view, spent_view}
use Rattle.std.specs.List.{sum_by}
use mathlib.Core.Option.{some, none}
use lib.ListN.{get_elem?}
use Rattle.atomic_table.specs.Table.{State, Act, keeps, step, Allows, Final, Seen, Splits, Joins, Valid, homes_after, carried_after}
use Rattle.atomic_table.proofs.Lists.{at_set, at_snoc}
use Rattle.mat_ticket.proofs.Sums.{beyond-le, sum_below-none, sum_below-some, AllBelow-beyond_none}
use Rattle.mat_ticket.proofs.Views.{sum_by-changed, one-le-sum_by, sum_by-le, has_all}

-- the next number is at most the count and all shares
next_bound : (count : ℕ) (s : State (Unit {0}) TicketView) (d : IsTicketWord count s) → d.next ≤ count + 16
next_bound count s d =
    let past = sum_below-some count d.next in
    let held = d.numbers (beyond count) in
    let shared = sum_by-le (λ v. sum_by (beyond count) v.drawn) (λ v. v.share) s.views (λ p v e. (d.within p v e).share) in
    let all = d.shares in omega arith

-- what a seat drew is below the next number
drawn_below : (count : ℕ) (s : State (Unit {0}) TicketView) (d : IsTicketWord count s) (id : ℕ) (v : TicketView)
    → get_elem? s.views id ≡ some v → AllBelow d.next v.drawn
drawn_below count s d id v at =
    AllBelow-beyond_none d.next v.drawn (let one = one-le-sum_by (λ u. sum_by (beyond d.next) u.drawn) s.views id v at in
    let all = d.numbers (beyond d.next) in let none = sum_below-none d.next d.next (omega arith) in omega arith)

IsWithinShare-set : (count : ℕ) (views : List TicketView) (id : ℕ) (w : TicketView)
    → ((p : ℕ) (u : TicketView) → get_elem? views p ≡ some u → IsWithinShare count u) → IsWithinShare count w
    → (p : ℕ) (u : TicketView) → get_elem? (set views id w) p ≡ some u → IsWithinShare count u
IsWithinShare-set count views id w others mine p u e = ⊎_elim
    (λ (t : (p ≡ id) × (w ≡ u)). subst (IsWithinShare count) t.1 mine)
    (λ (t : (p ≢ id) × (get_elem? views p ≡ some u)). others p u t.1)
    (at_set views id p w u e)

pub draws : (count slots id : ℕ) (v : TicketView) (c : List (ℕ × Unit {0})) → count < 2 ^ 32 → sum_by (beyond count) v.drawn < v.share
    → Allows (IsTicketWord count) slots id (v, c) 0 (λ n. (n + 1) % 2 ^ 64) (IsDraw (step slots 0 1 0 none) (v, c))
draws count slots id v c few room s d len at fits =
    let n = d.next in
    let w = ticket_view v.share (v.drawn ++ n ∷ []) in
    let bound = next_bound count s d in
    let P : List ℕ → Type 0 = λ ws. (w : TicketView) × (a : Act (Unit {0})) × Valid s.homes c a
    × IsTicketWord count record {
      words = slice_set ws 0 ((slice_index ws 0 + 1) % 2 ^ 64);
      homes = homes_after s.homes c a;
      views = slice_set s.views id w;
    }
    × IsDraw (step slots 0 1 0 none) (v, c) (slice_index ws 0) (w, carried_after c a) in
    subst P (sym d.word) (
      w,
      keeps,
      tt,
      record {
        next = suc n;
        word = ap (λ k. k ∷ []) (omega arith);
        shares = (let t = sum_by-changed (λ u. u.share) s.views id v w at in let all = d.shares in omega arith);
        numbers = λ h. (let t = sum_by-changed (λ u. sum_by h u.drawn) s.views id v w at in let all = d.numbers h in
            let more = sum_by_push h v.drawn n in omega arith);
        within = IsWithinShare-set count s.views id w d.within (record {
          share = (let more = sum_by_push (beyond count) v.drawn n in let one = beyond-le count n in omega arith);
          spent = λ zero. absurd (omega arith);
        });
      },
      (refl, drawn_below count s d id v at),
    )

-- a seat with all shares at the end holds the numbers below the next one, each once
pub closes : (count : ℕ) (words : List ℕ) (slots : List (Unit {0})) (id : ℕ) (v : TicketView) → v.share ≡ 16
    → Final (Seen (IsTicketWord count) id v) words slots → (next : ℕ) × ((h : ℕ → ℕ) → sum_by h v.drawn ≡ sum_below h next)
closes count words slots id v whole final =
    let s = final.0 in
    let d = final.1.0 in
    let at = final.1.1 in
    (d.next, λ h. has_all h count s.views id v d.within at (d.shares ∙ sym whole) ∙ d.numbers h)

pub splits : (count id : ℕ) (v : TicketView) → v.drawn ≡ [] → 2 ≤ v.share → Splits (IsTicketWord count) id v (less_one_share v) (one_share v)
splits count id v bare two s d at = record {
  next = d.next;
  word = d.word;
  shares = (let t = sum_by-changed (λ u. u.share) s.views id v (less_one_share v) at in
      let more = sum_by_push (λ u. u.share) (set s.views id (less_one_share v)) (one_share v) in let all = d.shares in omega arith);
  numbers = λ h. (let t = sum_by-changed (λ u. sum_by h u.drawn) s.views id v (less_one_share v) at in
      let more = sum_by_push (λ u. sum_by h u.drawn) (set s.views id (less_one_share v)) (one_share v) in let all = d.numbers h in omega arith);
  within = λ p u e. ⊎_elim
      (λ (was : get_elem? (set s.views id (less_one_share v)) p ≡ some u).
      IsWithinShare-set count s.views id (less_one_share v) d.within (record {
        share = (let empty : sum_by (beyond count) v.drawn ≡ 0 = ap (sum_by (beyond count)) bare in omega arith);
        spent = λ zero. bare;
      }) p u was)
      (λ (same : one_share v ≡ u). subst (IsWithinShare count) same (record { share = omega arith; spent = λ zero. refl }))
      (at_snoc (set s.views id (less_one_share v)) (one_share v) u p e);
}

both_empty : (v w : TicketView) → v.drawn ≡ [] → w.drawn ≡ [] → v.drawn ++ w.drawn ≡ []
both_empty v w e f = ap (λ l. l ++ w.drawn) e ∙ f

pub joins : (count id other : ℕ) (v w : TicketView) → Joins (IsTicketWord count) id v other w (joined_view v w) spent_view
joins count id other v w s d at apart there =
    let both = joined_view v w in
    let views = set s.views id both in
    let theirs : get_elem? s.views other ≡ some w = ⊎_elim
    (λ (t : (other ≡ id) × (both ≡ w)). absurd (apart t.0))
    (λ (t : (other ≢ id) × (get_elem? s.views other ≡ some w)). t.1)
    (at_set s.views id other both w there) in
    let mine = d.within id v at in
    let his = d.within other w theirs in
    record {
      next = d.next;
      word = d.word;
      shares = (let t = sum_by-changed (λ u. u.share) s.views id v both at in
          let r = sum_by-changed (λ u. u.share) views other w spent_view there in let all = d.shares in omega arith);
      numbers = λ h. (let t = sum_by-changed (λ u. sum_by h u.drawn) s.views id v both at in
          let r = sum_by-changed (λ u. sum_by h u.drawn) views other w spent_view there in
          let more = sum_by-append h v.drawn w.drawn in let all = d.numbers h in omega arith);
      within = IsWithinShare-set count views other spent_view
          (IsWithinShare-set count s.views id both d.within (record {
            share = (let more = sum_by-append (beyond count) v.drawn w.drawn in let a = mine.share in let b = his.share in omega arith);
            spent = λ zero. both_empty v w (mine.spent (omega arith)) (his.spent (omega arith));
          }))
          (record { share = omega arith; spent = λ zero. refl });
    }
