-- Sums over what all seats hold: after one seat changes, and where one seat has all shares.
use Rattle.mat_ticket.proofs.Common.{◌≡◌, ℕ, zero, suc, ◌+◌, ◌<◌, ◌≤◌, List, [], ◌∷◌, length, get_or, set, refl, sym, ap, subst, arith, sum_by-cons, sum_by-set, get_or-le-sum_by, TicketView, IsWithinShare}
use Rattle.std.specs.List.{sum_by}
use mathlib.Core.Option.{some, some-injective, some-ne-none}
use lib.ListN.{get_elem?}

view_at : (views : List TicketView) (seat : ℕ) (v : TicketView) → get_elem? views seat ≡ some v → (seat < length views) × (get_or views seat v ≡ v)
view_at [] seat v e = absurd (some-ne-none v (sym e))
view_at (u ∷ us) zero v e = (omega arith, some-injective u v e)
view_at (u ∷ us) (suc seat) v e = let r = view_at us seat v e in let l = r.0 in (omega arith, r.1)

pub sum_by-changed : (f : TicketView → ℕ) (views : List TicketView) (seat : ℕ) (v w : TicketView) → get_elem? views seat ≡ some v
    → sum_by f (set views seat w) + f v ≡ sum_by f views + f w
sum_by-changed f views seat v w e =
    let at = view_at views seat v e in
    subst (λ u. sum_by f (set views seat w) + f u ≡ sum_by f views + f w) at.1 (sum_by-set f views seat w v at.0)

pub one-le-sum_by : (f : TicketView → ℕ) (views : List TicketView) (seat : ℕ) (v : TicketView) → get_elem? views seat ≡ some v → f v ≤ sum_by f views
one-le-sum_by f views seat v e =
    let at = view_at views seat v e in subst (λ u. f u ≤ sum_by f views) at.1 (get_or-le-sum_by f views seat v at.0)

pub sum_by-le : (f g : TicketView → ℕ) (views : List TicketView) → ((seat : ℕ) (v : TicketView) → get_elem? views seat ≡ some v → f v ≤ g v)
    → sum_by f views ≤ sum_by g views
sum_by-le f g [] h = omega arith
sum_by-le f g (u ∷ us) h =
    let first = h 0 u refl in
    let rest = sum_by-le f g us (λ p v e. h (suc p) v e) in omega (arith, sum_by-cons f u us, sum_by-cons g u us)

module _ (h : ℕ → ℕ) (count : ℕ) where
  sum_by-spent : (v : TicketView) → IsWithinShare count v → v.share ≡ 0 → sum_by h v.drawn ≡ 0
  sum_by-spent v within none = ap (sum_by h) (within.spent none)

  -- without shares there are no numbers
  none_left : (views : List TicketView) → ((seat : ℕ) (v : TicketView) → get_elem? views seat ≡ some v → IsWithinShare count v)
      → sum_by (λ v. v.share) views ≡ 0 → sum_by (λ v. sum_by h v.drawn) views ≡ 0
  none_left [] within none = refl
  none_left (u ∷ us) within none =
      let shares = sum_by-cons (λ v. v.share) u us in
      let weights = sum_by-cons (λ v. sum_by h v.drawn) u us in
      let first = sum_by-spent u (within 0 u refl) (omega arith) in
      let rest = none_left us (λ p v e. within (suc p) v e) (omega arith) in omega arith

  -- who has all shares has all numbers
  pub has_all : (views : List TicketView) (seat : ℕ) (v : TicketView)
      → ((p : ℕ) (u : TicketView) → get_elem? views p ≡ some u → IsWithinShare count u)
      → get_elem? views seat ≡ some v → sum_by (λ u. u.share) views ≡ v.share → sum_by h v.drawn ≡ sum_by (λ u. sum_by h u.drawn) views
  has_all [] seat v within e all = absurd (some-ne-none v (sym e))
  has_all (u ∷ us) zero v within e all =
      let shares = sum_by-cons (λ v. v.share) u us in
      let weights = sum_by-cons (λ v. sum_by h v.drawn) u us in
      let same : u ≡ v = some-injective u v e in
      let share : u.share ≡ v.share = ap (λ (x : TicketView). x.share) same in
      let weight : sum_by h u.drawn ≡ sum_by h v.drawn = ap (λ (x : TicketView). sum_by h x.drawn) same in
      let rest = none_left us (λ p w e'. within (suc p) w e') (omega arith) in omega arith
  has_all (u ∷ us) (suc seat) v within e all =
      let shares = sum_by-cons (λ v. v.share) u us in
      let weights = sum_by-cons (λ v. sum_by h v.drawn) u us in
      let one = one-le-sum_by (λ x. x.share) us seat v e in
      let first = sum_by-spent u (within 0 u refl) (omega arith) in
      let rest = has_all us seat v (λ p w e'. within (suc p) w e') e (omega arith) in omega arith
