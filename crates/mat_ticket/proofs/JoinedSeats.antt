-- The seats of a team are joined one after the other: the one that is left has drawn all tickets, and a number that is not below the count.
-- Below the count what it drew weighs what the tickets weigh, and also what the numbers below the next one weigh. So the tickets are these.
use Rattle.mat_ticket.proofs.Common.{◌≡◌, ℕ, zero, suc, ◌+◌, ◌<◌, ◌≤◌, Bool, true, false, ◌&&◌, ◌||◌, ◌==◌, List, [], ◌∷◌, ◌++◌, length, map, get_or, take, drop, inl, inr, refl, sym, ap, ◌∙◌, subst, arith, cases_lt, and_parts, nat_tests, append_assoc, sum_by-cons, sum_by-append, sum_by_push}
use Rattle.mat_ticket.proofs.Common.{TableId, indicator, multiplicity, is_member, TicketView, Output, Worker, beyond, sum_below, joined_view, IsLast, output_of, share_of, tickets_sum, HasFinished, IsSeated, AreJoined, tickets_of}
use Rattle.std.specs.List.{AllByRecursion, sum_by}
use Rattle.mat_ticket.proofs.Sums.{beyond-past, sum_below-none}

-- what `remove(0)` takes is the first item
pub first_removed : {X : Type 0} (old new : List X) (x : X) → 0 < length old → x ≡ get_or old 0 x → new ≡ take 0 old ++ drop 1 old → old ≡ x ∷ new
first_removed [] new x l e f = absurd (omega arith)
first_removed (y ∷ ys) new x l e f = ap (λ z. z ∷ ys) (sym e) ∙ ap (λ zs. x ∷ zs) (sym f)

module _ (count : ℕ) (ts drawn : List ℕ) (last : IsLast count ts drawn) where
  sum_by-last : (h : ℕ → ℕ) → ((x : ℕ) → count ≤ x → h x ≡ 0) → sum_by h drawn ≡ sum_by h ts
  sum_by-last h none =
      let all : sum_by h drawn ≡ sum_by h (ts ++ last.last ∷ []) = ap (sum_by h) last.all in
      let parts = sum_by_push h ts last.last in
      let zero = none last.last last.past in omega arith

  past-last : 0 < sum_by (beyond count) drawn
  past-last =
      let all : sum_by (beyond count) drawn ≡ sum_by (beyond count) (ts ++ last.last ∷ []) = ap (sum_by (beyond count)) last.all in
      let parts = sum_by_push (beyond count) ts last.last in
      let one = beyond-past count last.last last.past in omega arith

-- what holds while the seats of a team are joined
pub record IsJoining {X : Type 0} (table : TableId) (count : ℕ) (whole team : List (Worker X)) (outputs : List (Output X))
    (seat : TableId) (v : TicketView) (all : Bool) : Type 0 where
  pub same : seat ≡ table
  pub shares : v.share + sum_by share_of team ≡ 16
  pub seated : AllByRecursion (IsSeated table count) team
  pub parts : map output_of whole ≡ outputs ++ map output_of team
  pub finished : all ≡ true → AllByRecursion HasFinished team → AllByRecursion HasFinished whole
  pub joined : all ≡ true → AreJoined count v.drawn outputs

module _ {X : Type 0} (table : TableId) (count : ℕ) where
  joined-first : (w : Worker X) → IsSeated table count w → w.finished ≡ true → AreJoined count w.seat.me.0.drawn (output_of w ∷ [])
  joined-first w seated f = record {
    past = past-last count w.tickets.items w.seat.me.0.drawn (seated.last f);
    weights = λ h none. (let e = sum_by-last count w.tickets.items w.seat.me.0.drawn (seated.last f) h none in
        omega (arith, sum_by-cons (tickets_sum h) (output_of w) []));
  }

  joining-first : (w : Worker X) (team : List (Worker X)) → sum_by share_of (w ∷ team) ≡ 16 → AllByRecursion (IsSeated table count) (w ∷ team)
      → IsJoining table count (w ∷ team) team (output_of w ∷ []) w.seat.table_id w.seat.me.0 w.finished
  joining-first w team shares seated = record {
    same = seated.0.seat;
    shares = omega (arith, shares, sum_by-cons share_of w team);
    seated = seated.1;
    parts = refl;
    finished = λ f rest. (f, rest);
    joined = λ f. joined-first w seated.0 f;
  }

  pub joining-start : (whole team : List (Worker X)) (w : Worker X) (outputs : List (Output X)) → whole ≡ w ∷ team → outputs ≡ [] ++ output_of w ∷ []
      → sum_by share_of whole ≡ 16 → AllByRecursion (IsSeated table count) whole
      → IsJoining table count whole team outputs w.seat.table_id w.seat.me.0 w.finished
  joining-start whole team w outputs e f shares seated =
      subst (λ os. IsJoining table count whole team os w.seat.table_id w.seat.me.0 w.finished) (sym f)
      (subst (λ ws. IsJoining table count ws team (output_of w ∷ []) w.seat.table_id w.seat.me.0 w.finished) (sym e)
      (joining-first w team (sym (ap (sum_by share_of) e) ∙ shares) (subst (AllByRecursion (IsSeated table count)) e seated)))

  joined-more : (v : TicketView) (outputs : List (Output X)) (w : Worker X) → IsSeated table count w → w.finished ≡ true
      → AreJoined count v.drawn outputs
      → AreJoined count (v.drawn ++ w.seat.me.0.drawn) (outputs ++ output_of w ∷ [])
  joined-more v outputs w seated f j = record {
    past = omega (arith, j.past, sum_by-append (beyond count) v.drawn w.seat.me.0.drawn);
    weights = λ h none. (let e = sum_by-last count w.tickets.items w.seat.me.0.drawn (seated.last f) h none in
        let was = j.weights h none in
        omega (arith, sum_by-append h v.drawn w.seat.me.0.drawn, sum_by_push (tickets_sum h) outputs (output_of w)));
  }

  joining-step : (whole team : List (Worker X)) (w : Worker X) (outputs : List (Output X)) (seat : TableId) (v : TicketView) (all : Bool)
      → IsJoining table count whole (w ∷ team) outputs seat v all
      → IsJoining table count whole team (outputs ++ output_of w ∷ []) seat (joined_view v w.seat.me.0) (all && w.finished)
  joining-step whole team w outputs seat v all j = record {
    same = j.same;
    shares = omega (arith, j.shares, sum_by-cons share_of w team);
    seated = j.seated.1;
    parts = j.parts ∙ sym (append_assoc outputs (output_of w ∷ []) (map output_of team));
    finished = λ f rest. (let p = and_parts all w.finished f in j.finished p.0 (p.1, rest));
    joined = λ f. (let p = and_parts all w.finished f in joined-more v outputs w j.seated.0 p.1 (j.joined p.0));
  }

  pub joining-next : (whole team rest : List (Worker X)) (w : Worker X) (outputs outputs' : List (Output X))
      (seat seat' : TableId) (v v' : TicketView) (all all' : Bool)
      → team ≡ w ∷ rest → outputs' ≡ outputs ++ output_of w ∷ [] → seat' ≡ seat → v' ≡ joined_view v w.seat.me.0
      → all' ≡ (all && w.finished) → IsJoining table count whole team outputs seat v all → IsJoining table count whole rest outputs' seat' v' all'
  joining-next whole team rest w outputs outputs' seat seat' v v' all all' e f s g b j =
      let step = joining-step whole rest w outputs seat v all (subst (λ ws. IsJoining table count whole ws outputs seat v all) e j) in
      let both = joined_view v w.seat.me.0 in
      let os = outputs ++ output_of w ∷ [] in
      subst (λ x. IsJoining table count whole rest x seat' v' all') (sym f)
      (subst (λ x. IsJoining table count whole rest os x v' all') (sym s)
      (subst (λ x. IsJoining table count whole rest os seat x all') (sym g)
      (subst (λ x. IsJoining table count whole rest os seat both x) (sym b) step)))

-- ---- each number once

-- 1 for x, else 0
abbrev one_at : ℕ → ℕ → ℕ
one_at x y = indicator (x == y)

one_at-before : (x y : ℕ) → y < x → one_at x y ≡ 0
one_at-before x y l = grind (arith, nat_tests)

one_at-past : (x y : ℕ) → x < y → one_at x y ≡ 0
one_at-past x y l = grind (arith, nat_tests)

one_at-itself : (x y : ℕ) → y ≡ x → one_at x y ≡ 1
one_at-itself x y e = grind (arith, nat_tests)

sum_below-one_before : (x n : ℕ) → n ≤ x → sum_below (one_at x) n ≡ 0
sum_below-one_before x zero l = refl
sum_below-one_before x (suc n) l = let r = sum_below-one_before x n (omega arith) in let o = one_at-before x n (omega arith) in omega arith

sum_below-one_at : (x n : ℕ) → x < n → sum_below (one_at x) n ≡ 1
sum_below-one_at x zero l = absurd (omega arith)
sum_below-one_at x (suc n) l = elim (cases_lt x n) [
  | inl h ↦ (let r = sum_below-one_at x n h in let o = one_at-past x n h in omega arith)
  | inr g ↦ (let r = sum_below-one_before x n g in let o = one_at-itself x n (omega arith) in omega arith)
]

indicator-or : (a b : Bool) (n : ℕ) → indicator b ≤ n → indicator (a || b) ≤ indicator a + n
indicator-or true b n l = omega arith
indicator-or false b n l = omega arith

or-some : (a b : Bool) (n : ℕ) → 0 < indicator a + n → (0 < n → b ≡ true) → (a || b) ≡ true
or-some true b n l h = refl
or-some false b n l h = h (omega arith)

-- a member stands in a list once at least, and what stands there is a member
member-le-times : (x : ℕ) (ts : List ℕ) → indicator (is_member x ts) ≤ sum_by (one_at x) ts
member-le-times x [] = omega arith
member-le-times x (t ∷ ts) =
    let sum = sum_by-cons (one_at x) t ts in
    let more = indicator-or (x == t) (is_member x ts) (sum_by (one_at x) ts) (member-le-times x ts) in omega arith

member-from_times : (x : ℕ) (ts : List ℕ) → 0 < sum_by (one_at x) ts → is_member x ts ≡ true
member-from_times x [] l = absurd (omega arith)
member-from_times x (t ∷ ts) l =
    let sum = sum_by-cons (one_at x) t ts in or-some (x == t) (is_member x ts) (sum_by (one_at x) ts) (omega arith) (member-from_times x ts)

module _ {X : Type 0} (x : ℕ) where
  multiplicity-le-times : (outputs : List (Output X)) → multiplicity x (map tickets_of outputs) ≤ sum_by (tickets_sum (one_at x)) outputs
  unfolding multiplicity
  multiplicity-le-times [] = omega arith
  multiplicity-le-times (a ∷ outputs) =
      let first = member-le-times x a.tickets.items in
      let rest = multiplicity-le-times outputs in omega (arith, sum_by-cons (tickets_sum (one_at x)) a outputs)

  multiplicity-from_times : (outputs : List (Output X)) → 0 < sum_by (tickets_sum (one_at x)) outputs → 0 < multiplicity x (map tickets_of outputs)
  unfolding multiplicity
  multiplicity-from_times [] l = absurd (omega arith)
  multiplicity-from_times (a ∷ outputs) l =
      let sum = sum_by-cons (tickets_sum (one_at x)) a outputs in
      elim (cases_lt 0 (sum_by (one_at x) a.tickets.items)) [
        | inl some ↦ (let one = ap indicator (member-from_times x a.tickets.items some) in omega arith)
        | inr none ↦ (let rest = multiplicity-from_times outputs (omega arith) in omega arith)
      ]

module _ {X : Type 0} (count found : ℕ) (drawn : List ℕ) (outputs : List (Output X)) (joined : AreJoined count drawn outputs)
    (all : (h : ℕ → ℕ) → sum_by h drawn ≡ sum_below h found) where
  -- all numbers below the count were drawn
  count_passed : count < found
  count_passed = elim (cases_lt count found) [
    | inl l ↦ l
    | inr g ↦ (let past = joined.past in let same = all (beyond count) in let none = sum_below-none count found g in absurd (omega arith))
  ]

  -- and each of them is one ticket
  pub each_once : (x : ℕ) → x < count → multiplicity x (map tickets_of outputs) ≡ 1
  each_once x l =
      let tickets = joined.weights (one_at x) (λ y h. one_at-past x y (omega arith)) in
      let same = all (one_at x) in
      let passed = count_passed in
      let one = sum_below-one_at x found (omega arith) in
      let most = multiplicity-le-times x outputs in
      let least = multiplicity-from_times x outputs (omega arith) in omega arith
