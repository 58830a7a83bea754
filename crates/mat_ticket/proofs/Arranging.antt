-- The rows of all workers, put at their tickets and taken out in order.
use Rattle.mat_ticket.proofs.Common.{◌≡◌, ℕ, zero, suc, ◌+◌, ◌<◌, ◌≤◌, true, ◌==◌, List, [], ◌∷◌, ◌++◌, length, map, Option, Some, None, get_or, set, inl, inr, sym, ap, ◌∙◌, subst, ⊎_elim, arith, slice_get, cases_Bool, cases_lt, eqb-true, false≢true, or_cases, append_assoc, length_push, length-set}
use Rattle.mat_ticket.proofs.Common.{get_or_from_slice_get, indicator, multiplicity, is_member, multiplicity-none, Output, HasItem, IsRowIn, ArePlaced, FitsRoom, tickets_of}
use Rattle.std.specs.List.{AllByRecursion}
use Rattle.mat_sets.proofs.Families.{multiplicity-append}
use Rattle.mat_ticket.proofs.Drawing.{slice_get-push}
use Rattle.mat_ticket.proofs.Slots.{slice_get-set_else}

none_filled : {X : Type 0} (slots : List (Option X)) (i : ℕ) (row : X) → AllByRecursion (λ s. s ≡ None) slots → slice_get slots i ≡ Some (Some row)
    → ⊥
none_filled [] i row h e = absurd (cc)
none_filled (s ∷ slots) zero row h e = let n = h.0 in absurd (cc)
none_filled (s ∷ slots) (suc i) row h e = none_filled slots i row h.1 e

-- a member of a list stands in it
place_of : (x : ℕ) (ts : List ℕ) → is_member x ts ≡ true → (k : ℕ) × (slice_get ts k ≡ Some x)
place_of x [] m = absurd (false≢true m)
place_of x (t ∷ ts) m = elim (or_cases (x == t) (is_member x ts) m) [
  | inl here ↦ (0, ap Some (sym (eqb-true x t here)))
  | inr later ↦ (let r = place_of x ts later in (suc r.0, r.1))
]

multiplicity-push : (x : ℕ) (lists : List (List ℕ)) (ts : List ℕ)
    → multiplicity x (lists ++ ts ∷ []) ≡ multiplicity x lists + indicator (is_member x ts)
unfolding multiplicity
multiplicity-push x lists ts = omega (arith, multiplicity-append x lists (ts ∷ []))

member-one : (x : ℕ) (ts : List ℕ) → 0 < indicator (is_member x ts) → is_member x ts ≡ true
member-one x ts l = elim (cases_Bool (is_member x ts)) [
  | inl m ↦ m
  | inr m ↦ (let none : indicator (is_member x ts) ≡ 0 = ap indicator m in absurd (omega arith))
]

-- what holds while the rows of outputs are placed
pub record IsArranging {X : Type 0} (room : ℕ) (whole outputs : List (Output X)) (slots : List (Option X)) (lists : List (List ℕ)) : Type 0 where
  pub count : length slots ≡ room
  pub fit : AllByRecursion (FitsRoom room) outputs
  pub parts : map tickets_of whole ≡ lists ++ map tickets_of outputs
  pub origin : (i : ℕ) (row : X) → slice_get slots i ≡ Some (Some row) → IsRowIn whole i row
  pub inside : (i : ℕ) (row : X) → IsRowIn outputs i row → IsRowIn whole i row
  pub filled : (x : ℕ) → 0 < multiplicity x lists → HasItem slots x

module _ {X : Type 0} (room : ℕ) where
  pub arranging-start : (whole : List (Output X)) (slots : List (Option X)) (lists : List (List ℕ)) → length slots ≡ room
      → AllByRecursion (λ s. s ≡ None) slots
      → lists ≡ [] → AllByRecursion (FitsRoom room) whole → IsArranging room whole whole slots lists
  arranging-start whole slots lists count empty none fit = record {
    count = count;
    fit = fit;
    parts = ap (λ l. l ++ map tickets_of whole) (sym none);
    origin = λ i row e. absurd (none_filled slots i row empty e);
    inside = λ i row h. h;
    filled = λ x l. absurd (let e = ap (multiplicity x) none in omega (arith, multiplicity-none x));
  }

  arranging-step : (whole outputs : List (Output X)) (a : Output X) (slots after : List (Option X)) (lists : List (List ℕ))
      → IsArranging room whole (a ∷ outputs) slots lists
      → ArePlaced 0 a.tickets.items a.rows.items slots after → IsArranging room whole outputs after (lists ++ a.tickets.items ∷ [])
  arranging-step whole outputs a slots after lists s p = record {
    count = p.count ∙ s.count;
    fit = s.fit.1;
    parts = s.parts ∙ sym (append_assoc lists (a.tickets.items ∷ []) (map tickets_of outputs));
    origin = λ i row e. ⊎_elim (λ was. s.origin i row was) (λ new. s.inside i row (inl new)) (p.origin i row e);
    inside = λ i row h. s.inside i row (inr h);
    filled = λ x l. elim (cases_lt 0 (multiplicity x lists)) [
      | inl h ↦ p.kept x (s.filled x h)
      | inr h ↦ (let sum = multiplicity-push x lists a.tickets.items in
          let at = place_of x a.tickets.items (member-one x a.tickets.items (omega arith)) in p.filled at.0 x (omega arith) at.1)
    ];
  }

  pub arranging-next : (whole outputs rest : List (Output X)) (a : Output X) (slots after : List (Option X)) (lists lists' : List (List ℕ))
      → outputs ≡ a ∷ rest
      → lists' ≡ lists ++ a.tickets.items ∷ [] → ArePlaced 0 a.tickets.items a.rows.items slots after
      → IsArranging room whole outputs slots lists → IsArranging room whole rest after lists'
  arranging-next whole outputs rest a slots after lists lists' e f p s =
      subst (λ l. IsArranging room whole rest after l) (sym f)
      (arranging-step whole rest a slots after lists (subst (λ hs. IsArranging room whole hs slots lists) e s) p)

-- what holds while the rows are taken out
pub record IsEmptying {X : Type 0} (whole slots : List (Option X)) (rows : List X) (i : ℕ) : Type 0 where
  pub count : length slots ≡ length whole
  pub taken : length rows ≡ i
  pub later : (j : ℕ) → i ≤ j → slice_get slots j ≡ slice_get whole j
  pub same : (k : ℕ) (row : X) → slice_get rows k ≡ Some row → slice_get whole k ≡ Some (Some row)

module _ {X : Type 0} where
  pub emptying-next : (whole slots after : List (Option X)) (rows rows' : List X) (i : ℕ) (row : X) → slice_get slots i ≡ Some (Some row)
      → after ≡ set slots i None → rows' ≡ rows ++ row ∷ [] → IsEmptying whole slots rows i → IsEmptying whole after rows' (i + 1)
  emptying-next whole slots after rows rows' i row here e f s = record {
    count = ap length e ∙ length-set slots i None ∙ s.count;
    taken = (let l : length rows' ≡ length (rows ++ row ∷ []) = ap length f in let t = s.taken in omega (arith, length_push rows row));
    later = λ j l. ap (λ xs. slice_get xs j) e ∙ slice_get-set_else slots i j None (λ q. absurd (omega arith)) ∙ s.later j (omega arith);
    same = λ k r h. ⊎_elim
        (λ (was : slice_get rows k ≡ Some r). s.same k r was)
        (λ (new : (k ≡ length rows) × (row ≡ r)). ap (slice_get whole) (new.0 ∙ s.taken) ∙ sym (s.later i (omega arith)) ∙ here
        ∙ ap (λ x. Some (Some x)) new.1)
        (slice_get-push rows row r k (sym (ap (λ xs. slice_get xs k) f) ∙ h));
  }

pub not_empty : {X : Type 0} (slots : List (Option X)) (i : ℕ) (d found : Option X) (row : X) → slice_get slots i ≡ Some (Some row) → found ≡ None
    → found ≡ get_or slots i d → ⊥
not_empty slots i d found row e n f = let s = get_or_from_slice_get slots i (Some row) d e in let t : None ≡ Some row = sym n ∙ f ∙ s in absurd (cc)
