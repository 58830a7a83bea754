-- A greedy run told again by what it ended with: along an order in which no element stands twice, each element was added exactly where it
-- is in the set at the end, since no later one is that element.
use Rattle.mat_laws.proofs.Common.{◌≡◌, ℕ, ◌+◌, ◌<◌, Bool, true, false, not, ◌&&◌, if◌then◌else◌, eqb, List, [], ◌∷◌, length, get_or, drop, inl, inr, refl, subst, sym, ap, ◌∙◌, cases_Bool, both_ways, false_from_ne_true, or_cases, or_from, drop_more, is_member, AreDistinct, with_one, is_member-head}
use Rattle.mat_laws.proofs.Common.{is_member-with_one, is_member-tail, member_differs, with_one-holds, IsMatroid, grown_by, grown_along}
use Rattle.mat_laws.proofs.GreedyRunSteps.{IsRunning, IsRunning-next}
use Rattle.mat_laws.proofs.GreedyRunSets.{grown_by-passes, run_ends}

-- the set has come over the first i elements of the order, and none of the others is in it
pub record IsTracing (p : List ℕ → Bool) (order : List ℕ) (i : ℕ) (set : List ℕ) : Type 0 where
  pub running : IsRunning p order i set
  pub distinct : AreDistinct (drop i order)
  pub fresh : (k : ℕ) → is_member k (drop i order) ≡ true → is_member k set ≡ false

pub IsTracing-start : (p : List ℕ → Bool) (order : List ℕ) → p [] ≡ true → AreDistinct order → IsTracing p order 0 []
IsTracing-start p order ok d = record { running = record { passes = ok; rest = refl }; distinct = d; fresh = λ k m. refl }

module _ {n : ℕ} {p : List ℕ → Bool} (laws : IsMatroid n p) (order set : List ℕ) (i x : ℕ) (inside : i < length order)
    (at : x ≡ get_or order i 0) (t : IsTracing p order i set) where
  left : drop i order ≡ x ∷ drop (i + 1) order
  left = drop_more order i 0 inside ∙ ap (λ y. y ∷ drop (i + 1) order) (sym at)

  new : is_member x set ≡ false
  new = t.fresh x (ap (is_member x) left ∙ is_member-head x (drop (i + 1) order))

  apart : AreDistinct (x ∷ drop (i + 1) order)
  apart = subst AreDistinct left t.distinct

  ends : grown_along p (grown_by p set x) (drop (i + 1) order) ≡ grown_along p [] order
  ends = ap (grown_along p set) (sym left) ∙ t.running.rest

  -- x was added exactly where it is in the set at the end
  pub traced : is_member x (grown_along p [] order) ≡ (not (is_member x set) && p (with_one set x))
  traced = elim (cases_Bool (not (is_member x set) && p (with_one set x))) [
    | inl adds ↦
        let here : is_member x (grown_by p set x) ≡ true = rw adds (with_one-holds set x) in
        ap (is_member x) (sym ends)
        ∙ (run_ends laws (grown_by p set x) (drop (i + 1) order) (grown_by-passes p set x t.running.passes)).holds.inside x here ∙ sym adds
    | inr fails ↦
        let out : is_member x (grown_by p set x) ≡ false = rw fails new in
        let r = run_ends laws (grown_by p set x) (drop (i + 1) order) (grown_by-passes p set x t.running.passes) in
        ap (is_member x) (sym ends)
        ∙ false_from_ne_true _ (λ m. elim (or_cases (is_member x (grown_by p set x)) (is_member x (drop (i + 1) order)) (r.inside x m)) [
          | inl now ↦ both_ways _ out now
          | inr later ↦ both_ways _ apart.0 later
        ])
        ∙ sym fails
  ]

  -- one turn of the loop
  pub IsTracing-next : (added : Bool) (set' : List ℕ) → added ≡ (not (is_member x set) && p (with_one set x))
      → set' ≡ (if added then with_one set x else set) → IsTracing p order (i + 1) set'
  IsTracing-next added set' told is = record {
    running = IsRunning-next p order set i x inside at t.running added set' told is;
    distinct = apart.1;
    fresh = λ k m. ap (is_member k) is ∙ still added k m;
  }
    where
      still : (b : Bool) (k : ℕ) → is_member k (drop (i + 1) order) ≡ true → is_member k (if b then with_one set x else set) ≡ false
      still true k m = is_member-with_one k x set ∙ or_from (eqb k x) (is_member k set) (member_differs k x (drop (i + 1) order) m apart.0)
          (t.fresh k (ap (is_member k) left ∙ is_member-tail k x (drop (i + 1) order) m))
      still false k m = t.fresh k (ap (is_member k) left ∙ is_member-tail k x (drop (i + 1) order) m)
