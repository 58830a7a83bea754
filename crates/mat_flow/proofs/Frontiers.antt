-- The reached vertices that are before no reached vertex: the loop takes the vertex before each reached one out, and as none is before two,
-- each takes out one more, but for those with none before them.
use Rattle.mat_flow.proofs.Common.{◌≡◌, ℕ, zero, suc, ◌+◌, ◌<◌, Bool, true, false, not, ◌||◌, ◌&&◌, eqb, List, [], ◌∷◌, length, get_or, take, Option, Some, None, inl, inr, refl, sym, ap, ◌∙◌, subst, arith, ◌≤◌, and_from, both_ways, eqb-true, false_from_ne_true, or_cases, or_right, is_member}
use Rattle.mat_flow.proofs.Common.{IsRising, without_one, length-without_one, is_member-get_or, is_member-without_one, IsRising-without_one, is_member-take_next, or_assoc, or_none, and_all, entry_at, is_before, is_there, one_if_none, starts_among}
use Rattle.std.proofs.Math.Numerals.{add-one}
use Rattle.mat_flow.proofs.DisjointPaths.{starts_among-more}

-- ---- what is before some vertices

pub is_before-more : (before : List (Option ℕ)) (vs : List ℕ) (i x : ℕ) → i < length vs
    → is_before before (take (i + 1) vs) x ≡ (is_before before (take i vs) x || is_there x (entry_at before (get_or vs i 0)))
is_before-more before [] i x l = absurd (omega arith)
is_before-more before (v ∷ vs) zero x l = or_none (is_there x (entry_at before v))
is_before-more before (v ∷ vs) (suc i) x l =
    rw (add-one (suc i)) (rest (rw (add-one i) at (is_before-more before vs i x (omega arith))))
  where
    rest : is_before before (take (suc i) vs) x ≡ (is_before before (take i vs) x || is_there x (entry_at before (get_or vs i 0)))
        → (is_there x (entry_at before v) || is_before before (take (suc i) vs) x)
        ≡ ((is_there x (entry_at before v) || is_before before (take i vs) x) || is_there x (entry_at before (get_or vs i 0)))
    rest e = rw e (or_assoc (is_there x (entry_at before v)) (is_before before (take i vs) x) (is_there x (entry_at before (get_or vs i 0))))

pub there_is : (x : ℕ) (entry : Option ℕ) → is_there x entry ≡ true → entry ≡ Some x
there_is x None h = absurd (both_ways false refl h)
there_is x (Some u) h = ap Some (sym (eqb-true x u h))

pub is_before_gives : (before : List (Option ℕ)) (vs : List ℕ) (x : ℕ) → is_before before vs x ≡ true
    → (v : ℕ) × (is_member v vs ≡ true) × (entry_at before v ≡ Some x)
is_before_gives before [] x h = absurd (both_ways false refl h)
is_before_gives before (v ∷ vs) x h = elim (or_cases (is_there x (entry_at before v)) (is_before before vs x) h) [
  | inl here ↦ (v, is_member-get_or (v ∷ vs) 0 v (omega arith) refl, there_is x (entry_at before v) here)
  | inr later ↦ (let w = is_before_gives before vs x later in (w.0, or_right (eqb w.0 v) (is_member w.0 vs) w.1, w.2))
]

-- ---- one after the other

-- the vertices before the first i reached ones are taken out
pub record IsCutting (before : List (Option ℕ)) (reached : List ℕ) (i : ℕ) (rest : List ℕ) : Type 0 where
  pub rises : IsRising rest
  pub members : (x : ℕ) → is_member x rest ≡ (is_member x reached && not (is_before before (take i reached) x))
  pub size : length rest + i ≡ length reached + starts_among before (take i reached)

pub IsCutting-skip : (before : List (Option ℕ)) (reached : List ℕ) (i : ℕ) (rest : List ℕ) → i < length reached
    → entry_at before (get_or reached i 0) ≡ None → IsCutting before reached i rest → IsCutting before reached (i + 1) rest
IsCutting-skip before reached i rest l none c = record {
  rises = c.rises;
  members = λ x. c.members x ∙ ap (λ b. is_member x reached && not b)
      (sym (or_none (is_before before (take i reached) x)) ∙ ap (λ e. is_before before (take i reached) x || is_there x e) (sym none)
      ∙ sym (is_before-more before reached i x l));
  size = (let more = starts_among-more before reached i l in
      let one : one_if_none (entry_at before (get_or reached i 0)) ≡ 1 = ap one_if_none none in
      let size = c.size in
      omega arith);
}

cut_member : (x u : ℕ) (reached rest : List ℕ) (b now : Bool) → is_member x rest ≡ (is_member x reached && not b) → now ≡ (b || eqb x u)
    → is_member x (without_one rest u) ≡ (is_member x reached && not now)
cut_member x u reached rest b now e f = let m = is_member-without_one x u rest in grind arith

pub IsCutting-cut : (before : List (Option ℕ)) (reached : List ℕ) (i u : ℕ) (rest : List ℕ) → IsRising reached → i < length reached
    → ((v w x : ℕ) → entry_at before v ≡ Some x → entry_at before w ≡ Some x → v ≡ w) → is_member u reached ≡ true
    → entry_at before (get_or reached i 0) ≡ Some u → IsCutting before reached i rest → IsCutting before reached (i + 1) (without_one rest u)
IsCutting-cut before reached i u rest rises l once inside some c =
    let fresh : is_before before (take i reached) u ≡ false = false_from_ne_true (is_before before (take i reached) u) (λ h.
    let w = is_before_gives before (take i reached) u h in
    both_ways (is_member (get_or reached i 0) (take i reached)) (is_member-take_next reached i rises l)
    (subst (λ v. is_member v (take i reached) ≡ true) (once w.0 (get_or reached i 0) u w.2 some) w.1)) in
    let in_rest : is_member u rest ≡ true = c.members u
    ∙ and_from (is_member u reached) (not (is_before before (take i reached) u)) inside (ap not fresh) in
    record {
      rises = IsRising-without_one rest u c.rises;
      members = λ x. cut_member x u reached rest (is_before before (take i reached) x) _ (c.members x)
          (is_before-more before reached i x l ∙ ap (λ e. is_before before (take i reached) x || is_there x e) some);
      size = (let more = starts_among-more before reached i l in
          let none : one_if_none (entry_at before (get_or reached i 0)) ≡ 0 = ap one_if_none some in
          let less = length-without_one rest u c.rises in_rest in
          let size = c.size in
          omega arith);
    }

-- so those of the reached vertices that are before none of the first i
pub cut_so_far : (before : List (Option ℕ)) (reached : List ℕ) → IsRising reached
    → ((v w x : ℕ) → entry_at before v ≡ Some x → entry_at before w ≡ Some x → v ≡ w)
    → ((v u : ℕ) → is_member v reached ≡ true → entry_at before v ≡ Some u → is_member u reached ≡ true)
    → (i : ℕ) → i ≤ length reached → (rest : List ℕ) × IsCutting before reached i rest
cut_so_far before reached rises once closed zero l =
    (reached, record { rises = rises; members = λ x. sym (and_all (is_member x reached)); size = omega arith })
cut_so_far before reached rises once closed (suc i) l =
    let so_far = cut_so_far before reached rises once closed i (omega arith) in
    by_entry so_far.0 so_far.1 (entry_at before (get_or reached i 0)) refl
  where
    by_entry : (rest : List ℕ) → IsCutting before reached i rest → (entry : Option ℕ) → entry_at before (get_or reached i 0) ≡ entry
        → (other : List ℕ) × IsCutting before reached (suc i) other
    by_entry rest c None e = (rest, subst (λ j. IsCutting before reached j rest) (add-one i) (IsCutting-skip before reached i rest (omega arith) e c))
    by_entry rest c (Some u) e = (
      without_one rest u,
      subst (λ j. IsCutting before reached j (without_one rest u)) (add-one i)
          (IsCutting-cut before reached i u rest rises (omega arith) once (closed (get_or reached i 0) u (is_member-get_or reached i _ (omega arith) refl) e) e c),
    )
