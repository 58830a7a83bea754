-- Triangular exchange. The last pair is exchanged first: then the other pairs are triangular at I - y + x, since what can take the
-- place of what among them has not changed (`exchanges_unchanged`).
use Rattle.mat_laws.proofs.Common.{◌≡◌, ℕ, suc, zero, ◌<◌, Bool, true, false, not, ◌||◌, ◌&&◌, eqb, List, [], ◌∷◌, length, get_or, inl, inr, refl, sym, ap, ◌∙◌, arith, cases_Bool, eqb-true, ne_eqb, or_from, both_ways, is_member, IsRising, IsSubset, with_one, without_one, minus, union, set_members}
use Rattle.mat_laws.proofs.Common.{same_members, IsRising-with_one, IsRising-without_one, IsRising-minus, IsRising-union, with_one-swapped, with_one-returned, without_one-two, without_one-with_one, length-with_one, same_truth, IsMatroid, IsTriangular}
use Rattle.mat_laws.proofs.Independent.{rising}
use Rattle.mat_laws.proofs.Symmetric.{IsRising-exchange}

pub apart_by : (I : List ℕ) (x y : ℕ) → is_member x I ≡ false → is_member y I ≡ true → eqb x y ≡ false
apart_by I x y o i = grind arith

-- ---- one exchange

is_other : (e t u v : ℕ) (K : List ℕ) → is_member e (with_one (with_one K v) u) ≡ true → is_member e (with_one K t) ≡ false
    → eqb e u ≡ false → eqb e v ≡ true
is_other e t u v K i o differ = grind (arith, set_members)

less_middle : (K : List ℕ) (t w : ℕ) → IsSubset (with_one K t) (with_one (with_one K w) t)
less_middle K t w = record { inside = λ k m. grind (arith, set_members) }

module _ {n : ℕ} {p : List ℕ → Bool} (laws : IsMatroid n p) where
  -- K + u + v is independent, K + v + t is not and K + w + t is: then K + u + t is, since v is of no use to K + t
  takes_other_place : (K : List ℕ) (u v w t : ℕ) → IsRising K → is_member u (with_one K v) ≡ false → is_member v K ≡ false
      → is_member t K ≡ false
      → p (with_one (with_one K v) u) ≡ true → p (with_one (with_one K v) t) ≡ false → p (with_one (with_one K w) t) ≡ true
      → p (with_one (with_one K u) t) ≡ true
  takes_other_place K u v w t r u_out v_out t_out uv vt wt =
      let small : p (with_one K t) ≡ true = laws.subsets (with_one K t) (with_one (with_one K w) t) (IsRising-with_one K t r) (less_middle K t w) wt in
      let a = length-with_one K t r t_out in
      let b = length-with_one K v r v_out in
      let c = length-with_one (with_one K v) u (IsRising-with_one K v r) u_out in
      let g = laws.augmentation (with_one K t) (with_one (with_one K v) u) small uv (omega arith) in
      let e = g.element in
      elim (cases_Bool (eqb e u)) [
        | inl same ↦
            let with_u : with_one (with_one K t) e ≡ with_one (with_one K t) u = ap (λ z. with_one (with_one K t) z) (eqb-true e u same) in
            ap p (with_one-swapped K t u r ∙ sym with_u) ∙ g.augmented
        | inr other ↦
            let with_v : with_one (with_one K t) e ≡ with_one (with_one K t) v = ap (λ z. with_one (with_one K t) z) (eqb-true e v (is_other e t u v K g.inside g.outside other)) in
            absurd (both_ways _ vt (ap p (with_one-swapped K t v r ∙ sym with_v) ∙ g.augmented))
      ]

  -- after x took the place of y, which x' could not take: x' can take the place of the same other members as before
  pub exchanges_unchanged : (I : List ℕ) (x y x' y' : ℕ) → p I ≡ true → is_member y I ≡ true → is_member y' I ≡ true → eqb y' y ≡ false
      → is_member x I ≡ false → is_member x' I ≡ false
      → p (with_one (without_one I y) x) ≡ true → p (with_one (without_one I y) x') ≡ false
      → p (with_one (without_one (with_one (without_one I y) x) y') x') ≡ p (with_one (without_one I y') x')
  exchanges_unchanged I x y x' y' ok y_in y'_in differ x_out x'_out own none =
      let r = rising laws I ok in
      let ry = IsRising-without_one I y r in
      let K = without_one (without_one I y) y' in
      let rk : IsRising K = IsRising-without_one _ y' ry in
      let rest_in : is_member y' (without_one I y) ≡ true = grind (arith, set_members) in
      let y'_out : is_member y' K ≡ false = grind (arith, set_members) in
      let y_out : is_member y (with_one K y') ≡ false = grind (arith, set_members) in
      let y_none : is_member y K ≡ false = grind (arith, set_members) in
      let x_none : is_member x (with_one K y') ≡ false = grind (arith, set_members) in
      let x'_none : is_member x' K ≡ false = grind (arith, set_members) in
      let first : without_one (with_one (without_one I y) x) y' ≡ with_one K x = without_one-with_one (without_one I y) x y' ry (apart_by I x y' x_out y'_in) in
      let second : without_one I y' ≡ with_one K y = without_one-two I y y' r y_in differ in
      let third : with_one K y' ≡ without_one I y = with_one-returned (without_one I y) y' ry rest_in in
      let whole : with_one (with_one K y') y ≡ I = ap (λ s. with_one s y) third ∙ with_one-returned I y r y_in in
      let with_y : p (with_one (with_one K y') y) ≡ true = ap p whole ∙ ok in
      let with_x : p (with_one (with_one K y') x) ≡ true = ap (λ s. p (with_one s x)) third ∙ own in
      let with_x' : p (with_one (with_one K y') x') ≡ false = ap (λ s. p (with_one s x')) third ∙ none in
      let there : p (with_one (with_one K x) x') ≡ true → p (with_one (with_one K y) x') ≡ true = takes_other_place K y y' x x' rk y_out y'_out x'_none with_y with_x' in
      let back : p (with_one (with_one K y) x') ≡ true → p (with_one (with_one K x) x') ≡ true = takes_other_place K x y' y x' rk x_none y'_out x'_none with_x with_x' in
      ap (λ s. p (with_one s x')) first ∙ same_truth _ _ there back ∙ sym (ap (λ s. p (with_one s x')) second)

-- ---- pairs by functions of an index

-- the premises of triangular exchange, over the first m values of two functions
record AreTriangular (p : List ℕ → Bool) (I : List ℕ) (m : ℕ) (y x : ℕ → ℕ) : Type 0 where
  inside : (i : ℕ) → i < m → is_member (y i) I ≡ true
  outside : (i : ℕ) → i < m → is_member (x i) I ≡ false
  ys_differ : (i j : ℕ) → i < j → j < m → eqb (y i) (y j) ≡ false
  xs_differ : (i j : ℕ) → i < j → j < m → eqb (x i) (x j) ≡ false
  own : (i : ℕ) → i < m → p (with_one (without_one I (y i)) (x i)) ≡ true
  none_later : (i j : ℕ) → i < j → j < m → p (with_one (without_one I (y j)) (x i)) ≡ false

-- the exchanges one after the other, the last first
all_exchanged : (ℕ → ℕ) → (ℕ → ℕ) → ℕ → List ℕ → List ℕ
all_exchanged y x zero I = I
all_exchanged y x (suc m) I = all_exchanged y x m (with_one (without_one I (y m)) (x m))

-- whether k is one of the first m values
abbrev pub is_value : (ℕ → ℕ) → ℕ → ℕ → Bool
is_value f zero k = false
is_value f (suc m) k = is_value f m k || eqb k (f m)

pub still_in : (I : List ℕ) (k y x : ℕ) → is_member k I ≡ true → eqb k y ≡ false → is_member k (with_one (without_one I y) x) ≡ true
still_in I k y x i d = grind (arith, set_members)

pub still_out : (I : List ℕ) (k y x : ℕ) → is_member k I ≡ false → eqb k x ≡ false → is_member k (with_one (without_one I y) x) ≡ false
still_out I k y x i d = grind (arith, set_members)

-- an element outside I is none of the values, which are all members
pub not_value : (f : ℕ → ℕ) (m k : ℕ) (I : List ℕ) → is_member k I ≡ false → ((i : ℕ) → i < m → is_member (f i) I ≡ true)
    → is_value f m k ≡ false
not_value f zero k I o all = refl
not_value f (suc m) k I o all =
    or_from (is_value f m k) (eqb k (f m)) (not_value f m k I o (λ i l. all i (omega arith))) (apart_by I k (f m) o (all m (omega arith)))

-- the last exchange joins those before it, member by member
pub last_exchange : (after xs now ys here mid before gone : Bool) → after ≡ (xs || (now && not ys)) → now ≡ (here || mid)
    → mid ≡ (before && not gone) → (here ≡ true → ys ≡ false) → after ≡ ((xs || here) || (before && not (ys || gone)))
last_exchange after xs now ys here mid before gone a b c d = grind arith

module _ {n : ℕ} {p : List ℕ → Bool} (laws : IsMatroid n p) where
  fewer_pairs : (I : List ℕ) (m : ℕ) (y x : ℕ → ℕ) → p I ≡ true → AreTriangular p I (suc m) y x
      → AreTriangular p (with_one (without_one I (y m)) (x m)) m y x
  fewer_pairs I m y x ok t =
      let top : m < suc m = omega arith in
      let up : (i : ℕ) → i < m → i < suc m = λ i l. omega arith in
      let same : (i j : ℕ) → i < m → j < m → p (with_one (without_one (with_one (without_one I (y m)) (x m)) (y j)) (x i)) ≡ p (with_one (without_one I (y j)) (x i)) = λ i j li lj.
      exchanges_unchanged laws I (x m) (y m) (x i) (y j) ok (t.inside m top) (t.inside j (up j lj)) (t.ys_differ j m lj top)
      (t.outside m top) (t.outside i (up i li)) (t.own m top) (t.none_later i m li top) in
      record {
        inside = λ i l. still_in I (y i) (y m) (x m) (t.inside i (up i l)) (t.ys_differ i m l top);
        outside = λ i l. still_out I (x i) (y m) (x m) (t.outside i (up i l)) (t.xs_differ i m l top);
        ys_differ = λ i j a b. t.ys_differ i j a (up j b);
        xs_differ = λ i j a b. t.xs_differ i j a (up j b);
        own = λ i l. same i i l l ∙ t.own i (up i l);
        none_later = λ i j a b. same i j (omega arith) b ∙ t.none_later i j a (up j b);
      }

  all_exchanged-independent : (m : ℕ) (I : List ℕ) (y x : ℕ → ℕ) → p I ≡ true → AreTriangular p I m y x → p (all_exchanged y x m I) ≡ true
  unfolding all_exchanged
  all_exchanged-independent zero I y x ok t = ok
  all_exchanged-independent (suc m) I y x ok t = all_exchanged-independent m (with_one (without_one I (y m)) (x m)) y x (t.own m (omega arith)) (fewer_pairs I m y x ok t)

IsRising-all_exchanged : (m : ℕ) (I : List ℕ) (y x : ℕ → ℕ) → IsRising I → IsRising (all_exchanged y x m I)
unfolding all_exchanged
IsRising-all_exchanged zero I y x r = r
IsRising-all_exchanged (suc m) I y x r = IsRising-all_exchanged m (with_one (without_one I (y m)) (x m)) y x (IsRising-exchange I (x m) (y m) r)

-- the members after the exchanges
is_member-all_exchanged : (m : ℕ) (I : List ℕ) (y x : ℕ → ℕ) (k : ℕ) → ((i : ℕ) → i < m → is_member (y i) I ≡ true)
    → ((i : ℕ) → i < m → is_member (x i) I ≡ false)
    → ((i j : ℕ) → i < j → j < m → eqb (y i) (y j) ≡ false) → ((i j : ℕ) → i < j → j < m → eqb (x i) (x j) ≡ false)
    → is_member k (all_exchanged y x m I) ≡ (is_value x m k || (is_member k I && not (is_value y m k)))
unfolding all_exchanged
is_member-all_exchanged zero I y x k y_in x_out yd xd = grind arith
is_member-all_exchanged (suc m) I y x k y_in x_out yd xd =
    let top : m < suc m = omega arith in
    let up : (i : ℕ) → i < m → i < suc m = λ i l. omega arith in
    let J = with_one (without_one I (y m)) (x m) in
    let rest = is_member-all_exchanged m J y x k
    (λ i l. still_in I (y i) (y m) (x m) (y_in i (up i l)) (yd i m l top))
    (λ i l. still_out I (x i) (y m) (x m) (x_out i (up i l)) (xd i m l top))
    (λ i j a b. yd i j a (up j b)) (λ i j a b. xd i j a (up j b)) in
    let here : is_member k J ≡ (eqb k (x m) || is_member k (without_one I (y m))) = grind (arith, set_members) in
    let mid : is_member k (without_one I (y m)) ≡ (is_member k I && not (eqb k (y m))) = grind (arith, set_members) in
    let apart : eqb k (x m) ≡ true → is_value y m k ≡ false = λ h. not_value y m k I (ap (λ z. is_member z I) (eqb-true k (x m) h) ∙ x_out m top) (λ i l. y_in i (up i l)) in
    last_exchange (is_member k (all_exchanged y x m J)) (is_value x m k) (is_member k J) (is_value y m k) (eqb k (x m)) (is_member k (without_one I (y m))) (is_member k I) (eqb k (y m)) rest here mid apart

pub is_value-first : (f : ℕ → ℕ) (m k : ℕ) → is_value f (suc m) k ≡ (eqb k (f 0) || is_value (λ i. f (suc i)) m k)
is_value-first f zero k = grind arith
is_value-first f (suc m) k = let rest = is_value-first f m k in grind arith

pub is_value-list : (xs : List ℕ) (k : ℕ) → is_value (λ i. get_or xs i 0) (length xs) k ≡ is_member k xs
is_value-list [] k = refl
is_value-list (x ∷ xs) k = is_value-first (λ i. get_or (x ∷ xs) i 0) (length xs) k ∙ ap (λ b. eqb k x || b) (is_value-list xs k)

module _ {n : ℕ} {p : List ℕ → Bool} (laws : IsMatroid n p) where
  -- I without all of ys and with all of xs is independent
  pub triangular_exchange : (I ys xs : List ℕ) → p I ≡ true → IsTriangular p I ys xs → p (union xs (minus I ys)) ≡ true
  triangular_exchange I ys xs ok t =
      let m = length ys in
      let y : ℕ → ℕ = λ i. get_or ys i 0 in
      let x : ℕ → ℕ = λ i. get_or xs i 0 in
      let yd : (i j : ℕ) → i < j → j < m → eqb (y i) (y j) ≡ false = λ i j a b. ne_eqb (y i) (y j) (t.ys_differ i j a b) in
      let xd : (i j : ℕ) → i < j → j < m → eqb (x i) (x j) ≡ false = λ i j a b. ne_eqb (x i) (x j) (t.xs_differ i j a b) in
      let pairs : AreTriangular p I m y x = record { inside = t.inside; outside = t.outside; ys_differ = yd; xs_differ = xd; own = t.own; none_later = t.none_later } in
      let r = rising laws I ok in
      let same : all_exchanged y x m I ≡ union xs (minus I ys) = same_members _ _ (IsRising-all_exchanged m I y x r) (IsRising-union xs _ (IsRising-minus I ys r))
      (λ k. let a = is_member-all_exchanged m I y x k t.inside t.outside yd xd in
      let b = is_value-list ys k in
      let c : is_value x m k ≡ is_member k xs = ap (λ l. is_value x l k) t.lengths ∙ is_value-list xs k in
      grind (arith, set_members)) in
      sym (ap p same) ∙ all_exchanged-independent laws m I y x ok pairs
