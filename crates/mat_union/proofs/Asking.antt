-- The steps of a search that asks for exchanges: it begins, is told those of an element at one part after the other, and goes on to the next
-- element of the queue. Whatever holds of the start and goes on along the known arcs holds of what they lead to.
use Rattle.mat_union.proofs.Common.{◌≡◌, ◌≢◌, ℕ, suc, ◌+◌, ◌*◌, ◌-◌, ◌<◌, Bool, true, false, not, ◌||◌, ◌&&◌, ◌⊎◌, eqb, List, [], ◌∷◌, ◌++◌, length, get_or, take, inl, inr, refl, sym, ap, ◌∙◌, subst, arith, length-append, and_parts, cases_Bool, cases_eq, eq-eqb, eqb-true, false≢true, or_cases}
use Rattle.mat_union.proofs.Common.{or_from, or_left, or_right, get_or_append_left, take-append-le, some_below, is_member, without_one, is_member-append, is_member-get_or, is_member-without_one, only_member, is_member-take_more, Exchanges, can_enter, can_push, left_over, AreTaken, IsReachingTo}
use Rattle.mat_union.proofs.Common.{row_at, and_not_gives, and_not_none, some_below-zero}
use Rattle.std.proofs.Math.Nat.{suc-mul}
use Rattle.std.proofs.Math.Numerals.{add-one}
use Rattle.std.proofs.Math.Seq.{get_or-append_seam}
use Rattle.mat_union.proofs.Taking.{without-no_longer}

more_below : (i : ℕ) (test : ℕ → Bool) → some_below (suc i) test ≡ (test i || some_below i test)
unfolding some_below
more_below i test = refl

-- ---- the beginning

pub search_begins : (n m : ℕ) (exchanges : ℕ → Exchanges) (among unreached pushes queue : List ℕ) (rows : List (List ℕ)) (start : ℕ) → start < n
    → ((v : ℕ) → is_member v among ≡ true → v < n) → unreached ≡ without_one among start → queue ≡ start ∷ [] → pushes ≡ [] → rows ≡ []
    → IsReachingTo n m exchanges among start 0 0 queue pushes unreached rows
search_begins n m exchanges among unreached pushes queue rows start l small u q p t = rw (u, q, p, t) (record {
  long = refl;
  told_some = omega arith;
  first = or_left (eqb start start) false (eq-eqb start start refl);
  below = λ v h. subst (λ z. z < n) (sym (only_member v start h)) l;
  among_below = small;
  inside = λ v h. (and_parts (is_member v among) (not (eqb v start)) (sym (is_member-without_one v start among) ∙ h)).0;
  reached = λ v h. or_left (eqb v start) (is_member v among) (eq-eqb v start (only_member v start h));
  left = λ v h o. or_left (eqb v start) false (and_not_gives (is_member v among) (eqb v start) h (sym (is_member-without_one v start among) ∙ o));
  told = λ k v h. absurd (omega arith);
  refused = λ w h. absurd (false≢true h);
  closed = λ w v h a. absurd (false≢true h);
  pushed = λ v. sym (some_below-zero (λ i. (exchanges i).trades v start));
  none = some_below-zero (λ i. (exchanges i).adds start);
  least = λ test base step v h. ap test (only_member v start h) ∙ base;
  fuel = (let s = without-no_longer among start in omega arith);
})

-- ---- the exchanges at one more part

pub told_more : {n m : ℕ} {exchanges : ℕ → Exchanges} {among : List ℕ} {start parts_told head : ℕ} {queue pushes unreached : List ℕ} {rows : List (List ℕ)}
    → IsReachingTo n m exchanges among start parts_told head queue pushes unreached rows → (more row : List ℕ)
    → ((v : ℕ) → is_member v more ≡ (is_member v pushes || is_member v row))
    → ((v : ℕ) → is_member v row ≡ (exchanges parts_told).trades v (get_or queue head 0)) → (exchanges parts_told).adds (get_or queue head 0) ≡ false
    → (next : ℕ) → next ≡ suc parts_told → IsReachingTo n m exchanges among start next head queue more unreached rows
told_more {n} {m} {exchanges} {among} {start} {parts_told} {head} {queue} {pushes} {unreached} {rows} s more row members trades adds next e = rw e (record {
  long = s.long;
  told_some = s.told_some;
  first = s.first;
  below = s.below;
  among_below = s.among_below;
  inside = s.inside;
  reached = s.reached;
  left = s.left;
  told = s.told;
  refused = s.refused;
  closed = s.closed;
  pushed = λ v. members v ∙ join (is_member v pushes) (is_member v row) _ _ (s.pushed v) (trades v) ∙ sym (more_below parts_told (λ i. (exchanges i).trades v (get_or queue head 0)));
  none = more_below parts_told (λ i. (exchanges i).adds (get_or queue head 0)) ∙ or_from _ _ adds s.none;
  least = s.least;
  fuel = s.fuel;
})
  where
    join : (a b c d : Bool) → a ≡ c → b ≡ d → (a || b) ≡ (d || c)
    join true true c d f g = rw (sym f, sym g) refl
    join true false c d f g = rw (sym f, sym g) refl
    join false true c d f g = rw (sym f, sym g) refl
    join false false c d f g = rw (sym f, sym g) refl

-- ---- the next element

module _ {n m : ℕ} {exchanges : ℕ → Exchanges} {among : List ℕ} {start head : ℕ} {queue pushes unreached : List ℕ} {rows : List (List ℕ)}
    (s : IsReachingTo n m exchanges among start m head queue pushes unreached rows) (rest more : List ℕ) (t : AreTaken pushes unreached queue rest more)
    (l : head < length queue) where
  abbrev u : ℕ
  u = get_or queue head 0

  abbrev later : List (List ℕ)
  later = rows ++ pushes ∷ []

  u_in : is_member u queue ≡ true
  u_in = is_member-get_or queue head u l refl

  more_is : (v : ℕ) → is_member v more ≡ (is_member v queue || (is_member v unreached && is_member v pushes))
  more_is v = ap (is_member v) t.behind ∙ is_member-append v queue t.found ∙ ap (λ b. is_member v queue || b) (t.found_is v)

  more_cases : (v : ℕ) → is_member v more ≡ true → (is_member v queue ≡ true) ⊎ ((is_member v unreached ≡ true) × (is_member v pushes ≡ true))
  more_cases v h = elim (or_cases (is_member v queue) (is_member v unreached && is_member v pushes) (sym (more_is v) ∙ h)) [
    | inl a ↦ inl a
    | inr b ↦ inr (and_parts (is_member v unreached) (is_member v pushes) b)
  ]

  told_is : (z : ℕ) → is_member z (take (suc head) more) ≡ (is_member z (take head queue) || eqb z u)
  told_is z = ap (λ xs. is_member z (take (suc head) xs)) t.behind ∙ ap (is_member z) (take-append-le (suc head) queue t.found (omega arith))
      ∙ ap (λ k. is_member z (take k queue)) (sym (add-one head)) ∙ is_member-take_more queue head z l

  told_other : (z : ℕ) → is_member z (take (suc head) more) ≡ true → z ≢ u → is_member z (take head queue) ≡ true
  told_other z h d = elim (or_cases (is_member z (take head queue)) (eqb z u) (sym (told_is z) ∙ h)) [ inl a ↦ a | inr e ↦ absurd (d (eqb-true z u e)) ]

  -- the elements of the queue stay at their places
  same_place : (k : ℕ) → k < length queue → get_or more k 0 ≡ get_or queue k 0
  same_place k h = ap (λ xs. get_or xs k 0) t.behind ∙ get_or_append_left queue t.found 0 k h

  told_before : (k v : ℕ) → k < head → is_member v (row_at later k) ≡ can_push m exchanges (get_or more k 0) v
  told_before k v h = ap (is_member v) (get_or_append_left rows (pushes ∷ []) [] k (let e = s.long in omega arith)) ∙ s.told k v h
      ∙ ap (λ x. can_push m exchanges x v) (sym (same_place k (omega arith)))

  told_here : (v : ℕ) → is_member v (row_at later head) ≡ can_push m exchanges (get_or more head 0) v
  told_here v = ap (is_member v) (ap (λ k. get_or later k []) (sym s.long) ∙ get_or-append_seam rows pushes [] []) ∙ s.pushed v
      ∙ ap (λ x. can_push m exchanges x v) (sym (same_place head l))

  pub search_goes_on : (none : can_enter m exchanges u ≡ false) → (next : ℕ) → next ≡ suc head → (fresh : List ℕ) → fresh ≡ [] → (rows' : List (List ℕ)) → rows' ≡ later
      → IsReachingTo n m exchanges among start 0 next more fresh rest rows'
  search_goes_on none next e fresh f rows' g = rw (e, f, g) (record {
    long = (let h = s.long in let k = length-append rows (pushes ∷ []) in omega arith);
    told_some = (let h = ap length t.behind in let k = length-append queue t.found in omega arith);
    first = more_is start ∙ or_left (is_member start queue) _ s.first;
    below = λ v h. elim (more_cases v h) [ inl a ↦ s.below v a | inr b ↦ s.among_below v (s.inside v b.0) ];
    among_below = s.among_below;
    inside = λ v h. s.inside v (still v h);
    reached = λ v h. elim (more_cases v h) [ inl a ↦ s.reached v a | inr b ↦ or_right (eqb v start) (is_member v among) (s.inside v b.0) ];
    left = λ v h o. more_is v ∙ elim (cases_Bool (is_member v unreached)) [
      | inl a ↦ or_right (is_member v queue) _ (taken (is_member v unreached) (is_member v pushes) a (sym (t.rest_is v) ∙ o))
      | inr a ↦ or_left (is_member v queue) _ (s.left v h a)
    ];
    told = λ k v h. elim (cases_eq k head) [
      | inl d ↦ subst (λ y. is_member v (row_at later y) ≡ can_push m exchanges (get_or more y 0) v) (sym d) (told_here v)
      | inr d ↦ told_before k v (omega arith)
    ];
    refused = λ z h. elim (cases_eq z u) [
      | inl d ↦ ap (can_enter m exchanges) d ∙ none
      | inr d ↦ s.refused z (told_other z h d)
    ];
    closed = λ z v h a. t.rest_is v ∙ elim (cases_eq z u) [
      | inl d ↦ and_not_none (is_member v unreached) (is_member v pushes) (s.pushed v ∙ subst (λ y. can_push m exchanges y v ≡ true) d a)
      | inr d ↦ missing (is_member v unreached) (is_member v pushes) (s.closed z v (told_other z h d) a)
    ];
    pushed = λ v. sym (some_below-zero (λ i. (exchanges i).trades v (get_or more (suc head) 0)));
    none = some_below-zero (λ i. (exchanges i).adds (get_or more (suc head) 0));
    least = λ test base step v h.
        (let old : (y : ℕ) → is_member y queue ≡ true → test y ≡ true = s.least test base (λ z y k i a. step z y k (told_is z ∙ or_left (is_member z (take head queue)) _ i) a) in
        elim (more_cases v h) [
          | inl a ↦ old v a
          | inr b ↦ step u v (old u u_in) (told_is u ∙ or_right (is_member u (take head queue)) _ (eq-eqb u u refl)) (sym (s.pushed v) ∙ b.1)
        ]);
    fuel = (let a = t.fuel in let b = s.fuel in omega arith);
  })
    where
      still : (v : ℕ) → is_member v rest ≡ true → is_member v unreached ≡ true
      still v h = (and_parts (is_member v unreached) (not (is_member v pushes)) (sym (t.rest_is v) ∙ h)).0

      taken : (a p : Bool) → a ≡ true → (a && not p) ≡ false → (a && p) ≡ true
      taken a p h o = grind arith

      missing : (a p : Bool) → a ≡ false → (a && not p) ≡ false
      missing a p h = grind arith

-- ---- the questions that are left

pub entered_left : (e e' : Bool) (bound head count part : ℕ) → e ≡ false → e' ≡ true → left_over e' bound head count part < left_over e bound head count part
entered_left e e' bound head count part a b = rw (a, b) (omega arith)

pub part_left : (e e' : Bool) (bound head count part next : ℕ) → e ≡ false → e' ≡ false → next ≡ suc part → part < count
    → left_over e' bound head count next < left_over e bound head count part
part_left e e' bound head count part next a b n l = rw (a, b) (omega arith)

pub closed_left : (e e' : Bool) (bound head next count count' part fresh : ℕ) → e ≡ false → e' ≡ false → count' ≡ count → next ≡ suc head → fresh ≡ 0 → head < bound → suc part ≡ count
    → left_over e' bound next count' fresh < left_over e bound head count part
closed_left e e' bound head next count count' part fresh a b c n f l last = rw (a, b, c, f) (fewer (bound - next) (bound - head) (omega arith))
  where
    fewer : (x y : ℕ) → y ≡ suc x → suc (x * count + (count - 0)) < suc (y * count + (count - part))
    fewer x y g = rw g (omega (arith, suc-mul x count))
