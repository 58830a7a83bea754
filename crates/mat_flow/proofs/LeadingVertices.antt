-- The vertices from which a walk leads to a goal are found in rounds. A round that puts none in has left none out, and as many rounds as there are
-- vertices have put all of them in.
use Rattle.mat_flow.proofs.Common.{◌≡◌, ℕ, ◌+◌, ◌<◌, ◌≤◌, Bool, true, false, not, eqb, ltb, List, length, inl, inr, refl, sym, ap, ◌∙◌, subst, arith, and_from, and_parts, both_ways, cases_Bool, cases_eq, eqb-true, false_from_ne_true, false≢true, lt-ltb, ltb-true, not-true, or_cases, or_right}
use Rattle.mat_flow.proofs.Common.{those_below, is_member, with_one, IsRising, IsReachedSet, IsShortestWalk, length-with_one, below_member, length-distinct_below, AllBelow-from_members, AreDistinct-rising, is_member-with_one, IsRising-with_one, finite_reach, reached_by_induction}
use Rattle.mat_flow.proofs.Common.{is_member-those_below, IsSet-those_below, AreLedFrom, AreLeading, IsLed}

-- ---- a round

module _ (n : ℕ) (arc : ℕ → ℕ → Bool) (u : ℕ) (old now : List ℕ) (came : Bool) (h : AreLedFrom n arc u old now came) where
  -- a vertex is put in
  pub AreLedFrom-more : u < n → IsLed arc u now true → AreLedFrom n arc (u + 1) old (with_one now u) true
  AreLedFrom-more l led = record {
    below = λ v m. by v (λ w. w < n) l h.below m;
    more = λ v m. is_member-with_one v u now ∙ or_right (eqb v u) (is_member v now) (h.more v m);
    rising = λ r. IsRising-with_one now u (h.rising r);
    long = λ r. (let grown = longer r in omega arith);
    longer = λ r e. longer r;
    least = λ f s t v m. by v (λ w. f w ≡ true) (t u led.1.0 (h.below led.1.0 led.1.1) led.1.2 (h.least f s t led.1.0 led.1.1)) (h.least f s t) m;
    closed = λ e. absurd (false≢true (sym e));
  }
    where
      by : (v : ℕ) (P : ℕ → Type 0) → P u → ((w : ℕ) → is_member w now ≡ true → P w) → is_member v (with_one now u) ≡ true → P v
      by v P new before m = elim (or_cases (eqb v u) (is_member v now) (sym (is_member-with_one v u now) ∙ m)) [
        | inl same ↦ subst P (sym (eqb-true v u same)) new
        | inr stays ↦ before v stays
      ]

      longer : IsRising old → length old < length (with_one now u)
      longer r = (let size = length-with_one now u (h.rising r) led.0 in let grown = h.long r in omega arith)

  -- no arc leads from it to one that is in, or it is in
  pub AreLedFrom-passed : IsLed arc u now false → AreLedFrom n arc (u + 1) old now came
  AreLedFrom-passed stays = record {
    below = h.below;
    more = h.more;
    rising = h.rising;
    long = h.long;
    longer = h.longer;
    least = h.least;
    closed = λ e w v l a m. elim (cases_eq w u) [
      | inl same ↦ subst (λ x. is_member x now ≡ true) (sym same) (stays v (subst (λ x. arc x v ≡ true) same a) m)
      | inr other ↦ h.closed e w v (omega arith) a m
    ];
  }

-- ---- all rounds

-- after so many rounds, of which each has put some in, all goals are in, and only vertices from which a walk leads to one
pub record AreLeadingAfter (n : ℕ) (arc : ℕ → ℕ → Bool) (goal : ℕ → Bool) (rounds : ℕ) (leading : List ℕ) : Type 0 where
  pub below : (v : ℕ) → is_member v leading ≡ true → v < n
  pub goals : (v : ℕ) → v < n → goal v ≡ true → is_member v leading ≡ true
  pub least : (f : ℕ → Bool) → ((v : ℕ) → v < n → goal v ≡ true → f v ≡ true)
      → ((u v : ℕ) → v < n → arc u v ≡ true → f v ≡ true → f u ≡ true) → (v : ℕ) → is_member v leading ≡ true → f v ≡ true
  pub rising : IsRising leading
  pub long : rounds ≤ length leading

pub AreLeadingAfter-none : (n : ℕ) (arc : ℕ → ℕ → Bool) (goal : ℕ → Bool) (found : List ℕ) → found ≡ those_below n goal
    → AreLeadingAfter n arc goal 0 found
AreLeadingAfter-none n arc goal found is = subst (AreLeadingAfter n arc goal 0) (sym is) (record {
  below = λ v m. ltb-true v n (parts v m).0;
  goals = λ v l g. is_member-those_below v n goal ∙ and_from (ltb v n) (goal v) (lt-ltb v n l) g;
  least = λ f s t v m. (let p = parts v m in s v (ltb-true v n p.0) p.1);
  rising = (IsSet-those_below n goal).rising;
  long = omega arith;
})
  where
    parts : (v : ℕ) → is_member v (those_below n goal) ≡ true → (ltb v n ≡ true) × (goal v ≡ true)
    parts v m = and_parts (ltb v n) (goal v) (sym (is_member-those_below v n goal) ∙ m)

module _ (n : ℕ) (arc : ℕ → ℕ → Bool) (goal : ℕ → Bool) (rounds : ℕ) (leading : List ℕ) (h : AreLeadingAfter n arc goal rounds leading) where
  pub AreLeadingAfter-more : (new : List ℕ) → AreLedFrom n arc n leading new true → AreLeadingAfter n arc goal (rounds + 1) new
  AreLeadingAfter-more new r = record {
    below = r.below;
    goals = λ v l g. r.more v (h.goals v l g);
    least = λ f s t. r.least f (h.least f s t) t;
    rising = r.rising h.rising;
    long = (let grown = r.longer h.rising refl in let before = h.long in omega arith);
  }

  -- a round that put none in
  pub AreLeading-ended : (new : List ℕ) → AreLedFrom n arc n leading new false → AreLeading n arc goal new
  AreLeading-ended new r = record {
    below = r.below;
    goals = λ v l g. r.more v (h.goals v l g);
    closed = r.closed refl;
    least = λ f s t. r.least f (h.least f s t) t;
  }

  -- all vertices are in
  pub AreLeading-all : n ≤ rounds → AreLeading n arc goal leading
  AreLeading-all l = record {
    below = h.below;
    goals = h.goals;
    closed = λ u v m a k. all u m;
    least = h.least;
  }
    where
      all : (u : ℕ) → u < n → is_member u leading ≡ true
      all u m = elim (cases_Bool (is_member u leading)) [
        | inl on ↦ on
        | inr out ↦ (let size = length-with_one leading u h.rising out in
            let most = length-distinct_below n (with_one leading u) (AreDistinct-rising _ (IsRising-with_one leading u h.rising))
            (AllBelow-from_members n (with_one leading u) (λ v k. elim (or_cases (eqb v u) (is_member v leading) (sym (is_member-with_one v u leading) ∙ k)) [
              | inl same ↦ subst (λ w. w < n) (sym (eqb-true v u same)) m
              | inr stays ↦ h.below v stays
            ])) in
            let many = h.long in
            absurd (omega arith))
      ]

-- ---- what they tell

module _ (n : ℕ) (arc : ℕ → ℕ → Bool) (goal : ℕ → Bool) (leading : List ℕ) (h : AreLeading n arc goal leading) (start : ℕ → Bool) where
  -- from a start among them a walk leads to a goal
  pub leading_walk : (v : ℕ) → start v ≡ true → is_member v leading ≡ true → (vertices : List ℕ) × IsShortestWalk n arc start goal vertices
  leading_walk v s m = elim (finite_reach n arc start goal) [
    | inl q ↦ q
    | inr q ↦ absurd (both_ways (is_member v q.0)
        (not-true (is_member v q.0) (h.least (λ u. not (is_member u q.0))
        (λ u l g. ap not (false_from_ne_true (is_member u q.0) (λ on. both_ways (goal u) (q.2 u on) g)))
        (λ u w l a out. ap not (false_from_ne_true (is_member u q.0) (λ on. both_ways (is_member w q.0) (not-true (is_member w q.0) out) (q.1.closed u w on l a))))
        v m))
        (q.1.starts v (h.below v m) s))
  ]

  -- where no start is among them, no goal is reached
  pub unled_misses : (reached : List ℕ) → IsReachedSet n arc start reached → ((v : ℕ) → v < n → start v ≡ true → is_member v leading ≡ false)
      → (v : ℕ) → is_member v reached ≡ true → goal v ≡ false
  unled_misses reached r none v m = false_from_ne_true (goal v) (λ g. both_ways (is_member v leading)
      (not-true (is_member v leading) (reached_by_induction reached (λ u. not (is_member u leading)) r (λ u l s. ap not (none u l s))
      (λ u w on l out a. ap not (false_from_ne_true (is_member w leading) (λ in_it. both_ways (is_member u leading) (not-true (is_member u leading) out)
      (h.closed u w (below_member r.set on) a in_it))))
      v m))
      (h.goals v (below_member r.set m) g))

-- the same of another relation that has the same arcs
pub AreLeading-same : (n : ℕ) (arc other : ℕ → ℕ → Bool) (goal : ℕ → Bool) (leading : List ℕ) → ((u v : ℕ) → arc u v ≡ other u v)
    → AreLeading n arc goal leading → AreLeading n other goal leading
AreLeading-same n arc other goal leading same h = record {
  below = h.below;
  goals = h.goals;
  closed = λ u v l a. h.closed u v l (same u v ∙ a);
  least = λ f s t. h.least f s (λ u v l a. t u v l (sym (same u v) ∙ a));
}
