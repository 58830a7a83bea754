-- What early arcs lead to, and how the path of joined sets grows and closes up.
use Rattle.mat_cuts.proofs.Common.{if◌then◌else◌, ◌≡◌, ◌≢◌, ℕ, ◌+◌, ◌<◌, ◌≤◌, ◌⊎◌, Bool, true, false, not, ◌&&◌, leb, eqb, List, length, inl, inr, refl, sym, ap, ◌∙◌, subst, arith, and_parts, both_ways, cases_Bool, cases_eq, cases_lt, eq-eqb, false_from_ne_true, le-leb, ne_eqb, never, ends_of}
use Rattle.mat_cuts.proofs.Common.{is_member, without_one, below_member, IsSet-without_one, is_member-without_one, at, falls, IsPath, Leads}
use Rattle.std.proofs.lemmas.Bool.Decides.{nat_tests}

module _ (count : ℕ) (ends : ℕ → ℕ × ℕ) (since : List ℕ) (i : ℕ) where
  pub Leads-itself : (x : ℕ) → Leads count ends since i x x
  Leads-itself x = record { to = λ test closed t. t }

  pub Leads-arc : (a : ℕ) → a < count → at since a ≤ i → Leads count ends since i (ends a).0 (ends a).1
  Leads-arc a l e = record { to = λ test closed t. closed a l e t }

  pub Leads-trans : (x y z : ℕ) → Leads count ends since i x y → Leads count ends since i y z → Leads count ends since i x z
  Leads-trans x y z f g = record { to = λ test closed t. g.to test closed (f.to test closed t) }

  -- more arcs lead as far
  pub Leads-later : (later : List ℕ) (j x y : ℕ) → ((a : ℕ) → a < count → at since a ≤ i → at later a ≤ j)
      → Leads count ends since i x y → Leads count ends later j x y
  Leads-later later j x y more f = record { to = λ test closed t. f.to test (λ a l e. closed a l (more a l e)) t }

-- ---- the places that fall

pub falls-cases : (j last p : ℕ)
    → ((p < j) × (falls j last p ≡ p)) ⊎ (((j ≤ p) × (p ≤ last) × (falls j last p ≡ j)) ⊎ ((last < p) × (falls j last p ≡ p)))
unfolding falls
falls-cases j last p = elim (cases_lt p j) [
  | inl low ↦ inl (low, by_low (leb j p) (leb p last) (false_from_ne_true _ (λ h. absurd (omega (arith, leb-gives j p h)))))
  | inr up ↦ elim (cases_lt last p) [
    | inl high ↦ inr (inr (high, by_high (leb j p) (leb p last) (false_from_ne_true _ (λ h. absurd (omega (arith, leb-gives p last h))))))
    | inr within ↦ inr (inl (up, within, by_both (leb j p) (leb p last) (le-leb j p up) (le-leb p last within)))
  ]
]
  where
    leb-gives : (m n : ℕ) → leb m n ≡ true → m ≤ n
    leb-gives m n h = grind (arith, nat_tests)

    by_low : (b c : Bool) → b ≡ false → (if b && c then j else p) ≡ p
    by_low b c e = rw e refl

    by_high : (b c : Bool) → c ≡ false → (if b && c then j else p) ≡ p
    by_high true c e = rw e refl
    by_high false c e = refl

    by_both : (b c : Bool) → b ≡ true → c ≡ true → (if b && c then j else p) ≡ j
    by_both b c e f = rw (e, f) refl

module _ (vertices : ℕ) (arcs : List (ℕ × ℕ)) (root : ℕ) (since : List ℕ) (now : ℕ) where
  -- an unseen vertex becomes the last one of the path
  pub IsPath-push : (place next fresh : List ℕ) (last t : ℕ) → IsPath vertices arcs root since now place fresh last → last + 1 < never
      → is_member t fresh ≡ true
      → ((y : ℕ) → y < vertices → 0 < at place y → at place y ≤ last → Leads (length arcs) (ends_of arcs) since now t y)
      → length next ≡ vertices → at next t ≡ last + 1 → ((w : ℕ) → w ≢ t → at next w ≡ at place w)
      → IsPath vertices arcs root since now next (without_one fresh t) (last + 1)
  IsPath-push place next fresh last t p small member leads long here other =
      let unseen_t = p.unseen t member in
      record {
        long = long;
        fresh_set = IsSet-without_one vertices fresh t p.fresh_set;
        unseen = λ v m. let q = and_parts (is_member v fresh) (not (eqb v t)) (sym (is_member-without_one v t fresh) ∙ m) in
            other v (λ e. both_ways _ (ap not (eq-eqb v t e)) q.1) ∙ p.unseen v q.0;
        seen = λ v l m. elim (cases_eq v t) [
          | inl e ↦ (let h : at next v ≡ last + 1 = ap (at next) e ∙ here in omega arith)
          | inr d ↦ (let h = other v d in
              let out : is_member v fresh ≡ false = kept (is_member v fresh) (eqb v t) (ne_eqb v t d) (sym (is_member-without_one v t fresh) ∙ m) in
              let s = p.seen v l out in omega arith)
        ];
        root_place = other root (λ e. let z = p.root_place in let u : at place root ≡ never = ap (at place) e ∙ unseen_t in absurd (omega arith)) ∙ p.root_place;
        rooted = λ v l z. elim (cases_eq v t) [
          | inl e ↦ (let h : at next v ≡ last + 1 = ap (at next) e ∙ here in absurd (omega arith))
          | inr d ↦ p.rooted v l (sym (other v d) ∙ z)
        ];
        joined = λ x y lx ly some le most. elim (cases_eq x t) [
          | inl e ↦ subst (λ z. Leads (length arcs) (ends_of arcs) since now z y) (sym e) (elim (cases_eq y t) [
            | inl f ↦ subst (Leads (length arcs) (ends_of arcs) since now t) (sym f) (Leads-itself (length arcs) (ends_of arcs) since now t)
            | inr f ↦ (let same = other y f in elim (cases_lt last (at place y)) [
              | inr low ↦ leads y ly (omega arith) low
              | inl high ↦ (let h : at next x ≡ last + 1 = ap (at next) e ∙ here in
                  elim (cases_Bool (is_member y fresh)) [
                    | inl m ↦ (let u = p.unseen y m in absurd (omega arith))
                    | inr m ↦ (let s = p.seen y ly m in absurd (omega arith))
                  ])
            ])
          ])
          | inr d ↦ (let same_x = other x d in
              let low_x : at place x ≤ last = elim (cases_Bool (is_member x fresh)) [
                | inl m ↦ (let u = p.unseen x m in absurd (omega arith))
                | inr m ↦ p.seen x lx m
              ] in
              elim (cases_eq y t) [
                | inl f ↦ (let h : at next y ≡ last + 1 = ap (at next) f ∙ here in absurd (omega arith))
                | inr f ↦ (let same_y = other y f in p.joined x y lx ly (omega arith) (omega arith) low_x)
              ])
        ];
        some = λ l. (t, below_member p.fresh_set member, here);
      }
    where
      kept : (b c : Bool) → c ≡ false → (b && not c) ≡ false → b ≡ false
      kept true c e h = absurd (both_ways _ h (rw e refl))
      kept false c e h = refl

  -- an early arc from the path or from what the root reaches enters its last set: all sets in between are joined
  pub IsPath-join : (place next fresh : List ℕ) (last a : ℕ) → IsPath vertices arcs root since now place fresh last → last < never
      → a < length arcs → (ends_of arcs a).0 < vertices → (ends_of arcs a).1 < vertices → at since a ≤ now
      → at place (ends_of arcs a).1 ≡ last
      → at place (ends_of arcs a).0 < last → length next ≡ vertices
      → ((w : ℕ) → at next w ≡ falls (at place (ends_of arcs a).0) last (at place w))
      → IsPath vertices arcs root since now next fresh (at place (ends_of arcs a).0)
  IsPath-join place next fresh last a p small la lt lh early head tail long fell =
      let t = (ends_of arcs a).0 in
      let h = (ends_of arcs a).1 in
      let j = at place t in
      let step = Leads-arc (length arcs) (ends_of arcs) since now a la early in
      let by = λ (w : ℕ). falls-cases j last (at place w) in
      record {
        long = long;
        fresh_set = p.fresh_set;
        unseen = λ v m. let u = p.unseen v m in let f = fell v in elim (by v) [
          | inl c ↦ absurd (let l = c.0 in omega arith)
          | inr (inl c) ↦ absurd (let l = c.1 in omega arith)
          | inr (inr c) ↦ f ∙ c.1 ∙ u
        ];
        seen = λ v l m. let s = p.seen v l m in let f = fell v in elim (by v) [
          | inl c ↦ (let e = c.1 in let k = c.0 in omega arith)
          | inr (inl c) ↦ (let e = c.2 in omega arith)
          | inr (inr c) ↦ absurd (let k = c.0 in omega arith)
        ];
        root_place = (let z = p.root_place in let f = fell root in elim (by root) [
          | inl c ↦ f ∙ c.1 ∙ z
          | inr (inl c) ↦ (let e = c.2 in let k = c.0 in omega arith)
          | inr (inr c) ↦ f ∙ c.1 ∙ z
        ]);
        rooted = λ v l z. let f = fell v in elim (by v) [
          | inl c ↦ p.rooted v l (sym c.1 ∙ sym f ∙ z)
          | inr (inl c) ↦ (let e = c.2 in let high = c.1 in
              let j0 : j ≡ 0 = omega arith in
              let to_head = Leads-trans (length arcs) (ends_of arcs) since now root t h (p.rooted t lt j0) step in
              elim (cases_lt 0 (at place v)) [
                | inl some ↦ Leads-trans (length arcs) (ends_of arcs) since now root h v to_head (p.joined h v lh l some (omega arith) (omega arith))
                | inr none ↦ p.rooted v l (omega arith)
              ])
          | inr (inr c) ↦ absurd (let e = c.1 in let k = c.0 in omega arith)
        ];
        joined = λ x y lx ly some le most. let fx = fell x in let fy = fell y in
            let low : (w : ℕ) → at next w ≤ j → (at place w ≤ last) × (at next w ≤ at place w)
            × ((at place w < j → at next w ≡ at place w) × (j ≤ at place w → at next w ≡ j)) = λ w k. (let f = fell w in elim (by w) [
              | inl c ↦ (let e = c.1 in let q = c.0 in (omega arith, omega arith, ((λ u. omega arith), (λ u. absurd (omega arith)))))
              | inr (inl c) ↦ (let e = c.2 in let q = c.0 in let r = c.1 in (omega arith, omega arith, ((λ u. absurd (omega arith)), (λ u. omega arith))))
              | inr (inr c) ↦ absurd (let e = c.1 in let q = c.0 in omega arith)
            ]) in
            let wx = low x most in
            let wy = low y (omega arith) in
            let px = wx.0 in let py = wy.0 in let qy = wy.1 in
            elim (cases_lt (at place x) (at place y)) [
              | inr above ↦ p.joined x y lx ly (omega arith) above px
              | inl below ↦ elim (cases_lt (at place x) j) [
                | inl c ↦ (let e = wx.2.0 c in elim (cases_lt (at place y) j) [
                  | inl d ↦ (let f = wy.2.0 d in absurd (omega arith))
                  | inr d ↦ (let f = wy.2.1 d in absurd (omega arith))
                ])
                | inr c ↦ (let e = wx.2.1 c in
                    Leads-trans (length arcs) (ends_of arcs) since now x h y
                    (Leads-trans (length arcs) (ends_of arcs) since now x t h (p.joined x t lx lt (omega arith) c px) step)
                    (p.joined h y lh ly (omega arith) (omega arith) (omega arith)))
              ]
            ];
        some = λ l. (
          t,
          lt,
          fell t ∙ (elim (by t) [
            | inl c ↦ absurd (let k = c.0 in omega arith)
            | inr (inl c) ↦ c.2
            | inr (inr c) ↦ absurd (let k = c.0 in omega arith)
          ]),
        );
      }

  -- later times
  pub IsPath-later : (later : List ℕ) (soon : ℕ) (place fresh : List ℕ) (last : ℕ)
      → ((a : ℕ) → a < length arcs → at since a ≤ now → at later a ≤ soon)
      → IsPath vertices arcs root since now place fresh last → IsPath vertices arcs root later soon place fresh last
  IsPath-later later soon place fresh last more p = record {
    long = p.long;
    fresh_set = p.fresh_set;
    unseen = p.unseen;
    seen = p.seen;
    root_place = p.root_place;
    rooted = λ v l z. Leads-later (length arcs) (ends_of arcs) since now later soon root v more (p.rooted v l z);
    joined = λ x y lx ly some le most. Leads-later (length arcs) (ends_of arcs) since now later soon x y more (p.joined x y lx ly some le most);
    some = p.some;
  }
