-- Rows of elements are united with others, and followed: a row that holds an element is united with the row of that element, for one element
-- after the other (Warshall 1962). In the loops this is so for the first places.
use Rattle.mat_union.proofs.Common.{◌≡◌, ℕ, ◌+◌, ◌<◌, ◌≤◌, Bool, true, false, not, ◌||◌, ◌&&◌, eqb, ltb, List, [], length, get_or, set, take, inl, inr, refl, sym, ap, ◌∙◌, subst, arith, get_or-set_other, get_or-set_same, length-set, and_from, and_parts, and_right, both_ways, cases_Bool, cases_eq}
use Rattle.mat_union.proofs.Common.{cases_lt, eq-eqb, eqb-true, false≢true, le-ltb, lt-ltb, ne_eqb, or_cases, or_left, or_right, get_or_past, take_all, row_at, is_member, is_member-get_or, is_member-take_more, or_none, AreAdded, AreColumnsOf, AreFollowed, ArePassed, AreRowsUnited, IsRowUnited}
use Rattle.std.proofs.lemmas.Bool.Decides.{nat_tests}

-- ---- each row is put into the row at its place

-- the first rows are
pub record AreUnitedBelow (at : ℕ) (more before now : List (List ℕ)) : Type 0 where
  pub count : length now ≡ length before
  pub members : (y z : ℕ) → is_member z (row_at now y) ≡ (is_member z (row_at before y) || (ltb y at && is_member z (row_at more y)))

pub united_none : (more before : List (List ℕ)) → AreUnitedBelow 0 more before before
united_none more before = record {
  count = refl;
  members = λ y z. sym (ap (λ b. is_member z (row_at before y) || (b && is_member z (row_at more y))) (le-ltb y 0 (omega arith))
      ∙ or_none (is_member z (row_at before y)));
}

pub united_next : (more before now after : List (List ℕ)) (at : ℕ) (row : List ℕ) → row ≡ row_at more at → AreUnitedBelow at more before now
    → IsRowUnited at row now after → AreUnitedBelow (at + 1) more before after
united_next more before now after at row is a u = record {
  count = u.count ∙ a.count;
  members = λ y z. u.members y z ∙ ap (λ b. b || (eqb y at && is_member z row)) (a.members y z)
      ∙ next y (is_member z (row_at before y)) (is_member z (row_at more y)) (is_member z row)
      (λ e. ap (λ w. is_member z (row_at more w)) (eqb-true y at e) ∙ ap (is_member z) (sym is));
}
  where
    next : (y : ℕ) (old more' own : Bool) → (eqb y at ≡ true → more' ≡ own)
        → ((old || (ltb y at && more')) || (eqb y at && own)) ≡ (old || (ltb y (at + 1) && more'))
    next y old more' own same = grind (arith, nat_tests)

pub united_end : (more before now : List (List ℕ)) (at : ℕ) → length more ≤ at → AreUnitedBelow at more before now → AreRowsUnited more before now
united_end more before now at past a = record {
  count = a.count;
  members = λ y z. a.members y z ∙ ap (λ b. is_member z (row_at before y) || b) (elim (cases_lt y at) [
    | inl l ↦ ap (λ b. b && is_member z (row_at more y)) (lt-ltb y at l)
    | inr g ↦ (let none : is_member z (row_at more y) ≡ false = ap (is_member z) (get_or_past more y [] (omega (arith, g, past))) in
        ap (λ b. ltb y at && b) none ∙ and_right (ltb y at) false refl ∙ sym none)
  ]);
}

-- ---- the row of an element is put into each row that holds the element

pub passed_none : (v : ℕ) (places : List ℕ) (rows : List (List ℕ)) → ArePassed v (take 0 places) rows rows
passed_none v places rows = record { count = refl; members = λ y z. sym (or_none (is_member z (row_at rows y))) }

module _ (v : ℕ) (places : List ℕ) (i : ℕ) (before now : List (List ℕ)) (l : i < length places) (a : ArePassed v (take i places) before now) where
  abbrev y : ℕ
  y = get_or places i 0

  -- the row holds it
  pub passed_put : (through : List ℕ) (after : List (List ℕ)) → through ≡ row_at before v → is_member v (row_at now y) ≡ true
      → IsRowUnited y through now after → ArePassed v (take (i + 1) places) before after
  passed_put through after is has u = record {
    count = u.count ∙ a.count;
    members = λ w z. u.members w z ∙ ap (λ b. b || (eqb w y && is_member z through)) (a.members w z)
        ∙ put (is_member z (row_at before w)) (is_member w (take i places)) (is_member v (row_at before w)) (is_member z (row_at before v)) (eqb w y)
        (is_member z through) (is_member v (row_at now w)) (ap (is_member z) is) _ (a.members w v)
        (λ e. ap (λ x. is_member v (row_at now x)) (eqb-true w y e) ∙ has)
        ∙ ap (λ b. is_member z (row_at before w) || (b && (is_member v (row_at before w) && is_member z (row_at before v)))) (sym (is_member-take_more places i w l));
  }
    where
      put : (old taken holds own here through' has' : Bool) → through' ≡ own → (own' : Bool) → has' ≡ (holds || (taken && (holds && own'))) → (here ≡ true → has' ≡ true)
          → ((old || (taken && (holds && own))) || (here && through')) ≡ (old || ((taken || here) && (holds && own)))
      put old taken holds own here through' has' e own' h f = grind arith

  -- the row does not hold it
  pub passed_by : is_member v (row_at now y) ≡ false → ArePassed v (take (i + 1) places) before now
  passed_by misses = record {
    count = a.count;
    members = λ w z. a.members w z
        ∙ by (is_member z (row_at before w)) (is_member w (take i places)) (is_member v (row_at before w)) (is_member z (row_at before v)) (eqb w y)
        (is_member v (row_at now w)) _ (a.members w v) (λ e. ap (λ x. is_member v (row_at now x)) (eqb-true w y e) ∙ misses)
        ∙ ap (λ b. is_member z (row_at before w) || (b && (is_member v (row_at before w) && is_member z (row_at before v)))) (sym (is_member-take_more places i w l));
  }
    where
      by : (old taken holds own here has' own' : Bool) → has' ≡ (holds || (taken && (holds && own'))) → (here ≡ true → has' ≡ false)
          → (old || (taken && (holds && own))) ≡ (old || ((taken || here) && (holds && own)))
      by old taken holds own here has' own' h f = grind arith

pub passed_end : (v : ℕ) (places : List ℕ) (i : ℕ) (before now : List (List ℕ)) → length places ≤ i → ArePassed v (take i places) before now → ArePassed v places before now
passed_end v places i before now past a = subst (λ p. ArePassed v p before now) (take_all i places past) a

-- ---- the rows are followed

-- the rows of the first places are passed through
pub record AreFollowing (first places : List ℕ) (before now : List (List ℕ)) : Type 0 where
  pub count : length now ≡ length before
  pub held : (y z : ℕ) → is_member z (row_at before y) ≡ true → is_member z (row_at now y) ≡ true
  pub on : (v y z : ℕ) → is_member v first ≡ true → is_member y places ≡ true → is_member v (row_at now y) ≡ true
      → is_member z (row_at now v) ≡ true → is_member z (row_at now y) ≡ true
  pub least : (test : ℕ → Bool) → ((u v : ℕ) → test u ≡ true → is_member u (row_at before v) ≡ true → test v ≡ true)
      → (y z : ℕ) → is_member z (row_at now y) ≡ true → test z ≡ true → test y ≡ true

pub following_none : (places : List ℕ) (rows : List (List ℕ)) → AreFollowing (take 0 places) places rows rows
following_none places rows = record {
  count = refl;
  held = λ y z h. h;
  on = λ v y z f. absurd (false≢true f);
  least = λ test step y z h t. step z y t h;
}

module _ (places : List ℕ) (i : ℕ) (before now after : List (List ℕ)) (l : i < length places) (a : AreFollowing (take i places) places before now)
    (p : ArePassed (get_or places i 0) places now after) where
  abbrev v : ℕ
  v = get_or places i 0

  -- a row has what it had, or holds the element that is passed through and has what that one had
  had : (y z : ℕ) → is_member z (row_at after y) ≡ true → is_member z (row_at now y) ≡ false
      → (is_member v (row_at now y) ≡ true) × (is_member z (row_at now v) ≡ true)
  had y z h o = elim (or_cases (is_member z (row_at now y)) (is_member y places && (is_member v (row_at now y) && is_member z (row_at now v))) (sym (p.members y z) ∙ h)) [
    | inl x ↦ absurd (both_ways _ o x)
    | inr x ↦ and_parts (is_member v (row_at now y)) (is_member z (row_at now v)) (and_parts (is_member y places) _ x).1
  ]

  has : (y z : ℕ) → is_member z (row_at now y) ≡ true → is_member z (row_at after y) ≡ true
  has y z h = p.members y z ∙ or_left (is_member z (row_at now y)) _ h

  gets : (y z : ℕ) → is_member y places ≡ true → is_member v (row_at now y) ≡ true → is_member z (row_at now v) ≡ true → is_member z (row_at after y) ≡ true
  gets y z m h k = p.members y z ∙ or_right (is_member z (row_at now y)) _ (and_from _ _ m (and_from _ _ h k))

  v_in : is_member v places ≡ true
  v_in = is_member-get_or places i v l refl

  -- what the row of v has now, it had
  v_had : (z : ℕ) → is_member z (row_at after v) ≡ true → is_member z (row_at now v) ≡ true
  v_had z h = elim (cases_Bool (is_member z (row_at now v))) [ inl x ↦ x | inr o ↦ (had v z h o).1 ]

  holds_v : (y : ℕ) → is_member v (row_at after y) ≡ true → is_member v (row_at now y) ≡ true
  holds_v y h = elim (cases_Bool (is_member v (row_at now y))) [ inl x ↦ x | inr o ↦ (had y v h o).0 ]

  -- through an element that was passed through before
  on_before : (u y z : ℕ) → is_member u (take i places) ≡ true → is_member y places ≡ true → is_member u (row_at after y) ≡ true
      → is_member z (row_at after u) ≡ true → is_member z (row_at after y) ≡ true
  on_before u y z f m h k = elim (cases_Bool (is_member u (row_at now y))) [
    | inl uy ↦ elim (cases_Bool (is_member z (row_at now u))) [
      | inl zu ↦ has y z (a.on u y z f m uy zu)
      | inr o ↦ (let w = had u z k o in gets y z m (a.on u y v f m uy w.0) w.1)
    ]
    | inr n ↦ (let w = had y u h n in elim (cases_Bool (is_member z (row_at now u))) [
      | inl zu ↦ gets y z m w.0 (a.on u v z f v_in w.1 zu)
      | inr o ↦ gets y z m w.0 (had u z k o).1
    ])
  ]

  pub following_more : AreFollowing (take (i + 1) places) places before after
  following_more = record {
    count = p.count ∙ a.count;
    held = λ y z h. has y z (a.held y z h);
    on = λ u y z f m h k. elim (or_cases (is_member u (take i places)) (eqb u v) (sym (is_member-take_more places i u l) ∙ f)) [
      | inl before' ↦ on_before u y z before' m h k
      | inr same ↦ (let e = eqb-true u v same in
          gets y z m (holds_v y (ap (λ x. is_member x (row_at after y)) (sym e) ∙ h)) (v_had z (ap (λ x. is_member z (row_at after x)) (sym e) ∙ k)))
    ];
    least = λ test step y z h t. elim (cases_Bool (is_member z (row_at now y))) [
      | inl x ↦ a.least test step y z x t
      | inr o ↦ (let w = had y z h o in a.least test step y v w.0 (a.least test step v z w.1 t))
    ];
  }

pub following_end : (places : List ℕ) (i : ℕ) (before now : List (List ℕ)) → length places ≤ i → AreFollowing (take i places) places before now → AreFollowed places before now
following_end places i before now past a = record {
  count = a.count;
  held = a.held;
  on = λ v y z m. a.on v y z (ap (is_member v) (take_all i places past) ∙ m);
  least = a.least;
}

-- ---- rows are added up

pub added_none : (entering members added : List ℕ) (rows : List (List ℕ)) → added ≡ entering → AreAdded entering (take 0 members) rows added
added_none entering members added rows e = rw e (record {
  kept = λ z h. h;
  through = λ y z m. absurd (false≢true m);
  only = λ z h. inl h;
})

module _ (entering members : List ℕ) (rows : List (List ℕ)) (i : ℕ) (added : List ℕ) (l : i < length members) (a : AreAdded entering (take i members) rows added) where
  -- the row of a member that is in the set
  pub added_put : (more row : List ℕ) → row ≡ row_at rows (get_or members i 0) → is_member (get_or members i 0) entering ≡ true
      → ((z : ℕ) → is_member z more ≡ (is_member z added || is_member z row)) → AreAdded entering (take (i + 1) members) rows more
  added_put more row is here put = record {
    kept = λ z h. put z ∙ or_left (is_member z added) (is_member z row) (a.kept z h);
    through = λ y z m e h. put z ∙ elim (or_cases (is_member y (take i members)) (eqb y (get_or members i 0)) (sym (is_member-take_more members i y l) ∙ m)) [
      | inl before ↦ or_left (is_member z added) (is_member z row) (a.through y z before e h)
      | inr same ↦ or_right (is_member z added) (is_member z row) (ap (is_member z) (is ∙ ap (row_at rows) (sym (eqb-true y (get_or members i 0) same))) ∙ h)
    ];
    only = λ z h. elim (or_cases (is_member z added) (is_member z row) (sym (put z) ∙ h)) [
      | inl b ↦ elim (a.only z b) [
        | inl k ↦ inl k
        | inr w ↦ inr (w.0, is_member-take_more members i w.0 l ∙ or_left (is_member w.0 (take i members)) _ w.1, w.2, w.3)
      ]
      | inr b ↦ inr (get_or members i 0, is_member-take_more members i (get_or members i 0) l ∙ or_right (is_member (get_or members i 0) (take i members)) _ (eq-eqb _ _ refl), here, ap (is_member z) (sym is) ∙ b)
    ];
  }

  -- another member
  pub added_by : is_member (get_or members i 0) entering ≡ false → AreAdded entering (take (i + 1) members) rows added
  added_by out = record {
    kept = a.kept;
    through = λ y z m e h. elim (or_cases (is_member y (take i members)) (eqb y (get_or members i 0)) (sym (is_member-take_more members i y l) ∙ m)) [
      | inl before ↦ a.through y z before e h
      | inr same ↦ absurd (both_ways _ out (ap (λ w. is_member w entering) (sym (eqb-true y (get_or members i 0) same)) ∙ e))
    ];
    only = λ z h. elim (a.only z h) [
      | inl k ↦ inl k
      | inr w ↦ inr (w.0, is_member-take_more members i w.0 l ∙ or_left (is_member w.0 (take i members)) _ w.1, w.2, w.3)
    ];
  }

pub added_end : (entering members : List ℕ) (rows : List (List ℕ)) (i : ℕ) (added : List ℕ) → length members ≤ i → AreAdded entering (take i members) rows added
    → AreAdded entering members rows added
added_end entering members rows i added past a = subst (λ m. AreAdded entering m rows added) (take_all i members past) a

-- ---- the columns of the members are made one after the other

pub columns_more : (members added out : List ℕ) (rows now : List (List ℕ)) (i : ℕ) (column : List ℕ) → i < length members
    → get_or members i 0 < length rows
    → ((z : ℕ) → is_member z column ≡ ((is_member z (row_at rows (get_or members i 0)) || is_member z added) && not (is_member z out)))
    → AreColumnsOf (take i members) rows added out now → AreColumnsOf (take (i + 1) members) rows added out (set now (get_or members i 0) column)
columns_more members added out rows now i column l below put a = record {
  count = length-set now here column ∙ a.count;
  at = λ y z. elim (cases_eq y here) [
    | inl same ↦ ap (λ w. is_member z (row_at (set now here column) w)) same ∙ ap (is_member z) (get_or-set_same now here column [] (omega (arith, below, a.count)))
        ∙ put z ∙ ap (λ w. (is_member z (row_at rows w) || is_member z added) && not (is_member z out)) (sym same)
        ∙ ap (λ b. b && ((is_member z (row_at rows y) || is_member z added) && not (is_member z out)))
        (sym (is_member-take_more members i y l ∙ or_right (is_member y (take i members)) (eqb y here) (eq-eqb y here same)))
    | inr d ↦ ap (is_member z) (get_or-set_other now here y column [] d) ∙ a.at y z
        ∙ ap (λ b. b && ((is_member z (row_at rows y) || is_member z added) && not (is_member z out)))
        (sym (is_member-take_more members i y l ∙ ap (λ b. is_member y (take i members) || b) (ne_eqb y here d) ∙ or_none (is_member y (take i members))))
  ];
}
  where
    here : ℕ
    here = get_or members i 0

pub columns_end : (members added out : List ℕ) (rows now : List (List ℕ)) (i : ℕ) → length members ≤ i → AreColumnsOf (take i members) rows added out now
    → AreColumnsOf members rows added out now
columns_end members added out rows now i past a = subst (λ m. AreColumnsOf m rows added out now) (take_all i members past) a
