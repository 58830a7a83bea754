-- An edge is put into the columns of the edges of a trail while the trail is climbed. Those are the columns of the row of the edge; where the
-- climbing ends at a root, those so far are some of the members that the row then has.
use Rattle.mat_graphic.proofs.Common.{◌≡◌, ℕ, ◌<◌, ◌≤◌, ◌≢◌, Bool, true, false, not, ◌&&◌, ◌||◌, eqb, ltb, List, [], length, get_or, set, inl, inr, refl, sym, ap, ◌∙◌, arith, get_or-set_other, get_or-set_same, length-set, and_right, cases_eq, cases_lt, eq-eqb, le-ltb, lt-ltb, ne_eqb, or_left}
use Rattle.mat_graphic.proofs.Common.{is_member, union, with_one, without_one, AllBelow, AllBelow-member, is_member-union, is_member-with_one, IsRising-nil, IsRising-union, or_none, row_of, Exchange, AreEntering, is_graphic, least_merged, IsClimbing, IsTrailEntered, IsTrailSet}
use Rattle.mat_sets.specs.Rows.{row_at, IsEntered}
use Rattle.mat_laws.specs.Columns.{AreColumns}
use Rattle.mat_graphic.proofs.Climbing.{IsClimbing-start, IsClimbing-end}
use Rattle.mat_graphic.proofs.EdgeRows.{row-apart, row-trail}

-- ---- a number in rows

IsEntered-none : (k : ℕ) (rows : List (List ℕ)) → IsEntered k [] rows rows
IsEntered-none k rows = record { count = refl; members = λ j i l. none (is_member j (row_at rows i)) (eqb j k) }
  where
    none : (old own : Bool) → old ≡ (old || (own && false))
    none true own = refl
    none false own = sym (and_right own false refl)

-- the number is put into one more row
IsEntered-one : (k : ℕ) (places : List ℕ) (i : ℕ) (old new : List (List ℕ)) (row : List ℕ) → i < length old → row ≡ with_one (row_at new i) k
    → IsEntered k places old new → IsEntered k (with_one places i) old (set new i row)
IsEntered-one k places i old new row small e r =
    let within : i < length new = omega (arith, small, r.count) in
    record {
      count = length-set new i row ∙ r.count;
      members = λ j x l. elim (cases_eq x i) [
        | inl same ↦ ap (λ w. is_member j (row_at (set new i row) w)) same
            ∙ ap (is_member j) (get_or-set_same new i row [] within)
            ∙ ap (is_member j) e ∙ is_member-with_one j k (row_at new i)
            ∙ ap (λ w. eqb j k || is_member j (row_at new w)) (sym same)
            ∙ ap (λ b. eqb j k || b) (r.members j x l)
            ∙ here (eqb j k) (is_member j (row_at old x)) (is_member x places)
            ∙ ap (λ b. is_member j (row_at old x) || (eqb j k && b)) (sym (put x same))
        | inr d ↦ ap (is_member j) (get_or-set_other new i x row [] d)
            ∙ r.members j x l
            ∙ ap (λ b. is_member j (row_at old x) || (eqb j k && b)) (sym (other x d))
      ];
    }
  where
    here : (own old before : Bool) → (own || (old || (own && before))) ≡ (old || (own && true))
    here true true before = refl
    here true false before = refl
    here false old before = refl

    put : (x : ℕ) → x ≡ i → is_member x (with_one places i) ≡ true
    put x same = is_member-with_one x i places ∙ or_left (eqb x i) (is_member x places) (eq-eqb x i same)

    other : (x : ℕ) → (x ≡ i → ⊥) → is_member x (with_one places i) ≡ is_member x places
    other x d = is_member-with_one x i places ∙ ap (λ b. b || is_member x places) (ne_eqb x i d)

IsEntered-same : (k : ℕ) (places others : List ℕ) (old new : List (List ℕ)) → ((x : ℕ) → is_member x places ≡ is_member x others)
    → IsEntered k places old new → IsEntered k others old new
IsEntered-same k places others old new same r = record {
  count = r.count;
  members = λ j x l. r.members j x l ∙ ap (λ b. is_member j (row_at old x) || (eqb j k && b)) (same x);
}

-- into some rows, and then into more that are all rows of the others too
IsEntered-over : (k : ℕ) (places others : List ℕ) (old middle new : List (List ℕ))
    → ((x : ℕ) → is_member x places ≡ true → is_member x others ≡ true)
    → IsEntered k places old middle → IsEntered k others middle new → IsEntered k others old new
IsEntered-over k places others old middle new inside r s = record {
  count = s.count ∙ r.count;
  members = λ j x l. s.members j x (omega (arith, l, r.count))
      ∙ ap (λ b. b || (eqb j k && is_member x others)) (r.members j x l)
      ∙ over (is_member j (row_at old x)) (eqb j k) (is_member x places) (is_member x others) (inside x);
}
  where
    over : (old own some all : Bool) → (some ≡ true → all ≡ true) → ((old || (own && some)) || (own && all)) ≡ (old || (own && all))
    over true own some all h = refl
    over false false some all h = refl
    over false true true all h = sym (h refl)
    over false true false all h = refl

-- ---- the climb

-- the edge stands in the columns of the edges so far
pub record IsEntering (ends : ℕ → ℕ × ℕ) (X order : List ℕ) (from to first second edge : ℕ) (before after : List (List ℕ)) : Type 0 where
  pub members : List ℕ
  pub climbing : IsClimbing ends X order from to first second members
  pub entered : IsEntered edge members before after

module _ (ends : ℕ → ℕ × ℕ) (X order : List ℕ) (from to : ℕ) where
  pub IsEntering-start : (edge : ℕ) (rows : List (List ℕ)) → IsEntering ends X order from to from to edge rows rows
  IsEntering-start edge rows = record {
    members = [];
    climbing = IsClimbing-start ends X order from to [] refl;
    entered = IsEntered-none edge rows;
  }

  -- the edge of a step is one of X
  pub step_below : (n first second e : ℕ) (edges : List ℕ) → AllBelow n X → IsClimbing ends X order from to first second (with_one edges e) → e < n
  step_below n first second e edges below s = AllBelow-member n X e below (s.after.inside.inside e (sym (s.after.same e)
      ∙ (is_member-with_one e e edges ∙ or_left (eqb e e) (is_member e edges) (eq-eqb e e refl))))

  module _ (first second edge : ℕ) (before after : List (List ℕ)) (s : IsEntering ends X order from to first second edge before after) where
    pub IsEntering-step : (first' second' e : ℕ) (row : List ℕ) → IsClimbing ends X order from to first' second' (with_one s.members e)
        → e < length before → row ≡ with_one (row_at after e) edge
        → IsEntering ends X order from to first' second' edge before (set after e row)
    IsEntering-step first' second' e row up small put = record {
      members = with_one s.members e;
      climbing = up;
      entered = IsEntered-one edge s.members e before after row small put s.entered;
    }

    pub entered_apart : least_merged ends X (get_or order from 0) ≢ least_merged ends X (get_or order to 0)
        → IsTrailEntered ends X (get_or order from 0) (get_or order to 0) edge false before after
    entered_apart apart = record {
      members = s.members;
      inside = record { inside = λ z m. s.climbing.after.inside.inside z (sym (s.climbing.after.same z) ∙ m) };
      entered = s.entered;
      told = apart;
    }

    pub entered_joined : first ≡ second → IsTrailEntered ends X (get_or order from 0) (get_or order to 0) edge true before after
    entered_joined met = record {
      members = s.members;
      inside = record { inside = λ z m. s.climbing.after.inside.inside z (sym (s.climbing.after.same z) ∙ m) };
      entered = s.entered;
      told = IsClimbing-end ends X order from to first second s.members met s.climbing;
    }

-- ---- the row of an edge

module _ (n : ℕ) (ends : ℕ → ℕ × ℕ) (I : List ℕ) (x : ℕ) (small : x < n) (passes : is_graphic n ends I ≡ true) (out : is_member x I ≡ false) where
  -- its ends are joined: the trail is its row
  pub trail_entered : (old new : List (List ℕ)) → IsTrailEntered ends I (ends x).1 (ends x).0 x true old new
      → IsEntered x (row_of (is_graphic n ends) I x).with old new
  trail_entered old new t =
      let rising = union t.members [] in
      let same : (z : ℕ) → is_member z rising ≡ is_member z t.members = λ z. is_member-union z t.members [] ∙ or_none (is_member z t.members) in
      let trail : IsTrailSet ends I (ends x).1 (ends x).0 rising = record { trail = t.told.trail; same = λ z. same z ∙ t.told.same z } in
      let row = row-trail n ends I x (record { addable = false; with = rising }) small passes out (IsRising-union t.members [] IsRising-nil) trail refl in
      IsEntered-same x t.members (row_of (is_graphic n ends) I x).with old new
      (λ z. sym (same z) ∙ ap (λ (e : Exchange). is_member z e.with) row) t.entered

  -- they are not: all members are its row
  pub all_entered : (old middle new : List (List ℕ)) (members : List ℕ) → IsTrailEntered ends I (ends x).1 (ends x).0 x false old middle
      → members ≡ I → IsEntered x members middle new → IsEntered x (row_of (is_graphic n ends) I x).with old new
  all_entered old middle new members t e all =
      let row = row-apart n ends I x (record { addable = true; with = I }) small passes out (λ same. t.told (sym same)) refl refl in
      IsEntered-same x members (row_of (is_graphic n ends) I x).with old new
      (λ z. ap (is_member z) e ∙ ap (λ (r : Exchange). is_member z r.with) row)
      (IsEntered-over x t.members members old middle new (λ z m. ap (is_member z) e ∙ t.inside.inside z m) t.entered all)

-- ---- all rows

pub AreEntering-all : (n : ℕ) (p : List ℕ → Bool) (I : List ℕ) (z : ℕ) (columns : List (List ℕ)) → n ≤ z → AreEntering n p I z columns
    → AreColumns n p I columns
AreEntering-all n p I z columns past a = record {
  long = a.long;
  columns_are = λ y k m. a.columns_are y k m ∙ all k (not (is_member k I) && p (with_one (without_one I y) k));
  others_are = a.others_are;
}
  where
    all : (k : ℕ) (b : Bool) → (ltb k z && (ltb k n && b)) ≡ (ltb k n && b)
    all k b = elim (cases_lt k n) [
      | inl l ↦ rw (lt-ltb k z (omega arith)) refl
      | inr h ↦ rw (le-ltb k n h) (and_right (ltb k z) false refl)
    ]
