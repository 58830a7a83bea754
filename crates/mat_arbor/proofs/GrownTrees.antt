-- A tree that grows from the root: it starts at the root alone, an arc that leaves it makes it larger, and where none does it spans all
-- vertices or leaves a set that no arc enters, which is what the root does not reach.
use Rattle.mat_arbor.proofs.Common.{◌≡◌, ℕ, suc, zero, ◌+◌, ◌-◌, ◌<◌, ◌≤◌, true, false, not, ◌&&◌, eqb, List, [], ◌∷◌, length, ◌⊎◌, inl, inr, refl, sym, ap, ◌∙◌, subst, arith, eqb-true, ltb-true, lt-ltb, and_parts, and_from, both_ways, false_from_ne_true, not-true, or_cases, or_right, false≢true}
use Rattle.mat_arbor.proofs.Common.{is_member, all_below, minus, with_one, IsSet, DirectedWalk, IsSpanningArborescence, Reaches, ends_of, IsUnentered, length-with_one, walk_enters, AllBelow-from_members, below_member, IsSet-all_below, IsSet-length, IsSet-minus, IsSet-nil, IsSet-with_one}
use Rattle.mat_arbor.proofs.Common.{IsSubset-all_below, is_member-all_below, length-complement, is_member-head, is_member-minus, is_member-with_one, IsRising-nil, IsRising-with_one, IsSubset-with_one, find_member, in_complement, no_member, with_one-holds, IsUnreachedSet, IsGrownTree, Leaves}
use Rattle.mat_sets.proofs.Walking.{Reaches-arc, Reaches-itself, Reaches-subset, Reaches-trans}

stays_with_one : (a : List ℕ) (x y : ℕ) → is_member y a ≡ true → is_member y (with_one a x) ≡ true
stays_with_one a x y m = is_member-with_one y x a ∙ or_right (eqb y x) (is_member y a) m

parts_with_one : (a : List ℕ) (x y : ℕ) → is_member y (with_one a x) ≡ true → (y ≡ x) ⊎ (is_member y a ≡ true)
parts_with_one a x y m = elim (or_cases (eqb y x) (is_member y a) (sym (is_member-with_one y x a) ∙ m)) [ inl e ↦ inl (eqb-true y x e) | inr h ↦ inr h ]

-- the root alone
pub IsGrownTree-root : (n : ℕ) (ends : ℕ → ℕ × ℕ) (root : ℕ) (R : List ℕ) → R ≡ with_one [] root → IsGrownTree n ends root R
IsGrownTree-root n ends root R is = rw is (record {
  rises = IsRising-with_one [] root IsRising-nil;
  with_root = with_one-holds [] root;
  tree = [];
  arcs = IsSet-nil n;
  size = sym (length-with_one [] root IsRising-nil refl);
  into = λ a m. absurd (false≢true m);
  reached = λ v m. elim (parts_with_one [] root v m) [
    | inl same ↦ subst (λ z. Reaches ends [] root z) (sym same) (Reaches-itself ends [] root)
    | inr none ↦ absurd (false≢true none)
  ];
})

-- a walk along arcs whose heads are vertices ends at a vertex
walk_below : (vertices : ℕ) (ends : ℕ → ℕ × ℕ) (along : List ℕ) (v w : ℕ) → ((a : ℕ) → is_member a along ≡ true → (ends a).1 < vertices)
    → v < vertices → DirectedWalk ends along v w → w < vertices
walk_below vertices ends [] v w heads small walk = subst (λ z. z < vertices) walk small
walk_below vertices ends (a ∷ along) v w heads small walk =
    walk_below vertices ends along (ends a).1 w (λ b m. heads b (or_right (eqb b a) (is_member b along) m)) (heads a (is_member-head a along)) walk.1

module _ {n : ℕ} {ends : ℕ → ℕ × ℕ} {root : ℕ} {R : List ℕ} (g : IsGrownTree n ends root R) where
  -- an arc that leaves R brings its head
  pub IsGrownTree-more : (a : ℕ) → a < n → Leaves ends R a → IsGrownTree n ends root (with_one R (ends a).1)
  IsGrownTree-more a small l =
      let new : is_member a g.tree ≡ false = false_from_ne_true _ (λ m. both_ways _ l.to (g.into a m)) in
      let more = IsSubset-with_one g.tree a in
      record {
        rises = IsRising-with_one R (ends a).1 g.rises;
        with_root = stays_with_one R (ends a).1 root g.with_root;
        tree = with_one g.tree a;
        arcs = IsSet-with_one n g.tree a g.arcs small;
        size = omega (arith, g.size, length-with_one g.tree a g.arcs.rising new, length-with_one R (ends a).1 g.rises l.to);
        into = λ b m. elim (parts_with_one g.tree a b m) [
          | inl same ↦ ap (λ z. is_member (ends z).1 (with_one R (ends a).1)) same ∙ with_one-holds R (ends a).1
          | inr h ↦ stays_with_one R (ends a).1 (ends b).1 (g.into b h)
        ];
        reached = λ v m. elim (parts_with_one R (ends a).1 v m) [
          | inl same ↦ subst (λ z. Reaches ends (with_one g.tree a) root z) (sym same)
              (Reaches-trans ends (with_one g.tree a) root (ends a).0 (ends a).1
              (Reaches-subset ends g.tree (with_one g.tree a) root (ends a).0 more (g.reached (ends a).0 l.from))
              (Reaches-arc ends (with_one g.tree a) a (with_one-holds g.tree a)))
          | inr h ↦ Reaches-subset ends g.tree (with_one g.tree a) root v more (g.reached v h)
        ];
      }

  -- it has at most one vertex more than there are arcs
  pub grown_size : length R ≤ suc n
  grown_size = omega (arith, g.size, IsSet-length n g.tree g.arcs)

  -- it is a set of vertices
  pub grown_set : (vertices : ℕ) → ((a : ℕ) → a < n → (ends a).1 < vertices) → root < vertices → IsSet vertices R
  grown_set vertices heads small = record {
    rising = g.rises;
    below = AllBelow-from_members vertices R (λ v m.
        let r = g.reached v m in
        walk_below vertices ends r.along root v (λ a q. heads a (below_member g.arcs (r.inside.inside a q))) small r.walk);
  }

  -- where it holds all vertices it is a spanning arborescence
  pub grown_spans : (vertices : ℕ) → IsSet vertices R → length R ≡ vertices → IsSpanningArborescence vertices n ends root g.tree
  grown_spans vertices set full = record {
    set = g.arcs;
    size = g.size ∙ full;
    reached = λ v l. g.reached v (in_R v l);
  }
    where
      in_R : (v : ℕ) → v < vertices → is_member v R ≡ true
      in_R v l = in_complement vertices R v l
          (no_member (minus (all_below vertices) R) v (omega (arith, length-complement vertices R set.rising set.below)))

-- where no arc leaves it and some vertex is outside, no arc enters the rest
pub unentered_rest : (vertices : ℕ) (arcs : List (ℕ × ℕ)) (root : ℕ) (R : List ℕ) → ((a : ℕ) → a < length arcs → (ends_of arcs a).0 < vertices)
    → IsGrownTree (length arcs) (ends_of arcs) root R → IsSet vertices R
    → ((a : ℕ) → a < length arcs → Leaves (ends_of arcs) R a → ⊥) → length R < vertices
    → IsUnentered vertices arcs root (minus (all_below vertices) R)
unentered_rest vertices arcs root R tails g set none few = record {
  root_free = record {
    set = IsSet-minus vertices (all_below vertices) R (IsSet-all_below vertices);
    some = omega (arith, length-complement vertices R set.rising set.below);
    free = false_from_ne_true _ (λ m. both_ways _ (rest root m).1 g.with_root);
  };
  none = λ a l. false_from_ne_true _ (λ e.
      let p = and_parts (is_member (ends_of arcs a).1 (minus (all_below vertices) R)) (not (is_member (ends_of arcs a).0 (minus (all_below vertices) R))) e in
      none a l (record { from = in_complement vertices R (ends_of arcs a).0 (tails a l) (not-true _ p.1); to = (rest (ends_of arcs a).1 p.0).1 }));
}
  where
    rest : (v : ℕ) → is_member v (minus (all_below vertices) R) ≡ true → (v < vertices) × (is_member v R ≡ false)
    rest v m =
        let p = and_parts (is_member v (all_below vertices)) (not (is_member v R)) (sym (is_member-minus v (all_below vertices) R) ∙ m) in
        (ltb-true v vertices (sym (is_member-all_below v vertices) ∙ p.0), not-true _ p.1)

-- the rest is then what the root does not reach: a walk to it would have an arc that enters it, and the tree leads to all others
pub unreached_rest : (vertices : ℕ) (arcs : List (ℕ × ℕ)) (root : ℕ) (R : List ℕ) → ((a : ℕ) → a < length arcs → (ends_of arcs a).0 < vertices)
    → IsGrownTree (length arcs) (ends_of arcs) root R → IsSet vertices R
    → ((a : ℕ) → a < length arcs → Leaves (ends_of arcs) R a → ⊥) → length R < vertices
    → IsUnreachedSet vertices arcs root (minus (all_below vertices) R)
unreached_rest vertices arcs root R tails g set none few =
    let unentered = unentered_rest vertices arcs root R tails g set none few in
    record {
      unentered = unentered;
      unreached = λ v m r.
          let w = walk_enters (ends_of arcs) (minus (all_below vertices) R) r.along root v r.walk unentered.root_free.free m in
          both_ways _ (unentered.none w.0 (below_member (IsSet-all_below (length arcs)) (r.inside.inside w.0 w.1))) w.2;
      reached = λ v l out.
          Reaches-subset (ends_of arcs) g.tree (all_below (length arcs)) root v (IsSubset-all_below (length arcs) g.tree g.arcs.below)
          (g.reached v (in_complement vertices R v l out));
    }

-- ---- there is one or the other

leaving_or : (ends : ℕ → ℕ × ℕ) (R : List ℕ) (n : ℕ)
    → ((a : ℕ) × (a < n) × Leaves ends R a) ⊎ ((a : ℕ) → a < n → Leaves ends R a → ⊥)
leaving_or ends R n = elim (find_member (λ a. is_member (ends a).0 R && not (is_member (ends a).1 R)) (all_below n)) [
  | inl w ↦
      let p = and_parts (is_member (ends w.0).0 R) (not (is_member (ends w.0).1 R)) w.2 in
      inl (w.0, ltb-true w.0 n (sym (is_member-all_below w.0 n) ∙ w.1), record { from = p.0; to = not-true _ p.1 })
  | inr none ↦ inr (λ a l leaves. both_ways _ (none a (is_member-all_below a n ∙ lt-ltb a n l))
      (and_from (is_member (ends a).0 R) (not (is_member (ends a).1 R)) leaves.from (ap not leaves.to)))
]

pub arborescence_or : (vertices : ℕ) (arcs : List (ℕ × ℕ)) (root : ℕ) → ((a : ℕ) → a < length arcs → (ends_of arcs a).0 < vertices)
    → ((a : ℕ) → a < length arcs → (ends_of arcs a).1 < vertices) → root < vertices
    → ((X : List ℕ) × IsSpanningArborescence vertices (length arcs) (ends_of arcs) root X) ⊎ ((U : List ℕ) × IsUnentered vertices arcs root U)
arborescence_or vertices arcs root tails heads small =
    go (vertices - 1) (with_one [] root) (IsGrownTree-root (length arcs) (ends_of arcs) root _ refl)
    (omega (arith, length-with_one [] root IsRising-nil refl))
  where
    go : (left : ℕ) (R : List ℕ) → IsGrownTree (length arcs) (ends_of arcs) root R → left + length R ≡ vertices
        → ((X : List ℕ) × IsSpanningArborescence vertices (length arcs) (ends_of arcs) root X) ⊎ ((U : List ℕ) × IsUnentered vertices arcs root U)
    go zero R g e = inl (g.tree, grown_spans g vertices (grown_set g vertices heads small) (omega arith))
    go (suc left) R g e = elim (leaving_or (ends_of arcs) R (length arcs)) [
      | inl w ↦ go left (with_one R (ends_of arcs w.0).1) (IsGrownTree-more g w.0 w.1 w.2)
          (omega (arith, length-with_one R (ends_of arcs w.0).1 g.rises w.2.to))
      | inr none ↦ inr (minus (all_below vertices) R, unentered_rest vertices arcs root R tails g (grown_set g vertices heads small) none (omega arith))
    ]
