-- Taking a forest's leaves out, one edge after the other. The edges that are taken out, from the last one on, are in an order in which each
-- brings a vertex: the leaf that it had is an end of no edge that was left.
use Rattle.mat_witness.proofs.Common.{◌≡◌, ◌≢◌, ℕ, ◌+◌, ◌<◌, ◌≤◌, Bool, true, false, not, ◌&&◌, ◌||◌, cond, eqb, get_or, List, [], ◌∷◌, ◌++◌, length, take, drop, map, reverse, inl, inr, refl, sym, ap, ◌∙◌, subst, arith, cases_Bool, cases_eq, and_from, both_ways, eqb-true, eqb-false, eq-eqb, ne_eqb}
use Rattle.mat_witness.proofs.Common.{false_from_ne_true, not_from_false, or_cases, or_from, or_left, or_right, false≢true, get_or_default_zero, length-map, length-reverse, reverse-append, All-cons, IsGraph, ends_of, is_member, IsRising, IsSubset, AreDistinct, without_one, length-without_one}
use Rattle.mat_witness.proofs.Common.{IsRising-without_one, is_member-without_one, written_back, IsSubset-trans, without_one-IsSubset, is_graphic, IsForest-subset, IsSumTable, at_ends, end_sum, bring_vertices, is_end, is_single_end, lists_members, shows_forest}
use Rattle.std.specs.List.{All, list_any}
use Rattle.mat_witness.proofs.Leaves.{IsLeaf, end_sum-member, end_sum-without, leaf_of, no_leaf, one}
use Rattle.mat_witness.proofs.ListedMembers.{lists_members-from}
use Rattle.mat_witness.proofs.SumTables.{IsFine, IsForestOf-from_test, fine_member}

-- ---- the ends of an edge

-- what adds one at v has v as one of its ends
single_from : (pair : ℕ × ℕ) (v : ℕ) → at_ends pair 1 v ≡ 1 → ((eqb pair.0 v || eqb pair.1 v) && not (eqb pair.0 pair.1)) ≡ true
single_from pair v h = elim (cases_Bool (eqb pair.0 v)) [
  | inl a ↦ elim (cases_Bool (eqb pair.1 v)) [
    | inl b ↦ absurd (omega (arith, ap {B = ℕ} (λ b. cond b 1 0) a, ap {B = ℕ} (λ b. cond b 1 0) b))
    | inr b ↦ and_from (eqb pair.0 v || eqb pair.1 v) (not (eqb pair.0 pair.1)) (or_left (eqb pair.0 v) (eqb pair.1 v) a)
        (not_from_false _ (ne_eqb pair.0 pair.1 (λ e. eqb-false pair.1 v b (sym e ∙ eqb-true pair.0 v a))))
  ]
  | inr a ↦ elim (cases_Bool (eqb pair.1 v)) [
    | inl b ↦ and_from (eqb pair.0 v || eqb pair.1 v) (not (eqb pair.0 pair.1)) (or_right (eqb pair.0 v) (eqb pair.1 v) b)
        (not_from_false _ (ne_eqb pair.0 pair.1 (λ e. eqb-false pair.0 v a (e ∙ eqb-true pair.1 v b))))
    | inr b ↦ absurd (omega (arith, ap {B = ℕ} (λ b. cond b 1 0) a, ap {B = ℕ} (λ b. cond b 1 0) b))
  ]
]

-- what adds nothing at v has not
off_from : (pair : ℕ × ℕ) (v : ℕ) → at_ends pair 1 v ≡ 0 → (eqb pair.0 v || eqb pair.1 v) ≡ false
off_from pair v h =
    or_from (eqb pair.0 v) (eqb pair.1 v)
    (false_from_ne_true _ (λ a. absurd (omega (arith, ap {B = ℕ} (λ b. cond b 1 0) a))))
    (false_from_ne_true _ (λ b. absurd (omega (arith, ap {B = ℕ} (λ b. cond b 1 0) b))))

-- the other end of an edge that has v as an end
abbrev pub other_end : ℕ × ℕ → ℕ → ℕ
other_end pair v = cond (eqb pair.0 v) pair.1 pair.0

-- nothing is added elsewhere
elsewhere : (pair : ℕ × ℕ) (v u : ℕ) → at_ends pair 1 v ≡ 1 → u ≢ v → u ≢ other_end pair v → at_ends pair 1 u ≡ 0
elsewhere pair v u h d o = elim (cases_Bool (eqb pair.0 v)) [
  | inl a ↦ (let first : pair.0 ≢ u = λ e. d (sym e ∙ eqb-true pair.0 v a) in
      let second : pair.1 ≢ u = λ e. o (sym e ∙ sym (ap (λ b. cond b pair.1 pair.0) a)) in
      omega (arith, ap {B = ℕ} (λ b. cond b 1 0) (ne_eqb pair.0 u first), ap {B = ℕ} (λ b. cond b 1 0) (ne_eqb pair.1 u second)))
  | inr a ↦ elim (cases_Bool (eqb pair.1 v)) [
    | inl b ↦ (let first : pair.0 ≢ u = λ e. o (sym e ∙ sym (ap (λ b. cond b pair.1 pair.0) a)) in
        let second : pair.1 ≢ u = λ e. d (sym e ∙ eqb-true pair.1 v b) in
        omega (arith, ap {B = ℕ} (λ b. cond b 1 0) (ne_eqb pair.0 u first), ap {B = ℕ} (λ b. cond b 1 0) (ne_eqb pair.1 u second)))
    | inr b ↦ absurd (omega (arith, ap {B = ℕ} (λ b. cond b 1 0) a, ap {B = ℕ} (λ b. cond b 1 0) b))
  ]
]

list_any-none_from : (test : ℕ → Bool) (xs : List ℕ) → ((x : ℕ) → is_member x xs ≡ true → test x ≡ false) → list_any test xs ≡ false
list_any-none_from test [] h = refl
list_any-none_from test (y ∷ xs) h =
    or_from (test y) (list_any test xs) (h y (or_left (eqb y y) (is_member y xs) (eq-eqb y y refl)))
    (list_any-none_from test xs (λ x m. h x (or_right (eqb x y) (is_member x xs) m)))

-- ---- the edges that are taken out

abbrev first_of_each : List (ℕ × ℕ) → List ℕ
first_of_each pairs = map (λ pair. pair.0) pairs

-- the edges of the pairs are the members of X outside of `rest`, each once, and bring a vertex each, also after edges of `rest`
pub record AreTaken (n vertices : ℕ) (ends : ℕ → ℕ × ℕ) (X rest : List ℕ) (pairs : List (ℕ × ℕ)) : Type 0 where
  pub brings : (E : List ℕ) → IsSubset E rest → bring_vertices ends E pairs ≡ true
  pub distinct : AreDistinct (map (λ pair. pair.0) pairs)
  pub members : (z : ℕ) → is_member z (map (λ pair. pair.0) pairs) ≡ true → (is_member z X ≡ true) × (is_member z rest ≡ false)
  pub count : length pairs + length rest ≡ length X
  pub ranges : All (λ pair. (pair.0 < n) × (pair.1 < vertices)) pairs

AreTaken-more : (n vertices : ℕ) (ends : ℕ → ℕ × ℕ) (X rest : List ℕ) (pairs : List (ℕ × ℕ)) (v e : ℕ) → IsRising rest → IsSubset rest X
    → IsLeaf ends rest v e → e < n → v < vertices → AreTaken n vertices ends X rest pairs
    → AreTaken n vertices ends X (without_one rest e) ((e, v) ∷ pairs)
AreTaken-more n vertices ends X rest pairs v e rising inside leaf small below taken = record {
  brings = λ E s.
      let off : (g : ℕ) → is_member g E ≡ true → is_end ends g v ≡ false = λ g m. off_from (ends g) v
      (let part = end_sum-member ends one (without_one rest e) v g (s.inside g m) in omega (arith, leaf.others)) in
      and_from (is_single_end ends e v) (not (list_any (λ g. is_end ends g v) E) && bring_vertices ends (e ∷ E) pairs)
      (single_from (ends e) v leaf.single)
      (and_from (not (list_any (λ g. is_end ends g v) E)) (bring_vertices ends (e ∷ E) pairs)
      (not_from_false _ (list_any-none_from (λ g. is_end ends g v) E off))
      (taken.brings (e ∷ E) (record {
        inside = λ z m. elim (or_cases (eqb z e) (is_member z E) m) [
          | inl k ↦ ap (λ y. is_member y rest) (eqb-true z e k) ∙ leaf.member
          | inr k ↦ (without_one-IsSubset rest e).inside z (s.inside z k)
        ];
      })));
  distinct = (false_from_ne_true _ (λ m. both_ways _ (taken.members e m).1 leaf.member), taken.distinct);
  members = λ z m. elim (or_cases (eqb z e) (is_member z (first_of_each pairs)) m) [
    | inl k ↦ (
      ap (λ y. is_member y X) (eqb-true z e k) ∙ inside.inside e leaf.member,
      is_member-without_one z e rest ∙ ap {B = Bool} (λ b. is_member z rest && not b) k ∙ nothing (is_member z rest),
    )
    | inr k ↦ ((taken.members z k).0, is_member-without_one z e rest ∙ ap {B = Bool} (λ b. b && not (eqb z e)) (taken.members z k).1)
  ];
  count = omega (arith, length-without_one rest e rising leaf.member, taken.count);
  ranges = All-cons (λ pair. (pair.0 < n) × (pair.1 < vertices)) (e, v) pairs (small, below) taken.ranges;
}
  where
    nothing : (b : Bool) → (b && false) ≡ false
    nothing true = refl
    nothing false = refl

-- ---- the tables without a member

table_without : (f : ℕ → ℕ) (ends : ℕ → ℕ × ℕ) (X : List ℕ) (e vertices : ℕ) (old new : List ℕ) → IsRising X → is_member e X ≡ true
    → IsSumTable f ends X vertices old → length new ≡ length old
    → ((v : ℕ) → v < length old → get_or old v 0 ≡ at_ends (ends e) (f e) v + get_or new v 0)
    → IsSumTable f ends (without_one X e) vertices new
table_without f ends X e vertices old new r m table long less = record {
  long = long ∙ table.long;
  at = λ v l. omega (arith, less v (omega (arith, table.long)), table.at v l, end_sum-without ends f X v e r m);
}

-- a table as it is lent
module _ {f : ℕ → ℕ} {ends : ℕ → ℕ × ℕ} {X : List ℕ} {e v vertices : ℕ} {table lent : List ℕ} (sums : IsSumTable f ends X vertices table)
    (leaf : IsLeaf ends X v e) (same : lent ≡ table) where
  -- there is enough to take away
  pub enough_at : (u : ℕ) → u < length lent → at_ends (ends e) (f e) u ≤ get_or lent u 0
  enough_at u l =
      let here : u < length table = subst (λ t. u < length t) same l in
      let part = end_sum-member ends f X u e leaf.member in
      subst (λ t. at_ends (ends e) (f e) u ≤ get_or t u 0) (sym same) (omega (arith, sums.at u (omega (arith, sums.long))))

  -- what is given back is the table without the leaf's edge
  table_less : {len : ℕ} (new : List ℕ) → IsRising X → len ≡ length table → length new ≡ length lent
      → ((u : ℕ) → u < length lent → get_or lent u 0 ≡ at_ends (ends e) (f e) u + get_or new u 0)
      → IsSumTable f ends (without_one X e) vertices (take len (new ++ drop (length new) table))
  table_less {len} new rising size long less =
      let kept = ap length same in
      subst (IsSumTable f ends (without_one X e) vertices) (sym (written_back len new table (omega arith)))
      (table_without f ends X e vertices lent new rising leaf.member (subst (IsSumTable f ends X vertices) (sym same) sums) long less)

-- ---- the search for leaves

-- the edges of X that are not yet taken out have these sums, and up to `passed` no vertex but v is a leaf
pub record IsPeeling (vertices : ℕ) (edges : List (ℕ × ℕ)) (X degree sum : List ℕ) (pairs : List (ℕ × ℕ)) (passed v : ℕ) : Type 0 where
  pub rest : List ℕ
  pub rising : IsRising rest
  pub inside : IsSubset rest X
  pub degrees : IsSumTable one (ends_of edges) rest vertices degree
  pub sums : IsSumTable (λ e. e) (ends_of edges) rest vertices sum
  pub leafless : (u : ℕ) → u ≤ passed → u < vertices → u ≢ v → end_sum one (ends_of edges) rest u ≢ 1
  pub taken : AreTaken (length edges) vertices (ends_of edges) X rest (reverse pairs)
  pub within : passed ≤ vertices
  pub here : passed < vertices → v < vertices
  pub last : vertices ≤ passed → vertices ≤ v

-- v is a leaf, and e its edge, which is one of a forest
pub record IsAtLeaf (vertices : ℕ) (edges : List (ℕ × ℕ)) (rest : List ℕ) (v e : ℕ) : Type 0 where
  pub leaf : IsLeaf (ends_of edges) rest v e
  pub fine : IsFine vertices edges e
  pub below : v < vertices

module _ {vertices : ℕ} {edges : List (ℕ × ℕ)} {X degree sum : List ℕ} {pairs : List (ℕ × ℕ)} {passed v : ℕ}
    (peeling : IsPeeling vertices edges X degree sum pairs passed v) where
  -- the edge of a leaf, as its number is read from the table
  pub at_leaf : {d e : ℕ} → passed < vertices → IsGraph vertices edges → is_graphic (length edges) (ends_of edges) X ≡ true
      → d ≡ get_or degree v d → d ≡ 1 → e ≡ get_or sum v e → IsAtLeaf vertices edges peeling.rest v e
  at_leaf {d} {e} more graph passes first one_edge second =
      let below = peeling.here more in
      let degree_is : end_sum one (ends_of edges) peeling.rest v ≡ 1 = sym (peeling.degrees.at v below)
      ∙ (sym (first ∙ get_or_default_zero degree v d (omega (arith, peeling.degrees.long))) ∙ one_edge) in
      let number : end_sum (λ g. g) (ends_of edges) peeling.rest v ≡ e
      = sym (peeling.sums.at v below) ∙ sym (second ∙ get_or_default_zero sum v e (omega (arith, peeling.sums.long))) in
      let leaf = subst (IsLeaf (ends_of edges) peeling.rest v) number (leaf_of (ends_of edges) peeling.rest v peeling.rising degree_is) in
      record {
        leaf = leaf;
        fine = fine_member vertices edges X e (IsForestOf-from_test vertices edges X graph passes) (peeling.inside.inside e leaf.member);
        below = below;
      }

  peeling_without : {less fewer : List ℕ} {longer : List (ℕ × ℕ)} {e w : ℕ} → IsAtLeaf vertices edges peeling.rest v e
      → IsSumTable one (ends_of edges) (without_one peeling.rest e) vertices less
      → IsSumTable (λ g. g) (ends_of edges) (without_one peeling.rest e) vertices fewer → longer ≡ pairs ++ (e, v) ∷ []
      → other_end (ends_of edges e) v ≡ w → passed < vertices → IsPeeling vertices edges X less fewer longer passed w
  peeling_without {less} {fewer} {longer} {e} {w} next degrees sums pushed other more =
      let leaf = next.leaf in
      record {
        rest = without_one peeling.rest e;
        rising = IsRising-without_one peeling.rest e peeling.rising;
        inside = IsSubset-trans (without_one peeling.rest e) peeling.rest X (without_one-IsSubset peeling.rest e) peeling.inside;
        degrees = degrees;
        sums = sums;
        leafless = λ u l b d h. elim (cases_eq u v) [
          | inl k ↦ absurd (let none : end_sum one (ends_of edges) (without_one peeling.rest e) u ≡ 0
              = ap (end_sum one (ends_of edges) (without_one peeling.rest e)) k ∙ leaf.others in omega arith)
          | inr k ↦ peeling.leafless u l b k (end_sum-without (ends_of edges) one peeling.rest u e peeling.rising leaf.member
              ∙ (let off = elsewhere (ends_of edges e) v u leaf.single k (λ q. d (q ∙ other)) in omega arith))
        ];
        taken = subst (λ p. AreTaken (length edges) vertices (ends_of edges) X (without_one peeling.rest e) (reverse p)) (sym pushed)
            (subst (AreTaken (length edges) vertices (ends_of edges) X (without_one peeling.rest e)) (sym (reverse-append pairs ((e, v) ∷ [])))
            (AreTaken-more (length edges) vertices (ends_of edges) X peeling.rest (reverse pairs) v e peeling.rising peeling.inside leaf
            next.fine.below next.below peeling.taken));
        within = peeling.within;
        here = λ l. subst (λ z. z < vertices) other (other_below (ends_of edges e) v next.fine.first next.fine.second);
        last = λ l. absurd (omega arith);
      }
    where
      other_below : (pair : ℕ × ℕ) (v : ℕ) → pair.0 < vertices → pair.1 < vertices → other_end pair v < vertices
      other_below pair v a b = elim (cases_Bool (eqb pair.0 v)) [
        | inl k ↦ omega (arith, ap {B = ℕ} (λ b. cond b pair.1 pair.0) k)
        | inr k ↦ omega (arith, ap {B = ℕ} (λ b. cond b pair.1 pair.0) k)
      ]

  -- without this edge, which is taken out of both tables as they are lent and given back, its other end is next
  pub peeling_take : {e w : ℕ} {longer : List (ℕ × ℕ)} {degree_len sum_len : ℕ} {degree_lent sum_lent : List ℕ} (less fewer : List ℕ)
      → IsAtLeaf vertices edges peeling.rest v e → passed < vertices → degree_lent ≡ degree → degree_len ≡ length degree
      → length less ≡ length degree_lent
      → ((u : ℕ) → u < length degree_lent → get_or degree_lent u 0 ≡ at_ends (ends_of edges e) 1 u + get_or less u 0)
      → sum_lent ≡ sum → sum_len ≡ length sum → length fewer ≡ length sum_lent
      → ((u : ℕ) → u < length sum_lent → get_or sum_lent u 0 ≡ at_ends (ends_of edges e) e u + get_or fewer u 0)
      → longer ≡ pairs ++ (e, v) ∷ [] → other_end (ends_of edges e) v ≡ w
      → IsPeeling vertices edges X (take degree_len (less ++ drop (length less) degree))
      (take sum_len (fewer ++ drop (length fewer) sum)) longer passed w
  peeling_take less fewer next more degree_same degree_size degree_long degree_less sum_same sum_size sum_long sum_less pushed other =
      peeling_without next (table_less peeling.degrees next.leaf degree_same less peeling.rising degree_size degree_long degree_less)
      (table_less peeling.sums next.leaf sum_same fewer peeling.rising sum_size sum_long sum_less) pushed other more

  -- ---- the end

  module _ (graph : IsGraph vertices edges) (passes : is_graphic (length edges) (ends_of edges) X ≡ true) (all : vertices ≤ passed) where
    -- no edge is left
    nothing_left : peeling.rest ≡ []
    nothing_left =
        let given = IsForestOf-from_test vertices edges X graph passes in
        no_leaf (ends_of edges) vertices peeling.rest peeling.rising
        (IsForest-subset (ends_of edges) peeling.rest X peeling.inside given.forest)
        (λ g m. let fine = fine_member vertices edges X g given (peeling.inside.inside g m) in (fine.first, fine.second))
        (λ u l. peeling.leafless u (omega arith) l (λ e. absurd (omega (arith, peeling.last all))))

    pub peeled_long : length pairs ≡ length X
    peeled_long = omega (arith, ap length nothing_left, peeling.taken.count, length-reverse pairs)

    pub peeled_shows : shows_forest (ends_of edges) (reverse pairs) X ≡ true
    peeled_shows =
        and_from (lists_members (first_of_each (reverse pairs)) X) (bring_vertices (ends_of edges) [] (reverse pairs))
        (lists_members-from (first_of_each (reverse pairs)) X peeling.taken.distinct
        (length-map (reverse pairs) (λ pair. pair.0) ∙ (length-reverse pairs ∙ peeled_long)) (λ z m. (peeling.taken.members z m).0))
        (peeling.taken.brings [] (record { inside = λ z m. absurd (false≢true m) }))
