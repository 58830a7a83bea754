-- Tables of what the edges of a forest add up to at each vertex. As no edge of a forest is a loop, each adds its amount once at most.
use Rattle.mat_witness.proofs.Common.{◌≡◌, ◌≢◌, ℕ, zero, suc, ◌+◌, ◌*◌, ◌-◌, ◌^◌, ◌<◌, ◌≤◌, true, cond, eqb, get_or, drop, replicate, List, [], ◌∷◌, ◌++◌, length, take, inl, inr, refl, sym, ap, ◌∙◌, subst, arith, and_parts, cases_Bool, eqb-true, or_right, drop_all, get_or-replicate, length-drop}
use Rattle.mat_witness.proofs.Common.{length-replicate, IsGraph, ends_of, is_member, IsSet, is_set, IsSet-length, below_member, is_member-get_or, is_member-head, only_member, written_back, IsSet-from_test, IsForest, is_forest, is_graphic, IsForest-from_test, IsSumTable, at_ends, end_sum}
use Rattle.mat_graphic.proofs.Uniting.{edge_before}

-- a set of edges of a graph that is a forest
pub record IsForestOf (vertices : ℕ) (edges : List (ℕ × ℕ)) (X : List ℕ) : Type 0 where
  pub graph : IsGraph vertices edges
  pub set : IsSet (length edges) X
  pub forest : IsForest (ends_of edges) X

pub IsForestOf-from_test : (vertices : ℕ) (edges : List (ℕ × ℕ)) (X : List ℕ) → IsGraph vertices edges
    → is_graphic (length edges) (ends_of edges) X ≡ true → IsForestOf vertices edges X
IsForestOf-from_test vertices edges X graph passes =
    let tests = and_parts (is_set (length edges) X) (is_forest (ends_of edges) X) passes in
    let own = IsSet-from_test (length edges) X tests.0 in
    record { graph = graph; set = own; forest = IsForest-from_test (ends_of edges) X own.rising tests.1 }

-- no edge of a forest is a loop
pub no_loop : (ends : ℕ → ℕ × ℕ) (X : List ℕ) (e : ℕ) → IsForest ends X → is_member e X ≡ true → (ends e).0 ≢ (ends e).1
no_loop ends X e forest m =
    forest.never_closed e [] (ends e).0 (ends e).1 (refl, tt) (record { inside = λ z n. ap (λ y. is_member y X) (only_member z e n) ∙ m })
    ((ends e).1, inl (refl, refl), refl)

-- so it adds its amount once at most
at_ends-once : (pair : ℕ × ℕ) (amount v : ℕ) → pair.0 ≢ pair.1 → at_ends pair amount v ≤ amount
at_ends-once pair amount v d = elim (cases_Bool (eqb pair.0 v)) [
  | inl a ↦ elim (cases_Bool (eqb pair.1 v)) [
    | inl b ↦ absurd (d (eqb-true pair.0 v a ∙ sym (eqb-true pair.1 v b)))
    | inr b ↦ omega (arith, ap {B = ℕ} (λ b. cond b amount 0) a, ap {B = ℕ} (λ b. cond b amount 0) b)
  ]
  | inr a ↦ elim (cases_Bool (eqb pair.1 v)) [
    | inl b ↦ omega (arith, ap {B = ℕ} (λ b. cond b amount 0) a, ap {B = ℕ} (λ b. cond b amount 0) b)
    | inr b ↦ omega (arith, ap {B = ℕ} (λ b. cond b amount 0) a, ap {B = ℕ} (λ b. cond b amount 0) b)
  ]
]

end_sum-few : (f : ℕ → ℕ) (ends : ℕ → ℕ × ℕ) (X : List ℕ) (v : ℕ) → ((e : ℕ) → is_member e X ≡ true → f e < 2 ^ 32)
    → ((e : ℕ) → is_member e X ≡ true → (ends e).0 ≢ (ends e).1) → end_sum f ends X v ≤ 2 ^ 32 * length X
unfolding end_sum
end_sum-few f ends [] v small apart = omega arith
end_sum-few f ends (e ∷ X) v small apart =
    omega (
      arith,
      at_ends-once (ends e) (f e) v (apart e (is_member-head e X)),
      small e (is_member-head e X),
      end_sum-few f ends X v (λ g m. small g (or_right (eqb g e) (is_member g X) m)) (λ g m. apart g (or_right (eqb g e) (is_member g X) m)),
    )

-- ---- the table, from the last edge to the first

pub table_none : (f : ℕ → ℕ) (ends : ℕ → ℕ × ℕ) (X : List ℕ) (i vertices : ℕ) (table : List ℕ) → length X ≤ i → table ≡ replicate vertices 0
    → IsSumTable f ends (drop i X) vertices table
unfolding end_sum
table_none f ends X i vertices table past e =
    subst (λ Y. IsSumTable f ends Y vertices table) (sym (drop_all i X past))
    (subst (IsSumTable f ends [] vertices) (sym e)
    (record { long = length-replicate vertices 0; at = λ v l. get_or-replicate {A = ℕ} vertices v 0 0 l }))

member_drop : (i : ℕ) (X : List ℕ) (z : ℕ) → is_member z (drop i X) ≡ true → is_member z X ≡ true
member_drop zero X z m = m
member_drop (suc i) [] z m = m
member_drop (suc i) (x ∷ X) z m = or_right (eqb z x) (is_member z X) (member_drop i X z m)

-- with edge e more
pub table_more : (f : ℕ → ℕ) (ends : ℕ → ℕ × ℕ) (X Y : List ℕ) (e vertices : ℕ) (old new : List ℕ) → Y ≡ e ∷ X
    → IsSumTable f ends X vertices old → length new ≡ length old
    → ((v : ℕ) → v < length old → get_or new v 0 ≡ at_ends (ends e) (f e) v + get_or old v 0) → IsSumTable f ends Y vertices new
unfolding end_sum
table_more f ends X Y e vertices old new whole table long more =
    subst (λ Z. IsSumTable f ends Z vertices new) (sym whole) (record {
      long = long ∙ table.long;
      at = λ v l. more v (omega (arith, table.long)) ∙ ap (λ s. at_ends (ends e) (f e) v + s) (table.at v l);
    })

-- ---- an edge of a forest

pub record IsFine (vertices : ℕ) (edges : List (ℕ × ℕ)) (e : ℕ) : Type 0 where
  pub below : e < length edges
  pub small : e < 2 ^ 32
  pub first : (ends_of edges e).0 < vertices
  pub second : (ends_of edges e).1 < vertices
  pub apart : (ends_of edges e).0 ≢ (ends_of edges e).1

pub fine_member : (vertices : ℕ) (edges : List (ℕ × ℕ)) (X : List ℕ) (e : ℕ) → IsForestOf vertices edges X → is_member e X ≡ true
    → IsFine vertices edges e
fine_member vertices edges X e given m =
    let below = below_member given.set m in
    let few : length edges < 2 ^ 32 = given.graph.few in
    record {
      below = below;
      small = omega arith;
      first = given.graph.first e below;
      second = given.graph.second e below;
      apart = no_loop (ends_of edges) X e given.forest m;
    }

-- the edge before place i
pub fine_before : {vertices : ℕ} {edges : List (ℕ × ℕ)} (X : List ℕ) {i count e : ℕ} → IsGraph vertices edges
    → is_graphic (length edges) (ends_of edges) X ≡ true → e ≡ get_or X (i - 1) 0 → count ≡ length X → 0 < i → i ≤ count
    → IsFine vertices edges e
fine_before {vertices} {edges} X {i} {count} {e} graph passes here all some inside =
    fine_member vertices edges X e (IsForestOf-from_test vertices edges X graph passes)
    (is_member-get_or X (i - 1) e (omega arith) (sym here))

-- there is room for it
pub room_before : {f : ℕ → ℕ} {vertices : ℕ} {edges : List (ℕ × ℕ)} (X : List ℕ) {i count : ℕ} {table lent : List ℕ} (amount : ℕ)
    → IsGraph vertices edges → is_graphic (length edges) (ends_of edges) X ≡ true → IsSumTable f (ends_of edges) (drop i X) vertices table
    → lent ≡ table → count ≡ length X → ((e : ℕ) → e < 2 ^ 32 → f e < 2 ^ 32) → 0 < i → i ≤ count → amount < 2 ^ 32
    → (v : ℕ) → v < length lent → get_or lent v 0 + amount < 2 ^ 64
room_before {f} {vertices} {edges} X {i} {count} {table} {lent} amount graph passes sums same all small some inside low v l =
    let given = IsForestOf-from_test vertices edges X graph passes in
    let fine : (g : ℕ) → is_member g (drop i X) ≡ true → IsFine vertices edges g =
    λ g m. fine_member vertices edges X g given (member_drop i X g m) in
    let few = end_sum-few f (ends_of edges) (drop i X) v (λ g m. small g (fine g m).small) (λ g m. (fine g m).apart) in
    let long = IsSet-length (length edges) X given.set in
    let fits : length edges < 2 ^ 32 = graph.few in
    let here : v < length table = subst (λ t. v < length t) same l in
    subst (λ t. get_or t v 0 + amount < 2 ^ 64) (sym same) (omega (arith, sums.at v (omega (arith, sums.long)), length-drop i X))

-- the table after it, as it is lent and given back
pub table_before : {f : ℕ → ℕ} {ends : ℕ → ℕ × ℕ} (X : List ℕ) {i count e vertices len : ℕ} {old lent : List ℕ} (new : List ℕ)
    → IsSumTable f ends (drop i X) vertices old → e ≡ get_or X (i - 1) 0 → lent ≡ old → len ≡ length old → length new ≡ length lent
    → ((v : ℕ) → v < length lent → get_or new v 0 ≡ at_ends (ends e) (f e) v + get_or lent v 0) → count ≡ length X → 0 < i → i ≤ count
    → IsSumTable f ends (drop (i - 1) X) vertices (take len (new ++ drop (length new) old))
table_before {f} {ends} X {i} {count} {e} {vertices} {len} {old} {lent} new sums here same size long more all some inside =
    let kept = ap length same in
    subst (IsSumTable f ends (drop (i - 1) X) vertices) (sym (written_back len new old (omega arith)))
    (table_more f ends (drop i X) (drop (i - 1) X) e vertices lent new
    (edge_before ends X (i - 1) i e (omega arith) (omega arith) here)
    (subst (IsSumTable f ends (drop i X) vertices) (sym same) sums) long more)
