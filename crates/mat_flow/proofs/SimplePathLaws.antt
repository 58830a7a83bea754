-- Loops are cut out of a path: it keeps its first and its last vertex, gets no new vertex, and has none twice. So paths that share no
-- vertex with each other give disjoint paths with the same ends.
use Rattle.mat_flow.proofs.Common.{◌≡◌, ℕ, suc, true, eqb, List, [], ◌∷◌, ◌++◌, length, map, inl, inr, refl, sym, ap, ◌∙◌, subst, both_ways, cases_Bool, false_from_ne_true, or_cases, or_left, or_right, All-cons, All-head, All-nil, All-tail, is_member, AreDistinct, AreDisjoint-distinct}
use Rattle.mat_flow.proofs.Common.{AreDisjoint-first, AreDistinct-append, AreDistinct-rest, is_member-left, is_member-right, is_member-tail, split_at, is_member-append, first_of, has_arc, last_of, AreDisjointPaths, ArePathsApart, IsPath, IsPathBetween}
use Rattle.std.specs.List.{concat}
use Rattle.mat_sets.proofs.Families.{AreDisjoint-tail}

-- ---- parts of paths

IsPath-rest : (arcs : List (ℕ × ℕ)) (v : ℕ) (front rest : List ℕ) → IsPath arcs (front ++ v ∷ rest) → IsPath arcs (v ∷ rest)
IsPath-rest arcs v [] rest joined = joined
IsPath-rest arcs v (u ∷ []) rest joined = joined.1
IsPath-rest arcs v (u ∷ w ∷ front) rest joined = IsPath-rest arcs v (w ∷ front) rest joined.1

last_of-rest : (v : ℕ) (front rest : List ℕ) → last_of (front ++ v ∷ rest) ≡ last_of (v ∷ rest)
last_of-rest v (u ∷ w ∷ front) rest = last_of-rest v (w ∷ front) rest
last_of-rest v _ rest = refl

-- one vertex more in front
IsPath-cons : (arcs : List (ℕ × ℕ)) (v : ℕ) (path : List ℕ) → has_arc arcs v (first_of path) ≡ true → IsPath arcs path
    → IsPath arcs (v ∷ path)
IsPath-cons arcs v [] arc joined = absurd joined
IsPath-cons arcs v (u ∷ path) arc joined = (arc, joined)

last_of-cons : (arcs : List (ℕ × ℕ)) (v : ℕ) (path : List ℕ) → IsPath arcs path → last_of (v ∷ path) ≡ last_of path
last_of-cons arcs v [] joined = absurd joined
last_of-cons arcs v (u ∷ path) joined = refl

-- ---- one path

-- a path without repetition between the same vertices, over no other vertices
pub record SimplePath (arcs : List (ℕ × ℕ)) (path : List ℕ) : Type 0 where
  pub simple : List ℕ
  pub joined : IsPath arcs simple
  pub distinct : AreDistinct simple
  pub first : first_of simple ≡ first_of path
  pub last : last_of simple ≡ last_of path
  pub inside : (v : ℕ) → is_member v simple ≡ true → is_member v path ≡ true

-- v comes before a path: what leads back to v is left out
simple_cons : (arcs : List (ℕ × ℕ)) (v w : ℕ) (rest : List ℕ) → has_arc arcs v w ≡ true → SimplePath arcs (w ∷ rest)
    → SimplePath arcs (v ∷ w ∷ rest)
simple_cons arcs v w rest arc s = elim (cases_Bool (is_member v s.simple)) [
  | inl again ↦ (let p = split_at v s.simple again in
      record {
        simple = v ∷ p.after;
        joined = IsPath-rest arcs v p.before p.after (subst (IsPath arcs) p.splits s.joined);
        distinct = AreDistinct-rest p.before (v ∷ p.after) (subst AreDistinct p.splits s.distinct);
        first = refl;
        last = sym (last_of-rest v p.before p.after) ∙ sym (ap last_of p.splits) ∙ s.last;
        inside = λ z m. is_member-tail z v (w ∷ rest) (s.inside z (ap (is_member z) p.splits ∙ is_member-right z p.before (v ∷ p.after) m));
      })
  | inr new ↦ record {
    simple = v ∷ s.simple;
    joined = IsPath-cons arcs v s.simple (ap (has_arc arcs v) s.first ∙ arc) s.joined;
    distinct = (new, s.distinct);
    first = refl;
    last = last_of-cons arcs v s.simple s.joined ∙ s.last;
    inside = λ z m. elim (or_cases (eqb z v) (is_member z s.simple) m) [
      | inl same ↦ or_left (eqb z v) _ same
      | inr later ↦ or_right (eqb z v) _ (s.inside z later)
    ];
  }
]

pub simple_path : (arcs : List (ℕ × ℕ)) (path : List ℕ) → IsPath arcs path → SimplePath arcs path
simple_path arcs [] joined = absurd joined
simple_path arcs (v ∷ []) joined = record { simple = v ∷ []; joined = tt; distinct = (refl, tt); first = refl; last = refl; inside = λ z m. m }
simple_path arcs (v ∷ w ∷ rest) joined = simple_cons arcs v w rest joined.0 (simple_path arcs (w ∷ rest) joined.1)

-- ---- paths of which no two share a vertex

module _ (arcs : List (ℕ × ℕ)) (sources targets : List ℕ) where
  pub ArePathsApart-disjoint : (paths : List (List ℕ)) → AreDisjointPaths arcs sources targets paths → ArePathsApart arcs sources targets paths
  ArePathsApart-disjoint paths d = record { each = d.each; apart = AreDisjoint-distinct paths d.distinct }

  pub ArePathsApart-tail : (path : List ℕ) (paths : List (List ℕ)) → ArePathsApart arcs sources targets (path ∷ paths)
      → ArePathsApart arcs sources targets paths
  ArePathsApart-tail path paths a =
      record { each = All-tail (IsPathBetween arcs sources targets) path paths a.each; apart = AreDisjoint-tail path paths a.apart }

  -- disjoint paths that end where these do, one after the other
  pub record SimplePaths (paths : List (List ℕ)) : Type 0 where
    pub simple : List (List ℕ)
    pub disjoint : AreDisjointPaths arcs sources targets simple
    pub size : length simple ≡ length paths
    pub ends : map last_of simple ≡ map last_of paths
    pub inside : (v : ℕ) → is_member v (concat simple) ≡ true → is_member v (concat paths) ≡ true

  pub simple_paths : (paths : List (List ℕ)) → ArePathsApart arcs sources targets paths → SimplePaths paths
  simple_paths [] a = record {
    simple = [];
    disjoint = record { each = All-nil (IsPathBetween arcs sources targets); distinct = tt };
    size = refl;
    ends = refl;
    inside = λ v m. m;
  }
  simple_paths (path ∷ paths) a =
      let between = All-head (IsPathBetween arcs sources targets) path paths a.each in
      let s = simple_path arcs path between.joined in
      let rest = simple_paths paths (ArePathsApart-tail path paths a) in
      record {
        simple = s.simple ∷ rest.simple;
        disjoint = record {
          each = All-cons (IsPathBetween arcs sources targets) s.simple rest.simple (record {
            joined = s.joined;
            starts = ap (λ v. is_member v sources) s.first ∙ between.starts;
            ends = ap (λ v. is_member v targets) s.last ∙ between.ends;
          }) rest.disjoint.each;
          distinct = AreDistinct-append s.simple (concat rest.simple) s.distinct rest.disjoint.distinct
              (λ v m. false_from_ne_true _ (λ k. both_ways _ (AreDisjoint-first path paths a.apart v (s.inside v m)) (rest.inside v k)));
        };
        size = ap suc rest.size;
        ends = ap (λ v. v ∷ map last_of rest.simple) s.last ∙ ap (λ l. last_of path ∷ l) rest.ends;
        inside = λ v m. elim (or_cases (is_member v s.simple) _ (sym (is_member-append v s.simple (concat rest.simple)) ∙ m)) [
          | inl here ↦ is_member-left v path (concat paths) (s.inside v here)
          | inr later ↦ is_member-right v path (concat paths) (rest.inside v later)
        ];
      }
