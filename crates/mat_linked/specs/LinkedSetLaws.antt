-- The sets that are linked to the sources: each part of a linked set is linked, and of two linked sets the smaller can take an element of
-- the larger. For where there is not one path more, a separator has as many vertices as the smaller set has members, and the paths to
-- the larger set are no more.
use Rattle.std.proofs.Common.{◌≡◌, ℕ, zero, suc, ◌<◌, true, false, ◌||◌, eqb, List, [], ◌∷◌, ◌++◌, length, map, get_or, inl, inr, refl, sym, ap, ◌∙◌, arith}
use Rattle.std.proofs.lemmas.Bool.{both_ways, eq-eqb, eqb-true, false_from_ne_true, or_cases, or_left, or_right}
use Rattle.std.proofs.lemmas.List.{length-map}
use Rattle.std.proofs.lemmas.List.Elements.{All-nil}
use Rattle.mat_sets.specs.Sets.{is_member, with_one, AreDistinct, IsRising, IsSet, IsSubset}
use Rattle.mat_sets.proofs.Ground.{AreDistinct-rising, IsSet-subset, IsSet-with_one, below_member}
use Rattle.mat_sets.proofs.ListParts.{is_member-left, is_member-right}
use Rattle.mat_sets.proofs.MappedLists.{AreDistinct-map, is_member-map, mapped_member}
use Rattle.mat_sets.proofs.Members.{is_member-append, is_member-get_or, is_member-with_one}
use Rattle.mat_flow.proofs.PathChoiceLaws.{AreDisjointPaths-targets, ends_are_targets, paths_to_some}
use Rattle.mat_flow.proofs.PathLaws.{at_most_a_separator, one_path_more}
use Rattle.mat_flow.specs.Paths.{last_of, AreDisjointPaths, HasOnePathMore, IsPathBetween}
use Rattle.mat_flow.proofs.SimplePathLaws.{ArePathsApart-disjoint}
use Rattle.mat_linked.specs.Gammoids.{IsLinked, vertices_of}

-- ---- the vertices of a set of elements

pub member_vertex : (targets X : List ℕ) (e : ℕ) → is_member e X ≡ true → is_member (get_or targets e 0) (vertices_of targets X) ≡ true
member_vertex targets X e m = is_member-map (λ x. get_or targets x 0) X e m

pub vertex_member : (targets X : List ℕ) (v : ℕ) → is_member v (vertices_of targets X) ≡ true
    → (e : ℕ) × (is_member e X ≡ true) × (get_or targets e 0 ≡ v)
vertex_member targets X v m = mapped_member (λ x. get_or targets x 0) X v m

-- different elements have different vertices
pub same_vertex : (targets : List ℕ) (e f : ℕ) → AreDistinct targets → e < length targets → f < length targets
    → get_or targets e 0 ≡ get_or targets f 0 → e ≡ f
same_vertex [] e f d l k same = absurd (omega arith)
same_vertex (t ∷ targets) zero zero d l k same = refl
same_vertex (t ∷ targets) zero (suc f) d l k same = absurd (both_ways _ d.0 (is_member-get_or targets f t (omega arith) (sym same)))
same_vertex (t ∷ targets) (suc e) zero d l k same = absurd (both_ways _ d.0 (is_member-get_or targets e t (omega arith) same))
same_vertex (t ∷ targets) (suc e) (suc f) d l k same = ap suc (same_vertex targets e f d.1 (omega arith) (omega arith) same)

pub AreDistinct-vertices_of : (targets X : List ℕ) → AreDistinct targets → IsSet (length targets) X → AreDistinct (vertices_of targets X)
AreDistinct-vertices_of targets X d s =
    AreDistinct-map (λ x. get_or targets x 0) X (AreDistinct-rising X s.rising)
    (λ e f m k same. same_vertex targets e f d (below_member s m) (below_member s k) same)

module _ (arcs : List (ℕ × ℕ)) (sources targets : List ℕ) where
  pub linked_nil : IsLinked arcs sources targets []
  linked_nil = record {
    set = IsSet-none;
    paths = [];
    disjoint = record { each = All-nil (IsPathBetween arcs sources []); distinct = tt };
    ends = refl;
  }
    where
      IsSet-none : IsSet (length targets) []
      IsSet-none = record { rising = record { rises = tt }; below = tt }

  -- paths to a set, for other targets among which its vertices are
  pub for_more : (more X : List ℕ) → (g : IsLinked arcs sources targets X)
      → ((v : ℕ) → is_member v (vertices_of targets X) ≡ true → is_member v more ≡ true) → AreDisjointPaths arcs sources more g.paths
  for_more more X g inside =
      AreDisjointPaths-targets arcs sources (vertices_of targets X) more g.paths g.disjoint (λ v m. inside v (ap (is_member v) (sym g.ends) ∙ m))

  pub size_of : (X : List ℕ) → (g : IsLinked arcs sources targets X) → length g.paths ≡ length X
  size_of X g = sym (length-map g.paths last_of) ∙ ap length g.ends ∙ length-map X (λ e. get_or targets e 0)

  module _ (distinct : AreDistinct targets) where
    -- a set is linked where disjoint paths end at all its vertices
    pub linked_by : (X all : List ℕ) (paths : List (List ℕ)) → IsSet (length targets) X → AreDisjointPaths arcs sources all paths
        → ((v : ℕ) → is_member v (vertices_of targets X) ≡ true → is_member v (map last_of paths) ≡ true)
        → IsLinked arcs sources targets X
    linked_by X all paths set d inside =
        let p = paths_to_some arcs sources all paths d (vertices_of targets X) (AreDistinct-vertices_of targets X distinct set) inside in
        record {
          set = set;
          paths = p.paths;
          disjoint =
              AreDisjointPaths-targets arcs sources all (vertices_of targets X) p.paths p.disjoint (λ v m. ap (is_member v) (sym p.ends) ∙ m);
          ends = p.ends;
        }

    pub linked_subset : (X Y : List ℕ) → IsRising X → IsSubset X Y → IsLinked arcs sources targets Y → IsLinked arcs sources targets X
    linked_subset X Y rising sub g =
        linked_by X (vertices_of targets Y) g.paths (IsSet-subset (length targets) X Y rising sub g.set) g.disjoint
        (λ v m. (let w = vertex_member targets X v m in
        ap (is_member v) g.ends ∙ ap (λ z. is_member z (vertices_of targets Y)) (sym w.2) ∙ member_vertex targets Y w.0 (sub.inside w.0 w.1)))

    -- an element of the larger set outside the smaller, with which that one is linked
    pub record LinkedWithOne (I J : List ℕ) : Type 0 where
      pub element : ℕ
      pub inside : is_member element J ≡ true
      pub outside : is_member element I ≡ false
      pub linked : IsLinked arcs sources targets (with_one I element)

    -- one path more ends at the vertex of such an element
    with_further : (I J : List ℕ) → (g : IsLinked arcs sources targets I) → IsLinked arcs sources targets J
        → HasOnePathMore arcs sources (vertices_of targets I ++ vertices_of targets J) g.paths → LinkedWithOne I J
    with_further I J g h m =
        let all = vertices_of targets I ++ vertices_of targets J in
        let new : is_member m.further (vertices_of targets I) ≡ false = ap (is_member m.further) (sym g.ends) ∙ m.new in
        let ended : is_member m.further (map last_of m.larger) ≡ true = m.ends m.further
        ∙ or_left (eqb m.further m.further) _ (eq-eqb m.further m.further refl) in
        let target = ends_are_targets arcs sources all m.larger m.disjoint.each m.further ended in
        let w = vertex_member targets J m.further (other m.further new target) in
        record {
          element = w.0;
          inside = w.1;
          outside =
              false_from_ne_true _ (λ k. both_ways _ new
              (ap (λ z. is_member z (vertices_of targets I)) (sym w.2) ∙ member_vertex targets I w.0 k));
          linked = linked_by (with_one I w.0) all m.larger (IsSet-with_one (length targets) I w.0 g.set (below_member h.set w.1)) m.disjoint
              (λ v k. (let u = vertex_member targets (with_one I w.0) v k in
              m.ends v ∙ reached v u.0 w.0 u.1 u.2 w.2));
        }
      where
        other : (v : ℕ) → is_member v (vertices_of targets I) ≡ false
            → is_member v (vertices_of targets I ++ vertices_of targets J) ≡ true → is_member v (vertices_of targets J) ≡ true
        other v out on =
            elim (or_cases (is_member v (vertices_of targets I)) _
            (sym (is_member-append v (vertices_of targets I) (vertices_of targets J)) ∙ on)) [
              | inl k ↦ absurd (both_ways _ out k)
              | inr k ↦ k
            ]

        -- the vertex of a member of I + f is that of f or one of I
        reached : (v e f : ℕ) → is_member e (with_one I f) ≡ true → get_or targets e 0 ≡ v → get_or targets f 0 ≡ m.further
            → (eqb v m.further || is_member v (map last_of g.paths)) ≡ true
        reached v e f k same also = elim (or_cases (eqb e f) (is_member e I) (sym (is_member-with_one e f I) ∙ k)) [
          | inl one ↦ or_left (eqb v m.further) _ (eq-eqb v m.further (sym same ∙ ap (λ x. get_or targets x 0) (eqb-true e f one) ∙ also))
          | inr old ↦
              or_right (eqb v m.further) _ (ap (is_member v) g.ends ∙ ap (λ z. is_member z (vertices_of targets I)) (sym same)
              ∙ member_vertex targets I e old)
        ]

    pub augments : (I J : List ℕ) → IsLinked arcs sources targets I → IsLinked arcs sources targets J → length I < length J
        → LinkedWithOne I J
    augments I J g h less =
        let all = vertices_of targets I ++ vertices_of targets J in
        let first = for_more all I g (λ v m. is_member-left v (vertices_of targets I) (vertices_of targets J) m) in
        let second = for_more all J h (λ v m. is_member-right v (vertices_of targets I) (vertices_of targets J) m) in
        elim (one_path_more arcs sources all g.paths (ArePathsApart-disjoint arcs sources all g.paths first)) [
          | inl m ↦ with_further I J g h m
          | inr s ↦
              absurd (let few = at_most_a_separator arcs sources all s.separator h.paths s.separates
              (ArePathsApart-disjoint arcs sources all h.paths second) in
              let a = s.size in let b = size_of I g in let c = size_of J h in omega arith)
        ]
