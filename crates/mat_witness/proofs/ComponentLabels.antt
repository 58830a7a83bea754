-- The least vertices of the components of a set of edges, as labels: no edge of the set joins two of them, and there are as many different ones
-- as components.
use Rattle.mat_witness.proofs.Common.{◌≡◌, ℕ, ◌-◌, ◌<◌, ◌≤◌, true, ◌==◌, eqb, ltb, get_or, List, [], length, Result, Ok, Err, refl, sym, ◌∙◌, arith, and_parts, eqb-true, eq-eqb, ltb-true, false≢true, IsGraph, ends_of, those_below, AllBelow, IsSet, union, AllBelow-from_members, below_member}
use Rattle.mat_witness.proofs.Common.{IsRising-nil, IsRising-union, is_member-get_or, place_of_member, IsSet-those_below, is_member-those_below, length-subset, union-left, IsMaximal, rank-maximal, IsLeastReached, is_graphic, least_reached, number_of_components, member_within, graphic_laws}
use Rattle.mat_witness.proofs.Common.{least_merged, AreEndsBelow, IsLeastReached-unique, least_reached-merged, rank_and_number, count_different, have_equal_labels, label_of}
use Rattle.std.specs.Result.{IfOk}
use Rattle.mat_witness.proofs.ListedMembers.{list_all-from}

-- each label is the least vertex that is reached
abbrev pub AreLeast : ℕ → (ℕ → ℕ × ℕ) → List ℕ → List ℕ → Type 0
AreLeast vertices ends X least = (v : ℕ) → v < vertices → IsLeastReached ends X v (get_or least v 0)

pub ends_below : (vertices : ℕ) (edges : List (ℕ × ℕ)) (X : List ℕ) → IsGraph vertices edges → IsSet (length edges) X
    → AreEndsBelow (ends_of edges) vertices X
ends_below vertices edges X graph set e m = (graph.first e (below_member set m), graph.second e (below_member set m))

pub least_below : (vertices : ℕ) (ends : ℕ → ℕ × ℕ) (X least : List ℕ) → length least ≡ vertices → AreLeast vertices ends X least
    → AllBelow vertices least
least_below vertices ends X least long found = AllBelow-from_members vertices least (λ k m.
    let place = place_of_member k least m in
    let v = place.0 in
    let small : v < vertices = omega (arith, place.1) in
    let low : get_or least v 0 ≤ v = (found v small).least [] v (record { inside = λ z n. absurd (false≢true n) }) refl in
    omega (arith, place.2))

pub least_alike : (vertices : ℕ) (edges : List (ℕ × ℕ)) (X least : List ℕ) → IsGraph vertices edges → IsSet (length edges) X
    → AreLeast vertices (ends_of edges) X least → have_equal_labels (ends_of edges) least X ≡ true
least_alike vertices edges X least graph set found =
    let ends = ends_of edges in
    let merged : (v : ℕ) → v < vertices → least_merged ends X v ≡ get_or least v 0 =
    λ v l. IsLeastReached-unique ends X v (get_or least v 0) set.rising (found v l) in
    list_all-from (λ e. label_of least (ends e).0 == label_of least (ends e).1) X (λ e m.
    let below = ends_below vertices edges X graph set e m in
    eq-eqb _ _ (sym (merged (ends e).0 below.0) ∙ (member_within ends X e m ∙ merged (ends e).1 below.1)))

-- each least vertex of a component is a label, its own
components_few : (vertices : ℕ) (ends : ℕ → ℕ × ℕ) (X least : List ℕ) (n : ℕ) → IsSet n X → length least ≡ vertices
    → AreLeast vertices ends X least → number_of_components vertices ends X ≤ count_different least
unfolding number_of_components
components_few vertices ends X least n set long found =
    length-subset (those_below vertices (λ v. eqb (least_reached ends X v) v)) (union least [])
    (IsSet-those_below vertices (λ v. eqb (least_reached ends X v) v)).rising (IsRising-union least [] IsRising-nil)
    (record {
      inside = λ v m.
          let parts = and_parts (ltb v vertices) (eqb (least_reached ends X v) v)
          (sym (is_member-those_below v vertices (λ v. eqb (least_reached ends X v) v)) ∙ m) in
          let small : v < vertices = ltb-true v vertices parts.0 in
          let own : get_or least v 0 ≡ v = sym (IsLeastReached-unique ends X v (get_or least v 0) set.rising (found v small))
          ∙ (sym (least_reached-merged ends X v set.rising) ∙ eqb-true _ _ parts.1) in
          (union-left least []).inside v (is_member-get_or least v v (omega arith) own);
    })

pub least_number : (vertices : ℕ) (edges : List (ℕ × ℕ)) (X least I : List ℕ) → IsGraph vertices edges → IsSet (length edges) X
    → length least ≡ vertices → AreLeast vertices (ends_of edges) X least
    → IsMaximal (is_graphic (length edges) (ends_of edges)) X I → vertices - count_different least ≤ length I
least_number vertices edges X least I graph set long found maximal =
    omega (
      arith,
      components_few vertices (ends_of edges) X least (length edges) set long found,
      rank_and_number (ends_of edges) (length edges) vertices X set (ends_below vertices edges X graph set),
      rank-maximal (graphic_laws (length edges) (ends_of edges)) X I set.rising maximal,
    )

-- what two facts of an answer give
pub of_both : {X Y : Type 0} (r : Result X Y) (P Q R : X → Type 0) → ((x : X) → P x → Q x → R x) → IfOk r P → IfOk r Q → IfOk r R
of_both (Ok x) P Q R f p q = f x p q
of_both (Err y) P Q R f p q = tt
