-- Paths to the vertices of a set grow to those of an independent set that holds it: each part of that is independent, and so each new
-- element finds its path.
use Rattle.mat_linked.proofs.Common.{◌≡◌, ℕ, ◌+◌, ◌<◌, ◌≤◌, Bool, true, false, if◌then◌else◌, List, length, get_or, take, ◌↔◌, sym, ap, ◌∙◌, subst, is_member, minus, union, with_one, IsRising, IsSet, IsSubset, below_member, IsSet-subset, IsRising-with_one, IsLinker, HasPathsToEach, Linker}
use Rattle.mat_linked.proofs.Common.{gammoid_laws, is_gammoid, set_of_vertices, IsGammoid}
use Rattle.mat_linked.proofs.GrownSets.{all_more, in_next, is_new, none_more, one_more, one_more_in_next, rises_so_far, so_far_in_next}
use Rattle.mat_linked.proofs.LinkedRuns.{new_vertex, paths_by_independence, set_of_vertices-with_one}

-- there are paths to the vertices of a set and of the first i elements of another one
abbrev pub AreMorePaths : (vertices : ℕ) (arcs : List (ℕ × ℕ)) (sources targets base more : List ℕ) (i : ℕ) (links : Linker) → Type 0
AreMorePaths vertices arcs sources targets base more i links =
    IsLinker vertices arcs sources (set_of_vertices targets (union base (take i more))) links

module _ (vertices : ℕ) (arcs : List (ℕ × ℕ)) (sources targets : List ℕ) (given : IsGammoid vertices arcs sources targets)
    (base next more : List ℕ) (holds : IsSubset base next) (ok : is_gammoid vertices arcs sources targets next ≡ true) (rises : IsRising base)
    (is : more ≡ minus next base) where
  set_next : IsSet (length targets) next
  set_next = (gammoid_laws vertices arcs sources targets given).sets next ok

  pub AreMorePaths-none : (links : Linker) → IsLinker vertices arcs sources (set_of_vertices targets base) links
      → AreMorePaths vertices arcs sources targets base more 0 links
  AreMorePaths-none links linked =
      subst (λ X. IsLinker vertices arcs sources (set_of_vertices targets X) links) (none_more base next more holds rises set_next.rising is) linked

  pub AreMorePaths-all : (i : ℕ) (links : Linker) → length more ≤ i → AreMorePaths vertices arcs sources targets base more i links
      → IsLinker vertices arcs sources (set_of_vertices targets next) links
  AreMorePaths-all i links past linked =
      subst (λ X. IsLinker vertices arcs sources (set_of_vertices targets X) links) (all_more base next more holds rises set_next.rising is i past) linked

  module _ (i x : ℕ) (inside : i < length more) (at : x ≡ get_or more i 0) where
    abbrev so_far : List ℕ
    so_far = union base (take i more)

    pub below : x < length targets
    below = below_member set_next (in_next base next more holds rises set_next.rising is i x inside at)

    rising : IsRising so_far
    rising = rises_so_far base next more holds rises set_next.rising is i x inside at

    pub vertex_is_new : is_member (get_or targets x 0) (set_of_vertices targets so_far) ≡ false
    vertex_is_new =
        new_vertex targets so_far x given.distinct
        (IsSet-subset (length targets) so_far next rising (so_far_in_next base next more holds rises set_next.rising is i x inside at) set_next) below
        (is_new base next more holds rises set_next.rising is i x inside at)

    has_paths : HasPathsToEach arcs sources (with_one (set_of_vertices targets so_far) (get_or targets x 0))
    has_paths =
        subst (HasPathsToEach arcs sources) (sym (set_of_vertices-with_one targets so_far x))
        (paths_by_independence vertices arcs sources targets given (with_one so_far x)
        ((gammoid_laws vertices arcs sources targets given).subsets (with_one so_far x) next (IsRising-with_one so_far x rising)
        (one_more_in_next base next more holds rises set_next.rising is i x inside at) ok))

    pub AreMorePaths-more : (found : Bool) (links : Linker)
        → IsLinker vertices arcs sources (if found then with_one (set_of_vertices targets so_far) (get_or targets x 0) else set_of_vertices targets so_far) links
        → ((found ≡ true) ↔ HasPathsToEach arcs sources (with_one (set_of_vertices targets so_far) (get_or targets x 0)))
        → AreMorePaths vertices arcs sources targets base more (i + 1) links
    AreMorePaths-more found links linked answer =
        let taken = subst (λ found. IsLinker vertices arcs sources
        (if found then with_one (set_of_vertices targets so_far) (get_or targets x 0) else set_of_vertices targets so_far) links) (answer.1 has_paths) linked in
        subst (λ X. IsLinker vertices arcs sources X links)
        (set_of_vertices-with_one targets so_far x
        ∙ ap (set_of_vertices targets) (one_more base next more holds rises set_next.rising is i x inside at)) taken
