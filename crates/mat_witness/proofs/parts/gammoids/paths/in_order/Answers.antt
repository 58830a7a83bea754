-- The path to each vertex is found by the place of its end, and copied behind those to the vertices before.
use Rattle.mat_witness.proofs.Common.{◌≡◌, ℕ, ◌+◌, ◌<◌, true, List, ◌++◌, ◌∷◌, [], length, map, get_or, take, refl, subst, sym, ap, ◌∙◌, arith, get_or_default_zero, map-append, take_more, is_member, AllBelow, AreDistinct, AllBelow-member, is_member-get_or, last_of, path_to}
use Rattle.mat_witness.proofs.OrderedPaths.{place_of_path}
use Rattle.mat_witness.proofs.parts.gammoids.paths.in_order.Goals as goal

-- the vertex has a place in the table, where the path to it is found
record IsPlaced (paths : List (List ℕ)) (places : List ℕ) (v : ℕ) : Type 0 where
  small : v < length places
  inside : get_or places v 0 < length paths
  found : get_or paths (get_or places v 0) [] ≡ path_to paths v

-- so it is for the i-th vertex of the list, as one path ends there
placed : {size : ℕ} {paths : List (List ℕ)} {places : List ℕ} (ends vertices : List ℕ) (i : ℕ) → ends ≡ map last_of paths
    → length places ≡ size → AllBelow size (map last_of paths) → AreDistinct (map last_of paths)
    → ((k : ℕ) → k < length ends → get_or places (get_or ends k 0) 0 ≡ k)
    → ((v : ℕ) → is_member v vertices ≡ true → is_member v (map last_of paths) ≡ true) → i < length vertices
    → IsPlaced paths places (get_or vertices i 0)
placed {size} {paths} {places} ends vertices i is long below d at inside l =
    let v = get_or vertices i 0 in
    let ended = inside v (is_member-get_or vertices i v l refl) in
    let small = AllBelow-member size (map last_of paths) v below ended in
    let p = place_of_path paths places d (subst (λ (es : List ℕ). (k : ℕ) → k < length es → get_or places (get_or es k 0) 0 ≡ k) is at) v ended in
    record { small = omega arith; inside = p.0; found = p.1 }

path_to-more : (paths : List (List ℕ)) (vertices : List ℕ) (i : ℕ) → i < length vertices
    → map (path_to paths) (take i vertices) ++ path_to paths (get_or vertices i 0) ∷ [] ≡ map (path_to paths) (take (i + 1) vertices)
path_to-more paths vertices i l =
    sym (ap (map (path_to paths)) (take_more vertices i 0 l) ∙ map-append (path_to paths) (take i vertices) (get_or vertices i 0 ∷ []))

pub index-requires : goal.index-requires
index-requires c =
    let p = placed _ _ c.loop-v.v-index (c.deref.ensures.value ∙ c.in_ok-ends.ensures) c.in_ok-places.ensures.long c.requires.below
    c.requires.distinct c.in_ok-places.ensures.places c.requires.ends c.loop-v-test.true in
    omega (arith, p.small, c.in_ok-places.places.ok)

pub copied-requires : goal.copied-requires
copied-requires c =
    let p = placed _ _ c.loop-v.v-index (c.deref.ensures.value ∙ c.in_ok-ends.ensures) c.in_ok-places.ensures.long c.requires.below
    c.requires.distinct c.in_ok-places.ensures.places c.requires.ends c.loop-v-test.true in
    rw (c.index.ensures ∙ get_or_default_zero _ _ _ p.small) p.inside

pub loop-v-preserved : goal.loop-v-preserved
loop-v-preserved c =
    let p = placed _ _ c.loop-v.v-index (c.deref.ensures.value ∙ c.in_ok-ends.ensures) c.in_ok-places.ensures.long c.requires.below
    c.requires.distinct c.in_ok-places.ensures.places c.requires.ends c.loop-v-test.true in
    let paths = c.args.paths.now in
    let at = c.index.ensures ∙ get_or_default_zero _ _ _ p.small in
    let found : List ℕ = c.in_ok-copied.field-0 in
    let right : found ≡ path_to paths (get_or c.args.vertices.now c.loop-v.v-index 0)
    = c.in_ok-copied.ensures ∙ ap (λ place. get_or paths place []) at ∙ p.found in
    c.in_ok-push.ensures.items ∙ ap (λ (ls : List (List ℕ)). ls ++ found ∷ []) c.loop-v.invariant
    ∙ ap (λ (l : List ℕ). map (path_to paths) (take c.loop-v.v-index c.args.vertices.now) ++ l ∷ []) right
    ∙ path_to-more paths c.args.vertices.now c.loop-v.v-index c.loop-v-test.true
