-- What the parts of a witness show, by the kind of the matroid: a free part that its set is independent, and a bound part that no independent
-- subset of its set has more members than its number.
use Rattle.mat_witness.proofs.Common.{◌≡◌, ℕ, ◌≤◌, true, List, length, sym, subst, ends_of, IsSet, IsSubset, Tree, uniform, partition, laminar, graphic, gammoid, gf2, is_independent, IsSound, IsValidTree, bound_of, shows_bound, shows_free, BoundPart, FreePart, IsBoundFor, IsFreeFor, count, forest}
use Rattle.mat_witness.proofs.Common.{paths, probes, spent, labels, gate, zeros}
use Rattle.mat_witness.proofs.ColumnParts.{probes_are_shown, zeros_bound_holds}
use Rattle.mat_witness.proofs.CountedParts.{counted_bound_holds, uniform_bound_holds}
use Rattle.mat_witness.proofs.ForestParts.{forest_is_shown, labels_bound_holds}
use Rattle.mat_witness.proofs.PathParts.{closing_bound_holds, paths_are_shown}

pub free_is_shown : (n : ℕ) (tree : Tree) (part : FreePart) (X : List ℕ) → IsSound tree → IsValidTree n tree → IsSet n X
    → IsFreeFor n (length X) tree part → shows_free tree part X ≡ true → is_independent tree X ≡ true
free_is_shown n (uniform m cap) count X sound valid set for shown = shown
free_is_shown n (partition m classes caps) count X sound valid set for shown = shown
free_is_shown n (laminar m sets caps) count X sound valid set for shown = shown
free_is_shown n (graphic vertices edges) (forest pairs) X sound valid set for shown =
    forest_is_shown (length edges) (ends_of edges) pairs X (subst (λ m. IsSet m X) (sym valid.0) set) shown
free_is_shown n (gammoid vertices arcs sources targets) (paths lists) X sound valid set for shown =
    paths_are_shown vertices arcs sources targets lists X sound (subst (λ m. IsSet m X) (sym valid.0) set) for.1 shown
free_is_shown n (gf2 dim columns) (probes numbers) X sound valid set for shown =
    probes_are_shown dim columns numbers X sound (subst (λ m. IsSet m X) (sym valid.0) set) shown
free_is_shown n _ part X sound valid set for shown = absurd for

pub bound_holds : (n : ℕ) (tree : Tree) (part : BoundPart) (F I : List ℕ) → IsSound tree → IsValidTree n tree → IsSet n F
    → IsBoundFor n tree part → shows_bound tree part F ≡ true → is_independent tree I ≡ true → IsSubset I F
    → length I ≤ bound_of tree part
bound_holds n (uniform m cap) (spent elements chosen) F I sound valid set for shown passes inside =
    uniform_bound_holds m cap elements chosen F I (subst (λ c. IsSet c elements) (sym valid.0) for.elements_inside) for.chosen_inside shown passes
    inside
bound_holds n (partition m classes caps) (spent elements chosen) F I sound valid set for shown passes inside =
    counted_bound_holds m classes caps sound.capped elements chosen F I (subst (λ c. IsSet c elements) (sym valid.0) for.elements_inside)
    for.chosen_inside shown passes inside
bound_holds n (laminar m sets caps) (spent elements chosen) F I sound valid set for shown passes inside =
    counted_bound_holds m sets caps sound.capped elements chosen F I (subst (λ c. IsSet c elements) (sym valid.0) for.elements_inside)
    for.chosen_inside shown passes inside
bound_holds n (graphic vertices edges) (labels numbers) F I sound valid set for shown passes inside =
    labels_bound_holds vertices edges sound numbers F I for.0 shown passes inside
bound_holds n (gammoid vertices arcs sources targets) (gate reached closing) F I sound valid set for shown passes inside =
    closing_bound_holds vertices arcs sources targets F I reached closing sound (subst (λ m. IsSet m F) (sym valid.0) set) for.0 for.1 shown passes
    inside
bound_holds n (gf2 dim columns) (zeros numbers) F I sound valid set for shown passes inside =
    zeros_bound_holds dim columns numbers F I sound (subst (λ m. IsSet m F) (sym valid.0) set) for.0 for.1 shown passes inside
bound_holds n _ part F I sound valid set for shown passes inside = absurd for
