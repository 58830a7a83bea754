-- The pair of a graphic matroid and a partition, as they are made of what was drawn.
use Rattle.mat_gen.proofs.Common.{◌≡◌, ℕ, ◌+◌, ◌*◌, ◌/◌, List, length, get_or, map, replicate, ap, ◌∙◌, length-replicate, all_below, Weight, length-map_all_below, classes_by, graphic, partition, pair, draw, class_drawn, pairs_drawn, weights_drawn, sample_of}
use Rattle.mat_count.specs.Partitions.{CappedClasses}
use Rattle.mat_graphic.specs.declared.graphic.Graphic.{Graphic}
use Rattle.mat_gen.specs.declared.kind.SampleKind.TheVariants as kinds
use Rattle.mat_gen.proofs.Classes.{classes_drawn}

-- the pair of a graphic matroid and a partition as they are made
pub pair_made : (seed n : ℕ) (weights : List Weight) (edges : List (ℕ × ℕ)) (labels caps : List ℕ)
    → (first : Graphic) (second : CappedClasses)
    → weights ≡ weights_drawn seed n 4 3 → edges ≡ pairs_drawn seed n 4 0 (n / 4 + 2)
    → labels ≡ map (λ e. draw seed (4 * e + 2) (n / 5 + 1)) (all_below n) → caps ≡ replicate (n / 5 + 1) 1
    → first ≡ record { vertices = n / 4 + 2; edges = edges }
    → second ≡ record { count = length labels; classes = classes_by (length labels) (length caps) (λ e. get_or labels e 0); caps = caps }
    → pair weights (graphic first.vertices first.edges) (partition second.count second.classes second.caps) ≡ sample_of kinds.Pair n seed
pair_made seed n weights edges labels caps first second weighed ends labelled capped one two =
    let v = n / 4 + 2 in
    let q = n / 5 + 1 in
    let long : length labels ≡ n = ap length labelled ∙ length-map_all_below (λ (e : ℕ). draw seed (4 * e + 2) q) n in
    let many : length caps ≡ q = ap length capped ∙ length-replicate q 1 in
    let classes : classes_by (length labels) (length caps) (λ e. get_or labels e 0) ≡ map (class_drawn seed n q) (all_below q) =
    ap (λ (k : ℕ). classes_by (length labels) k (λ e. get_or labels e 0)) many ∙ classes_drawn seed n q labels labelled in
    ap (λ (g : Graphic). pair weights (graphic g.vertices g.edges) (partition second.count second.classes second.caps)) one
    ∙ ap (λ (p : CappedClasses). pair weights (graphic v edges) (partition p.count p.classes p.caps)) two
    ∙ ap (λ (ws : List Weight). pair ws (graphic v edges)
    (partition (length labels) (classes_by (length labels) (length caps) (λ e. get_or labels e 0)) caps)) weighed
    ∙ ap (λ (es : List (ℕ × ℕ)). pair (weights_drawn seed n 4 3) (graphic v es)
    (partition (length labels) (classes_by (length labels) (length caps) (λ e. get_or labels e 0)) caps)) ends
    ∙ ap (λ (cs : List (List ℕ)). pair (weights_drawn seed n 4 3) (graphic v (pairs_drawn seed n 4 0 v))
    (partition (length labels) cs caps)) classes
    ∙ ap (λ (k : ℕ). pair (weights_drawn seed n 4 3) (graphic v (pairs_drawn seed n 4 0 v))
    (partition k (map (class_drawn seed n q) (all_below q)) caps)) long
    ∙ ap (λ (ks : List ℕ). pair (weights_drawn seed n 4 3) (graphic v (pairs_drawn seed n 4 0 v))
    (partition n (map (class_drawn seed n q) (all_below q)) ks)) capped
