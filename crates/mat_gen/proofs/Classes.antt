-- The classes of a partition by the labels that are drawn.
use Rattle.mat_gen.proofs.Common.{◌≡◌, ℕ, ◌+◌, ◌*◌, ◌<◌, eqb, List, [], ◌∷◌, length, get_or, map, refl, ap, ◌∙◌, all_below, length-map_all_below, get_or-map_all_below, those_below-same, classes_by, labelled, draw, class_drawn}

-- the label at each place of a list that is made so
pub label_at : (label : ℕ → ℕ) (n e : ℕ) (labels : List ℕ) → labels ≡ map label (all_below n) → e < n
    → get_or labels e 0 ≡ label e
label_at label n e labels is l =
    ap (λ (xs : List ℕ). get_or xs e 0) is ∙ get_or-map_all_below label n e 0 l

-- classes by the labels at the places of a list
pub classes_labelled : (label : ℕ → ℕ) (n q : ℕ) (labels : List ℕ) → labels ≡ map label (all_below n)
    → classes_by (length labels) q (λ e. get_or labels e 0) ≡ map (labelled n label) (all_below q)
unfolding classes_by
classes_labelled label n q labels is =
    let long : length labels ≡ n = ap length is ∙ length-map_all_below label n in
    ap (λ (m : ℕ). map (labelled m (λ e. get_or labels e 0)) (all_below q)) long ∙ each (all_below q)
  where
    same : (c : ℕ) → labelled n (λ e. get_or labels e 0) c ≡ labelled n label c
    same c = those_below-same n (λ e. eqb (get_or labels e 0) c) (λ e. eqb (label e) c)
        (λ x l. ap (λ (y : ℕ). eqb y c) (label_at label n x labels is l))

    each : (cs : List ℕ) → map (labelled n (λ e. get_or labels e 0)) cs ≡ map (labelled n label) cs
    each [] = refl
    each (c ∷ cs) = rw (same c, each cs) refl

-- the classes that are drawn
pub classes_drawn : (seed n q : ℕ) (labels : List ℕ) → labels ≡ map (λ e. draw seed (4 * e + 2) q) (all_below n)
    → classes_by (length labels) q (λ e. get_or labels e 0) ≡ map (class_drawn seed n q) (all_below q)
classes_drawn seed n q labels is = classes_labelled (λ e. draw seed (4 * e + 2) q) n q labels is
