-- The partition matroids of labels as they are made: their classes and caps are those that the labels have, also where these are read off
-- pairs.
use Rattle.mat_count.proofs.Common.{◌≡◌, ℕ, ◌<◌, Bool, List, length, get_or, map, replicate, sym, ap, ◌∙◌, same_number_lists, get_or-replicate, length-map, length-replicate, is_counted, caps_by, classes_by, one_each, CappedClasses}
use Rattle.std.proofs.Math.ListN.{get_or-map as get_or_map}
use mathlib.Core.Path.{fun_ext}
use Rattle.mat_count.proofs.LabelClasses.{caps_by-at, length-caps_by}

-- a partition matroid as plain data, and its test
abbrev pub with_caps : ℕ → List (List ℕ) → List ℕ → CappedClasses
with_caps n classes caps = record { count = n; classes = classes; caps = caps }

abbrev pub test_of : CappedClasses → List ℕ → Bool
test_of m = is_counted m.count m.classes m.caps

-- that of labels below k with these caps
abbrev pub by_labels : ℕ → ℕ → (ℕ → ℕ) → (ℕ → ℕ) → CappedClasses
by_labels n k label cap = with_caps n (classes_by n k label) (caps_by k cap)

-- the caps 1 as they are made
pub caps_by-ones : (k : ℕ) → replicate k 1 ≡ caps_by k one_each
caps_by-ones k = same_number_lists (replicate k 1) (caps_by k one_each) (length-replicate {A = ℕ} k 1 ∙ sym (length-caps_by k one_each)) (λ c l.
    let small : c < k = rw (length-replicate {A = ℕ} k 1) at l in
    get_or-replicate {A = ℕ} k c 1 0 small ∙ sym (caps_by-at k one_each c small))

-- there are as many classes as caps
pub caps_made : (n k : ℕ) (label cap : ℕ → ℕ) (caps : List ℕ) → caps ≡ caps_by k cap
    → with_caps n (classes_by n (length caps) label) caps ≡ by_labels n k label cap
caps_made n k label cap caps made =
    ap (λ (cs : List ℕ). with_caps n (classes_by n (length cs) label) cs) made
    ∙ ap (λ (m : ℕ). with_caps n (classes_by n m label) (caps_by k cap)) (length-caps_by k cap)

-- labels that are read off pairs
pub labels_read : (f : ℕ × ℕ → ℕ) (pairs : List (ℕ × ℕ)) (labels : List ℕ) (k : ℕ) (cap : ℕ → ℕ) → f (0, 0) ≡ 0 → labels ≡ map f pairs
    → by_labels (length labels) k (λ e. get_or labels e 0) cap ≡ by_labels (length pairs) k (λ e. f (get_or pairs e (0, 0))) cap
labels_read f pairs labels k cap start is =
    let long : length labels ≡ length pairs = ap length is ∙ length-map pairs f in
    let label : (λ (e : ℕ). get_or labels e 0) ≡ (λ (e : ℕ). f (get_or pairs e (0, 0))) = fun_ext (λ e.
    ap (λ xs. get_or xs e 0) is ∙ ap (λ d. get_or (map f pairs) e d) (sym start) ∙ get_or_map f pairs e (0, 0)) in
    ap (λ (g : ℕ → ℕ). by_labels (length labels) k g cap) label
    ∙ ap (λ (m : ℕ). by_labels m k (λ e. f (get_or pairs e (0, 0))) cap) long
