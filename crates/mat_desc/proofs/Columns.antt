-- Lists that are read side by side, one item of each on a line.
use Rattle.mat_desc.proofs.Common.{◌≡◌, ℕ, suc, List, [], ◌∷◌, ◌++◌, length, map, refl, ap, sym, ◌∙◌, arith, firsts-zip, seconds-zip, Weight}
use Rattle.std.specs.List.{zip}

-- one more item of each list
pub zip-push : {A B : Type 0} (xs : List A) (ys : List B) (x : A) (y : B) → length ys ≡ length xs
    → zip (xs ++ x ∷ []) (ys ++ y ∷ []) ≡ zip xs ys ++ (x, y) ∷ []
zip-push [] [] x y same = refl
zip-push [] (b ∷ ys) x y same = absurd (omega arith)
zip-push (a ∷ xs) [] x y same = absurd (omega arith)
zip-push {A} {B} (a ∷ xs) (b ∷ ys) x y same = ap (λ (t : List (A × B)). (a, b) ∷ t) (zip-push xs ys x y (omega arith))

pub length-zip_same : {A B : Type 0} (xs : List A) (ys : List B) → length ys ≡ length xs → length (zip xs ys) ≡ length xs
length-zip_same [] [] same = refl
length-zip_same [] (b ∷ ys) same = refl
length-zip_same (a ∷ xs) [] same = absurd (omega arith)
length-zip_same (a ∷ xs) (b ∷ ys) same = ap suc (length-zip_same xs ys (omega arith))

-- one more item of each of three lists
pub zip-push_two : {A B C : Type 0} (xs : List A) (ys : List B) (zs : List C) (x : A) (y : B) (z : C) → length ys ≡ length xs
    → length zs ≡ length xs
    → zip (xs ++ x ∷ []) (zip (ys ++ y ∷ []) (zs ++ z ∷ [])) ≡ zip xs (zip ys zs) ++ (x, (y, z)) ∷ []
zip-push_two {A} {B} {C} xs ys zs x y z one two =
    ap (λ (t : List (B × C)). zip (xs ++ x ∷ []) t) (zip-push ys zs y z (two ∙ sym one)) ∙ zip-push xs (zip ys zs) x (y, z)
    (length-zip_same ys zs (two ∙ sym one) ∙ one)

-- the colours and the weights of coloured edges
pub colours-zip : (edges : List (ℕ × ℕ)) (colours : List ℕ) (weights : List Weight) → length colours ≡ length edges
    → length weights ≡ length edges
    → map (λ (e : (ℕ × ℕ) × (ℕ × Weight)). e.1.0) (zip edges (zip colours weights)) ≡ colours
colours-zip [] [] weights one two = refl
colours-zip (e ∷ edges) (c ∷ colours) (w ∷ weights) one two =
    ap (λ (t : List ℕ). c ∷ t) (colours-zip edges colours weights (omega arith) (omega arith))
colours-zip _ _ weights one two = absurd (omega arith)

pub weights-zip : (edges : List (ℕ × ℕ)) (colours : List ℕ) (weights : List Weight) → length colours ≡ length edges
    → length weights ≡ length edges
    → map (λ (e : (ℕ × ℕ) × (ℕ × Weight)). e.1.1) (zip edges (zip colours weights)) ≡ weights
weights-zip [] [] [] one two = refl
weights-zip (e ∷ edges) (c ∷ colours) (w ∷ weights) one two =
    ap (λ (t : List Weight). w ∷ t) (weights-zip edges colours weights (omega arith) (omega arith))
weights-zip _ _ weights one two = absurd (omega arith)

pub edges-zip : (edges : List (ℕ × ℕ)) (colours : List ℕ) (weights : List Weight) → length colours ≡ length edges
    → length weights ≡ length edges
    → map (λ (e : (ℕ × ℕ) × (ℕ × Weight)). e.0) (zip edges (zip colours weights)) ≡ edges
edges-zip edges colours weights one two = firsts-zip edges (zip colours weights) (length-zip_same colours weights (omega arith) ∙ one)

pub ruleset columns = (firsts-zip, seconds-zip, edges-zip, colours-zip, weights-zip)
