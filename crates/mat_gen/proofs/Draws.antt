-- One draw, and lists of what is drawn: element by element, the next one is put behind those before it.
use Rattle.mat_gen.proofs.Common.{◌≡◌, ℕ, ◌+◌, ◌*◌, ◌%◌, ◌<◌, zero, suc, List, [], ◌∷◌, ◌++◌, get_or, length, map, slice_index_or, mul-suc, refl, sym, ap, ◌∙◌, arith, get_or_read, all_below, Weight, get_or-map_all_below, length-map_all_below, map-all_below_more, map-all_below_none, next_state}
use Rattle.mat_gen.proofs.Common.{state_after, draw, numbers_drawn, pair_drawn, weight_from, weight_of}

-- ---- states

-- no step
pub state_after-none : (seed : ℕ) → seed ≡ state_after seed 0
unfolding state_after
state_after-none seed = refl

-- one step more
pub state_after-one : (seed k x : ℕ) → x ≡ state_after seed k → (x * 48271) % 2147483647 ≡ state_after seed (k + 1)
unfolding state_after
state_after-one seed k x is = let more : suc k ≡ k + 1 = omega arith in ap next_state is ∙ ap (state_after seed) more

-- steps after steps
pub state_after-more : (seed k steps : ℕ) → state_after (state_after seed k) steps ≡ state_after seed (k + steps)
unfolding state_after
state_after-more seed k zero = let same : k ≡ k + 0 = omega arith in ap (state_after seed) same
state_after-more seed k (suc steps) =
    let more : suc (k + steps) ≡ k + suc steps = omega arith in ap next_state (state_after-more seed k steps) ∙ ap (state_after seed) more

-- the state s after k steps, and what is drawn by the state after one more
pub draw_made : (seed k s x m below : ℕ) → s ≡ state_after seed k → x ≡ state_after s 1 → m ≡ below → x % m ≡ draw seed k below
draw_made seed k s x m below is one same =
    let behind : k + 1 ≡ suc k = omega arith in
    let state = one ∙ ap (λ (y : ℕ). state_after y 1) is ∙ state_after-more seed k 1 ∙ ap (state_after seed) behind in
    ap (λ (y : ℕ). y % m) state ∙ ap (λ (j : ℕ). state_after seed (suc k) % j) same

-- the state before the draw of the next element
pub state_next : (seed each e from s x : ℕ) → s ≡ state_after seed (each * e + from) → x ≡ state_after s each
    → x ≡ state_after seed (each * (e + 1) + from)
state_next seed each e from s x is behind =
    let at : each * e + from + each ≡ each * (e + 1) + from = omega (arith, mul-suc each e) in
    behind ∙ ap (λ (y : ℕ). state_after y each) is ∙ state_after-more seed (each * e + from) each ∙ ap (state_after seed) at

-- ---- lists

-- nothing is drawn for no element
pub drawn_none : {A : Type 0} (f : ℕ → A) (xs : List A) → xs ≡ [] → xs ≡ map f (all_below 0)
drawn_none f xs none = none ∙ sym (map-all_below_none f)

-- what is drawn for one element more
pub drawn_more : {A : Type 0} (f : ℕ → A) (n : ℕ) (xs : List A) (x : A) → xs ≡ map f (all_below n) → x ≡ f n
    → xs ++ x ∷ [] ≡ map f (all_below (n + 1))
drawn_more {A} f n xs x before is =
    ap (λ (ys : List A). ys ++ x ∷ []) before ∙ ap (λ (y : A). map f (all_below n) ++ y ∷ []) is ∙ sym (map-all_below_more f n)

-- how many numbers are drawn
pub numbers_long : (seed n each from m : ℕ) (xs : List ℕ) → xs ≡ numbers_drawn seed n each from m → length xs ≡ n
numbers_long seed n each from m xs is = ap length is ∙ length-map_all_below (λ (e : ℕ). draw seed (each * e + from) m) n

-- the number x that is read for an element
pub number_read : (seed n each from m e x : ℕ) (xs : List ℕ) → xs ≡ numbers_drawn seed n each from m → e < n
    → x ≡ slice_index_or xs e x → x ≡ draw seed (each * e + from) m
number_read seed n each from m e x xs is here read =
    let long = numbers_long seed n each from m xs is in
    get_or_read xs e x (omega (arith, here, long)) read 0 ∙ ap (λ (ys : List ℕ). get_or ys e 0) is
    ∙ get_or-map_all_below (λ (i : ℕ). draw seed (each * i + from) m) n e 0 here

-- the pair of two numbers that are drawn one after the other
pub pair_made : (seed k j m x y : ℕ) → x ≡ draw seed k m → y ≡ draw seed j m → j ≡ suc k → (x, y) ≡ pair_drawn seed k m
pair_made seed k j m x y first second next =
    ap (λ (a : ℕ). (a, y)) first ∙ ap (λ (b : ℕ). (draw seed k m, b)) (second ∙ ap (λ (i : ℕ). draw seed i m) next)

-- the weight of a number that is drawn
pub weight_made : (seed k m z x : ℕ) (w : Weight) → w ≡ weight_of x z → x ≡ draw seed k m → w ≡ weight_from seed k m z
weight_made seed k m z x w made is = made ∙ ap (λ (d : ℕ). weight_of d z) is
