-- The bounds of a rung stand in a row: those of its first half's demands, those of its second half's, and one in each matroid for the cut.
use Rattle.mat_witness.proofs.Common.{◌≡◌, ℕ, zero, suc, ◌+◌, arith, Bool, true, false, cond, List, [], ◌∷◌, ◌++◌, length, map, Result, Ok, Err, refl, sym, ap, subst, ◌∙◌, append_assoc, filter, nat_lt, replicate, length-map, map-append, All-append, All-cons, All-nil, Weight, falling_weights}
use Rattle.mat_witness.proofs.Common.{LinesLeft, ◌>>=◌, repeat_at, Tree, Fault, PricedRung, BoundPart, bound_at, bounds_at, Demand, bounded_trees, demand_at, demands_under}
use Rattle.std.specs.List.{All}
use Rattle.mat_witness.specs.BoundRows.{behind, row_at, row_trees}

-- ---- steps of a reading

bind_same : {A B : Type 0} (reading : Result A Fault) (f g : A → Result B Fault) → ((x : A) → f x ≡ g x) → (reading >>= f) ≡ (reading >>= g)
bind_same (Ok x) f g same = same x
bind_same (Err fault) f g same = refl

behind-none : {A S : Type 0} (reading : Result (List A × S) Fault) → behind [] reading ≡ reading
behind-none (Ok x) = refl
behind-none (Err fault) = refl

-- the readings of lists
abbrev ReadingOf : Type 0 → Type 0 → Type 0
ReadingOf A S = Result (List A × S) Fault

abbrev read_list : {A S : Type 0} → S → List A → ReadingOf A S
read_list s items = Ok (items, s)

behind-behind : {A S : Type 0} (front more : List A) (reading : Result (List A × S) Fault)
    → behind front (behind more reading) ≡ behind (front ++ more) reading
behind-behind front more (Ok x) = ap (read_list x.1) (sym (append_assoc front more x.0))
behind-behind front more (Err fault) = refl

-- a reading whose items come first, and then those of another
behind-bind : {A S : Type 0} (front : List A) (reading : Result (List A × S) Fault) (next : S → Result (List A × S) Fault)
    → behind front (reading >>= λ x. behind x.0 (next x.1)) ≡ (behind front reading >>= λ x. behind x.0 (next x.1))
behind-bind front (Ok x) next = behind-behind front x.0 (next x.1)
behind-bind front (Err fault) next = refl

-- one item, and those of a reading
abbrev item_and : {A S : Type 0} → A → Result (List A × S) Fault → Result (List A × S) Fault
item_and item reading = reading >>= λ others. Ok (item ∷ others.0, others.1)

item_and-bind : {A S : Type 0} (item : A) (reading : Result (List A × S) Fault) (next : S → Result (List A × S) Fault)
    → item_and item (reading >>= λ x. behind x.0 (next x.1)) ≡ (item_and item reading >>= λ x. behind x.0 (next x.1))
item_and-bind {A} {S} item (Ok x) next = inner (next x.1)
  where
    inner : (rest : Result (List A × S) Fault) → item_and item (behind x.0 rest) ≡ behind (item ∷ x.0) rest
    inner (Ok y) = refl
    inner (Err fault) = refl
item_and-bind item (Err fault) next = refl

-- ---- bounds of one matroid, and those behind them

bounds_at-replicate : (n many : ℕ) (tree : Tree) (trees : List Tree) (p : LinesLeft)
    → bounds_at n (replicate many tree ++ trees) p ≡ (repeat_at (bound_at n tree) many p >>= λ x. behind x.0 (bounds_at n trees x.1))
unfolding bounds_at repeat_at
bounds_at-replicate n zero tree trees p = sym (behind-none (bounds_at n trees p))
bounds_at-replicate n (suc many) tree trees p = from (λ q. bounds_at-replicate n many tree trees q) (bound_at n tree p)
  where
    from : ((q : LinesLeft) → bounds_at n (replicate many tree ++ trees) q
        ≡ (repeat_at (bound_at n tree) many q >>= λ x. behind x.0 (bounds_at n trees x.1)))
        → (reading : Result (BoundPart × LinesLeft) Fault)
        → (reading >>= λ part. item_and part.0 (bounds_at n (replicate many tree ++ trees) part.1))
        ≡ ((reading >>= λ first. item_and first.0 (repeat_at (bound_at n tree) many first.1)) >>= λ x. behind x.0 (bounds_at n trees x.1))
    from others (Ok part) =
        ap (item_and part.0) (others part.1)
        ∙ item_and-bind part.0 (repeat_at (bound_at n tree) many part.1) (bounds_at n trees)
    from others (Err fault) = refl

-- so behind other bounds
bounds_behind : (front : List BoundPart) (n many : ℕ) (tree : Tree) (trees : List Tree) (p : LinesLeft)
    → behind front (bounds_at n (replicate many tree ++ trees) p)
    ≡ (behind front (repeat_at (bound_at n tree) many p) >>= λ x. behind x.0 (bounds_at n trees x.1))
bounds_behind front n many tree trees p =
    ap (behind front) (bounds_at-replicate n many tree trees p) ∙ behind-bind front (repeat_at (bound_at n tree) many p) (bounds_at n trees)

-- the last of them
bounds_last : (front : List BoundPart) (n : ℕ) (tree : Tree) (p : LinesLeft)
    → behind front (bounds_at n (tree ∷ []) p) ≡ behind front (repeat_at (bound_at n tree) 1 p)
unfolding bounds_at repeat_at
bounds_last front n tree p = refl

pub row_at-bounds : (n : ℕ) (first second : Tree) (one two : ℕ) (p : LinesLeft)
    → bounds_at n (row_trees first second one two) p ≡ row_at n first second one two p
unfolding row_at
row_at-bounds n first second one two p =
    let others = replicate two second ++ first ∷ second ∷ [] in
    sym (behind-none (bounds_at n (row_trees first second one two) p))
    ∙ bounds_behind [] n one first others p
    ∙ bind_same (behind [] (repeat_at (bound_at n first) one p)) _ _ (λ firsts.
    bounds_behind firsts.0 n two second (first ∷ second ∷ []) firsts.1
    ∙ bind_same (behind firsts.0 (repeat_at (bound_at n second) two firsts.1)) _ _ (λ seconds.
    bounds_behind seconds.0 n 1 first (second ∷ []) seconds.1
    ∙ bind_same (behind seconds.0 (repeat_at (bound_at n first) 1 seconds.1)) _ _ (λ outside. bounds_last outside.0 n second outside.1)))

-- ---- the matroids of the bounds

-- all demands of a half are in one matroid
demand_trees : (tree : Tree) (k : ℕ) (set : List ℕ) (half weights : List Weight)
    → map (λ demand. demand.tree) (filter (λ demand. nat_lt demand.most k) (map (demand_at tree set half) weights))
    ≡ replicate (length (filter (λ demand. nat_lt demand.most k) (map (demand_at tree set half) weights))) tree
demand_trees tree k set half [] = refl
demand_trees tree k set half (t ∷ weights) = by (demand_trees tree k set half weights) (nat_lt (demand_at tree set half t).most k)
  where
    kept : List Demand
    kept = filter (λ demand. nat_lt demand.most k) (map (demand_at tree set half) weights)

    by : map (λ (demand : Demand). demand.tree) kept ≡ replicate (length kept) tree → (test : Bool)
        → map (λ (demand : Demand). demand.tree) (cond test (demand_at tree set half t ∷ kept) kept)
        ≡ replicate (length (cond test (demand_at tree set half t ∷ kept) kept)) tree
    by others true = ap (λ (trees : List Tree). tree ∷ trees) others
    by others false = others

-- how many demands a half has
abbrev pub demand_count : Tree → ℕ → List ℕ → List Weight → ℕ
demand_count tree k set half = length (demands_under tree k set half)

pub bounded_trees-row : (first second : Tree) (k : ℕ) (rung : PricedRung)
    → bounded_trees first second k rung
    ≡ row_trees first second (demand_count first k rung.set rung.first) (demand_count second k rung.set rung.second)
bounded_trees-row first second k rung =
    let firsts = demands_under first k rung.set rung.first in
    let seconds = demands_under second k rung.set rung.second in
    ap (λ (trees : List Tree). trees ++ first ∷ second ∷ []) (map-append (λ (demand : Demand). demand.tree) firsts seconds)
    ∙ append_assoc (map (λ (demand : Demand). demand.tree) firsts) (map (λ (demand : Demand). demand.tree) seconds) (first ∷ second ∷ [])
    ∙ ap (λ (trees : List Tree). trees ++ (map (λ (demand : Demand). demand.tree) seconds ++ first ∷ second ∷ []))
    (demand_trees first k rung.set rung.first (falling_weights rung.first))
    ∙ ap (λ (trees : List Tree). replicate (demand_count first k rung.set rung.first) first ++ (trees ++ first ∷ second ∷ []))
    (demand_trees second k rung.set rung.second (falling_weights rung.second))

-- those that were listed
pub counted_demands : {A : Type 0} (view : A → Demand) (listed : List A) (tree : Tree) (k : ℕ) (set : List ℕ) (half : List Weight)
    → map view listed ≡ demands_under tree k set half → length listed ≡ demand_count tree k set half
counted_demands view listed tree k set half e = sym (length-map listed view) ∙ ap length e

-- the matroids of the bounds, where so many demands were counted
pub counted_trees : (first second : Tree) (k : ℕ) (rung : PricedRung) (one two : ℕ)
    → one ≡ demand_count first k rung.set rung.first → two ≡ demand_count second k rung.set rung.second
    → bounded_trees first second k rung ≡ row_trees first second one two
counted_trees first second k rung one two firsts seconds =
    bounded_trees-row first second k rung
    ∙ sym (ap (λ (m : ℕ). row_trees first second m two) firsts
    ∙ ap (λ (m : ℕ). row_trees first second (demand_count first k rung.set rung.first) m) seconds)

-- what holds of both matroids holds of those in a row
All-replicate : (P : Tree → Type 0) (many : ℕ) (tree : Tree) → P tree → All P (replicate many tree)
All-replicate P zero tree here = All-nil P
All-replicate P (suc many) tree here = All-cons P tree (replicate many tree) here (All-replicate P many tree here)

pub All-row_trees : (P : Tree → Type 0) (first second : Tree) (one two : ℕ) → P first → P second → All P (row_trees first second one two)
All-row_trees P first second one two here there =
    All-append P (replicate one first) (replicate two second ++ first ∷ second ∷ []) (All-replicate P one first here)
    (All-append P (replicate two second) (first ∷ second ∷ []) (All-replicate P two second there)
    (All-cons P first (second ∷ []) here (All-cons P second [] there (All-nil P))))

pub All-bounded_trees : (P : Tree → Type 0) (first second : Tree) (k : ℕ) (rung : PricedRung) → P first → P second
    → All P (bounded_trees first second k rung)
All-bounded_trees P first second k rung here there =
    subst (All P) (sym (bounded_trees-row first second k rung))
    (All-row_trees P first second (demand_count first k rung.set rung.first) (demand_count second k rung.set rung.second) here there)

-- how many there are
length-after_replicate : (many : ℕ) (tree : Tree) (trees : List Tree) → length (replicate many tree ++ trees) ≡ many + length trees
length-after_replicate zero tree trees = omega arith
length-after_replicate (suc many) tree trees = let others = length-after_replicate many tree trees in omega (arith, others)

pub length-row_trees : (first second : Tree) (one two : ℕ) → length (row_trees first second one two) ≡ one + (two + 2)
length-row_trees first second one two =
    length-after_replicate one first (replicate two second ++ first ∷ second ∷ [])
    ∙ ap (λ (m : ℕ). one + m) (length-after_replicate two second (first ∷ second ∷ []))
