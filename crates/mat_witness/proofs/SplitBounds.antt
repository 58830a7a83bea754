-- The bounds of a witness stand in three parts: those for what is demanded under the first half, those under the second, and two for the cut.
-- Each part has bounds of its matroid's kind, and all demands are met where those of both halves are, each by its part.
use Rattle.mat_witness.proofs.Common.{◌≡◌, ℕ, zero, suc, ◌<◌, ◌≤◌, Bool, true, false, ◌&&◌, ltb, List, [], ◌∷◌, ◌++◌, length, map, drop, get_or, not, if◌then◌else◌, Option, Some, None, refl, sym, ap, ◌∙◌, subst, append_assoc, arith, drop-map, map-append, cond_some, none-some, All-from_recursion}
use Rattle.mat_witness.proofs.Common.{IsSet, Weight, falling_weights, Tree, IsSound, PricedRung, IsValidTree, demand_for, BoundPart, IsBoundFor, AreBoundsFor, Demand, are_met, bounded_trees, bounds_common_sets, demand_at, demands_under, meets, bound_part, Most}
use Rattle.std.specs.List.{All, AllByRecursion}
use Rattle.mat_witness.specs.declared.demands.Demand.{Demand as Asked}
use Rattle.mat_witness.proofs.MetDemands.{IsFair, demands_are_fair, filtered_from}

-- the matroids of what is demanded
abbrev pub trees_in : List Demand → List Tree
trees_in demands = map (λ demand. demand.tree) demands

-- ---- the sets

sets_fair : (n : ℕ) (tree : Tree) (asked : List Asked) → AllByRecursion (IsFair n) (map (demand_for tree) asked)
    → AllByRecursion (λ demand. IsSet n demand.set) asked
sets_fair n tree [] fair = tt
sets_fair n tree (demand ∷ asked) fair = (fair.0.set, sets_fair n tree asked fair.1)

-- the sets that are asked for have elements of the matroid
pub asked_sets : (n : ℕ) (tree : Tree) (k : ℕ) (set : List ℕ) (half : List Weight) (asked : List Asked) → IsSound tree → IsValidTree n tree
    → length half ≡ n → map (demand_for tree) asked ≡ demands_under tree k set half → All (λ demand. IsSet n demand.set) asked
asked_sets n tree k set half asked sound valid long same =
    All-from_recursion (λ demand. IsSet n demand.set) asked
    (sets_fair n tree asked (subst (AllByRecursion (IsFair n)) (sym same) (demands_are_fair n tree half sound valid long k set)))

-- ---- the bounds for a list of demands, and what is left

module _ (n : ℕ) (rest : List Tree) where
  enough_bounds : (demands : List Demand) (parts : List Most) → AreBoundsFor n (trees_in demands ++ rest) (map bound_part parts)
      → length demands ≤ length parts
  enough_bounds [] parts for = omega arith
  enough_bounds (demand ∷ demands) [] for = absurd for
  enough_bounds (demand ∷ demands) (part ∷ parts) for = let later = enough_bounds demands parts for.1 in omega arith

  bounds_left : (demands : List Demand) (parts : List Most) → AreBoundsFor n (trees_in demands ++ rest) (map bound_part parts)
      → AreBoundsFor n rest (map bound_part (drop (length demands) parts))
  bounds_left [] parts for = for
  bounds_left (demand ∷ demands) [] for = absurd for
  bounds_left (demand ∷ demands) (part ∷ parts) for = bounds_left demands parts for.1

  bounds_at : (tree : Tree) (demands : List Demand) (parts : List Most) → AllByRecursion (λ demand. demand.tree ≡ tree) demands
      → AreBoundsFor n (trees_in demands ++ rest) (map bound_part parts)
      → (i : ℕ) (part : Most) → i < length demands → IsBoundFor n tree (bound_part (get_or parts i part))
  bounds_at tree [] parts alike for i part small = absurd (omega arith)
  bounds_at tree (demand ∷ demands) [] alike for i part small = absurd for
  bounds_at tree (demand ∷ demands) (here ∷ parts) alike for zero part small = subst (λ kind. IsBoundFor n kind (bound_part here)) alike.0 for.0
  bounds_at tree (demand ∷ demands) (here ∷ parts) alike for (suc i) part small = bounds_at tree demands parts alike.1 for.1 i part (omega arith)

-- all demands of a half are about its matroid
demands_alike : (tree : Tree) (k : ℕ) (set : List ℕ) (half : List Weight)
    → AllByRecursion (λ demand. demand.tree ≡ tree) (demands_under tree k set half)
demands_alike tree k set half =
    filtered_from (λ demand. demand.tree ≡ tree) (λ demand. ltb demand.most k) (demand_at tree set half) (falling_weights half) (λ t. refl)

-- ---- whether they are met

met_in_turn : (firsts seconds : List Demand) (parts : List BoundPart)
    → are_met (firsts ++ seconds) parts ≡ (are_met firsts parts && are_met seconds (drop (length firsts) parts))
met_in_turn [] seconds parts = refl
met_in_turn (demand ∷ firsts) seconds [] = refl
met_in_turn (demand ∷ firsts) seconds (part ∷ parts) =
    ap (λ b. meets demand part && b) (met_in_turn firsts seconds parts) ∙ regroup (meets demand part) (are_met firsts parts) _
  where
    regroup : (a b c : Bool) → (a && (b && c)) ≡ ((a && b) && c)
    regroup a b c = grind arith

drop_more : (firsts seconds : List Demand) (parts : List BoundPart)
    → drop (length (firsts ++ seconds)) parts ≡ drop (length seconds) (drop (length firsts) parts)
drop_more (demand ∷ firsts) [] [] = refl
drop_more (demand ∷ firsts) seconds (part ∷ parts) = drop_more firsts seconds parts
drop_more _ seconds parts = refl

none_told : (met : Bool) (m : ℕ) → None ≡ (if met then Some m else None) → met ≡ false
none_told true m told = absurd (none-some m told)
none_told false m told = refl

-- ---- of a rung

-- the bounds behind those of the first half: enough for the demands of the second, of the second matroid's kind, and two for the cut
pub record AreLeft (n : ℕ) (first second : Tree) (seconds : List Demand) (rest : List Most) : Type 0 where
  pub enough : length seconds ≤ length rest
  pub at : (i : ℕ) (part : Most) → i < length seconds → IsBoundFor n second (bound_part (get_or rest i part))
  pub ends : AreBoundsFor n (first ∷ second ∷ []) (map bound_part (drop (length seconds) rest))

-- the bounds in turn: enough for the demands of the first half, of the first matroid's kind, and then the others
pub record AreInTurn (n : ℕ) (first second : Tree) (firsts seconds : List Demand) (parts : List Most) : Type 0 where
  pub enough : length firsts ≤ length parts
  pub at : (i : ℕ) (part : Most) → i < length firsts → IsBoundFor n first (bound_part (get_or parts i part))
  pub left : AreLeft n first second seconds (drop (length firsts) parts)

pub in_turn : {n : ℕ} {first second : Tree} {parts : List Most} (k : ℕ) (rung : PricedRung)
    → AreBoundsFor n (bounded_trees first second k rung) (map bound_part parts)
    → AreInTurn n first second (demands_under first k rung.set rung.first) (demands_under second k rung.set rung.second) parts
in_turn {n} {first} {second} {parts} k rung for =
    let firsts = demands_under first k rung.set rung.first in
    let seconds = demands_under second k rung.set rung.second in
    let last : List Tree = first ∷ second ∷ [] in
    let others : List Tree = trees_in seconds ++ last in
    let rest : List Most = drop (length firsts) parts in
    let same : trees_in (firsts ++ seconds) ++ last ≡ trees_in firsts ++ others
    = ap (λ trees. trees ++ last) (map-append (λ demand. demand.tree) firsts seconds) ∙ append_assoc (trees_in firsts) (trees_in seconds) last in
    let three : AreBoundsFor n (trees_in firsts ++ others) (map bound_part parts) = subst (λ trees. AreBoundsFor n trees (map bound_part parts)) same for in
    let two : AreBoundsFor n others (map bound_part rest) = bounds_left n others firsts parts three in
    record {
      enough = enough_bounds n others firsts parts three;
      at = bounds_at n others first firsts parts (demands_alike first k rung.set rung.first) three;
      left = record {
        enough = enough_bounds n last seconds rest two;
        at = bounds_at n last second seconds rest (demands_alike second k rung.set rung.second) two;
        ends = bounds_left n last seconds rest two;
      };
    }

-- what is told of demands that are all met
module _ (demands : List Demand) (parts : List Most) {count : ℕ}
    (told : Some count ≡ (if are_met demands (map bound_part parts) then Some (length demands) else None)) where
  all_met : are_met demands (map bound_part parts) ≡ true
  all_met = (cond_some _ (length demands) count (sym told)).0

  is_count : length demands ≡ count
  is_count = (cond_some _ (length demands) count (sym told)).1

  is_rest : {rest : List Most} → rest ≡ drop count parts → drop (length demands) parts ≡ rest
  is_rest behind = ap (λ m. drop m parts) is_count ∙ sym behind

-- ---- as the bounds are counted

-- those behind the first half's
module _ {n : ℕ} {first second : Tree} {seconds : List Demand} {rest : List Most} (left : AreLeft n first second seconds rest) {count : ℕ}
    (told : Some count ≡ (if are_met seconds (map bound_part rest) then Some (length seconds) else None)) where
  pub second_fits : count ≤ length rest
  second_fits = subst (λ m. m ≤ length rest) (is_count seconds rest told) left.enough

  pub last_two : {two : List Most} → two ≡ drop count rest → AreBoundsFor n (first ∷ second ∷ []) (map bound_part two)
  last_two behind =
      subst (λ (bounds : List Most). AreBoundsFor n (first ∷ second ∷ []) (map bound_part bounds)) (is_rest seconds rest told behind) left.ends

module _ {n : ℕ} {first second : Tree} {firsts seconds : List Demand} {parts : List Most} (turn : AreInTurn n first second firsts seconds parts) where
  module _ {count : ℕ} (told : Some count ≡ (if are_met firsts (map bound_part parts) then Some (length firsts) else None)) where
    pub first_fits : count ≤ length parts
    first_fits = subst (λ m. m ≤ length parts) (is_count firsts parts told) turn.enough

    pub behind_first : {rest : List Most} → rest ≡ drop count parts → AreLeft n first second seconds rest
    behind_first behind = subst (AreLeft n first second seconds) (is_rest firsts parts told behind) turn.left

  -- which part fails
  module _ (cut : List ℕ) (last : ℕ) where
    abbrev failing : Option ℕ
    failing =
        if not (are_met (firsts ++ seconds) (map bound_part parts)) then Some 3 else
        (if not (bounds_common_sets first second n cut last (drop (length (firsts ++ seconds)) (map bound_part parts))) then Some 4 else None)

    unmet_fails : are_met (firsts ++ seconds) (map bound_part parts) ≡ false → Some 3 ≡ failing
    unmet_fails unmet = sym (ap (λ met. if not met then Some 3 else (if not (bounds_common_sets first second n cut last
        (drop (length (firsts ++ seconds)) (map bound_part parts))) then Some 4 else None)) unmet)

    -- the demands of the first half are not met
    pub first_fails : None ≡ (if are_met firsts (map bound_part parts) then Some (length firsts) else None) → Some 3 ≡ failing
    first_fails none =
        unmet_fails (met_in_turn firsts seconds (map bound_part parts)
        ∙ ap (λ met. met && are_met seconds (drop (length firsts) (map bound_part parts))) (none_told _ _ none))

    module _ {count : ℕ} {rest : List Most} (told : Some count ≡ (if are_met firsts (map bound_part parts) then Some (length firsts) else None))
        (behind : rest ≡ drop count parts) where
      left_over : drop (length firsts) (map bound_part parts) ≡ map bound_part rest
      left_over = drop-map bound_part (length firsts) parts ∙ ap (map bound_part) (is_rest firsts parts told behind)

      met_by_rest : are_met (firsts ++ seconds) (map bound_part parts) ≡ are_met seconds (map bound_part rest)
      met_by_rest =
          met_in_turn firsts seconds (map bound_part parts)
          ∙ ap (λ met. met && are_met seconds (drop (length firsts) (map bound_part parts))) (all_met firsts parts told)
          ∙ ap (are_met seconds) left_over

      -- those of the second half are not met
      pub second_fails : None ≡ (if are_met seconds (map bound_part rest) then Some (length seconds) else None) → Some 3 ≡ failing
      second_fails none = unmet_fails (met_by_rest ∙ none_told _ _ none)

      -- all are met, and it rests with the two bounds for the cut
      pub both_met : {more : ℕ} {two : List Most} {bound : Bool}
          → Some more ≡ (if are_met seconds (map bound_part rest) then Some (length seconds) else None) → two ≡ drop more rest
          → bounds_common_sets first second n cut last (map bound_part two) ≡ bound → (if not bound then Some 4 else None) ≡ failing
      both_met {more} {two} {bound} told_more is shown =
          let left : drop (length (firsts ++ seconds)) (map bound_part parts) ≡ map bound_part two
          = drop_more firsts seconds (map bound_part parts) ∙ ap (drop (length seconds)) left_over ∙ drop-map bound_part (length seconds) rest
          ∙ ap (map bound_part) (is_rest seconds rest told_more is) in
          sym (ap (λ met. if not met then Some 3 else (if not (bounds_common_sets first second n cut last
          (drop (length (firsts ++ seconds)) (map bound_part parts))) then Some 4 else None)) (met_by_rest ∙ all_met seconds rest told_more)
          ∙ ap (λ b. if not b then Some 4 else None) (ap (bounds_common_sets first second n cut last) left ∙ shown))
