-- The parts that are made are those of a witness: of a rung's set the members in each demanded set are maximal there, so a part that bounds the
-- rank by their number meets the demand; and the numbers of both parts for the cut are the ranks, which add up to the last rung.
use Rattle.mat_witness.proofs.Common.{◌≡◌, ℕ, ◌+◌, ◌<◌, ◌≤◌, Bool, true, List, [], ◌∷◌, ◌++◌, length, map, take, drop, get_or, refl, sym, subst, ap, ◌∙◌, arith, nat_lt, and_from, and_parts, eq-eqb, ltb-true, get_or-map, get_or_default, length-map, map-append, take_more, All-filter, All-map}
use Rattle.mat_witness.proofs.Common.{filter_passes, most_elements, IsSet, all_below, is_member, minus, weight_at, Weight, is_member-all_below, IsSet-those_below, same_from, falling_weights, heavy, IsHeaviest, IsMatroid, rank, Tree, element_count, is_independent, tree_laws, IsRanged, intersect}
use Rattle.mat_witness.proofs.Common.{last_rung, PricedRung, pair, IsValid, IsValidTree, IsSoundInstance-valid, Most, demand_for, has_rung, is_witnessed, is_witnessed_pair, AreRungBounds, AreWitnessed, IsFilled, IsMeeting, IsRungWitness, IsSplit, IsWitnessed, BoundPart, WitnessParts, AreBoundsFor}
use Rattle.mat_witness.proofs.Common.{Demand, IsRightRungOf, IsShown, IsWitness, IsWitnessFor, are_met, bounds_common_sets, demand_at, demands_of, demands_under, shows_common_set, is_priced, meets, rung_at, bound_part}
use Rattle.std.specs.List.{All, AllZip, filter}
use Rattle.mat_problem.specs.Soundness.{IsSoundInstance}
use Rattle.mat_witness.specs.declared.demands.Demand.{Demand as Asked}
use Rattle.mat_witness.proofs.HeavyMembers.{heavy_members_maximal}
use Rattle.mat_witness.proofs.ListedMembers.{list_all-from}

-- two lists that go together, and two others behind them
both_zip : {A B : Type 0} (R : A → B → Type 0) (xs ys : List A) (us vs : List B) → AllZip R xs us → AllZip R ys vs
    → AllZip R (xs ++ ys) (us ++ vs)
both_zip R [] ys [] vs a b = b
both_zip R (x ∷ xs) ys (u ∷ us) vs a b = (a.0, both_zip R xs ys us vs a.1 b)
both_zip R _ ys _ vs a b = absurd a

-- ---- the matroids

-- matroids of a valid pair, of witnessed kinds, are those that witnesses are made for
pub are_witnessed : (w : List Weight) (first second : Tree) → IsValid (pair w first second) → is_witnessed_pair (pair w first second) ≡ true
    → AreWitnessed first second
are_witnessed w first second valid kinds =
    let sound : IsSoundInstance (pair w first second) = IsSoundInstance-valid (pair w first second) valid in
    let both = and_parts (is_witnessed first) (is_witnessed second) kinds in
    record {
      first_matroid = record {
        few = subst (λ n. n ≤ most_elements) (sym sound.1) valid.0.0;
        sound = sound.0;
        valid = subst (λ n. IsValidTree n first) (sym sound.1) valid.1.0;
        kind = both.0;
      };
      second_matroid = record {
        few = subst (λ n. n ≤ most_elements) (sym sound.3) valid.0.0;
        sound = sound.2;
        valid = subst (λ n. IsValidTree n second) (sym sound.3) valid.2.0;
        kind = both.1;
      };
      same_count = sound.3 ∙ sym sound.1;
    }

-- ---- the demands of a half

module _ (tree : Tree) (witnessed : IsWitnessed tree) (k : ℕ) (X : List ℕ) (half : List Weight) (size : length X ≡ k)
    (lengths : length half ≡ element_count tree) (best : IsHeaviest (is_independent tree) (weight_at half) X) where
  demand_filled : (t : Weight) → (demand_at tree X half t).most < k → IsFilled tree X (demand_at tree X half t)
  demand_filled t fewer = record {
    set = subst (λ n. IsSet n (heavy (length half) half t)) lengths (IsSet-those_below (length half) _);
    maximal = heavy_members_maximal (subst (λ n. IsMatroid n (is_independent tree)) (sym lengths) (tree_laws tree witnessed.sound)) half t X best
        (omega (arith, size, fewer));
    number = refl;
  }

  demands_filled : All (IsFilled tree X) (demands_under tree k X half)
  demands_filled i d inside =
      let all : List Demand = map (demand_at tree X half) (falling_weights half) in
      let test : Demand → Bool = λ demand. nat_lt demand.most k in
      let few_filled : Demand → Type 0 = λ demand. demand.most < k → IsFilled tree X demand in
      let given : All few_filled all =
      All-map few_filled (demand_at tree X half) (falling_weights half) (λ j t l. demand_filled (get_or (falling_weights half) j t)) in
      All-filter test few_filled all given i d inside (ltb-true (get_or (filter test all) i d).most k (filter_passes test all i d inside))

  -- what stands at a place of the demands
  pub filled_at : (listed : List Asked) (i : ℕ) (item : Asked) → map (demand_for tree) listed ≡ demands_under tree k X half
      → i < length listed → item ≡ get_or listed i item → IsFilled tree X (demand_for tree item)
  filled_at listed i item told inside is =
      let same : get_or (map (demand_for tree) listed) i (demand_for tree item) ≡ demand_for tree item =
      get_or-map (demand_for tree) listed i item (demand_for tree item) inside ∙ ap (demand_for tree) (sym is) in
      let many : i < length (map (demand_for tree) listed) = omega (arith, length-map listed (demand_for tree), inside) in
      subst (IsFilled tree X) same (subst (All (IsFilled tree X)) (sym told) demands_filled i (demand_for tree item) many)

-- a bound meets a demand, as the code has both
abbrev pub IsMetBy : Tree → Asked → Most → Type 0
IsMetBy tree demand bound = IsMeeting (element_count tree) (demand_for tree demand) (bound_part bound)

pub met_next : (tree : Tree) (listed : List Asked) (bounds : List Most) (i : ℕ) (item : Asked) (bound : Most) → i < length listed
    → item ≡ get_or listed i item → AllZip (IsMetBy tree) (take i listed) bounds → IsMetBy tree item bound
    → AllZip (IsMetBy tree) (take (i + 1) listed) (bounds ++ bound ∷ [])
met_next tree listed bounds i item bound inside is all met =
    let more : take (i + 1) listed ≡ take i listed ++ item ∷ [] = take_more listed i item inside ∙ ap (λ d. take i listed ++ d ∷ []) (sym is) in
    subst (λ front. AllZip (IsMetBy tree) front (bounds ++ bound ∷ [])) (sym more)
    (both_zip (IsMetBy tree) (take i listed) (item ∷ []) bounds (bound ∷ []) all (met, tt))

pub all_are_met : (tree : Tree) (listed : List Asked) (bounds : List Most) → AllZip (IsMetBy tree) listed bounds
    → AllZip (IsMeeting (element_count tree)) (map (demand_for tree) listed) (map bound_part bounds)
all_are_met tree [] [] all = tt
all_are_met tree (demand ∷ listed) (bound ∷ bounds) all = (all.0, all_are_met tree listed bounds all.1)
all_are_met tree _ _ all = absurd all

-- ---- the bounds of a rung

module _ (n : ℕ) where
  meeting_kinds : (ds : List Demand) (ps qs : List BoundPart) (trees : List Tree) → AllZip (IsMeeting n) ds ps → AreBoundsFor n trees qs
      → AreBoundsFor n (map (λ demand. demand.tree) ds ++ trees) (ps ++ qs)
  meeting_kinds [] [] qs trees a b = b
  meeting_kinds [] (p ∷ ps) qs trees a b = absurd a
  meeting_kinds (d ∷ ds) [] qs trees a b = absurd a
  meeting_kinds (d ∷ ds) (p ∷ ps) qs trees a b = (a.0.kind, meeting_kinds ds ps qs trees a.1 b)

  meeting_met : (ds : List Demand) (ps qs : List BoundPart) → AllZip (IsMeeting n) ds ps → are_met ds (ps ++ qs) ≡ true
  meeting_met [] ps qs a = refl
  meeting_met (d ∷ ds) [] qs a = absurd a
  meeting_met (d ∷ ds) (p ∷ ps) qs a = and_from (meets d p) (are_met ds (ps ++ qs)) a.0.met (meeting_met ds ps qs a.1)

  meeting_rest : (ds : List Demand) (ps qs : List BoundPart) → AllZip (IsMeeting n) ds ps → drop (length ds) (ps ++ qs) ≡ qs
  meeting_rest [] [] qs a = refl
  meeting_rest (d ∷ ds) (p ∷ ps) qs a = meeting_rest ds ps qs a.1
  meeting_rest _ _ qs a = absurd a

-- those of both halves and those for the cut, one after the other
pub rung_bounds_joined : (first second : Tree) (k : ℕ) (rung : PricedRung) (cut : List ℕ) (last : ℕ)
    (bounds others both : List Most) (outside inside : Most)
    → AllZip (IsMeeting (element_count first)) (demands_under first k rung.set rung.first) (map bound_part bounds)
    → AllZip (IsMeeting (element_count first)) (demands_under second k rung.set rung.second) (map bound_part others)
    → AreBoundsFor (element_count first) (first ∷ second ∷ []) (bound_part outside ∷ bound_part inside ∷ [])
    → bounds_common_sets first second (element_count first) cut last (bound_part outside ∷ bound_part inside ∷ []) ≡ true
    → both ≡ (bounds ++ others) ++ outside ∷ inside ∷ []
    → AreRungBounds first second k rung cut last (map bound_part both)
rung_bounds_joined first second k rung cut last bounds others both outside inside a b kinds ends is =
    let n = element_count first in
    let ds = demands_of first second k rung in
    let ps = map bound_part bounds ++ map bound_part others in
    let qs = bound_part outside ∷ bound_part inside ∷ [] in
    let met = both_zip (IsMeeting n) (demands_under first k rung.set rung.first) (demands_under second k rung.set rung.second)
    (map bound_part bounds) (map bound_part others) a b in
    let same : map bound_part both ≡ ps ++ qs =
    ap (map bound_part) is ∙ map-append bound_part (bounds ++ others) (outside ∷ inside ∷ [])
    ∙ ap (λ xs. xs ++ qs) (map-append bound_part bounds others) in
    subst (AreRungBounds first second k rung cut last) (sym same) (record {
      kinds = meeting_kinds n ds ps qs (first ∷ second ∷ []) met kinds;
      met = meeting_met n ds ps qs met;
      ends = ap (bounds_common_sets first second n cut last) (meeting_rest n ds ps qs met) ∙ ends;
    })

-- ---- a right rung of two matroids

-- the rung that the code reads is the one of this number
rung_read : (n : ℕ) (rungs : List PricedRung) (cut : List ℕ) (k : ℕ) (rung : PricedRung) → has_rung (intersect n rungs cut) k ≡ true
    → rung ≡ get_or rungs k rung → rung_at rungs k ≡ rung
rung_read n rungs cut k rung has is = get_or_default rungs k _ rung (ltb-true k (length rungs) has) ∙ sym is

module _ {w : List Weight} (first second : Tree) {n : ℕ} {rungs : List PricedRung} {cut : List ℕ} {k : ℕ} {rung : PricedRung}
    (valid : IsValid (pair w first second)) (ranged : IsRanged (intersect n rungs cut)) (has : has_rung (intersect n rungs cut) k ≡ true)
    (right : IsRightRungOf (pair w first second) (intersect n rungs cut) k) (read : rung ≡ get_or rungs k rung) where
  is : rung_at rungs k ≡ rung
  is = rung_read n rungs cut k rung has read

  sound : IsSoundInstance (pair w first second)
  sound = IsSoundInstance-valid (pair w first second) valid

  counts : n ≡ element_count first
  counts = right.counted ∙ sym sound.1

  -- the cut is of elements of the first matroid
  pub cut_inside : IsSet (element_count first) cut
  cut_inside = subst (λ m. IsSet m cut) counts ranged.1

  -- the rung's set is heaviest under both halves
  pub right_is_split : IsSplit first second k rung
  right_is_split = subst (IsSplit first second k) is (record {
    size = right.right.size;
    first_length = right.right.first_length ∙ counts;
    second_length = right.right.second_length ∙ right.counted ∙ sym sound.3;
    first_heaviest = right.right.first_heaviest;
    second_heaviest = right.right.second_heaviest;
  })

  abbrev ranks : ℕ
  ranks = rank (is_independent first) (minus (all_below (element_count first)) cut) + rank (is_independent second) cut

  pub made_is_witness : (parts : WitnessParts) → IsRungWitness first second k rung cut ranks parts
      → IsWitnessFor (pair w first second) (intersect n rungs cut) k parts
  made_is_witness parts made =
      subst (λ m. IsWitness m first second k (rung_at rungs k) parts) sound.1
      (subst (λ r. IsWitness (element_count first) first second k r parts) (sym is) made.fits)

  -- the numbers of a right rung
  right_is_priced : is_priced w n (rung_at rungs k) ≡ true
  right_is_priced = and_from _ _ (eq-eqb n (length w) right.counted)
      (and_from _ _ (same_from _ _ right.priced)
      (list_all-from _ (all_below n) (λ e inside. same_from _ _ (right.right.split e (below_all e inside)))))
    where
      below_all : (e : ℕ) → is_member e (all_below n) ≡ true → e < n
      below_all e inside = ltb-true e n (sym (is_member-all_below e n) ∙ inside)

  pub made_is_shown : (parts : WitnessParts) → IsRungWitness first second k rung cut ranks parts
      → IsShown (pair w first second) (intersect n rungs cut) k parts
  made_is_shown parts made =
      let at : PricedRung = rung_at rungs k in
      let free : shows_common_set first second parts at.set ≡ true = ap (λ (r : PricedRung). shows_common_set first second parts r.set) is ∙ made.free in
      let met : are_met (demands_of first second k at) parts.bounds ≡ true
      = ap (λ r. are_met (demands_of first second k r) parts.bounds) is ∙ made.bounds.met in
      let last : last_rung rungs ≡ ranks
      = sym right.ends.ranks ∙ ap (λ m. rank (is_independent first) (minus (all_below m) cut) + rank (is_independent second) cut) counts in
      let ends : bounds_common_sets first second n cut (last_rung rungs) (drop (length (demands_of first second k at)) parts.bounds) ≡ true
      = ap (λ m. bounds_common_sets first second m cut (last_rung rungs) (drop (length (demands_of first second k at)) parts.bounds)) counts
      ∙ ap (λ r. bounds_common_sets first second (element_count first) cut (last_rung rungs) (drop (length (demands_of first second k r)) parts.bounds)) is
      ∙ ap (λ m. bounds_common_sets first second (element_count first) cut m (drop (length (demands_of first second k rung)) parts.bounds)) last
      ∙ made.bounds.ends in
      rw (right_is_priced, free, met, ends) refl
