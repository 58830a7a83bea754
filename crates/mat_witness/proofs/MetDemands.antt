-- Where the bounds meet the demands of a half, the set is heaviest of its size under it: at each value t of a member of another independent set
-- of this size, that set has no more members that weigh at least t than the set has, since all members of the set weigh so much or a bound is
-- there; so it is as heavy.
use Rattle.mat_witness.proofs.Common.{◌≡◌, ℕ, ◌<◌, ◌≤◌, Bool, true, leb, ltb, List, [], ◌∷◌, ◌++◌, length, map, drop, filter, inl, inr, refl, sym, ap, subst, arith, and_parts, cases_Bool, cases_lt, leb-true, lt-ltb, is_member, IsSet, IsSubset, intersection, weight_at, Weight, below_member}
use Rattle.mat_witness.proofs.Common.{IsRising-intersection, IsSet-those_below, intersection-left, intersection-right, length-subset, IsHeaviest, IsMatroid, falling_weights, heavy, Tree, element_count, is_independent, IsSound, tree_laws, IsValidTree, bound_of, shows_bound, BoundPart, AreBoundsFor}
use Rattle.mat_witness.proofs.Common.{Demand, are_met, demand_at, demands_under, meets}
use Rattle.std.specs.List.{AllByRecursion}
use Rattle.mat_union.proofs.Dominated.{dominated, weighs}
use Rattle.mat_sets.proofs.FallingWeights.{IsIn, falling_weights-holds, heavy_members, place-IsIn}
use Rattle.mat_witness.proofs.KindParts.{bound_holds}

-- no independent set has more members that weigh at least t than X has
abbrev pub HasMostAt : (List ℕ → Bool) → List Weight → List ℕ → Weight → Type 0
HasMostAt p half X t = (I : List ℕ) → p I ≡ true → IsSubset I (heavy (length half) half t)
    → length I ≤ length (intersection X (heavy (length half) half t))

pub heaviest_from : {n : ℕ} {p : List ℕ → Bool} → IsMatroid n p → (half : List Weight) → length half ≡ n → (X : List ℕ) → p X ≡ true
    → ((t : Weight) → IsIn t half → length (intersection X (heavy (length half) half t)) < length X → HasMostAt p half X t)
    → IsHeaviest p (weight_at half) X
heaviest_from {n} {p} laws half long X passes each = record {
  passes = passes;
  most = λ Y in_p size.
      let x : IsSet n X = laws.sets X passes in
      let y : IsSet n Y = laws.sets Y in_p in
      dominated (length X) (weight_at half) X Y x.rising y.rising refl size (at_member Y in_p size);
}
  where
    at_member : (Y : List ℕ) → p Y ≡ true → length Y ≡ length X → (y : ℕ) → is_member y Y ≡ true
        → length (filter (weighs (weight_at half) (weight_at half y)) Y) ≤ length (filter (weighs (weight_at half) (weight_at half y)) X)
    at_member Y in_p size y h =
        let t = weight_at half y in
        let H = heavy (length half) half t in
        let x : IsSet (length half) X = subst (λ m. IsSet m X) (sym long) (laws.sets X passes) in
        let s : IsSet (length half) Y = subst (λ m. IsSet m Y) (sym long) (laws.sets Y in_p) in
        let a = ap length (heavy_members (length half) half t X x) in
        let b = ap length (heavy_members (length half) half t Y s) in
        let r = IsRising-intersection Y H s.rising in
        let inside = intersection-left Y H in
        let fewer = length-subset (intersection Y H) Y r s.rising inside in
        elim (cases_lt (length (intersection X H)) (length X)) [
          | inr all ↦ omega arith
          | inl some ↦ (let m = each t (place-IsIn half y (below_member s h)) some (intersection Y H)
              (laws.subsets (intersection Y H) Y r inside in_p) (intersection-right Y H) in omega arith)
        ]

-- ---- demands that are met

-- a set of elements of a matroid in range
pub record IsFair (n : ℕ) (demand : Demand) : Type 0 where
  pub sound : IsSound demand.tree
  pub valid : IsValidTree n demand.tree
  pub set : IsSet n demand.set

-- no independent subset has more members than the number
abbrev pub IsMet : Demand → Type 0
IsMet demand = (I : List ℕ) → is_independent demand.tree I ≡ true → IsSubset I demand.set → length I ≤ demand.most

pub bounds_meet : (n : ℕ) (demands : List Demand) (rest : List Tree) (parts : List BoundPart) → AllByRecursion (IsFair n) demands
    → AreBoundsFor n (map (λ demand. demand.tree) demands ++ rest) parts → are_met demands parts ≡ true
    → AllByRecursion IsMet demands × AreBoundsFor n rest (drop (length demands) parts)
bounds_meet n [] rest parts fair for met = (tt, for)
bounds_meet n (demand ∷ demands) rest [] fair for met = absurd for
bounds_meet n (demand ∷ demands) rest (part ∷ parts) fair for met =
    let both = and_parts (meets demand part) (are_met demands parts) met in
    let here = and_parts (shows_bound demand.tree part demand.set) (leb (bound_of demand.tree part) demand.most) both.0 in
    let most : bound_of demand.tree part ≤ demand.most = leb-true _ _ here.1 in
    let later = bounds_meet n demands rest parts fair.1 for.1 both.1 in (
      (
        λ I passes inside.
            (let bound = bound_holds n demand.tree part demand.set I fair.0.sound fair.0.valid fair.0.set for.0 here.0 passes inside in omega arith),
        later.0,
      ),
      later.1,
    )

-- ---- of the demands of a half

module _ (P : Demand → Type 0) (test : Demand → Bool) (at : Weight → Demand) where
  pub filtered_from : (ts : List Weight) → ((t : Weight) → P (at t)) → AllByRecursion P (filter test (map at ts))
  filtered_from [] each = tt
  filtered_from (t ∷ ts) each = elim (cases_Bool (test (at t))) [
    | inl passes ↦ rw passes (each t, filtered_from ts each)
    | inr fails ↦ rw fails (filtered_from ts each)
  ]

  filtered_gives : (ts : List Weight) (t : Weight) → AllByRecursion P (filter test (map at ts)) → IsIn t ts → test (at t) ≡ true → P (at t)
  filtered_gives [] t all found passes = absurd found
  filtered_gives (v ∷ ts) t all (inl same) passes =
      subst (λ u. P (at u)) (sym same) (rw (subst (λ u. test (at u) ≡ true) same passes) at all).0
  filtered_gives (v ∷ ts) t all (inr later) passes = elim (cases_Bool (test (at v))) [
    | inl here ↦ filtered_gives ts t (rw here at all).1 later passes
    | inr none ↦ filtered_gives ts t (rw none at all) later passes
  ]

module _ (n : ℕ) (tree : Tree) (half : List Weight) (sound : IsSound tree) (valid : IsValidTree n tree) (long : length half ≡ n) (k : ℕ) (X : List ℕ) where
  pub demands_are_fair : AllByRecursion (IsFair n) (demands_under tree k X half)
  demands_are_fair = filtered_from (IsFair n) (λ demand. ltb demand.most k) (demand_at tree X half) (falling_weights half) (λ t. record {
    sound = sound;
    valid = valid;
    set = subst (λ m. IsSet m (heavy (length half) half t)) long (IsSet-those_below (length half) (weighs (weight_at half) t));
  })

  pub half_is_heaviest : element_count tree ≡ n → length X ≡ k → is_independent tree X ≡ true
      → AllByRecursion IsMet (demands_under tree k X half) → IsHeaviest (is_independent tree) (weight_at half) X
  half_is_heaviest count size passes met =
      heaviest_from (subst (λ m. IsMatroid m (is_independent tree)) count (tree_laws tree sound)) half long X passes (λ t there fewer.
      filtered_gives IsMet (λ demand. ltb demand.most k) (demand_at tree X half) (falling_weights half) t met
      (falling_weights-holds t half there) (lt-ltb _ _ (subst (λ m. length (intersection X (heavy (length half) half t)) < m) size fewer)))
