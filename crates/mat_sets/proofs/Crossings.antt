-- The number of arcs that enter a vertex set: it is submodular, one arc less lowers it by at most one, and lists of arcs that share none,
-- each of which has an arc that enters, are at most as many.
use Rattle.mat_sets.proofs.Common.{if◌then◌else◌, ◌≡◌, ℕ, suc, ◌+◌, ◌<◌, ◌≤◌, Bool, true, false, not, ◌&&◌, ◌||◌, eqb, List, [], ◌∷◌, length, get_or, inl, inr, refl, sym, ap, ◌∙◌, subst, arith, and_right, and_from, and_parts, both_ways, cases_Bool, eqb-true, false_from_ne_true, false≢true, not-true}
use Rattle.mat_sets.proofs.Common.{or_cases, indicator, AreDisjoint, is_member, intersection, union, without_one, AreDistinct, IsRising, IsSubset}
use Rattle.std.specs.List.{concat, filter}
use Rattle.mat_sets.specs.Graphs.{ends_of, enters, entering, DirectedWalk, IsRootFree, IsSpanningArborescence, IsUnentered}
use Rattle.mat_sets.proofs.Cardinalities.{length-without_one}
use Rattle.mat_sets.proofs.DisjointLists.{AreDisjoint-first}
use Rattle.mat_sets.proofs.Families.{AreDisjoint-tail}
use Rattle.mat_sets.proofs.Filters.{IsRising-filter}
use Rattle.mat_sets.proofs.Ground.{below_member, length-distinct_subset}
use Rattle.mat_sets.proofs.ListParts.{is_member-left, is_member-right}
use Rattle.mat_sets.proofs.Members.{is_member-filter, is_member-head, is_member-intersection, is_member-union, is_member-without_one, member_from_some, same_members, without_one-missing, IsRising-without_one}
use Rattle.mat_sets.proofs.Subsets.{find_member}

-- ---- how many pass

length-filter : (p : ℕ → Bool) (x : ℕ) (xs : List ℕ) → length (filter p (x ∷ xs)) ≡ indicator (p x) + length (filter p xs)
length-filter p x xs = by (p x)
  where
    by : (b : Bool) → length (if b then x ∷ filter p xs else filter p xs) ≡ indicator b + length (filter p xs)
    by true = omega arith
    by false = omega arith

-- where each item passes the first two tests no more often than the last two, the first two counts are no more than the last two
filters-balance : (p q r s : ℕ → Bool) (xs : List ℕ) → ((x : ℕ) → indicator (p x) + indicator (q x) ≤ indicator (r x) + indicator (s x))
    → length (filter p xs) + length (filter q xs) ≤ length (filter r xs) + length (filter s xs)
filters-balance p q r s [] h = omega arith
filters-balance p q r s (x ∷ xs) h =
    omega (arith, h x, filters-balance p q r s xs h, length-filter p x xs, length-filter q x xs, length-filter r x xs, length-filter s x xs)

filters-le : (p q : ℕ → Bool) (xs : List ℕ) → ((x : ℕ) → is_member x xs ≡ true → p x ≡ true → q x ≡ true)
    → length (filter p xs) ≤ length (filter q xs)
filters-le p q [] h = omega arith
filters-le p q (x ∷ xs) h =
    omega (arith, first (p x) (q x) (h x (is_member-head x xs)), filters-le p q xs (λ y m. h y (grind arith)), length-filter p x xs, length-filter q x xs)
  where
    first : (a b : Bool) → (a ≡ true → b ≡ true) → indicator a ≤ indicator b
    first true b f = rw (f refl) (omega arith)
    first false b f = omega arith

module _ (ends : ℕ → ℕ × ℕ) where
  -- ---- submodular

  sides : (a b c d : Bool)
      → indicator ((a && b) && not (c && d)) + indicator ((a || b) && not (c || d)) ≤ indicator (a && not c) + indicator (b && not d)
  sides true true true d = grind arith
  sides true true false d = grind arith
  sides true false true d = grind arith
  sides true false false d = grind arith
  sides false true c d = grind arith
  sides false false c d = grind arith

  -- the number of arcs that enter a vertex set is submodular
  pub entering-submodular : (live A B : List ℕ) → length (entering ends live (intersection A B)) + length (entering ends live (union A B))
      ≤ length (entering ends live A) + length (entering ends live B)
  unfolding entering
  entering-submodular live A B = filters-balance _ _ _ _ live (λ a.
      rw (is_member-intersection (ends a).1 A B, is_member-intersection (ends a).0 A B, is_member-union (ends a).1 A B, is_member-union (ends a).0 A B)
      (sides (is_member (ends a).1 A) (is_member (ends a).1 B) (is_member (ends a).0 A) (is_member (ends a).0 B)))

  -- where more arcs enter the one set, some arc enters it and not the other
  pub entering-more : (live A B : List ℕ) → length (entering ends live A) < length (entering ends live B)
      → (a : ℕ) × (is_member a live ≡ true) × (enters ends B a ≡ true) × (enters ends A a ≡ false)
  unfolding entering
  entering-more live A B less = elim (find_member (λ a. enters ends B a && not (enters ends A a)) live) [
    | inl f ↦ (let p = and_parts (enters ends B f.0) (not (enters ends A f.0)) f.2 in (f.0, f.1, p.0, not-true _ p.1))
    | inr none ↦ (let most = filters-le (enters ends B) (enters ends A) live (λ a m e. elim (cases_Bool (enters ends A a)) [
      | inl here ↦ here
      | inr out ↦ absurd (both_ways _ (none a m) (and_from (enters ends B a) (not (enters ends A a)) e (ap not out)))
    ]) in absurd (omega arith))
  ]

  -- ---- one arc less

  pub is_member-entering : (a : ℕ) (live cut : List ℕ) → is_member a (entering ends live cut) ≡ (is_member a live && enters ends cut a)
  unfolding entering
  is_member-entering a live cut = is_member-filter (enters ends cut) a live

  pub IsRising-entering : (live cut : List ℕ) → IsRising live → IsRising (entering ends live cut)
  unfolding entering
  IsRising-entering live cut r = IsRising-filter (enters ends cut) live r

  pub entering-without : (live cut : List ℕ) (a : ℕ) → IsRising live → entering ends (without_one live a) cut ≡ without_one (entering ends live cut) a
  entering-without live cut a r =
      same_members _ _ (IsRising-entering (without_one live a) cut (IsRising-without_one live a r))
      (IsRising-without_one (entering ends live cut) a (IsRising-entering live cut r)) (λ k.
      is_member-entering k (without_one live a) cut ∙ ap (λ b. b && enters ends cut k) (is_member-without_one k a live)
      ∙ swap (is_member k live) (not (eqb k a)) (enters ends cut k) ∙ ap (λ b. b && not (eqb k a)) (sym (is_member-entering k live cut))
      ∙ sym (is_member-without_one k a (entering ends live cut)))
    where
      swap : (x y z : Bool) → ((x && y) && z) ≡ ((x && z) && y)
      swap true y z = grind arith
      swap false y z = refl

  -- an arc that does not enter is not missed
  pub entering-same : (live cut : List ℕ) (a : ℕ) → IsRising live → enters ends cut a ≡ false
      → length (entering ends (without_one live a) cut) ≡ length (entering ends live cut)
  entering-same live cut a r out = ap length (entering-without live cut a r ∙ without_one-missing (entering ends live cut) a (IsRising-entering live cut r)
      (is_member-entering a live cut ∙ rw out (and_right (is_member a live) false refl)))

  -- an arc that enters is missed once
  pub entering-one_less : (live cut : List ℕ) (a : ℕ) → IsRising live → is_member a live ≡ true → enters ends cut a ≡ true
      → suc (length (entering ends (without_one live a) cut)) ≡ length (entering ends live cut)
  entering-one_less live cut a r m e =
      ap (λ xs. suc (length xs)) (entering-without live cut a r)
      ∙ length-without_one (entering ends live cut) a (IsRising-entering live cut r) (is_member-entering a live cut ∙ and_from (is_member a live) (enters ends cut a) m e)

  -- ---- walks that come in

  -- a walk from outside to inside has an arc that enters
  pub walk_enters : (cut along : List ℕ) (v w : ℕ) → DirectedWalk ends along v w → is_member v cut ≡ false → is_member w cut ≡ true
      → (a : ℕ) × (is_member a along ≡ true) × (enters ends cut a ≡ true)
  walk_enters cut [] v w walk out inside = absurd (both_ways _ out (ap (λ z. is_member z cut) walk ∙ inside))
  walk_enters cut (a ∷ along) v w walk out inside = elim (cases_Bool (is_member (ends a).1 cut)) [
    | inl here ↦ (a, is_member-head a along, and_from _ _ here (ap not (ap (λ z. is_member z cut) walk.0 ∙ out)))
    | inr later ↦ (let f = walk_enters cut along (ends a).1 w walk.1 later inside in (f.0, (let m = f.1 in grind arith), f.2))
  ]

  -- a spanning arborescence enters each root-free set
  pub arborescence_enters : (vertices count root : ℕ) (tree cut : List ℕ) → IsSpanningArborescence vertices count ends root tree
      → IsRootFree vertices root cut → (a : ℕ) × (is_member a tree ≡ true) × (enters ends cut a ≡ true)
  arborescence_enters vertices count root tree cut s f =
      let v = member_from_some cut f.some in
      let r = s.reached v.0 (below_member f.set v.1) in
      let w = walk_enters cut r.along root v.0 r.walk f.free v.1 in
      (w.0, r.inside.inside w.0 w.1, w.2)

  -- lists that share no arc, each of live arcs and with one that enters
  pub record Comes (live cut : List ℕ) (arcs : List ℕ) : Type 0 where
    pub arc : ℕ
    pub member : is_member arc arcs ≡ true
    pub live_arc : is_member arc live ≡ true
    pub comes : enters ends cut arc ≡ true

  -- one arc of each list, all different
  pub record Comers (live cut : List ℕ) (lists : List (List ℕ)) : Type 0 where
    pub arcs : List ℕ
    pub many : length arcs ≡ length lists
    pub distinct : AreDistinct arcs
    pub enter : IsSubset arcs (entering ends live cut)
    pub inside : (a : ℕ) → is_member a arcs ≡ true → is_member a (concat lists) ≡ true

  pub comers : (live cut : List ℕ) (lists : List (List ℕ)) → AreDisjoint lists
      → ((arcs : List ℕ) (i : ℕ) → i < length lists → get_or lists i [] ≡ arcs → Comes live cut arcs) → Comers live cut lists
  comers live cut [] apart each = record { arcs = []; many = refl; distinct = tt; enter = record { inside = λ x m. absurd (false≢true m) }; inside = λ a m. m }
  comers live cut (xs ∷ lists) apart each =
      let c = each xs 0 (omega arith) refl in
      let rest = comers live cut lists (AreDisjoint-tail xs lists apart) (λ arcs i l e. each arcs (suc i) (omega arith) e) in
      record {
        arcs = c.arc ∷ rest.arcs;
        many = ap suc rest.many;
        distinct = (false_from_ne_true _ (λ m. both_ways _ (AreDisjoint-first xs lists apart c.arc c.member) (rest.inside c.arc m)), rest.distinct);
        enter = record {
          inside = λ x m. elim (or_cases (eqb x c.arc) (is_member x rest.arcs) m) [
            | inl same ↦ subst (λ z. is_member z (entering ends live cut) ≡ true) (sym (eqb-true x c.arc same))
                (is_member-entering c.arc live cut ∙ and_from _ _ c.live_arc c.comes)
            | inr later ↦ rest.enter.inside x later
          ];
        };
        inside = λ x m. elim (or_cases (eqb x c.arc) (is_member x rest.arcs) m) [
          | inl same ↦ is_member-left x xs (concat lists) (subst (λ z. is_member z xs ≡ true) (sym (eqb-true x c.arc same)) c.member)
          | inr later ↦ is_member-right x xs (concat lists) (rest.inside x later)
        ];
      }

  pub at_most_entering : (live cut : List ℕ) (lists : List (List ℕ)) → IsRising live → AreDisjoint lists
      → ((arcs : List ℕ) (i : ℕ) → i < length lists → get_or lists i [] ≡ arcs → Comes live cut arcs)
      → length lists ≤ length (entering ends live cut)
  at_most_entering live cut lists r apart each =
      let c = comers live cut lists apart each in
      omega (arith, c.many, length-distinct_subset c.arcs (entering ends live cut) c.distinct (IsRising-entering live cut r) c.enter)

-- where no arc enters a root-free set, there is no spanning arborescence
pub unentered_has_none : (vertices : ℕ) (arcs : List (ℕ × ℕ)) (root : ℕ) (cut tree : List ℕ) → IsUnentered vertices arcs root cut
    → IsSpanningArborescence vertices (length arcs) (ends_of arcs) root tree → ⊥
unentered_has_none vertices arcs root cut tree u s =
    let w = arborescence_enters (ends_of arcs) vertices (length arcs) root tree cut s u.root_free in
    both_ways _ (u.none w.0 (below_member s.set w.1)) w.2
