-- Tables of the vertex before each vertex: an entry after a change, how many vertices have none before them, the table of no path, and the
-- loop that moves the entries of a walk on, one vertex after the other.
use Rattle.mat_flow.proofs.Common.{◌≡◌, ℕ, zero, suc, ◌+◌, ◌<◌, ◌≤◌, ◌≢◌, true, List, [], ◌∷◌, length, get_or, set, Option, Some, None, ◌⊎◌, inl, inr, refl, sym, ap, ◌∙◌, subst, arith, get_or-set_other, get_or-set_same, length-set, both_ways, cases_eq, cases_lt, get_or_default, get_or_past}
use Rattle.mat_flow.proofs.Common.{is_member, is_member-get_or, entry_at, entry_before, leads_to, one_if_none, starts_in, IsLinkTable, IsShifted, IsReversed}

-- ---- entries

-- the entry that an index reads
pub entry_of : (table : List (Option ℕ)) (v : ℕ) (entry : Option ℕ) → v < length table → entry ≡ get_or table v entry
    → entry_at table v ≡ entry
entry_of table v entry l read = get_or_default table v None entry l ∙ sym read

-- an entry after a change at i
pub entry_set : (table : List (Option ℕ)) (i : ℕ) (entry : Option ℕ) (k : ℕ) → i < length table
    → ((k ≡ i) × (entry_at (set table i entry) k ≡ entry)) ⊎ ((k ≢ i) × (entry_at (set table i entry) k ≡ entry_at table k))
entry_set table i entry k l = elim (cases_eq k i) [
  | inl e ↦ inl (e, ap (λ j. get_or (set table i entry) j None) e ∙ get_or-set_same table i entry None l)
  | inr other ↦ inr (other, get_or-set_other table i k entry None other)
]

pub none_is_not_some : (u : ℕ) → None ≡ Some u → ⊥
none_is_not_some u h = cc

-- a vertex with an entry is in the table
pub entry_inside : (table : List (Option ℕ)) (v u : ℕ) → entry_at table v ≡ Some u → v < length table
entry_inside table v u e = elim (cases_lt v (length table)) [
  | inl l ↦ l
  | inr past ↦ absurd (none_is_not_some u (sym (get_or_past table v None past) ∙ e))
]

pub some_is_one : (u w : ℕ) → Some u ≡ Some w → u ≡ w
some_is_one u w h = cc

pub none_from : (entry : Option ℕ) → ((u : ℕ) → entry ≡ Some u → ⊥) → entry ≡ None
none_from None h = refl
none_from (Some u) h = absurd (h u refl)

-- ---- how many vertices have none before them

pub starts_in-set : (table : List (Option ℕ)) (i : ℕ) (entry : Option ℕ) → i < length table
    → starts_in (set table i entry) + one_if_none (entry_at table i) ≡ starts_in table + one_if_none entry
starts_in-set [] i entry l = absurd (omega arith)
starts_in-set (old ∷ table) zero entry l = omega arith
starts_in-set (old ∷ table) (suc i) entry l = let rest = starts_in-set table i entry (omega arith) in omega arith

one_at_most : (entry : Option ℕ) → one_if_none entry ≤ 1
one_at_most None = omega arith
one_at_most (Some u) = omega arith

pub starts_in-most : (table : List (Option ℕ)) → starts_in table ≤ length table
starts_in-most [] = omega arith
starts_in-most (entry ∷ table) = omega (arith, starts_in-most table, one_at_most entry)

-- ---- the table of no path

-- the first n vertices have themselves before them
pub record AreOwn (n : ℕ) (table : List (Option ℕ)) : Type 0 where
  pub long : length table ≡ n
  pub own : (v : ℕ) → v < n → entry_at table v ≡ Some v

-- where each vertex has itself before it, it has itself after it
pub IsReversed-own : (n : ℕ) (table : List (Option ℕ)) → AreOwn n table → IsReversed table table
IsReversed-own n table a = record {
  long = refl;
  turned = λ u v e. (let long = a.long in let inside = entry_inside table u v e in let own = a.own u (omega arith) in
      subst (λ w. entry_at table w ≡ Some u) (some_is_one u v (sym own ∙ e)) own);
  none = λ u v l e f. none_is_not_some u (sym e ∙ a.own u (let long = a.long in omega arith));
}

pub leads_to_itself : (arcs : List (ℕ × ℕ)) (v : ℕ) → leads_to arcs (Some v) v ≡ true
leads_to_itself arcs v = grind arith

pub IsLinkTable-own : (n : ℕ) (arcs : List (ℕ × ℕ)) (sources targets : List ℕ) (table : List (Option ℕ)) → AreOwn n table
    → IsLinkTable n arcs sources targets table
IsLinkTable-own n arcs sources targets table a =
    let same : (v u : ℕ) → entry_at table v ≡ Some u → (v < n) × (v ≡ u) = λ v u e.
    (let long = a.long in let inside = entry_inside table v u e in let l : v < n = omega arith in
    (l, some_is_one v u (sym (a.own v l) ∙ e))) in
    record {
      long = a.long;
      below = λ v u e. let s = same v u e in subst (λ w. w < n) s.1 s.0;
      joined = λ v u e. let s = same v u e in subst (λ w. leads_to arcs (Some w) v ≡ true) s.1 (leads_to_itself arcs v);
      starts = λ v l e. absurd (none_is_not_some v (sym e ∙ a.own v l));
      ends = λ u l none. absurd (none u (a.own u l));
      once = λ v w u e f. (same v u e).1 ∙ sym (same w u f).1;
    }

-- ---- the entries of a walk move on

-- the entries of the walk's first i vertices are moved, and that of the next one's place is carried
pub record IsShifting (first : Option ℕ) (walk : List ℕ) (old : List (Option ℕ)) (i : ℕ) (new : List (Option ℕ))
    (carried : Option ℕ) : Type 0 where
  pub long : length new ≡ length old
  pub moved : (k : ℕ) → k < i → entry_at new (get_or walk k 0) ≡ entry_before first old walk k
  pub kept : (v : ℕ) → ((k : ℕ) → k < i → get_or walk k 0 ≢ v) → entry_at new v ≡ entry_at old v
  pub carried_is : carried ≡ entry_before first old walk i
  pub counted : starts_in new + one_if_none carried ≡ starts_in old + one_if_none first

pub shifting_next : (first : Option ℕ) (walk : List ℕ) (old : List (Option ℕ)) (i : ℕ) (new : List (Option ℕ)) (carried : Option ℕ)
    → ((a b : ℕ) → a < b → b < length walk → get_or walk a 0 ≢ get_or walk b 0) → i < length walk → get_or walk i 0 < length new
    → IsShifting first walk old i new carried
    → IsShifting first walk old (suc i) (set new (get_or walk i 0) carried) (entry_at new (get_or walk i 0))
shifting_next first walk old i new carried differ l inside s =
    let v = get_or walk i 0 in
    let changed : (w : ℕ) → w ≢ v → entry_at (set new v carried) w ≡ entry_at new w = λ w d. get_or-set_other new v w carried None d in
    record {
      long = length-set new v carried ∙ s.long;
      moved = λ k m. elim (cases_eq k i) [
        | inl e ↦ subst (λ j. entry_at (set new v carried) (get_or walk j 0) ≡ entry_before first old walk j) (sym e)
            (get_or-set_same new v carried None inside ∙ s.carried_is)
        | inr d ↦ changed (get_or walk k 0) (differ k i (omega arith) l) ∙ s.moved k (omega arith)
      ];
      kept = λ w other. changed w (λ e. other i (omega arith) (sym e)) ∙ s.kept w (λ k m. other k (omega arith));
      carried_is = s.kept v (λ k m. differ k i m l);
      counted = (let put = starts_in-set new v carried inside in let counted = s.counted in omega arith);
    }

pub IsShifting-next : (first : Option ℕ) (walk : List ℕ) (old : List (Option ℕ)) (i : ℕ) (new : List (Option ℕ))
    (carried entry : Option ℕ)
    → ((a b : ℕ) → a < b → b < length walk → get_or walk a 0 ≢ get_or walk b 0) → i < length walk → get_or walk i 0 < length new
    → IsShifting first walk old i new carried → entry ≡ get_or new (get_or walk i 0) entry
    → IsShifting first walk old (i + 1) (set new (get_or walk i 0) carried) entry
IsShifting-next first walk old i new carried entry differ l inside s read =
    let next : suc i ≡ i + 1 = omega arith in
    subst (λ j. IsShifting first walk old j (set new (get_or walk i 0) carried) entry) next
    (subst (IsShifting first walk old (suc i) (set new (get_or walk i 0) carried)) (entry_of new (get_or walk i 0) entry inside read)
    (shifting_next first walk old i new carried differ l inside s))

pub IsShifting-end : (first : Option ℕ) (walk : List ℕ) (old : List (Option ℕ)) (i : ℕ) (new : List (Option ℕ)) (carried : Option ℕ)
    → i ≡ length walk
    → IsShifting first walk old i new carried → IsShifted first walk old new
IsShifting-end first walk old i new carried e s = record {
  long = s.long;
  moved = λ k l. s.moved k (omega arith);
  kept = λ v out. s.kept v (λ k l same. both_ways (is_member v walk) out (is_member-get_or walk k v (omega arith) same));
  starts =
      subst (λ c. starts_in new + one_if_none c ≡ starts_in old + one_if_none first)
      (s.carried_is ∙ ap (entry_before first old walk) e) s.counted;
}
