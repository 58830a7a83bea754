-- Steps of loops over the members of a set or the sets of a family, for `using(..)`, and what a loop over a lent slice leaves.
use Rattle.mat_sets.proofs.Common.{Bool, List, [], ap, arith, cond, drop, drop-cons, eqb, false, get_or, length, length-append, refl, set, suc, sym, take, true, zero, ℕ, ◌++◌, ◌+◌, ◌<◌, ◌||◌, ◌∙◌, ◌∷◌, ◌≡◌, ◌≤◌, both_ways, eqb-false, ne_eqb, or_from, or_parts, filter_more, AllRising, family_union}
use Rattle.mat_sets.proofs.Common.{indicator, multiplicity, AllBelow, AreDistinct, IsRising, IsSubset, RisesFrom, intersection, is_member, union, with_one}
use Rattle.std.proofs.Math.Numerals.{add-one}
use Rattle.std.proofs.Math.Seq.{take-append_seam}
use Rattle.std.specs.List.{filter}
use Rattle.mat_sets.proofs.Members.{IsRising-nil, IsRising-union, IsRising-with_one, RisesFrom-at, intersection-none, is_member-get_or, minus-none, same_members, set_members, is_member-union}
use Rattle.mat_sets.proofs.Families.{IsRising-family_union}
use Rattle.mat_sets.proofs.Sums.{AllBelow-at}
use Rattle.mat_sets.proofs.Truths.{or_assoc, or_none, or_swap}

-- ---- the members before a place

pub is_member-take_more : (xs : List ℕ) (i k : ℕ) → i < length xs
    → is_member k (take (i + 1) xs) ≡ (is_member k (take i xs) || eqb k (get_or xs i 0))
is_member-take_more [] i k h = absurd (omega arith)
is_member-take_more (x ∷ t) zero k h = or_none (eqb k x)
is_member-take_more (x ∷ t) (suc i) k h = rw (add-one (suc i)) (rest (rw (add-one i) at (is_member-take_more t i k (omega arith))))
  where
    rest : is_member k (take (suc i) t) ≡ (is_member k (take i t) || eqb k (get_or t i 0))
        → (eqb k x || is_member k (take (suc i) t)) ≡ ((eqb k x || is_member k (take i t)) || eqb k (get_or t i 0))
    rest e = rw e (or_assoc (eqb k x) (is_member k (take i t)) (eqb k (get_or t i 0)))

RisesFrom-take : (lo : ℕ) (xs : List ℕ) (i : ℕ) → RisesFrom lo xs → RisesFrom lo (take i xs)
RisesFrom-take lo [] zero r = tt
RisesFrom-take lo [] (suc i) r = tt
RisesFrom-take lo (x ∷ t) zero r = tt
RisesFrom-take lo (x ∷ t) (suc i) r = (r.0, RisesFrom-take (suc x) t i r.1)

pub IsRising-take : (xs : List ℕ) (i : ℕ) → IsRising xs → IsRising (take i xs)
IsRising-take xs i r = record { rises = RisesFrom-take 0 xs i r.rises }

-- the next member is not among those before it
pub is_member-take_next : (xs : List ℕ) (i : ℕ) → IsRising xs → i < length xs
    → is_member (get_or xs i 0) (take i xs) ≡ false
is_member-take_next xs i r h = fresh 0 xs i r.rises h
  where
    fresh : (lo : ℕ) (xs : List ℕ) (i : ℕ) → RisesFrom lo xs → i < length xs
        → is_member (get_or xs i 0) (take i xs) ≡ false
    fresh lo [] i r h = absurd (omega arith)
    fresh lo (x ∷ t) zero r h = refl
    fresh lo (x ∷ t) (suc i) r h =
        let above : suc x ≤ get_or t i 0 = RisesFrom-at (suc x) t i r.1 (omega arith) in
        or_from (eqb (get_or t i 0) x) (is_member (get_or t i 0) (take i t)) (ne_eqb (get_or t i 0) x (omega arith)) (fresh (suc x) t i r.1 (omega arith))

-- the next member is one more
pub take-with_one : (xs : List ℕ) (i : ℕ) → IsRising xs → i < length xs
    → take (i + 1) xs ≡ with_one (take i xs) (get_or xs i 0)
take-with_one xs i r h = same_members _ _ (IsRising-take xs (i + 1) r) (IsRising-with_one _ _ (IsRising-take xs i r)) (λ k. grind (arith, is_member-take_more xs i k h, set_members))

-- ---- bounds and repetitions

pub AllBelow-none : (n : ℕ) → AllBelow n []
AllBelow-none n = tt

pub AllBelow-more : (n : ℕ) (xs : List ℕ) (i : ℕ) → i < length xs → AllBelow n (take i xs) → get_or xs i 0 < n
    → AllBelow n (take (i + 1) xs)
AllBelow-more n [] i h b l = absurd (omega arith)
AllBelow-more n (x ∷ xs) zero h b l = (l, tt)
AllBelow-more n (x ∷ xs) (suc i) h b l = rw (add-one (suc i)) (b.0, rw (add-one i) at (AllBelow-more n xs i (omega arith) b.1 l))

pub AreDistinct-more : (xs : List ℕ) (i : ℕ) → i < length xs → AreDistinct (take i xs)
    → is_member (get_or xs i 0) (take i xs) ≡ false → AreDistinct (take (i + 1) xs)
AreDistinct-more [] i h d m = absurd (omega arith)
AreDistinct-more (x ∷ xs) zero h d m = (refl, tt)
AreDistinct-more (x ∷ xs) (suc i) h d m = rw (add-one (suc i)) (apart x xs i (omega arith) d.0 (or_parts (eqb (get_or xs i 0) x) (is_member (get_or xs i 0) (take i xs)) m).0, rw (add-one i) at (AreDistinct-more xs i (omega arith) d.1 (or_parts (eqb (get_or xs i 0) x) (is_member (get_or xs i 0) (take i xs)) m).1))
  where
    apart : (x : ℕ) (xs : List ℕ) (i : ℕ) → i < length xs → is_member x (take i xs) ≡ false
        → eqb (get_or xs i 0) x ≡ false → is_member x (take (suc i) xs) ≡ false
    apart x xs i h m e = rw (add-one i) at (is_member-take_more xs i x h ∙ or_from (is_member x (take i xs)) (eqb x (get_or xs i 0)) m (ne_eqb x (get_or xs i 0) (λ s. eqb-false (get_or xs i 0) x e (sym s))))

-- ---- sets made member by member

-- the set of the items of any list
pub union-no_items : union [] [] ≡ []
unfolding union
union-no_items = refl

pub union-next_item : (xs : List ℕ) (i : ℕ) → i < length xs → union (take (i + 1) xs) [] ≡ with_one (union (take i xs) []) (get_or xs i 0)
union-next_item xs i h = same_members _ _ (IsRising-union (take (i + 1) xs) [] IsRising-nil)
    (IsRising-with_one _ _ (IsRising-union (take i xs) [] IsRising-nil)) (λ k. grind (arith, is_member-take_more xs i k h, set_members))

pub union-none : (a : List ℕ) → IsRising a → union a [] ≡ a
union-none a r = same_members _ _ (IsRising-union a [] IsRising-nil) r (λ k. grind (arith, set_members))

pub union-more : (a b : List ℕ) (i : ℕ) → IsRising a → IsRising b → i < length b
    → union a (take (i + 1) b) ≡ with_one (union a (take i b)) (get_or b i 0)
union-more a b i r s h = same_members _ _ (IsRising-union _ _ (IsRising-take b (i + 1) s)) (IsRising-with_one _ _ (IsRising-union _ _ (IsRising-take b i s))) (λ k. grind (arith, set_members, is_member-take_more b i k h))

length_pushed : (u : List ℕ) (x : ℕ) (b : Bool) → length (u ++ cond b (x ∷ []) []) ≡ length u + indicator b
length_pushed u x true = length-append u (x ∷ [])
length_pushed u x false = length-append u []

pub intersection-more : (a b : List ℕ) (i : ℕ) → i < length a
    → length (intersection (take (i + 1) a) b) ≡ length (intersection (take i a) b) + indicator (is_member (get_or a i 0) b)
unfolding intersection
intersection-more a b i h = ap length (filter_more (λ k. is_member k b) a i 0 h) ∙ length_pushed (filter (λ k. is_member k b) (take i a)) (get_or a i 0) (is_member (get_or a i 0) b)

-- ---- whether a lies in b

pub IsSubset-none : (b : List ℕ) → IsSubset [] b
IsSubset-none b = record { inside = λ k h. absurd (both_ways false refl h) }

pub IsSubset-more : (a b : List ℕ) (i : ℕ) → i < length a → IsSubset (take i a) b → is_member (get_or a i 0) b ≡ true
    → IsSubset (take (i + 1) a) b
IsSubset-more a b i h s m = record { inside = λ k q. subset_step a b i k s m (is_member-take_more a i k h ∙ refl) q }
  where
    subset_step : (a b : List ℕ) (i k : ℕ) → IsSubset (take i a) b → is_member (get_or a i 0) b ≡ true
        → is_member k (take (i + 1) a) ≡ (is_member k (take i a) || eqb k (get_or a i 0))
        → is_member k (take (i + 1) a) ≡ true → is_member k b ≡ true
    subset_step a b i k s m e q = grind (arith, s.inside k)

pub not-IsSubset : (a b : List ℕ) (i : ℕ) → i < length a → is_member (get_or a i 0) b ≡ false → IsSubset a b → ⊥
not-IsSubset a b i h m s = both_ways (is_member (get_or a i 0) b) m (s.inside (get_or a i 0) (is_member-get_or a i (get_or a i 0) h refl))

-- ---- families

pub multiplicity-none : (k : ℕ) → multiplicity k [] ≡ 0
unfolding multiplicity
multiplicity-none k = refl

pub multiplicity-more : (k : ℕ) (sets : List (List ℕ)) (i : ℕ) → i < length sets
    → multiplicity k (take (i + 1) sets) ≡ multiplicity k (take i sets) + indicator (is_member k (get_or sets i []))
unfolding multiplicity
multiplicity-more k [] i h = absurd (omega arith)
multiplicity-more k (a ∷ t) zero h = omega arith
multiplicity-more k (a ∷ t) (suc i) h = rw (add-one (suc i)) (let ih = rw (add-one i) at (multiplicity-more k t i (omega arith)) in omega arith)

pub family_union-none : (sets : List (List ℕ)) (i : ℕ) → length sets ≤ i → family_union (drop i sets) ≡ []
unfolding family_union
family_union-none [] zero h = refl
family_union-none [] (suc i) h = refl
family_union-none (a ∷ t) zero h = absurd (omega arith)
family_union-none (a ∷ t) (suc i) h = family_union-none t i (omega arith)

pub family_union-less : (sets : List (List ℕ)) (i : ℕ) → i < length sets
    → family_union (drop i sets) ≡ union (get_or sets i []) (family_union (drop (i + 1) sets))
unfolding family_union
family_union-less sets i h = rw (add-one i, drop-cons sets i [])

pub family_union-nil : family_union [] ≡ []
unfolding family_union
family_union-nil = refl

pub family_union-more : (sets : List (List ℕ)) (i : ℕ) → i < length sets
    → family_union (take (i + 1) sets) ≡ union (get_or sets i []) (family_union (take i sets))
unfolding family_union
family_union-more sets i h = same_members _ _ (IsRising-family_union (take (i + 1) sets)) (IsRising-union _ _ (IsRising-family_union (take i sets)))
    (λ x. one_more x sets i h ∙ sym (is_member-union x (get_or sets i []) (family_union (take i sets))))
  where
    one_more : (x : ℕ) (sets : List (List ℕ)) (i : ℕ) → i < length sets
        → is_member x (family_union (take (i + 1) sets)) ≡ (is_member x (get_or sets i []) || is_member x (family_union (take i sets)))
    one_more x [] i h = absurd (omega arith)
    one_more x (a ∷ sets) zero h = is_member-union x a []
    one_more x (a ∷ sets) (suc i) h = rw (add-one (suc i)) (
        is_member-union x a (family_union (take (suc i) sets)) ∙ rw (rw (add-one i) at (one_more x sets i (omega arith))) (
        or_swap (is_member x a) (is_member x (get_or sets i [])) (is_member x (family_union (take i sets))) ∙ ap (λ b. is_member x (get_or sets i []) || b) (sym (is_member-union x a (family_union (take i sets))))))

pub ruleset set_steps = (intersection-none, minus-none, union-none, union-more, intersection-more, IsSubset-none, IsSubset-more, not-IsSubset, AllBelow-none, AllBelow-more, AreDistinct-more, AllBelow-at, multiplicity-none, multiplicity-more, family_union-none, family_union-less, family_union-nil, family_union-more)

pub AllRising-none : AllRising []
AllRising-none = tt

pub AllRising-more : (sets : List (List ℕ)) (i : ℕ) → i < length sets → AllRising (take i sets)
    → IsRising (get_or sets i []) → AllRising (take (i + 1) sets)
AllRising-more [] i h r s = absurd (omega arith)
AllRising-more (a ∷ t) zero h r s = (s, tt)
AllRising-more (a ∷ t) (suc i) h r s = rw (add-one (suc i)) (let ih = rw (add-one i) at (AllRising-more t i (omega arith) r.1 s) in (r.0, ih))

pub AllRising-at : (sets : List (List ℕ)) (i : ℕ) → AllRising sets → i < length sets → IsRising (get_or sets i [])
AllRising-at [] i r h = absurd (omega arith)
AllRising-at (a ∷ t) zero r h = r.0
AllRising-at (a ∷ t) (suc i) r h = AllRising-at t i r.1 (omega arith)

pub AllRising-append : (sets others : List (List ℕ)) → AllRising sets → AllRising others → AllRising (sets ++ others)
AllRising-append [] others r s = s
AllRising-append (a ∷ sets) others r s = (r.0, AllRising-append sets others r.1 s)

pub AllRising-set : (sets : List (List ℕ)) (i : ℕ) (a : List ℕ) → AllRising sets → IsRising a → AllRising (set sets i a)
AllRising-set [] i a r s = tt
AllRising-set (b ∷ t) zero a r s = (s, r.1)
AllRising-set (b ∷ t) (suc i) a r s = (r.0, AllRising-set t i a r.1 s)

pub ruleset family_steps = (AllRising-none, AllRising-more, AllRising-at, AllRising-append, AllRising-set)

-- ---- a slice that was lent whole, after it is written back

pub written_back : {A : Type 0} (n : ℕ) (new old : List A) → length new ≡ n → take n (new ++ drop (length new) old) ≡ new
written_back n new old same = ap (λ k. take k (new ++ drop (length new) old)) (sym same) ∙ take-append_seam new (drop (length new) old)
