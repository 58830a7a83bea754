-- The test of a set holds exactly of the sets, and the test of different items exactly of lists without repetition.
use Rattle.mat_sets.proofs.Common.{◌≡◌, ℕ, ◌<◌, suc, true, not, ◌&&◌, leb, ltb, List, [], ◌∷◌, refl, and_parts, not-true, and_from, leb-true, ltb-true, le-leb, lt-ltb, is_member, RisesFrom, IsRising, AllBelow, AreDistinct, IsSet, with_one}
use Rattle.mat_sets.specs.SetTests.{are_distinct, rises_within, is_set}
use Rattle.mat_sets.proofs.Ground.{IsSet-with_one}

rises_from_test : (lo n : ℕ) (xs : List ℕ) → rises_within lo n xs ≡ true → RisesFrom lo xs
rises_from_test lo n [] h = tt
rises_from_test lo n (x ∷ xs) h =
    let first = and_parts (leb lo x && ltb x n) (rises_within (suc x) n xs) h in
    (leb-true lo x (and_parts (leb lo x) (ltb x n) first.0).0, rises_from_test (suc x) n xs first.1)

below_from_test : (lo n : ℕ) (xs : List ℕ) → rises_within lo n xs ≡ true → AllBelow n xs
below_from_test lo n [] h = tt
below_from_test lo n (x ∷ xs) h =
    let first = and_parts (leb lo x && ltb x n) (rises_within (suc x) n xs) h in
    (ltb-true x n (and_parts (leb lo x) (ltb x n) first.0).1, below_from_test (suc x) n xs first.1)

test_from : (lo n : ℕ) (xs : List ℕ) → RisesFrom lo xs → AllBelow n xs → rises_within lo n xs ≡ true
test_from lo n [] rises below = refl
test_from lo n (x ∷ xs) rises below =
    and_from (leb lo x && ltb x n) (rises_within (suc x) n xs) (and_from (leb lo x) (ltb x n) (le-leb lo x rises.0) (lt-ltb x n below.0))
    (test_from (suc x) n xs rises.1 below.1)

-- what passes the test is a set
pub IsSet-from_test : (n : ℕ) (xs : List ℕ) → is_set n xs ≡ true → IsSet n xs
unfolding is_set
IsSet-from_test n xs h = record { rising = record { rises = rises_from_test 0 n xs h }; below = below_from_test 0 n xs h }

-- a set passes the test
pub test_from-IsSet : (n : ℕ) (xs : List ℕ) → IsSet n xs → is_set n xs ≡ true
unfolding is_set
test_from-IsSet n xs set = test_from 0 n xs set.rising.rises set.below

-- a list that rises and whose items are below n passes the test
pub is_set-true : (n : ℕ) (xs : List ℕ) → IsRising xs → AllBelow n xs → is_set n xs ≡ true
is_set-true n xs rising below = test_from-IsSet n xs (record { rising = rising; below = below })

-- one more element makes a set on n elements
pub is_set-with_one : (n : ℕ) (X : List ℕ) (x : ℕ) → IsSet n X → x < n → is_set n (with_one X x) ≡ true
is_set-with_one n X x set small = test_from-IsSet n _ (IsSet-with_one n X x set small)

pub are_distinct-gives : (xs : List ℕ) → are_distinct xs ≡ true → AreDistinct xs
are_distinct-gives [] h = tt
are_distinct-gives (x ∷ xs) h =
    let a = and_parts (not (is_member x xs)) (are_distinct xs) h in
    (not-true (is_member x xs) a.0, are_distinct-gives xs a.1)

pub are_distinct-from : (xs : List ℕ) → AreDistinct xs → are_distinct xs ≡ true
are_distinct-from [] d = refl
are_distinct-from (x ∷ xs) d = rw d.0 (are_distinct-from xs d.1)
