-- What holds of each item of a list, for a part of the list, an item of it and one item more.
use Rattle.mat_sets.proofs.Common.{ℕ, zero, suc, ◌+◌, ◌<◌, List, [], ◌∷◌, ◌++◌, length, get_or, take, sym, subst, arith, take_more}
use Rattle.std.specs.List.{AllByRecursion}

pub AllByRecursion-take : {X : Type 0} (P : X → Type 0) (xs : List X) (i : ℕ) → AllByRecursion P xs → AllByRecursion P (take i xs)
AllByRecursion-take P [] zero all = tt
AllByRecursion-take P [] (suc i) all = tt
AllByRecursion-take P (x ∷ xs) zero all = tt
AllByRecursion-take P (x ∷ xs) (suc i) all = (all.0, AllByRecursion-take P xs i all.1)

pub AllByRecursion-at : {X : Type 0} (P : X → Type 0) (xs : List X) (i : ℕ) (d : X) → i < length xs → AllByRecursion P xs
    → P (get_or xs i d)
AllByRecursion-at P [] i d l all = absurd (omega arith)
AllByRecursion-at P (x ∷ xs) zero d l all = all.0
AllByRecursion-at P (x ∷ xs) (suc i) d l all = AllByRecursion-at P xs i d (omega arith) all.1

pub AllByRecursion-push : {X : Type 0} (P : X → Type 0) (xs : List X) (x : X) → AllByRecursion P xs → P x → AllByRecursion P (xs ++ x ∷ [])
AllByRecursion-push P [] x all one = (one, tt)
AllByRecursion-push P (y ∷ xs) x all one = (all.0, AllByRecursion-push P xs x all.1 one)

pub AllByRecursion-more : {X : Type 0} (P : X → Type 0) (xs : List X) (i : ℕ) (d : X) → i < length xs → AllByRecursion P (take i xs)
    → P (get_or xs i d) → AllByRecursion P (take (i + 1) xs)
AllByRecursion-more P xs i d l all one =
    subst (AllByRecursion P) (sym (take_more xs i d l)) (AllByRecursion-push P (take i xs) (get_or xs i d) all one)
