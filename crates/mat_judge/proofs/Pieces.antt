-- Pieces that are written one after the other: where the sink fails, the pieces before and a proper prefix of the next are a proper
-- prefix of them all.
use Rattle.mat_judge.proofs.Common.{◌≡◌, ℕ, ◌+◌, ◌<◌, List, ◌++◌, length, take, drop, get_or, Option, sym, ap, subst, ◌∙◌, flat_map, take-append-drop, drop_more, Appended, AppendedProperPrefix, AppendedProperPrefix-then, AppendedProperPrefix-append}
use Rattle.std.proofs.lemmas.List.Concat.{flat_map-append}

flat_map-at : {X : Type 0} (f : X → List ℕ) (xs : List X) (i : ℕ) (d : X) → i < length xs
    → flat_map f xs ≡ flat_map f (take i xs) ++ (f (get_or xs i d) ++ flat_map f (drop (i + 1) xs))
flat_map-at {X} f xs i d lt =
    ap (flat_map f) (sym (take-append-drop i xs)) ∙ flat_map-append f (take i xs) (drop i xs)
    ∙ ap (λ (t : List X). flat_map f (take i xs) ++ flat_map f t) (drop_more xs i d lt)

pub pieces_prefix : {X : Type 0} (f : X → List ℕ) (a b c : Option (List ℕ)) (pieces : List X) (i : ℕ) (d : X) → i < length pieces
    → Appended a (flat_map f (take i pieces)) b → AppendedProperPrefix b (f (get_or pieces i d)) c
    → AppendedProperPrefix a (flat_map f pieces) c
pieces_prefix {X} f a b c pieces i d lt p q =
    subst (λ (t : List ℕ). AppendedProperPrefix a t c) (sym (flat_map-at f pieces i d lt))
    (AppendedProperPrefix-then a b c (flat_map f (take i pieces)) (f (get_or pieces i d) ++ flat_map f (drop (i + 1) pieces)) p
    (AppendedProperPrefix-append b c (f (get_or pieces i d)) (flat_map f (drop (i + 1) pieces)) q))
