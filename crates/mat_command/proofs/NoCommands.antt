-- Words that are no command: too few of them, or too many.
use Rattle.mat_command.proofs.Common.{◌≡◌, ◌<◌, ℕ, List, [], ◌∷◌, length, map, None, refl, arith}
use Rattle.mat_command.specs.CommandLines.{task_for, with_option}

pub no_arguments : {X : Type 0} (words_of : X → List ℕ) (command : List ℕ) (items : List X) → length items < 1
    → None ≡ task_for command (map words_of items)
no_arguments words_of command [] few = refl
no_arguments words_of command (x ∷ items) few = absurd (omega (arith, few))

pub many_arguments : {X : Type 0} (words_of : X → List ℕ) (command : List ℕ) (items : List X) → 4 < length items
    → None ≡ task_for command (map words_of items)
many_arguments words_of command (a ∷ b ∷ c ∷ d ∷ e ∷ items) many = refl
many_arguments words_of command items many = absurd (omega (arith, many))

pub no_option : {X : Type 0} (words_of : X → List ℕ) (command : List ℕ) (items : List X) → length items < 2
    → None ≡ with_option command (map words_of items)
no_option words_of command (x ∷ y ∷ items) few = absurd (omega (arith, few))
no_option words_of command items few = refl
