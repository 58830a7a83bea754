-- The levels of an answer are those of the distinct weights, falling, exactly where their weights are these, one by one.
use Rattle.mat_check.proofs.Common.{◌≡◌, ℕ, suc, ◌<◌, List, [], ◌∷◌, length, map, get_or, refl, sym, ap, ◌∙◌, subst, length-map, same_lists, get_or_default, falling_weights, weight_at, zero_weight, Weight, level_at, AreFalling, LevelLine, level_of}
use Rattle.mat_union.specs.declared.best.Level.{Level}
use Rattle.mat_union.proofs.FallingLevels.{are_falling, falling_are, level_weight, level_weights}

-- a level by its number; past the end no weight and no cut
abbrev pub line_at : List LevelLine → ℕ → LevelLine
line_at levels j = get_or levels j (record { at = zero_weight; cut = [] })

pub level_is : (levels : List LevelLine) (j : ℕ) → level_at (map level_of levels) j ≡ level_of (line_at levels j)
level_is (level ∷ levels) (suc j) = level_is levels j
level_is _ j = refl

module _ (w : List Weight) (levels : List LevelLine) where
  abbrev lines : List Level
  lines = map level_of levels

  count : length (level_weights lines) ≡ length levels
  count = length-map lines (λ level. level.at) ∙ length-map levels level_of

  weight_is : (j : ℕ) → weight_at (level_weights lines) j ≡ (line_at levels j).at
  weight_is j = sym (level_weight lines j) ∙ ap (λ level. level.at) (level_is levels j)

  pub falling_gives : AreFalling w lines
      → (length levels ≡ length (falling_weights w)) × ((j : ℕ) → (line_at levels j).at ≡ weight_at (falling_weights w) j)
  falling_gives f =
      let e = falling_are w lines f in
      (sym count ∙ ap length e, λ j. sym (weight_is j) ∙ ap (λ ws. weight_at ws j) e)

  pub falling_from : length levels ≡ length (falling_weights w)
      → ((j : ℕ) → j < length levels → (line_at levels j).at ≡ weight_at (falling_weights w) j) → AreFalling w lines
  falling_from long each = are_falling w lines (same_lists (level_weights lines) (falling_weights w) (count ∙ long) (λ j d l.
      let inside : j < length levels = subst (λ m. j < m) count l in
      get_or_default (level_weights lines) j d zero_weight l ∙ weight_is j ∙ each j inside
      ∙ get_or_default (falling_weights w) j zero_weight d (subst (λ m. j < m) long inside)))
