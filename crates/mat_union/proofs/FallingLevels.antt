-- Levels are those of the distinct weights, falling, exactly where their weights are these, one by one.
use Rattle.mat_union.proofs.Common.{◌≡◌, ℕ, suc, ◌<◌, List, [], ◌∷◌, length, map, refl, sym, ap, ◌∙◌, subst, length-map, falling_weights, weight_at, ◌≺◌, Weight, same_falling, falling_weights-Falls, falling_weights-gives, falling_weights-holds, Falls-at, Falls-places, IsIn, IsIn-place, place-IsIn}
use Rattle.mat_union.proofs.Common.{level_at, AreFalling, Level}

-- the weights of the levels
abbrev pub level_weights : List Level → List Weight
level_weights levels = map (λ level. level.at) levels

pub level_weight : (levels : List Level) (j : ℕ) → (level_at levels j).at ≡ weight_at (level_weights levels) j
level_weight (level ∷ levels) (suc j) = level_weight levels j
level_weight _ j = refl

two_below : (a b c d : Weight) → a ≡ b → c ≡ d → a ≺ c → b ≺ d
two_below a b c d e f l = subst (λ u. b ≺ u) f (subst (λ u. u ≺ c) e l)

module _ (w : List Weight) (levels : List Level) where
  abbrev ats : List Weight
  ats = level_weights levels

  count : length ats ≡ length levels
  count = length-map levels (λ level. level.at)

  pub falling_are : AreFalling w levels → ats ≡ falling_weights w
  falling_are f = same_falling ats (falling_weights w)
      (Falls-places ats (λ i j h l. two_below _ _ _ _ (level_weight levels j) (level_weight levels i) (f.falling i j h (subst (λ m. j < m) count l))))
      (falling_weights-Falls w) to_falling from_falling
    where
      to_falling : (t : Weight) → IsIn t ats → IsIn t (falling_weights w)
      to_falling t h =
          let p = IsIn-place t ats h in
          let x = f.given p.0 (subst (λ m. p.0 < m) count p.1) in
          falling_weights-holds t w (subst (λ u. IsIn u w) (x.2 ∙ level_weight levels p.0 ∙ p.2) (place-IsIn w x.0 x.1))

      from_falling : (t : Weight) → IsIn t (falling_weights w) → IsIn t ats
      from_falling t h =
          let p = IsIn-place t w (falling_weights-gives t w h) in
          let j = f.all p.0 p.1 in
          subst (λ u. IsIn u ats) (sym (level_weight levels j.0) ∙ j.2 ∙ p.2) (place-IsIn ats j.0 (subst (λ m. j.0 < m) (sym count) j.1))

  pub are_falling : ats ≡ falling_weights w → AreFalling w levels
  are_falling e = record {
    falling = λ i j h l. two_below _ _ _ _ (sym (in_falling j)) (sym (in_falling i))
        (Falls-at (falling_weights w) (falling_weights-Falls w) i j h (subst (λ m. j < m) (sym count ∙ ap length e) l));
    given = λ j l.
        let at : IsIn (weight_at ats j) ats = place-IsIn ats j (subst (λ m. j < m) (sym count) l) in
        let p = IsIn-place (weight_at ats j) w (falling_weights-gives (weight_at ats j) w (subst (IsIn (weight_at ats j)) e at)) in
        (p.0, p.1, p.2 ∙ sym (level_weight levels j));
    all = λ x l.
        let p = IsIn-place (weight_at w x) ats (subst (IsIn (weight_at w x)) (sym e) (falling_weights-holds (weight_at w x) w (place-IsIn w x l))) in
        (p.0, subst (λ m. p.0 < m) count p.1, level_weight levels p.0 ∙ p.2);
  }
    where
      in_falling : (j : ℕ) → (level_at levels j).at ≡ weight_at (falling_weights w) j
      in_falling j = level_weight levels j ∙ ap (λ ws. weight_at ws j) e
