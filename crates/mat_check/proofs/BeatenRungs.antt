-- What is told of each rung whether it is beaten, one rung after the other.
use Rattle.mat_check.proofs.Common.{◌≡◌, ℕ, Bool, false, List, [], ◌∷◌, ◌++◌, length, Some, inl, inr, sym, ap, ◌∙◌, subst, arith, slice_get, cases_lt, get_or_append_left, get_or_push, length_push, same_Some, PricedRung, AreJudged, IsJudged, Side}

module _ (n : ℕ) (p : List ℕ → Bool) (side : Side) (rungs : List PricedRung) where
  pub none_told : AreJudged n p side rungs []
  none_told = λ k rung at inside. absurd (omega (arith, inside))

  -- one rung more
  pub one_more_told : (beaten more : List Bool) (b : Bool) (rung : PricedRung) → AreJudged n p side rungs beaten → more ≡ beaten ++ b ∷ []
      → slice_get rungs (length beaten) ≡ Some rung → IsJudged n p side rung b → AreJudged n p side rungs more
  one_more_told beaten more b rung told is at this =
      subst (AreJudged n p side rungs) (sym is) (λ k other here inside. elim (cases_lt k (length beaten)) [
        | inl l ↦ subst (IsJudged n p side other) (sym (get_or_append_left beaten (b ∷ []) false k l)) (told k other here l)
        | inr g ↦ (let last : k ≡ length beaten = omega (arith, g, inside, length_push beaten b) in
            let same : rung ≡ other = same_Some rung other (sym at ∙ ap (slice_get rungs) (sym last) ∙ here) in
            subst (IsJudged n p side other) (sym (get_or_push beaten b false k (sym last))) (subst (λ r. IsJudged n p side r b) same this))
      ])
