-- Equal tests have the same ladders.
use Rattle.mat_check.proofs.Common.{◌≡◌, ℕ, Bool, List, ap, ◌∙◌, Weight, PricedRung, ladder_clauses}

pub same_ladder : (n m : ℕ) (p q first second : List ℕ → Bool) (w : List Weight) (rungs : List PricedRung) (cut : List ℕ)
    → n ≡ m → p ≡ first → q ≡ second → ladder_clauses n p q w rungs cut ≡ ladder_clauses m first second w rungs cut
same_ladder n m p q first second w rungs cut size f s =
    ap (λ (k : ℕ). ladder_clauses k p q w rungs cut) size
    ∙ ap (λ (t : List ℕ → Bool). ladder_clauses m t q w rungs cut) f
    ∙ ap (λ (t : List ℕ → Bool). ladder_clauses m first t w rungs cut) s
