-- A search along tight arcs is stuck exactly where there is no tight path: a walk from a source stays among what the sources reach, and there is
-- no sink (Frank 1981).
use Rattle.mat_exchange.proofs.Common.{◌≡◌, ℕ, ◌↔◌, true, refl, false≢true, Weight, missed_goals_have_no_walk, is_heaviest_addable, is_tight, Exchanges, is_stuck, HasNoTightPath, IsFound, Found, Path, Stuck}

pub stuck_told : (n : ℕ) (first second : Exchanges) (w1 w2 : ℕ → Weight) (found : Found) → IsFound n first second w1 w2 found
    → (is_stuck found ≡ true) ↔ HasNoTightPath n first second w1 w2
stuck_told n first second w1 w2 (Path path) f = ((λ e. absurd (false≢true e)), λ none. absurd (none path.items f.walk))
stuck_told n first second w1 w2 (Stuck reach slack) f = (
  (λ _ path. missed_goals_have_no_walk n (is_tight first second w1 w2) (is_heaviest_addable n first w1) (is_heaviest_addable n second w2) reach path
      f.0.reached f.0.no_sink),
  λ _. refl,
)
