-- The shares of a team of workers: with one worker more, and after the work.
use Rattle.mat_ticket.proofs.Common.{◌≡◌, ℕ, suc, ◌+◌, ◌<◌, List, [], ◌∷◌, ◌++◌, length, get_or, refl, arith, sum_by-cons, sum_by_push, Worker, share_of}
use Rattle.std.specs.List.{sum_by}
use Rattle.mat_sets.proofs.EachItem.{AllByRecursion-push}

pub share_of-push : {X : Type 0} (ws : List (Worker X)) (w : Worker X) → sum_by share_of (ws ++ w ∷ []) ≡ sum_by share_of ws + share_of w
share_of-push ws w = sum_by_push share_of ws w

-- one worker more
pub ruleset more_workers = (share_of-push, AllByRecursion-push)

-- the same share at each place
pub same_shares : {X : Type 0} (vs ws : List (Worker X)) → length ws ≡ length vs
    → ((i : ℕ) (d : Worker X) → i < length vs → share_of (get_or ws i d) ≡ share_of (get_or vs i d)) → sum_by share_of ws ≡ sum_by share_of vs
same_shares [] [] e h = refl
same_shares [] (w ∷ ws) e h = absurd (omega arith)
same_shares (v ∷ vs) [] e h = absurd (omega arith)
same_shares (v ∷ vs) (w ∷ ws) e h =
    let first = h 0 v (omega arith) in
    let rest = same_shares vs ws (omega arith) (λ i d l. h (suc i) d (omega arith)) in
    omega (arith, sum_by-cons share_of v vs, sum_by-cons share_of w ws)
