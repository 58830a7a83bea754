use Rattle.mat_minors.proofs.Common.{◌≡◌, ℕ, List, Bool, [], IfOk-weaker, AreDistinct, grown_along, IsMatroid, is_truncated}
use Rattle.mat_minors.proofs.truncation.TruncationMatroid.run.Goals as goal

pub returns : goal.returns
returns g c =
    let order = c.args.order.now in
    let self = c.args.self.now in
    let p = g.M.Matroid.indep self.inner in
    IfOk-weaker c.first_taken.result
    (λ s. (n : ℕ) (q : List ℕ → Bool) → IsMatroid n q → AreDistinct order → c.in_ok-all.all ≡ grown_along q [] order
    → s ≡ grown_along (is_truncated self.cap q) [] order)
    (λ s. s ≡ grown_along (is_truncated self.cap p) [] order)
    (λ s told. told (g.M.Matroid.ground_size self.inner) p c.lawful.ensures c.requires.distinct c.in_ok-all.ensures)
    c.first_taken.ensures
