use Rattle.std.proofs.Common.{length}
use Rattle.mat_teams.specs.ExceptionLaws.{uniform_except-from, uniform_except-gives}
use Rattle.mat_teams.proofs.uniform_except.uniform_except_means.Goals as goal

pub returns : goal.returns
returns c = λ n circuit X.
    let uniform = c.uniform_sets_mean.ensures n (length circuit) X in (
      λ passes. (let parts = uniform_except-gives n circuit X passes in
          let set = uniform.0 parts.0 in (set.0, set.1, parts.1)),
      λ h. uniform_except-from n circuit X (uniform.1 (h.0, h.1)) h.2,
    )
