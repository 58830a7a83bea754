use Rattle.mat_minors.proofs.Common.{◌&&◌, ltb, ap, ◌∙◌}
use Rattle.mat_minors.proofs.MinorRows.{truncated_row}
use Rattle.mat_minors.proofs.truncation.TruncationMatroid.row.Goals as goal

pub returns-clause-row : goal.returns-clause-row
returns-clause-row g c =
    truncated_row (g.met.M.Matroid.laws c.args.self.now.inner c.requires.sound) c.args.self.now.cap c.args.base.now c.args.x c.in_ok-inner.inner _ c.requires.base c.requires.outside
    c.in_ok-inner.ensures.row (c.addable_where.ensures.addable ∙ ap (λ k. c.in_ok-inner.inner.addable && ltb k c.args.self.now.cap) c.len.ensures.count) c.addable_where.ensures.with
