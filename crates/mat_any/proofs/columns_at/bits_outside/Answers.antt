use Rattle.mat_any.proofs.Common.{◌&&◌, not, ltb, ap, ◌∙◌, is_member, is_member-all_below}
use Rattle.mat_any.proofs.columns_at.bits_outside.Goals as goal

pub returns : goal.returns
returns c = λ x.
    c.remove_all.ensures x
    ∙ ap (λ b. b && not (is_member x c.in_ok-gone.gone)) (ap (is_member x) c.in_ok-outside.ensures ∙ is_member-all_below x c.args.n)
    ∙ ap (λ gone. ltb x c.args.n && not (is_member x gone)) c.in_ok-gone.ensures.members
