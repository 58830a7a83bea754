use Rattle.mat_flow.proofs.Common.{◌≡◌, ◌∙◌, ap, length, replicate, rules, sym, ltb-true, length-replicate, is_member, is_member-all_below}
use Rattle.mat_flow.proofs.seeking.SearchRoom.new.Goals as goal

pub returns-clause-room : goal.returns-clause-room
returns-clause-room c =
    let zeros : c.in_ok-before.before.items ≡ replicate c.args.n 0 = search rules in
    record {
      few = c.ranges.n.fits;
      below = λ v m. ltb-true v c.args.n (sym (is_member-all_below v c.args.n) ∙ sym (ap (is_member v) c.in_ok-live.ensures) ∙ m);
      long = ap length zeros ∙ length-replicate c.args.n 0;
    }
