-- The arcs that are asked for their least cost are those that enter the last set of the path. Where there are some, a least one is spent and each
-- of them pays; where there are none, no arc enters the set.
use Rattle.mat_cuts.proofs.Common.{◌∙◌, length, ap, subst, sym, arith, ends_of, is_member, IsSet, comes, IsLeastOf, TellsLeastOf}
use Rattle.mat_cuts.proofs.Loops.{those-is, those-set, IsLeast-of, IsPaid-same}
use Rattle.mat_cuts.proofs.cheapest_tree.spend.Goals as goal

pub least_of-requires : goal.least_of-requires
least_of-requires c =
    let same = ap length c.as_slice-reduced.ensures.value ∙ c.requires.reduced in
    subst (λ n. IsSet n c.as_slice-entering.result.now) (sym same)
    (those-set _ _ c.as_slice-entering.result.now (c.as_slice-entering.ensures.value ∙ c.in_ok-coming.ensures))

pub pay-requires-clause-set : goal.pay-requires-clause-set
pay-requires-clause-set c =
    subst (λ n. IsSet n c.as_slice-entering.result.now) (sym c.requires.reduced)
    (those-set _ _ c.as_slice-entering.result.now (c.as_slice-entering.ensures.value ∙ c.in_ok-coming.ensures))

pub pay-requires-clause-least : goal.pay-requires-clause-least
pay-requires-clause-least c =
    let entering = c.as_slice-entering.result.now in
    subst (λ r. IsLeastOf entering r c.in-Some.a) c.as_slice-reduced.ensures.value
    (subst (TellsLeastOf entering c.as_slice-reduced.result.now) c.in-Some.is c.least_of.ensures)

pub returns-in_default : goal.returns-in_default
returns-in_default c = λ b l.
    let entering = c.as_slice-entering.result.now in
    let none = subst (TellsLeastOf entering c.as_slice-reduced.result.now) c.in_default.is c.least_of.ensures in
    sym (those-is _ _ entering (c.as_slice-entering.ensures.value ∙ c.in_ok-coming.ensures) b l) ∙ ap (is_member b) none

pub returns : goal.returns
returns c =
    let arcs = c.args.arcs.now in
    let path = c.args.path.now in
    let before = c.args.raised.now in
    let a = c.in-Some.a in
    let entering = c.as_slice-entering.result.now in
    let test = comes (ends_of arcs) path.place.items path.last in
    let those = c.as_slice-entering.ensures.value ∙ c.in_ok-coming.ensures in
    let least = subst (λ r. IsLeastOf entering r a) c.as_slice-reduced.ensures.value
    (subst (TellsLeastOf entering c.as_slice-reduced.result.now) c.in-Some.is c.least_of.ensures) in
    record {
      least = IsLeast-of (length arcs) test entering before.reduced.items a those least;
      paid = IsPaid-same (λ b. is_member b entering) test path.place.items path.last a before c.pay.new.raised
          (λ b l. those-is (length arcs) test entering those b (let same = c.requires.reduced in omega arith)) c.in_ok-pay.ensures;
    }
