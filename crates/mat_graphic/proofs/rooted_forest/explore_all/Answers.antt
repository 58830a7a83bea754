-- All vertices so far are found, each by a search from it or from an earlier one.
use Rattle.mat_graphic.proofs.Common.{◌≡◌, true, inl, inr, length, subst, sym, arith, ◌∙◌, cases_lt, is_member, IsExploring}
use Rattle.mat_graphic.proofs.TrailScans.{IsFront-member}
use Rattle.mat_graphic.proofs.rooted_forest.explore_all.Goals as goal

pub loop-v-init : goal.loop-v-init
loop-v-init c =
    let told = c.in_ok-forest.ensures in
    let f = c.in_ok-forest.forest in
    record {
      long = told.long;
      exploring = subst (λ n. IsExploring c.args.firsts.now c.args.seconds.now c.args.set.now n (length f.order.items) f.place.items f.order.items
          f.through.items f.before.items) (sym told.long) (told.exploring c.args.firsts.now c.args.seconds.now c.args.set.now);
      found = λ k l. absurd (omega arith);
    }

pub loop-v-preserved : goal.loop-v-preserved
loop-v-preserved c =
    let told = c.in_ok-explore.ensures in
    let now = c.loop-v.invariant in
    record {
      long = told.long ∙ now.long;
      exploring = told.exploring;
      found = λ k l. elim (cases_lt k c.loop-v.v) [
        | inl less ↦ IsFront-member _ _ k told.front (now.found k less)
        | inr le ↦ subst (λ z. is_member z c.explore.new.forest.order.items ≡ true) (omega arith) told.found
      ];
    }

pub returns : goal.returns
returns c = λ ends rises a.
    let now = c.loop-v.invariant in
    record {
      long = now.long;
      found = λ v l. now.found v (omega (arith, c.loop-v-test.false));
      ordered = now.exploring.ordered;
      tree = now.exploring.tree ends rises a;
    }
