use Rattle.mat_packing.proofs.Common.{◌≡◌, ◌∙◌, zero, suc, All, [], ◌∷◌, length, length-append, ap, arith, subst, sym, refl, All-append}
use Rattle.mat_packing.proofs.filling.references.Goals as goal

pub loop-init : goal.loop-init
loop-init g c = record {
  long = ap length c.new-copies.ensures.items;
  same = subst (All (λ r. r.now ≡ c.args.m.now)) (sym c.new-copies.ensures.items) (λ k d l. absurd (omega arith));
}

pub loop-preserved : goal.loop-preserved
loop-preserved g c = record {
  long = (let a = ap length c.in_ok-push.ensures.items in let b = length-append c.loop.copies.items (c.args.m ∷ []) in let k = c.loop.invariant.long in a ∙ b ∙ omega (arith, k));
  same = subst (All (λ r. r.now ≡ c.args.m.now)) (sym c.in_ok-push.ensures.items)
      (All-append (λ r. r.now ≡ c.args.m.now) c.loop.copies.items (c.args.m ∷ []) c.loop.invariant.same (one (λ r. r.now ≡ c.args.m.now) c.args.m refl));
}
  where
    one : {R : Type 0} (P : R → Type 0) (r : R) → P r → All P (r ∷ [])
    one P r h zero d l = h
    one P r h (suc k) d l = absurd (omega arith)

pub returns-clause-long : goal.returns-clause-long
returns-clause-long g c = c.loop.invariant.long ∙ omega (arith, c.loop-test.false, c.loop.auto.counter-end)

pub returns-clause-same : goal.returns-clause-same
returns-clause-same g c = c.loop.invariant.same
