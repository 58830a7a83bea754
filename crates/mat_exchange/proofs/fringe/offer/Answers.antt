use Rattle.mat_exchange.proofs.Common.{◌&&◌, ◌∙◌, sym, refl, eqb, ◌==◌, bits_of, is_member, weight_at, gain_at, IsOffered}
use Rattle.mat_exchange.proofs.Fringes.{offered_next, offered_same}
use Rattle.mat_exchange.proofs.fringe.offer.Goals as goal

pub loop-z-preserved : goal.loop-z-preserved
loop-z-preserved c =
    let z = c.in-Some.z in
    let f = gain_at c.args.inside (weight_at c.args.weights.now) c.args.x in
    let one : IsOffered (λ v. v == z) (λ v. c.gain_of-gain.result) c.loop-z.fringe.members (weight_at c.loop-z.fringe.gains)
    c.offer.new.self.members (weight_at c.offer.new.self.gains) = c.in_ok-offer.ensures.offered in
    record {
      length = c.offer.ensures.length ∙ c.loop-z.invariant.length;
      offered = offered_next (λ v. is_member v (bits_of c.args.candidates.now) && is_member v c.args.others.now) f c.loop-z.from z
          _ _ _ _ _ _ c.in-Some.ensures c.loop-z.invariant.offered
          (offered_same _ (λ v. eqb v z) _ (λ v. f z) _ _ _ _ (λ v. refl) (λ v. sym c.gain_of-gain.ensures) one);
    }
