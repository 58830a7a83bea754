use Rattle.mat_union.proofs.Common.{◌≡◌, ◌<◌, map, subst, sym, IfOk, Exchange, row_of, AreKeptParts, union_test}
use Rattle.mat_union.proofs.SoundMatroids.{sound_slice}
use Rattle.mat_union.proofs.union_of.UnionOfMatroid.row.Goals as goal

pub row_of_parts-requires-clause-sound : goal.row_of_parts-requires-clause-sound
row_of_parts-requires-clause-sound g c =
    sound_slice g.M.Matroid.ground_size g.M.Matroid.sound c.as_slice.ensures.value c.size-n.ensures c.requires.sound

pub row_of_parts-requires-clause-kept : goal.row_of_parts-requires-clause-kept
row_of_parts-requires-clause-kept g c =
    subst (λ m. AreKeptParts g.M.Matroid.indep g.M.Matroid.keeps m c.args.base.now c.args.kept.now.parts c.args.kept.now.kept.items) (sym c.as_slice.ensures.value) c.requires.kept.1

pub row_of_parts-requires-clause-below : goal.row_of_parts-requires-clause-below
row_of_parts-requires-clause-below g c = subst (λ k. c.args.x < k) (sym c.size-n.ensures) c.requires.below

pub returns : goal.returns
returns g c =
    let items = c.args.self.now.parts.items in
    let indep = g.M.Matroid.indep in
    let slice = c.as_slice.result.now in
    let r = c.row_of_parts.result in
    record {
      row = subst (λ k. IfOk r (λ (e : Exchange). e ≡ row_of (union_test k (map indep items)) c.args.base.now c.args.x)) c.size-n.ensures
          (subst (λ m. IfOk r (λ (e : Exchange). e ≡ row_of (union_test c.size-n.result (map indep m)) c.args.base.now c.args.x)) c.as_slice.ensures.value c.row_of_parts.ensures.row);
      rises = c.row_of_parts.ensures.rises;
    }
