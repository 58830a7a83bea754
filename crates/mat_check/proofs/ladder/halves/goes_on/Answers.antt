use Rattle.mat_check.proofs.Common.{◌<◌, ◌-◌, length, slice_index_or, refl, sym, ◌∙◌, arith, slice_get_read, same_gives, same_from}
use Rattle.std.proofs.lemmas.Slice.Eq.{slice_eq-Decides}
use Rattle.mat_check.proofs.RangedHalves.{half_at-read, some_items}
use Rattle.mat_check.proofs.ladder.halves.goes_on.Goals as goal

pub returns-clause-same : goal.returns-clause-same
returns-clause-same c = λ h.
    let rungs = c.args.rungs.now in
    let last = slice_index_or c.args.listed.now (length c.args.listed.now - 1) 0 in
    let some : 0 < length c.args.listed.now = some_items (length c.args.listed.now) (sym c.is_empty.ensures ∙ c.if-is_empty.false) in
    let inside : last < length rungs = c.requires.listed (length c.args.listed.now - 1) (omega (arith, some)) in
    let same = (slice_eq-Decides (λ a b. (same_gives a b, same_from a b)) c.half.result.now c.half-2.result.now c.eq.result c.eq.ensures).0 h in
    half_at-read c.args.side rungs last c.index-rungs-last.result (slice_get_read rungs _ last _ refl inside c.index-rungs-last.is)
    ∙ sym c.half.ensures ∙ same ∙ c.half-2.ensures
    ∙ sym (half_at-read c.args.side rungs c.args.k c.index-rungs-k.result (slice_get_read rungs _ c.args.k _ refl c.requires.below c.index-rungs-k.is))
