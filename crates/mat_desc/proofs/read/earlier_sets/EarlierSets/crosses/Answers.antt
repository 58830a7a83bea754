use Rattle.mat_desc.proofs.Common.{sym, ◌∙◌, is_crossed-search}
use Rattle.mat_desc.proofs.read.earlier_sets.EarlierSets.crosses.Goals as goal

pub returns : goal.returns
returns c =
    let found = rw (c.requires.same, c.as_slice.ensures.value) at c.crossing_bits.ensures in
    rw (sym c.self.view_is)
    (c.is_some.ensures ∙ sym (is_crossed-search c.crossing_bits.result c.self.inside.sets.items c.args.next.now found))
