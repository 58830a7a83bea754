use Rattle.mat_witness.proofs.Common.{◌≡◌, [], map, length, sym, ap, ◌∙◌, arith, slice_eq-Decides, union}
use Rattle.std.proofs.lemmas.Bool.Decides.{Decides-eqb}
use Rattle.mat_witness.proofs.ListedMembers.{as_many}
use Rattle.mat_witness.proofs.parts.forests.lists_edges.Goals as goal

pub returns : goal.returns
returns c =
    let items = map (λ pair. pair.0) c.args.pairs.now in
    let set = c.in_ok-from_members.field-0 in
    let decides = slice_eq-Decides Decides-eqb set c.args.set.now c.eq-2.result c.eq-2.ensures in
    let made : set ≡ union items [] = c.in_ok-from_members.ensures.members ∙ ap (λ xs. union xs []) (c.deref.ensures.value ∙ c.in_ok-edges.ensures) in
    as_many items c.args.set.now c.eq-2.result c.len-2.ensures.rises
    (sym (ap length c.in_ok-edges.ensures) ∙ (omega (arith, c.len.ensures, c.len-2.ensures.count, c.if-len.false, c.in_ok-edges.edges.ok)))
    (λ h. sym made ∙ decides.0 h) (λ e. decides.1 (made ∙ e))
