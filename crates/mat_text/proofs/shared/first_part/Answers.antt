use Rattle.std.proofs.Common.{◌≡◌, ◌∙◌, ℕ, ◌≤◌, List, length, arith, ap, sym}
use Rattle.std.proofs.lemmas.Bool.{false≢true}
use Rattle.mat_words.specs.NameLists.{names_of}
use Rattle.mat_text.specs.Shared.{part_at, those_with, IsShared}
use Rattle.mat_text.proofs.SharedParts.{more_bytes, shares_none}
use Rattle.mat_text.proofs.shared.first_part.Goals as goal

pub loop-count-preserved : goal.loop-count-preserved
loop-count-preserved c = λ part shared.
    let names = names_of c.args.names.now in
    let set = c.args.set.now in
    let not : set ≡ those_with names c.args.side (part_at c.args.side c.args.name.now c.loop-count.count) → ⊥ = λ same.
    false≢true (sym c.if-branch.false ∙ c.in_ok-are_exactly.ensures.1 (same ∙ ap (those_with names c.args.side) (sym c.part_at-part.ensures))) in
    more_bytes names set c.args.side part c.args.name.now c.loop-count.count c.requires.first not shared (c.loop-count.invariant part shared)

pub returns : goal.returns
returns c = λ part shared.
    let long : (p : List ℕ) → IsShared (names_of c.args.names.now) c.args.set.now c.args.side p → length c.args.name.now ≤ length p = λ p s.
    let least = c.loop-count.invariant p s in omega arith in
    shares_none (names_of c.args.names.now) c.args.set.now c.args.side c.args.name.now c.requires.first long part shared
