use Rattle.mat_words.proofs.Common.{refl, ◌≡◌, ◌∷◌, [], pos, drop, set, ap, ◌∙◌, arith, ℕ, List, ints, drop-set, drop_all}
use Rattle.mat_words.proofs.numbers.spell_into.Goals as goal

pub returns-then-n-eq0-clause-spelling : goal.returns-then-n-eq0-clause-spelling
returns-then-n-eq0-clause-spelling c =
    let zero : c.args.n ≡ pos 0 = grind (arith, ints, c.ranges.n) in
    let last : drop 39 (set c.args.buffer.now 39 48) ≡ 48 ∷ drop 40 c.args.buffer.now = drop-set c.args.buffer.now 39 48 (omega arith) in
    let end : drop 40 c.args.buffer.now ≡ [] = drop_all 40 c.args.buffer.now (omega arith) in
    last ∙ ap (λ (t : List ℕ). 48 ∷ t) end ∙ rw zero refl
