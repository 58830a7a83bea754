use Rattle.mat_sets.proofs.Common.{rules, arith, ◌≡◌, ◌∙◌, ◌^◌, ◌/◌, ◌%◌, ◌-◌, ◌*◌, ◌++◌, ◌∷◌, [], replicate, one_shl}
use Rattle.mat_sets.proofs.Bits.{bits_of-full}
use Rattle.mat_sets.proofs.bit_set.BitSet.all_below.Goals as goal

pub returns : goal.returns
returns c =
    let shift : 1 * 2 ^ (c.args.n % 64) % 2 ^ 64 ≡ 2 ^ (c.args.n % 64) = one_shl (c.args.n % 64) 64 (omega arith) in
    let full : c.in_ok-words.words.items ≡ replicate (c.args.n / 64) (2 ^ 64 - 1) = search rules in
    let e : c.push.new.self.items ≡ replicate (c.args.n / 64) (2 ^ 64 - 1) ++ (2 ^ (c.args.n % 64) - 1) ∷ [] = c.in_ok-push.ensures.items
    ∙ rw (shift, full) in
    rw e (bits_of-full c.args.n)
