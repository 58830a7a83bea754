use Rattle.mat_sets.proofs.Common.{Bool, true, false, refl, ◌≡◌, ◌&&◌, is_member}
use Rattle.mat_sets.proofs.Search.{IsNextFrom-same}
use Rattle.mat_sets.proofs.bit_set.BitSet.next_from.Goals as goal

both_same : (b : Bool) → (b && b) ≡ b
both_same true = refl
both_same false = refl

pub returns : goal.returns
returns c = IsNextFrom-same _ (λ x. is_member x c.args.self.now) c.args.from c.next_among.result
    (λ x. rw c.as_words.ensures (both_same (is_member x c.args.self.now))) c.next_among.ensures
