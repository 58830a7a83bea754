use Rattle.mat_exchange.proofs.Common.{◌≡◌, ℕ, Bool, ◌||◌, List, ap, ◌∙◌, arith, is_member, union, set_members, exchanges_in}
use Rattle.mat_exchange.proofs.unfinished_table.missing_rows.Goals as goal

all_four : (x : ℕ) (came left : List ℕ) (moved lost united adds all : Bool) → moved ≡ is_member x (union came left) → united ≡ (moved || lost)
    → all ≡ (united || adds) → all ≡ (is_member x came || is_member x left || lost || adds)
all_four x came left moved lost united adds all m u a = grind (arith, set_members)

with_adds : (united some adds : Bool) → some ≡ adds → (united || some) ≡ (united || adds)
with_adds united some adds h = ap (λ b. united || b) h

pub returns : goal.returns
returns c = λ x.
    all_four x c.args.came.now c.args.left.now _ (is_member x c.args.lost.now) _ ((exchanges_in c.args.table.now).adds x) _
    (ap (is_member x) (c.in_ok-missing.ensures.members ∙ c.in_ok-moved.ensures.members)) (c.in_ok-unite.ensures.ok x)
    (c.in_ok-unite-2.ensures.ok x ∙ with_adds _ _ _ (c.addable_elements.ensures.elements x))
