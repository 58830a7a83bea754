-- Members that are marked one after the other, and how many of them there are.
use Rattle.mat_witness.proofs.Common.{◌≡◌, ℕ, ◌+◌, ◌<◌, ◌≤◌, true, false, ◌||◌, List, length, get_or, take, ap, arith, length-take, is_member, intersection, with_one, set_members, intersection-more, is_member-take_more}
use Rattle.mat_sets.specs.Families.{indicator}
use Rattle.mat_count.proofs.ClassTables.{length-intersection}

-- one more mark
pub marked_more : (old marks set : List ℕ) (i x : ℕ) → i < length set → is_member x marks ≡ (is_member x old || is_member x (take i set))
    → is_member x (with_one marks (get_or set i 0)) ≡ (is_member x old || is_member x (take (i + 1) set))
marked_more old marks set i x inside before = let more = is_member-take_more set i x inside in grind (arith, set_members)

-- ---- the number of marked members

pub counted_next : (set marks : List ℕ) (i number : ℕ) → i < length set → number ≡ length (intersection (take i set) marks)
    → is_member (get_or set i 0) marks ≡ true → number + 1 ≡ length (intersection (take (i + 1) set) marks)
counted_next set marks i number inside before marked =
    let one = ap indicator marked in omega (arith, intersection-more set marks i inside)

pub counted_passed : (set marks : List ℕ) (i number : ℕ) → i < length set → number ≡ length (intersection (take i set) marks)
    → is_member (get_or set i 0) marks ≡ false → number ≡ length (intersection (take (i + 1) set) marks)
counted_passed set marks i number inside before free =
    let none = ap indicator free in omega (arith, intersection-more set marks i inside)

pub count_small : (set marks : List ℕ) (i : ℕ) → length (intersection (take i set) marks) ≤ i
count_small set marks i = omega (arith, length-intersection (take i set) marks, length-take i set)
