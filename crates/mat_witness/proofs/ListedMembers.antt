-- A list has the members of a set, each once, exactly where it has as many items and the set of its items is this one.
use Rattle.mat_witness.proofs.Common.{◌≡◌, ℕ, ◌≤◌, Bool, true, ◌&&◌, ◌==◌, get_or, List, [], ◌∷◌, length, refl, sym, ap, ◌∙◌, arith, and_from, and_parts, eqb-true, eq-eqb, is_member, IsRising, IsSubset, AreDistinct, union, are_distinct, AreDistinct-length, is_member-items, items-rise}
use Rattle.mat_witness.proofs.Common.{length-distinct, is_member-get_or, are_distinct-from, are_distinct-gives, same_size_subset, same_truth, lists_members}
use Rattle.std.specs.List.{list_all}
use Rattle.mat_witness.proofs.PassingLists.{member_passes, passes_each}

-- ---- tests of each item

pub list_all-from : (test : ℕ → Bool) (xs : List ℕ) → ((x : ℕ) → is_member x xs ≡ true → test x ≡ true) → list_all test xs ≡ true
list_all-from test xs h = passes_each test xs (λ i l. h (get_or xs i 0) (is_member-get_or xs i (get_or xs i 0) l refl))

-- ---- the members of a set

pub set_of_members : (items X : List ℕ) → IsRising X → lists_members items X ≡ true → union items [] ≡ X
set_of_members items X r h =
    let parts = and_parts (are_distinct items) ((length items == length X) && list_all (λ x. is_member x X) items) h in
    let rest = and_parts (length items == length X) (list_all (λ x. is_member x X) items) parts.1 in
    same_size_subset (union items []) X (items-rise items) r
    (record { inside = λ z m. member_passes (λ x. is_member x X) items z rest.1 (sym (is_member-items z items) ∙ m) })
    (omega (arith, length-distinct items (are_distinct-gives items parts.0), eqb-true (length items) (length X) rest.0))

-- all members are listed
pub all_listed : (items X : List ℕ) → IsRising X → lists_members items X ≡ true → IsSubset X items
all_listed items X r h = record { inside = λ z m. sym (is_member-items z items) ∙ (ap (is_member z) (set_of_members items X r h) ∙ m) }

pub lists_members-from : (items X : List ℕ) → AreDistinct items → length items ≡ length X
    → ((z : ℕ) → is_member z items ≡ true → is_member z X ≡ true) → lists_members items X ≡ true
lists_members-from items X d long inside =
    and_from (are_distinct items) ((length items == length X) && list_all (λ x. is_member x X) items) (are_distinct-from items d)
    (and_from (length items == length X) (list_all (λ x. is_member x X) items) (eq-eqb _ _ long)
    (list_all-from (λ x. is_member x X) items inside))

-- ---- as it is tested

pub as_many : (items X : List ℕ) (same : Bool) → IsRising X → length items ≡ length X → (same ≡ true → union items [] ≡ X)
    → (union items [] ≡ X → same ≡ true) → same ≡ lists_members items X
as_many items X same r long gives from =
    same_truth same (lists_members items X)
    (λ h. let e = gives h in lists_members-from items X (AreDistinct-length items (omega (arith, ap length e))) long
    (λ z m. sym (ap (is_member z) e) ∙ (is_member-items z items ∙ m)))
    (λ h. from (set_of_members items X r h))
