-- The orders along which the matroid within a minor runs: an order without some elements, one after a set, and one turned round after all
-- other elements. No element stands twice in them, and each is below n.
use Rattle.mat_minors.proofs.Common.{◌≡◌, ℕ, Bool, false, not, List, [], ◌++◌, reverse, sym, ap, ◌∙◌, and_parts, both_ways, false_from_ne_true, not-true, or_left, is_member, IsRising, AllBelow, AreDistinct, minus, union, all_below, minus_parts, AreDistinct-filter, AllBelow-append, AllBelow-filter}
use Rattle.mat_minors.proofs.Common.{AllBelow-member, AllBelow-from_members, AreDistinct-rising, IsRising-all_below, IsSet-all_below, IsSet-minus, is_member-filter, is_member-union, IsRising-minus}
use Rattle.std.specs.List.{filter}
use Rattle.mat_sets.proofs.ListParts.{AreDistinct-append, AreDistinct-reverse, is_member-reverse}

-- ---- a set, and then an order without its members

pub after_below : (n : ℕ) (first xs : List ℕ) → AllBelow n first → AllBelow n xs
    → AllBelow n (first ++ filter (λ x. not (is_member x first)) xs)
after_below n first xs a b = AllBelow-append n first _ a (AllBelow-filter n (λ x. not (is_member x first)) xs b)

pub after_distinct : (first xs : List ℕ) → IsRising first → AreDistinct xs
    → AreDistinct (first ++ filter (λ x. not (is_member x first)) xs)
after_distinct first xs r d =
    let outside : ℕ → Bool = λ x. not (is_member x first) in
    AreDistinct-append first (filter outside xs) (AreDistinct-rising first r) (AreDistinct-filter outside xs d)
    (λ z m. false_from_ne_true _ (λ h.
    both_ways _ (not-true _ (and_parts (is_member z xs) (outside z) (sym (is_member-filter outside z xs) ∙ h)).1) m))

-- ---- all other elements, and then an order from its end

pub turned_below : (n : ℕ) (all xs : List ℕ) → AllBelow n xs → AllBelow n (minus (all_below n) all ++ reverse xs)
turned_below n all xs b = AllBelow-append n (minus (all_below n) all) (reverse xs) (IsSet-minus n (all_below n) all (IsSet-all_below n)).below
    (AllBelow-from_members n (reverse xs) (λ k m. AllBelow-member n xs k b (sym (is_member-reverse k xs) ∙ m)))

pub turned_distinct : (n : ℕ) (all xs : List ℕ) → all ≡ union xs [] → AreDistinct xs
    → AreDistinct (minus (all_below n) all ++ reverse xs)
turned_distinct n all xs is d = AreDistinct-append (minus (all_below n) all) (reverse xs)
    (AreDistinct-rising _ (IsRising-minus (all_below n) all (IsRising-all_below n))) (AreDistinct-reverse xs d)
    (λ z m. false_from_ne_true _ (λ h. both_ways _ (minus_parts (all_below n) all z m).1
    (ap (is_member z) is ∙ is_member-union z xs [] ∙ or_left (is_member z xs) false (sym (is_member-reverse z xs) ∙ h))))
