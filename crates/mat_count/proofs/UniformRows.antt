-- The exchanges at an independent set of a uniform matroid: an exchange leaves the number of elements as it is, so that every member can be
-- exchanged, and one more element fits exactly below the cap.
use Rattle.mat_count.proofs.Common.{◌≡◌, ℕ, ◌<◌, true, false, ◌&&◌, leb, ltb, List, length, sym, ap, ◌∙◌, arith, and_parts, and_from, is_member, with_one, without_one, IsSet, is_set, filter_whole, IsSet-without_one, IsSet-from_test, is_set-with_one, Exchange, row_of, row_outside, is_uniform}
use Rattle.std.proofs.lemmas.Bool.Decides.{nat_tests}
use Rattle.mat_sets.proofs.Cardinalities.{length-with_one, length-exchange_one}

-- one more element fits exactly below the cap
pub uniform-with_one : (n cap : ℕ) (I : List ℕ) (x : ℕ) → IsSet n I → x < n → is_member x I ≡ false
    → is_uniform n cap (with_one I x) ≡ ltb (length I) cap
uniform-with_one n cap I x set small outside =
    ap (λ b. b && leb (length (with_one I x)) cap) (is_set-with_one n I x set small)
    ∙ ap (λ k. leb k cap) (length-with_one I x set.rising outside) ∙ grind (arith, nat_tests)

-- each member can be exchanged
uniform-exchanged : (n cap : ℕ) (I : List ℕ) (x y : ℕ) → IsSet n I → leb (length I) cap ≡ true → x < n
    → is_member x I ≡ false → is_member y I ≡ true → is_uniform n cap (with_one (without_one I y) x) ≡ true
uniform-exchanged n cap I x y set most small outside inside =
    and_from (is_set n (with_one (without_one I y) x)) (leb (length (with_one (without_one I y) x)) cap)
    (is_set-with_one n (without_one I y) x (IsSet-without_one n I y set) small)
    (ap (λ k. leb k cap) (length-exchange_one I x y set.rising inside outside) ∙ most)

-- the row of an element outside
pub row_of_uniform : (n cap : ℕ) (I : List ℕ) (x : ℕ) (row : Exchange) → is_uniform n cap I ≡ true → x < n → is_member x I ≡ false
    → row.addable ≡ ltb (length I) cap → row.with ≡ I → row ≡ row_of (is_uniform n cap) I x
row_of_uniform n cap I x row passes small outside added exchanged =
    let tests = and_parts (is_set n I) (leb (length I) cap) passes in
    let set = IsSet-from_test n I tests.0 in
    row_outside (is_uniform n cap) I x row outside (added ∙ sym (uniform-with_one n cap I x set small outside))
    (exchanged ∙ sym (filter_whole (λ y. is_uniform n cap (with_one (without_one I y) x)) I
    (λ y m. uniform-exchanged n cap I x y set tests.1 small outside m)))
