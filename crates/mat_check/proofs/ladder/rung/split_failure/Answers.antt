-- The clauses come in turn: the sums of the halves, then whether the set is beaten under the first half, then under the second.
use Rattle.mat_check.proofs.Common.{◌≡◌, ◌∙◌, ℕ, Bool, List, ap, length, map, sym, all_below, weight_at, Weight, is_beaten, is_independent, tree_of, sum_clause}
use Rattle.mat_check.proofs.SplitFailures.{first_beats, none_beats, second_beats, sum_fails}
use Rattle.mat_check.proofs.ladder.rung.split_failure.Goals as goal

-- what is told of as many elements as a matroid has is told of as many as there are weights
told_of_count : {n m : ℕ} {b : Bool} (p : List ℕ → Bool) (half : List Weight) (set : List ℕ) → n ≡ m
    → b ≡ is_beaten m p (weight_at half) set → b ≡ is_beaten n p (weight_at half) set
told_of_count p half set same told = told ∙ ap (λ k. is_beaten k p (weight_at half) set) (sym same)

pub returns-in-Some : goal.returns-in-Some
returns-in-Some c =
    let pair = c.args.pair.now in
    let rung = c.args.rung.now in
    sum_fails (map (sum_clause pair.weights.now c.args.k rung.first rung.second) (all_below (length pair.weights.now))) (length pair.weights.now)
    (is_independent (tree_of pair.first.now)) (is_independent (tree_of pair.second.now)) rung.first rung.second c.args.k rung.set c.in-Some.failure
    (sym (rw (c.as_slice-first_half.ensures, c.as_slice-second_half.ensures) at c.sum_failure.ensures) ∙ c.in-Some.is)

pub returns-then-first_beaten : goal.returns-then-first_beaten
returns-then-first_beaten c =
    let pair = c.args.pair.now in
    let rung = c.args.rung.now in
    rw c.at.ensures (first_beats (map (sum_clause pair.weights.now c.args.k rung.first rung.second) (all_below (length pair.weights.now)))
    (length pair.weights.now) (is_independent (tree_of pair.first.now)) (is_independent (tree_of pair.second.now)) rung.first rung.second c.args.k
    rung.set (sym (rw (c.as_slice-first_half.ensures, c.as_slice-second_half.ensures) at c.sum_failure.ensures) ∙ c.in_default.is)
    (sym (told_of_count (is_independent (tree_of pair.first.now)) rung.first rung.set c.requires.first_lengths
    (c.requires.first_told c.requires.first_passes)) ∙ c.if-first_beaten.true))

pub returns-then-second_beaten : goal.returns-then-second_beaten
returns-then-second_beaten c =
    let pair = c.args.pair.now in
    let rung = c.args.rung.now in
    rw c.at-then-second_beaten.ensures (second_beats (map (sum_clause pair.weights.now c.args.k rung.first rung.second)
    (all_below (length pair.weights.now))) (length pair.weights.now) (is_independent (tree_of pair.first.now))
    (is_independent (tree_of pair.second.now)) rung.first rung.second c.args.k rung.set
    (sym (rw (c.as_slice-first_half.ensures, c.as_slice-second_half.ensures) at c.sum_failure.ensures) ∙ c.in_default.is)
    (sym (told_of_count (is_independent (tree_of pair.first.now)) rung.first rung.set c.requires.first_lengths
    (c.requires.first_told c.requires.first_passes)) ∙ c.if-first_beaten.false)
    (sym (told_of_count (is_independent (tree_of pair.second.now)) rung.second rung.set c.requires.second_lengths
    (c.requires.second_told c.requires.second_passes)) ∙ c.if-second_beaten.true))

pub returns : goal.returns
returns c =
    let pair = c.args.pair.now in
    let rung = c.args.rung.now in
    none_beats (map (sum_clause pair.weights.now c.args.k rung.first rung.second) (all_below (length pair.weights.now))) (length pair.weights.now)
    (is_independent (tree_of pair.first.now)) (is_independent (tree_of pair.second.now)) rung.first rung.second c.args.k rung.set
    (sym (rw (c.as_slice-first_half.ensures, c.as_slice-second_half.ensures) at c.sum_failure.ensures) ∙ c.in_default.is)
    (sym (told_of_count (is_independent (tree_of pair.first.now)) rung.first rung.set c.requires.first_lengths
    (c.requires.first_told c.requires.first_passes)) ∙ c.if-first_beaten.false)
    (sym (told_of_count (is_independent (tree_of pair.second.now)) rung.second rung.set c.requires.second_lengths
    (c.requires.second_told c.requires.second_passes)) ∙ c.if-second_beaten.false)
