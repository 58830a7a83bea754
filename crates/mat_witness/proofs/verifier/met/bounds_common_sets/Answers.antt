-- Of the two parts one bounds the rank outside the cut, the other that of the cut; where both do, their sum is compared with the number.
use Rattle.mat_witness.proofs.Common.{◌≡◌, ℕ, ◌+◌, ◌<◌, ◌≤◌, Bool, ◌&&◌, if◌then◌else◌, leb, List, [], ◌∷◌, length, get_or, map, Some, None, sym, ap, ◌∙◌, subst, arith, cond_some, all_below, IsSet, minus, IsSet-all_below, IsSet-minus, Tree, element_count, tree_of, bound_of, shows_bound}
use Rattle.mat_witness.proofs.Common.{bounds_common_sets, bound_part, Most}
use Rattle.mat_witness.proofs.verifier.met.bounds_common_sets.Goals as goal

both_told : (a b : Bool) (x y m n last : ℕ) → Some x ≡ (if a then Some m else None) → Some y ≡ (if b then Some n else None)
    → leb (x + y) last ≡ (a && (b && leb (m + n) last))
both_told a b x y m n last e f =
    let first = cond_some a m x (sym e) in
    let second = cond_some b n y (sym f) in
    rw (first.0, second.0, first.1, second.1)

two_bounds : (first second : Tree) (n : ℕ) (cut outside : List ℕ) (last : ℕ) (parts : List Most) (part other : Most) (x y : ℕ)
    → 2 ≤ length parts → length parts < 3 → part ≡ get_or parts 0 part → other ≡ get_or parts 1 other → outside ≡ minus (all_below n) cut
    → Some x ≡ (if shows_bound first (bound_part part) outside then Some (bound_of first (bound_part part)) else None)
    → Some y ≡ (if shows_bound second (bound_part other) cut then Some (bound_of second (bound_part other)) else None)
    → leb (x + y) last ≡ bounds_common_sets first second n cut last (map bound_part parts)
two_bounds first second n cut outside last (p ∷ q ∷ []) part other x y most few at_part at_other is e f =
    both_told (shows_bound first (bound_part p) (minus (all_below n) cut)) (shows_bound second (bound_part q) cut) x y (bound_of first (bound_part p))
    (bound_of second (bound_part q)) last
    (e ∙ ap (λ s. if shows_bound first (bound_part part) s then Some (bound_of first (bound_part part)) else None) is
    ∙ ap (λ s. if shows_bound first (bound_part s) (minus (all_below n) cut) then Some (bound_of first (bound_part s)) else None) at_part)
    (f ∙ ap (λ s. if shows_bound second (bound_part s) cut then Some (bound_of second (bound_part s)) else None) at_other)
two_bounds first second n cut outside last _ part other x y most few at_part at_other is e f = absurd (omega arith)

pub bound_shown-requires-clause-set : goal.bound_shown-requires-clause-set
bound_shown-requires-clause-set c =
    let n = element_count (tree_of c.args.first.now) in
    let is : c.in_ok-outside.outside ≡ minus (all_below n) c.args.cut.now
    = c.in_ok-outside.ensures.members ∙ ap (λ a. minus a c.args.cut.now) (c.in_ok-all.ensures.members ∙ ap all_below c.size.ensures) in
    subst (IsSet n) (sym is) (IsSet-minus n (all_below n) c.args.cut.now (IsSet-all_below n))

pub returns : goal.returns
returns c =
    let n = element_count (tree_of c.args.first.now) in
    let is : c.in_ok-outside.outside ≡ minus (all_below n) c.args.cut.now
    = c.in_ok-outside.ensures.members ∙ ap (λ a. minus a c.args.cut.now) (c.in_ok-all.ensures.members ∙ ap all_below c.size.ensures) in
    two_bounds (tree_of c.args.first.now) (tree_of c.args.second.now) n c.args.cut.now c.in_ok-outside.outside c.args.last c.args.parts.now
    c.part-item.result c.other-item.result c.in-Some.here c.in-Some-2.there c.in-len2.len_at_least c.in-len2.len_below c.part-item.is
    c.other-item.is is (sym c.in-Some.is ∙ c.in_ok-here.ensures) (sym c.in-Some-2.is ∙ c.in_ok-there.ensures)
