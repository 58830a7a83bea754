-- Where u can be exchanged for v, v can be added, or only exchanged: the first such v is the earlier of the first of both sorts. Where u
-- outweighs each element that can be added, none of these weighs as much.
use Rattle.mat_exchange.proofs.Common.{◌≡◌, ◌&&◌, ◌||◌, ◌∙◌, ℕ, Bool, true, false, not, Option, None, Some, refl, sym, ap, arith, both_ways, false_from_ne_true, ints, bits_of, is_member, ◌≺◌, ◌≼◌, is_same, weight_at, Weight, below_gives, pairs, same_gives, IsHeaviestWeightOrNone, is_above}
use Rattle.mat_exchange.proofs.Common.{exchanges_in}
use Rattle.mat_sets.proofs.Search.{IsNextFrom-same}
use Rattle.mat_exchange.proofs.Fringes.{whole_test}
use Rattle.mat_exchange.proofs.tight_arcs.next_in_column.Goals as goal

spread : (a b s : Bool) → ((a || b) && s) ≡ ((a && s) || (b && s))
spread a b s = grind arith

pub returns : goal.returns
returns c =
    let u = c.args.u in
    let ex = exchanges_in c.args.table.now in
    let o : ℕ → Bool = λ v. is_member v c.args.among.now in
    let s : ℕ → Bool = λ v. is_same (weight_at c.args.weights.now u) (weight_at c.args.weights.now v) in
    let here = sym c.contains.ensures ∙ c.if-not-contains.false in
    let one : ℕ → Bool = λ v. (is_member v (bits_of c.rest_of_column.result.now) && o v) && s v in
    let two : ℕ → Bool = λ v. (is_member v (bits_of c.as_words-addable.result.now) && o v) && s v in
    IsNextFrom-same (λ v. one v || two v) (λ v. (ex.trades u v && o v) && s v) c.args.from c.earlier.result
    (λ v. sym (ap (λ b. b && s v) (whole_test (ex.adds v) (ex.trades u v) (o v) (λ a. sym (c.base.ensures u v a) ∙ here)
    ∙ ap (λ b. (b && o v) || (ex.adds v && o v)) (sym (c.rest_of_column.ensures v))
    ∙ ap (λ b. (is_member v (bits_of c.rest_of_column.result.now) && o v) || (b && o v))
    (sym (ap (is_member v) c.as_words-addable.ensures ∙ c.addable_elements.ensures.elements v)))
    ∙ spread (is_member v (bits_of c.rest_of_column.result.now) && o v) (is_member v (bits_of c.as_words-addable.result.now) && o v) (s v)))
    (c.earlier.ensures one two c.args.from c.next_equal-rest.ensures c.next_equal.ensures)

-- one that can be added weighs less than u
lighter : (adds : ℕ → Bool) (w : ℕ → Weight) (top : Option Weight) (u v : ℕ) → IsHeaviestWeightOrNone adds w top
    → is_above (w u) top ≡ true → adds v ≡ true → is_same (w u) (w v) ≡ false
lighter adds w None u v h above a = absurd (both_ways _ (h v) a)
lighter adds w (Some t) u v h above a =
    false_from_ne_true (is_same (w u) (w v)) (λ s. apart (w u) (w v) t (same_gives (w u) (w v) s) (h.most v a) (below_gives t (w u) above))
  where
    apart : (p q t : Weight) → p ≡ q → q ≼ t → t ≺ p → ⊥
    apart p q t e le lt = omega (arith, ints, pairs)

passed : (a t o s : Bool) → (a ≡ true → s ≡ false) → ((t && o) && s) ≡ (((not a && t) && o) && s)
passed true t o s h = none (t && o) s (h refl)
  where
    none : (b s : Bool) → s ≡ false → (b && s) ≡ false
    none true s k = k
    none false s k = refl
passed false t o s h = refl

pub returns-then-outweighs : goal.returns-then-outweighs
returns-then-outweighs c =
    let u = c.args.u in
    let ex = exchanges_in c.args.table.now in
    let w = weight_at c.args.weights.now in
    let o : ℕ → Bool = λ v. is_member v c.args.among.now in
    let s : ℕ → Bool = λ v. is_same (w u) (w v) in
    IsNextFrom-same (λ v. (is_member v (bits_of c.rest_of_column.result.now) && o v) && s v) (λ v. (ex.trades u v && o v) && s v) c.args.from
    c.next_equal-rest.result
    (λ v. sym (passed (ex.adds v) (ex.trades u v) (o v) (s v) (λ a. lighter ex.adds w c.args.top u v c.requires.top (sym c.outweighs.ensures ∙ c.if-outweighs.true) a)
    ∙ ap (λ b. (b && o v) && s v) (sym (c.rest_of_column.ensures v))))
    c.next_equal-rest.ensures
