use Rattle.mat_exchange.proofs.Common.{◌≡◌, ℕ, Bool, true, false, Option, None, Some, sym, ◌∙◌, arith, false≢true, is_member, IsNextFrom}
use Rattle.std.specs.Option.{is_some}
use Rattle.mat_exchange.proofs.partial_table.has_member.Goals as goal

none_passes : (test : ℕ → Bool) (found : Option ℕ) → IsNextFrom test 0 found → is_some found ≡ false → (x : ℕ) → test x ≡ false
none_passes test None none h x = none x (omega arith)
none_passes test (Some v) first h x = absurd (false≢true (sym h))

some_passes : (test : ℕ → Bool) (found : Option ℕ) → IsNextFrom test 0 found → is_some found ≡ true → (x : ℕ) × (test x ≡ true)
some_passes test None none h = absurd (false≢true h)
some_passes test (Some v) first h = (v, first.passes)

pub returns-clause-some : goal.returns-clause-some
returns-clause-some c = λ some. some_passes (λ x. is_member x c.args.set.now) c.next_from.result c.next_from.ensures (sym c.is_some.ensures ∙ some)

pub returns-clause-none : goal.returns-clause-none
returns-clause-none c = λ none. none_passes (λ x. is_member x c.args.set.now) c.next_from.result c.next_from.ensures (sym c.is_some.ensures ∙ none)
