use Rattle.mat_witness.proofs.Common.{◌≡◌, ℕ, ◌<◌, Bool, true, not, length, Option, None, Some, sym, ◌∙◌, is_some, MatchOption, not-false, not-true, IsFirstFrom, all_below, adds_up}
use Rattle.std.specs.List.{list_all}
use Rattle.mat_witness.proofs.PassingLists.{fails_below, passes_below}
use Rattle.mat_witness.proofs.verifier.priced.all_add_up.Goals as goal

-- no number below n is found that fails exactly where all pass
none_fails : (n : ℕ) (test : ℕ → Bool) (found : Option ℕ) (none : Bool)
    → MatchOption found ((e : ℕ) → e < n → test e ≡ true) (λ e. (e < n) × IsFirstFrom (λ x. not (test x)) 0 e)
    → is_some found ≡ not none → none ≡ list_all test (all_below n)
none_fails n test None none all e = not-false none (sym e) ∙ sym (passes_below n test all)
none_fails n test (Some x) none first e = not-true none (sym e) ∙ sym (fails_below n test x first.0 (not-true (test x) first.1.passes))

pub returns : goal.returns
returns c = none_fails (length c.args.weights.now) (adds_up c.args.first.now c.args.second.now c.args.weights.now) c.first_unsplit.result c.is_none.result
    c.first_unsplit.ensures c.is_none.ensures
