use Rattle.mat_words.proofs.Common.{◌∙◌, ◌++◌, ◌∷◌, List, ap, arith, sym, ℕ}
use Rattle.mat_words.proofs.ShortNumbers.{one_digit, two_digits, three_digits}
use Rattle.mat_words.proofs.writing.put_small_word.Goals as goal

pub returns-in_ok-extend_from_slice-clause-ok : goal.returns-in_ok-extend_from_slice-clause-ok
returns-in_ok-extend_from_slice-clause-ok c =
    c.in_ok-extend_from_slice.ensures.items ∙ ap (λ (word : List ℕ). c.args.out.now.items ++ 32 ∷ word)
    (sym (one_digit c.args.number c.if-number-lt10.true))

pub returns-in_ok-extend_from_slice-2-clause-ok : goal.returns-in_ok-extend_from_slice-2-clause-ok
returns-in_ok-extend_from_slice-2-clause-ok c =
    c.in_ok-extend_from_slice-2.ensures.items ∙ ap (λ (word : List ℕ). c.args.out.now.items ++ 32 ∷ word)
    (sym (two_digits c.args.number (omega arith) c.if-number-lt100.true))

pub returns-in_ok-extend_from_slice-3-clause-ok : goal.returns-in_ok-extend_from_slice-3-clause-ok
returns-in_ok-extend_from_slice-3-clause-ok c =
    c.in_ok-extend_from_slice-3.ensures.items ∙ ap (λ (word : List ℕ). c.args.out.now.items ++ 32 ∷ word)
    (sym (three_digits c.args.number (omega arith) c.requires))
