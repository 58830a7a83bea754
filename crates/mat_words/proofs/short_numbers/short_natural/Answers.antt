use Rattle.mat_words.proofs.Common.{◌≡◌, ◌∙◌, arith, get_or, length, pos, sym, take, get_or-take, length-take, numeral, value_of}
use Rattle.mat_words.proofs.ShortNumbers.{digits_apart, digits_numeral}
use Rattle.mat_words.proofs.short_numbers.short_natural.Goals as goal

pub left_behind-requires-clause-one_word : goal.left_behind-requires-clause-one_word
left_behind-requires-clause-one_word c = λ k lt. digits_apart c.args.line.now c.leading_digits-n.result.1 k c.leading_digits-n.ensures.digits
    c.leading_digits-n.ensures.within lt

pub returns-clause-word : goal.returns-clause-word
returns-clause-word c =
    let line = c.args.line.now in
    let count = c.leading_digits-n.result.1 in
    let front = take count line in
    let whole : length front ≡ count = omega (arith, length-take count line, c.leading_digits-n.ensures.within) in
    let some = c.are_numeral.ensures.some c.if-not-are_numeral.false in
    let first : get_or front 0 0 ≡ get_or line 0 0 = get_or-take count line 0 0 some in
    let spelled : numeral (pos (value_of front)) ≡ front = digits_numeral front c.leading_digits-n.ensures.digits (omega arith)
    (λ zero. omega (arith, c.are_numeral.ensures.alone c.if-not-are_numeral.false (sym first ∙ zero), whole)) in
    rw (c.leading_digits-n.ensures.value, spelled) c.in_ok-rest.ensures
