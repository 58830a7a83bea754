-- The value so far is that of the digits so far; a byte that is no digit refuses the word, and few digits keep the value small.
use Rattle.mat_words.proofs.Common.{◌<◌, ◌∙◌, length, get_or, refl, sym, arith, eq-eqb}
use Rattle.mat_words.proofs.BinaryLaws.{binary-binary_value, read_none, read_more, read_refused, read_done, digit_fits}
use Rattle.mat_words.proofs.binary.read_binary.Goals as goal

pub loop-byte-init : goal.loop-byte-init
loop-byte-init c = read_none c.args.word.now

pub returns-then-not-is_binary_digit-clause-value : goal.returns-then-not-is_binary_digit-clause-value
returns-then-not-is_binary_digit-clause-value c =
    let refused = sym c.is_binary_digit.ensures ∙ c.if-not-is_binary_digit.true in
    let unknown = read_refused c.args.word.now c.loop-byte.byte-index c.loop-byte.value c.loop-byte-test.true refused c.loop-byte.invariant in
    rw (eq-eqb (length c.args.word.now) c.args.digits c.if-word-digits.false, unknown) refl

pub overflow_mul-value : goal.overflow_mul-value
overflow_mul-value c =
    let digit = sym c.is_binary_digit.ensures ∙ c.if-not-is_binary_digit.false in
    let inside : c.loop-byte.byte-index < 128 = omega (arith, c.loop-byte-test.true, c.if-word-digits.false, c.requires) in
    let byte = get_or c.args.word.now c.loop-byte.byte-index 0 in
    omega (arith, digit_fits c.loop-byte.byte-index c.loop-byte.value byte inside c.loop-byte.invariant.below digit)

pub overflow_add-value : goal.overflow_add-value
overflow_add-value c =
    let digit = sym c.is_binary_digit.ensures ∙ c.if-not-is_binary_digit.false in
    let inside : c.loop-byte.byte-index < 128 = omega (arith, c.loop-byte-test.true, c.if-word-digits.false, c.requires) in
    let byte = get_or c.args.word.now c.loop-byte.byte-index 0 in
    omega (arith, c.from.ensures, digit_fits c.loop-byte.byte-index c.loop-byte.value byte inside c.loop-byte.invariant.below digit)

pub loop-byte-preserved : goal.loop-byte-preserved
loop-byte-preserved c =
    let digit = sym c.is_binary_digit.ensures ∙ c.if-not-is_binary_digit.false in
    rw c.from.ensures (read_more c.args.word.now c.loop-byte.byte-index c.loop-byte.value c.loop-byte-test.true digit c.loop-byte.invariant)

pub returns-clause-value : goal.returns-clause-value
returns-clause-value c =
    let done = read_done c.args.word.now c.loop-byte.byte-index c.loop-byte.value (omega (arith, c.loop-byte-test.false)) c.loop-byte.invariant in
    rw (eq-eqb (length c.args.word.now) c.args.digits c.if-word-digits.false, done.0, done.1) refl

pub returns-clause-range : goal.returns-clause-range
returns-clause-range c =
    let done = read_done c.args.word.now c.loop-byte.byte-index c.loop-byte.value (omega (arith, c.loop-byte-test.false)) c.loop-byte.invariant in
    rw done.1 (binary-binary_value c.args.digits c.args.word.now c.if-word-digits.false done.0).1
