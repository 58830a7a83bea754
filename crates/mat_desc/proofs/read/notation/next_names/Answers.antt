-- What is left to read is the same function at the next word: it fails where there is no word, where the word is too long, and where it is a name
-- already, and else goes on with one name more.
use Rattle.mat_desc.proofs.Common.{◌≡◌, ◌+◌, true, false, [], ◌∷◌, ◌++◌, length, refl, sym, ap, ◌∙◌, nat_lt, lt-ltb, le-ltb, not-true, not-false, length_push, err_from_is_err_and, words_left, names_of, longest_name, is_among, is_name-short, word_found, names_from}
use Rattle.mat_desc.proofs.NotationLaws.{words_cut, names_next, names_fail, names_done}
use Rattle.mat_desc.proofs.read.notation.next_names.Goals as goal

pub returns-in_err-word : goal.returns-in_err-word
returns-in_err-word c =
    let p = err_from_is_err_and c.from_residual.result c.from_residual.ensures.1 in
    rw (p.1, p.2) (names_fail c.args.many c.loop.counter (names_of c.loop.names) (words_left c.loop.rest)
    (names_from c.args.many [] (words_left c.args.words)) c.loop.invariant.0 c.in_err-word.field-0.0 c.loop-test.true
    c.in_err-word.ensures.value)

pub returns-then-word-gt-LONGEST_NAME : goal.returns-then-word-gt-LONGEST_NAME
returns-then-word-gt-LONGEST_NAME c =
    let long : nat_lt longest_name (length c.in_ok-word.word.now) ≡ true = lt-ltb longest_name (length c.in_ok-word.word.now)
    c.if-word-gt-LONGEST_NAME.true in
    rw c.fault.ensures
    (names_next c.args.many c.loop.counter (names_of c.loop.names) (words_left c.loop.rest)
    (names_from c.args.many [] (words_left c.args.words)) c.loop.invariant.0 c.in_ok-word.word.now (words_left c.in_ok-word.after)
    c.loop-test.true c.in_ok-word.ensures.value ∙ rw long refl)

pub add-requires-clause-name : goal.add-requires-clause-name
add-requires-clause-name c =
    let cut = word_found (words_left c.loop.rest) c.in_ok-word.word.now (words_left c.in_ok-word.after) c.in_ok-word.ensures.value in
    let parts = words_cut (words_left c.loop.rest).words c.in_ok-word.word.now (words_left c.in_ok-word.after).words cut
    c.loop.invariant.1 in
    is_name-short c.in_ok-word.word.now parts.0 (le-ltb longest_name (length c.in_ok-word.word.now) c.if-word-gt-LONGEST_NAME.false)

pub returns-then-not-branch : goal.returns-then-not-branch
returns-then-not-branch c =
    let short : nat_lt longest_name (length c.in_ok-word.word.now) ≡ false = le-ltb longest_name (length c.in_ok-word.word.now)
    c.if-word-gt-LONGEST_NAME.false in
    let there : is_among (names_of c.loop.names) c.in_ok-word.word.now ≡ true =
    not-false _ (sym c.in_ok-add.ensures.added ∙ c.if-not-branch.true) in
    rw c.fault-then-not-branch.ensures
    (names_next c.args.many c.loop.counter (names_of c.loop.names) (words_left c.loop.rest)
    (names_from c.args.many [] (words_left c.args.words)) c.loop.invariant.0 c.in_ok-word.word.now (words_left c.in_ok-word.after)
    c.loop-test.true c.in_ok-word.ensures.value ∙ rw (short, there) refl)

pub loop-preserved : goal.loop-preserved
loop-preserved c =
    let short : nat_lt longest_name (length c.in_ok-word.word.now) ≡ false = le-ltb longest_name (length c.in_ok-word.word.now)
    c.if-word-gt-LONGEST_NAME.false in
    let missing : is_among (names_of c.loop.names) c.in_ok-word.word.now ≡ false =
    not-true _ (sym c.in_ok-add.ensures.added ∙ c.if-not-branch.false) in
    let cut = word_found (words_left c.loop.rest) c.in_ok-word.word.now (words_left c.in_ok-word.after) c.in_ok-word.ensures.value in
    let parts = words_cut (words_left c.loop.rest).words c.in_ok-word.word.now (words_left c.in_ok-word.after).words cut
    c.loop.invariant.1 in
    let pushed : names_of c.add.new.self ≡ names_of c.loop.names ++ c.in_ok-word.word.now ∷ [] =
    c.in_ok-add.ensures.names ∙ rw missing refl in (
      rw pushed (sym (names_next c.args.many c.loop.counter (names_of c.loop.names) (words_left c.loop.rest)
          (names_from c.args.many [] (words_left c.args.words)) c.loop.invariant.0 c.in_ok-word.word.now (words_left c.in_ok-word.after)
          c.loop-test.true c.in_ok-word.ensures.value ∙ rw (short, missing) refl)),
      parts.1,
      ap length pushed ∙ length_push (names_of c.loop.names) c.in_ok-word.word.now ∙ ap (λ n. n + 1) c.loop.invariant.2,
    )

pub returns : goal.returns
returns c =
    names_done c.args.many c.loop.counter (names_of c.loop.names) (words_left c.loop.rest)
    (names_from c.args.many [] (words_left c.args.words)) c.loop.invariant.0 c.loop-test.false
