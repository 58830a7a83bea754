-- For each keyword what follows it is read as the definition reads it; the matroids of a list are read one after the other, as often as they are
-- counted, up to the first fault.
use Rattle.mat_desc.proofs.Common.{◌≡◌, ◌<◌, Some, map, rules, arith, err_from_is_err_and, map-append, tree_of, repeat_at, lines_left, words_left, repeat_more, repeat_done, repeat_refused, keyword_of, matroid_within, naming}
use Rattle.mat_desc.specs.declared.read.keywords.Keyword.TheVariants as keywords
use Rattle.mat_desc.proofs.Rooms.{within_is}
use Rattle.mat_desc.proofs.read.matroids.+reading.Goals as goal

pub matroids_within-returns-in_err-matroid : goal.matroids_within-returns-in_err-matroid
matroids_within-returns-in_err-matroid t c =
    let reader = matroid_within c.args.room (naming c.args.names) c.args.count in
    let p = err_from_is_err_and c.from_residual.result c.from_residual.ensures.1 in
    rw (p.1, p.2) (repeat_refused reader c.in_err-matroid.field-0.0 (map tree_of c.loop.matroids.items) c.args.many
    c.loop.counter (lines_left c.loop.rest) (repeat_at reader c.args.many (lines_left c.args.lines)) c.loop-test.true
    c.in_err-matroid.ensures c.loop.invariant)

pub matroids_within-loop-preserved : goal.matroids_within-loop-preserved
matroids_within-loop-preserved t c =
    let reader = matroid_within c.args.room (naming c.args.names) c.args.count in
    rw (c.in_ok-push.ensures.items, map-append) (repeat_more reader (map tree_of c.loop.matroids.items) c.args.many
    c.loop.counter (lines_left c.loop.rest) (tree_of c.in_ok-matroid.matroid) (lines_left c.in_ok-matroid.after)
    (repeat_at reader c.args.many (lines_left c.args.lines)) c.loop-test.true c.in_ok-matroid.ensures c.loop.invariant)

pub matroids_within-returns : goal.matroids_within-returns
matroids_within-returns t c =
    let reader = matroid_within c.args.room (naming c.args.names) c.args.count in
    repeat_done reader (map tree_of c.loop.matroids.items) c.args.many c.loop.counter (lines_left c.loop.rest)
    (repeat_at reader c.args.many (lines_left c.args.lines)) c.loop-test.false c.loop.invariant

pub next_matroid_within-returns-in-Some-Dual : goal.next_matroid_within-returns-in-Some-Dual
next_matroid_within-returns-in-Some-Dual t c =
    let keyword : keyword_of c.in_ok-word.word.now ≡ Some keywords.Dual = search rules in
    let some : 0 < c.args.room = omega (arith, c.if-room-eq0.false) in
    rw (within_is c.args.room (naming c.args.names) c.args.count (lines_left c.args.lines) (words_left c.in_ok-words.words)
    (lines_left c.in_ok-words.rest) c.in_ok-word.word.now (words_left c.in_ok-word.words) keywords.Dual some
    c.in_ok-words.ensures.value c.in_ok-word.ensures.value keyword) c.dual.ensures

pub next_matroid_within-returns-in-Some-Truncate : goal.next_matroid_within-returns-in-Some-Truncate
next_matroid_within-returns-in-Some-Truncate t c =
    let keyword : keyword_of c.in_ok-word.word.now ≡ Some keywords.Truncate = search rules in
    let some : 0 < c.args.room = omega (arith, c.if-room-eq0.false) in
    rw (within_is c.args.room (naming c.args.names) c.args.count (lines_left c.args.lines) (words_left c.in_ok-words.words)
    (lines_left c.in_ok-words.rest) c.in_ok-word.word.now (words_left c.in_ok-word.words) keywords.Truncate some
    c.in_ok-words.ensures.value c.in_ok-word.ensures.value keyword) c.truncation.ensures

pub next_matroid_within-returns-in-Some-Restrict : goal.next_matroid_within-returns-in-Some-Restrict
next_matroid_within-returns-in-Some-Restrict t c =
    let keyword : keyword_of c.in_ok-word.word.now ≡ Some keywords.Restrict = search rules in
    let some : 0 < c.args.room = omega (arith, c.if-room-eq0.false) in
    rw (within_is c.args.room (naming c.args.names) c.args.count (lines_left c.args.lines) (words_left c.in_ok-words.words)
    (lines_left c.in_ok-words.rest) c.in_ok-word.word.now (words_left c.in_ok-word.words) keywords.Restrict some
    c.in_ok-words.ensures.value c.in_ok-word.ensures.value keyword) c.restriction.ensures

pub next_matroid_within-returns-in-Some-Contract : goal.next_matroid_within-returns-in-Some-Contract
next_matroid_within-returns-in-Some-Contract t c =
    let keyword : keyword_of c.in_ok-word.word.now ≡ Some keywords.Contract = search rules in
    let some : 0 < c.args.room = omega (arith, c.if-room-eq0.false) in
    rw (within_is c.args.room (naming c.args.names) c.args.count (lines_left c.args.lines) (words_left c.in_ok-words.words)
    (lines_left c.in_ok-words.rest) c.in_ok-word.word.now (words_left c.in_ok-word.words) keywords.Contract some
    c.in_ok-words.ensures.value c.in_ok-word.ensures.value keyword) c.contraction.ensures

pub next_matroid_within-returns-in-Some-Union : goal.next_matroid_within-returns-in-Some-Union
next_matroid_within-returns-in-Some-Union t c =
    let keyword : keyword_of c.in_ok-word.word.now ≡ Some keywords.Union = search rules in
    let some : 0 < c.args.room = omega (arith, c.if-room-eq0.false) in
    rw (within_is c.args.room (naming c.args.names) c.args.count (lines_left c.args.lines) (words_left c.in_ok-words.words)
    (lines_left c.in_ok-words.rest) c.in_ok-word.word.now (words_left c.in_ok-word.words) keywords.Union some
    c.in_ok-words.ensures.value c.in_ok-word.ensures.value keyword) c.union_of.ensures
