use Rattle.mat_desc.proofs.Common.{lines_left, words_left, keyed_words}
use Rattle.mat_desc.proofs.read.notation.names_line.Goals as goal

pub next_names-requires : goal.next_names-requires
next_names-requires c =
    keyed_words c.args.key.now (lines_left c.args.lines) (words_left c.in_ok-words.words) (lines_left c.in_ok-words.rest)
    c.in_ok-words.ensures.value
