use Rattle.mat_words.proofs.WordBytes.{word_utf8}
use Rattle.mat_call.proofs.words.word_text.Goals as goal

pub unreachable-requires : goal.unreachable-requires
unreachable-requires c = c.in-Err.ensures.cases.0 (word_utf8 c.args.word.now c.requires)
