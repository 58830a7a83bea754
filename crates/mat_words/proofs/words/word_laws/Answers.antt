use Rattle.mat_words.proofs.WordLemmas.{well_spaced_says, well_spaced_from, joined_words, joined_laws}
use Rattle.mat_words.proofs.words.word_laws.Goals as goal

pub returns : goal.returns
returns c = record {
  sentence = λ line. (well_spaced_says line, well_spaced_from line);
  words = λ line h. joined_words line;
  joined = joined_laws;
}
