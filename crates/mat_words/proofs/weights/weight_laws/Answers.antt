use Rattle.mat_words.proofs.WeightLemmas.{weight_spelled, weight_read, weight_word-word, number_is_weight, weight_exact}
use Rattle.mat_words.proofs.weights.weight_laws.Goals as goal

pub returns : goal.returns
returns c = record { spelled = weight_spelled; read = weight_read; word = weight_word-word; number = number_is_weight; exact = weight_exact }
