use Rattle.mat_words.proofs.NumberLemmas.{spelled, read_again, numeral_word, number_exact}
use Rattle.mat_words.proofs.numbers.number_laws.Goals as goal

pub returns : goal.returns
returns c = record { spelled = spelled; read = read_again; word = numeral_word; exact = number_exact }
