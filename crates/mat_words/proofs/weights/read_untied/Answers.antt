use Rattle.mat_words.proofs.Common.{◌≡◌, Err, rules, number_of, in_range}
use Rattle.mat_words.proofs.WeightLemmas.{untied_fails}
use Rattle.mat_words.proofs.weights.read_untied.Goals as goal

pub returns-in-Err : goal.returns-in-Err
returns-in-Err c =
    let read : in_range c.args.low c.args.high (number_of c.args.word.now) ≡ Err c.in-Err.fault = search rules in
    untied_fails c.args.low c.args.high (number_of c.args.word.now) c.in-Err.fault read
