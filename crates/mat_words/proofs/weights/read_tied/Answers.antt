use Rattle.mat_words.proofs.Common.{◌≡◌, ◌≢◌, ◌∷◌, [], rules, ◌∙◌, number_of, in_range, both_in}
use Rattle.mat_words.proofs.WeightLemmas.{both_are}
use Rattle.mat_words.proofs.weights.read_tied.Goals as goal

pub returns : goal.returns
returns c =
    let other : c.args.tie.now ≢ 48 ∷ [] = search rules in
    let both : c.both.result ≡ both_in (in_range c.args.low c.args.high (number_of c.args.main.now))
    (in_range c.args.low c.args.high (number_of c.args.tie.now)) = search rules in
    both ∙ both_are c.args.low c.args.high c.args.main.now c.args.tie.now other
