use Rattle.mat_words.proofs.Common.{◌≡◌, ◌∷◌, rules, ap, sym, ◌∙◌, Option, Weight, number_of, ranged, is_byte, untied, tied, weight_of_parts, is_weight_between}
use Rattle.std.specs.List.{slice_split}
use Rattle.mat_words.proofs.WeightLemmas.{tied_parts, weight_range}
use Rattle.mat_words.proofs.weights.read_parts.Goals as goal

pub returns-in_default-None-clause-range : goal.returns-in_default-None-clause-range
returns-in_default-None-clause-range c =
    weight_range c.args.low c.args.high (untied (number_of c.split_at_byte.result.0.now)) c.read_untied.result (search rules)

pub returns-in_default-Some-clause-value : goal.returns-in_default-Some-clause-value
returns-in_default-Some-clause-value c =
    let main = c.split_at_byte.result.0.now in
    let tie = c.in_default-Some.tie.now in
    let parts : slice_split (is_byte 58) c.args.word.now ≡ main ∷ slice_split (is_byte 58) tie =
    rw c.in_default-Some.is-1 at c.split_at_byte.ensures.parts in
    let read : c.read_tied.result ≡ ranged (is_weight_between c.args.low c.args.high) (tied (number_of main) (number_of tie)) = search rules in
    read ∙ ap (λ (o : Option Weight). ranged (is_weight_between c.args.low c.args.high) o)
    (sym (tied_parts main tie) ∙ ap weight_of_parts (sym parts))

pub returns-in_default-Some-clause-range : goal.returns-in_default-Some-clause-range
returns-in_default-Some-clause-range c =
    weight_range c.args.low c.args.high (tied (number_of c.split_at_byte.result.0.now) (number_of c.in_default-Some.tie.now)) c.read_tied.result
    (search rules)
