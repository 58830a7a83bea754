use Rattle.mat_words.proofs.Common.{◌≡◌, ◌∙◌, Err, Ok, ap, refl, rules, sym, Range, number_of, ranged, is_weight_between, untied}
use Rattle.mat_words.proofs.WeightLemmas.{range_is_no_misspelling, read_is_no_misspelling, untied_is, weight_range}
use Rattle.mat_words.proofs.weights.read_weight.Goals as goal

pub returns-in-Ok-clause-value : goal.returns-in-Ok-clause-value
returns-in-Ok-clause-value c =
    let read : c.read_untied.result ≡ ranged (is_weight_between c.args.low c.args.high) (untied (number_of c.args.word.now)) = search rules in
    untied_is c.args.low c.args.high c.args.word.now (Ok c.in-Ok.weight) (sym c.in-Ok.is ∙ read) (read_is_no_misspelling c.in-Ok.weight)

pub returns-in-Ok-clause-range : goal.returns-in-Ok-clause-range
returns-in-Ok-clause-range c =
    let read : c.read_untied.result ≡ ranged (is_weight_between c.args.low c.args.high) (untied (number_of c.args.word.now)) = search rules in
    weight_range c.args.low c.args.high (untied (number_of c.args.word.now)) (Ok c.in-Ok.weight) (sym c.in-Ok.is ∙ read)

pub returns-in-Err-Range-clause-value : goal.returns-in-Err-Range-clause-value
returns-in-Err-Range-clause-value c =
    let read : c.read_untied.result ≡ ranged (is_weight_between c.args.low c.args.high) (untied (number_of c.args.word.now)) = search rules in
    untied_is c.args.low c.args.high c.args.word.now (Err Range) (sym (c.in-Err-Range.is ∙ ap Err c.in-Err-Range.field-0-is) ∙ read)
    (range_is_no_misspelling _ refl)
