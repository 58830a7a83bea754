use Rattle.mat_words.proofs.Common.{◌∙◌}
use Rattle.mat_words.proofs.NameLemmas.{kept_place}
use Rattle.mat_words.proofs.names.Names.find.Goals as goal

pub returns-in_err-place : goal.returns-in_err-place
returns-in_err-place c =
    c.from_residual.ensures ∙ c.in_err-place.ensures.index ∙ kept_place c.args.word.now c.args.self.now.names.keys

pub returns : goal.returns
returns c = c.in_ok-place.ensures.index ∙ kept_place c.args.word.now c.args.self.now.names.keys
