use Rattle.std.proofs.Common.{◌∙◌, sym}
use Rattle.std.proofs.lemmas.Bool.{false≢true}
use Rattle.mat_words.specs.NameLists.{names_of}
use Rattle.mat_text.proofs.SharedParts.{first_passes}
use Rattle.mat_text.proofs.shared.are_exactly.Goals as goal

pub returns-then-not-has_part : goal.returns-then-not-has_part
returns-then-not-has_part c = (
  λ h. absurd (false≢true h),
  λ same.
      sym c.if-not-has_part.true ∙ c.has_part.ensures
      ∙ first_passes (names_of c.args.names.now) c.args.set.now c.args.side c.args.part.now c.args.name.now c.requires.first c.requires.some same,
)
