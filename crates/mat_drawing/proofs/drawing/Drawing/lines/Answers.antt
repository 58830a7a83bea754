use Rattle.mat_drawing.proofs.Common.{ap, length, pos, ◌+ℤ◌, ◌*ℤ◌, refl, rules, ◌∙◌, to_z-of_z, length_push}
use Rattle.std.proofs.lemmas.Iterator.Consumers.{YieldsList-end}
use Rattle.std.proofs.lemmas.Iterator.Splits.{YieldsList-from_lines}
use Rattle.std.specs.Int.{w64, cast_signed, cast_unsigned, saturate_signed}
use Rattle.std.specs.Str.Lines.{lines}
use Rattle.mat_drawing.proofs.Lowered.{lowered_more, lowered_none}
use Rattle.mat_drawing.proofs.Pieces.{adds_more, adds_nothing}
use Rattle.mat_drawing.proofs.drawing.Drawing.lines.Goals as goal

pub loop-line-init : goal.loop-line-init
loop-line-init c = (adds_nothing c.args.self.now.markup, refl, lowered_none c.args.from.y.0 (cast_signed w64 (cast_unsigned w64 c.args.apart)) (search rules))

pub loop-line-preserved : goal.loop-line-preserved
loop-line-preserved c = (
  adds_more c.args.self.now.markup c.loop-line.self.markup c.text.new.self.markup c.loop-line.invariant.0 c.in_ok-text.ensures,
  c.below-at.ensures.across ∙ c.loop-line.invariant.1,
  lowered_more c.args.from.y.0 c.loop-line.at.y.0 c.below-at.result.y.0 _ (length c.loop-line.yielded) _ (search rules) c.loop-line.invariant.2
      (length_push c.loop-line.yielded c.in-Some.line) c.below-at.ensures.down,
)

pub returns-clause-down : goal.returns-clause-down
returns-clause-down c =
    let all = YieldsList-end (YieldsList-from_lines c.args.words.now cc) c.loop-line.yielded _ c.loop-line.yielded_by _ _ c.in-None.is c.next.ensures.steps in
    c.loop-line.invariant.2
    ∙ (ap (λ n. saturate_signed w64 (c.args.from.y.0 +ℤ pos n *ℤ cast_signed w64 (cast_unsigned w64 c.args.apart))) all.1
    ∙ ap (λ d. saturate_signed w64 (c.args.from.y.0 +ℤ pos (length (lines c.args.words.now)) *ℤ d)) (to_z-of_z w64 c.args.apart c.ranges.apart))
