use Rattle.mat_witness.proofs.WitnessLengths.{text_short}
use Rattle.mat_witness.proofs.WitnessTexts.{one_witness, text_found, text_again}
use Rattle.mat_witness.proofs.text.laws.witness_laws.Goals as goal

pub returns : goal.returns
returns c = record {
  exact = λ instance answer k valid kinds ranged has text witness.
      (text_found instance answer k text witness kinds, λ h. text_again instance answer k text witness valid h.0 h.1);
  short = λ instance answer k witness valid kinds ranged has fits shown. text_short instance answer k witness valid ranged has fits shown;
  one_witness = λ instance answer k first second valid kinds ranged has one two same.
      one_witness instance answer k first second valid one two same;
}
