use Rattle.mat_minors.proofs.Common.{eqb, length, and_parts, and_from, minus, inside_test, inside_test_from}
use Rattle.mat_minors.proofs.laws.restriction_means.Goals as goal

pub returns : goal.returns
returns c = λ p kept X. (
  λ h. let tests = and_parts (p X) (eqb (length (minus X kept)) 0) h in (tests.0, inside_test X kept tests.1),
  λ h. and_from (p X) (eqb (length (minus X kept)) 0) h.0 (inside_test_from X kept h.1),
)
