use Rattle.mat_minors.proofs.Common.{leb, length, and_parts, and_from, leb-true, le-leb}
use Rattle.mat_minors.proofs.laws.truncation_means.Goals as goal

pub returns : goal.returns
returns c = λ p cap X. (
  λ h. let tests = and_parts (p X) (leb (length X) cap) h in (tests.0, leb-true (length X) cap tests.1),
  λ h. and_from (p X) (leb (length X) cap) h.0 (le-leb (length X) cap h.1),
)
