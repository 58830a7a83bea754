use Rattle.mat_cert.proofs.CertificateLaws.{certificate_found, certificate_again, either, never_both, one_fault}
use Rattle.mat_cert.proofs.laws.reading_laws.Goals as goal

pub returns : goal.returns
returns c = record {
  exact = λ text c. (certificate_found text c, λ h. certificate_again text c h.0 h.1);
  either = either;
  never_both = never_both;
  one_fault = one_fault;
}
