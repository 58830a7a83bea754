use Rattle.mat_cert.proofs.Lengths.{length-certificate_text, length-printed}
use Rattle.mat_cert.proofs.PrintedLengths.{length-printed_text}
use Rattle.mat_cert.proofs.CertificateLaws.{one_certificate}
use Rattle.mat_cert.proofs.laws.certificate_laws.Goals as goal

pub returns : goal.returns
returns c = record {
  short = length-certificate_text;
  one_certificate = one_certificate;
  word = length-printed;
  printed = length-printed_text;
}
