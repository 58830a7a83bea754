use Rattle.mat_cert.specs.Views.{certificate_of}
use Rattle.mat_cert.proofs.CertificateLaws.{gives_found, gives_only, gives_ranged}
use Rattle.mat_cert.proofs.read.certificate.read_answer.Goals as goal

pub returns-clause-ranged : goal.returns-clause-ranged
returns-clause-ranged c = gives_ranged certificate_of c.args.text.now c.certificate.result c.certificate.ensures

pub returns-clause-found : goal.returns-clause-found
returns-clause-found c = gives_found certificate_of c.args.text.now c.certificate.result c.certificate.ensures

pub returns-clause-only : goal.returns-clause-only
returns-clause-only c = gives_only certificate_of c.args.text.now c.certificate.result c.certificate.ensures
