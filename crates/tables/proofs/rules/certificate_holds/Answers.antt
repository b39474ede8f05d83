use Rattle.tables.proofs.Certificate.{certificate}
use Rattle.tables.proofs.rules.certificate_holds.Goals as goal

pub returns : goal.returns
returns c = certificate
