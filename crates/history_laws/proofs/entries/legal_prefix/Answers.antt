use Rattle.history.proofs.LegalLaws.{is_legal-older}
use Rattle.history_laws.proofs.entries.legal_prefix.Goals as goal

pub returns : goal.returns
returns c = is_legal-older
