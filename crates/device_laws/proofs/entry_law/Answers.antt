use Rattle.device_laws.proofs.Boards.{entered_kept}
use Rattle.device_laws.proofs.entry_law.Goals as goal

pub returns : goal.returns
returns c = entered_kept
