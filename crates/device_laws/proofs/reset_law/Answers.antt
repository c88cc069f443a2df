use Rattle.device_laws.proofs.Boards.{reset_kept}
use Rattle.device_laws.proofs.reset_law.Goals as goal

pub returns : goal.returns
returns c = reset_kept
