use Rattle.ihex_loader.proofs.Determined.{accepted, determined}
use Rattle.ihex_loader.proofs.law.accepted_image_is_determined.Goals as goal

pub returns-clause-accepted : goal.returns-clause-accepted
returns-clause-accepted c = accepted

pub returns-clause-determined : goal.returns-clause-determined
returns-clause-determined c = determined
