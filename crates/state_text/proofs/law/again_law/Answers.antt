use Rattle.state_text.proofs.Again.{state_again}
use Rattle.state_text.proofs.law.again_law.Goals as goal

pub returns : goal.returns
returns c = λ r st lawful fits. state_again r st lawful fits
