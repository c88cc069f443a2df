use Rattle.state_text.proofs.Found.{state_found}
use Rattle.state_text.proofs.law.spelling_law.Goals as goal

pub returns : goal.returns
returns c = λ r text st lawful read. state_found r text st lawful read
