use Rattle.asm_laws.proofs.Again.{flash_same}
use Rattle.asm_laws.proofs.Listed.{flash_listed}
use Rattle.asm_laws.proofs.listing_law.Goals as goal

pub returns-clause-words : goal.returns-clause-words
returns-clause-words c = flash_listed

pub returns-clause-same : goal.returns-clause-same
returns-clause-same c = flash_same
